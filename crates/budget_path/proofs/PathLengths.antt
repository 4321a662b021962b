-- The longest path from each place, place after place in a postorder.
use Rattle.std.proofs.Common.{◌≡◌, ℕ, ◌+◌, ◌<◌, ◌≤◌, true, max, List, length, Some, set, replicate, slice_get, slice_index, refl, ap, ◌∙◌, arith, inl, inr, length-set, get_or-set_same, get_or-set_other}
use Rattle.std.proofs.lemmas.Bool.{cases_eq, cases_lt}
use Rattle.std.proofs.lemmas.List.{get_or-replicate, get_or_past, length-replicate}
use Rattle.bpf_insn.specs.declared.insn.Insn.{Insn}
use Rattle.bpf_insn.specs.declared.program.Slot.{Slot}
use Rattle.bpf_insn.specs.Program.{IsProgram, insn_at}
use Rattle.call_shape.specs.declared.lawful_shape.TheConstants.{MAX_WRITTEN_OUT}
use Rattle.call_shape.specs.declared.onward.Onward.{Onward}
use Rattle.call_shape.specs.declared.onward.Onward.TheVariants.{Leaves, Continues, Branches, Enters}
use Rattle.call_shape.specs.Onward.{onward}
use Rattle.call_shape.specs.Postorder.{IsWholePostorder}
use Rattle.call_shape.specs.Calls.{begins}
use Rattle.call_shape.specs.Shape.{IsLawful}
use Rattle.call_shape.specs.StaticPath.{outermost, depth}
use Rattle.call_shape.proofs.Places.{begins_inside, there_begins}
use Rattle.call_shape.proofs.Paths.{HasPath, WaysFrom, GoesOut, ways_on, way_from}
use Rattle.call_shape.proofs.Ways.{IsFurther, IsCalled, IsLawfulWay, lawful_way}
use Rattle.call_shape.proofs.Filled.{AreFilled, filled_none, filled_more, filled_all, filled_further, filled_callee}
use Rattle.budget_path.specs.Length.{length_by}
use Rattle.budget_path.specs.Longest.{AreLongest}
use Rattle.budget_path.proofs.Within.{path_within}

-- some path from a place is so long, and none is longer
pub record IsLongest (program : List Slot) (place longest : ℕ) : Type 0 where
  pub deep : ℕ
  pub path : HasPath program (outermost place) longest deep
  pub most : (n d : ℕ) → HasPath program (outermost place) n d → n ≤ longest

-- the same of paths from where control goes on
pub record IsLongestWay (program : List Slot) (way : Onward) (longest : ℕ) : Type 0 where
  pub deep : ℕ
  pub path : WaysFrom program way longest deep
  pub most : (n d : ℕ) → WaysFrom program way n d → n ≤ longest

at_place : (program : List Slot) (place longest : ℕ) (insn : Insn) → insn_at program place ≡ Some insn → IsLongestWay program (onward place insn) longest → IsLongest program place longest
at_place program place longest insn at is = record {
  deep = is.deep;
  path = way_from program place longest is.deep insn at is.path;
  most = λ n d path. is.most n d (ways_on program place n d insn at path);
}

goes_so : (program : List Slot) (next longest : ℕ) (is : IsLongest program next longest) → GoesOut program next (longest + 1) is.deep
goes_so program next longest is = record { after = longest; rest = is.path; long = refl }

goes_at_most : (program : List Slot) (next longest n d : ℕ) → IsLongest program next longest → GoesOut program next n d → n ≤ longest + 1
goes_at_most program next longest n d is out = omega (arith, out.long, is.most out.after d out.rest)

longer_of : (program : List Slot) (next other a b : ℕ) → IsLongest program next a → IsLongest program other b → IsLongestWay program (Branches next other) (max a b + 1)
longer_of program next other a b first second = elim (cases_lt a b) [
  | inl lt ↦ record {
    deep = second.deep;
    path = inr (rw (let e : max a b ≡ b = omega arith in e) (goes_so program other b second));
    most = most;
  }
  | inr ge ↦ record {
    deep = first.deep;
    path = inl (rw (let e : max a b ≡ a = omega arith in e) (goes_so program next a first));
    most = most;
  }
]
  where
    most : (n d : ℕ) → WaysFrom program (Branches next other) n d → n ≤ max a b + 1
    most n d (inl out) = omega (arith, goes_at_most program next a n d first out)
    most n d (inr out) = omega (arith, goes_at_most program other b n d second out)

-- what is known where control goes on gives what is known of the place
by_way : (program : List Slot) (place : ℕ) (lengths : List ℕ) (way : Onward) → IsLawfulWay program place way → ((next : ℕ) → IsFurther program place next → IsLongest program next (slice_index lengths next)) → ((callee : ℕ) → IsCalled program place callee → IsLongest program callee (slice_index lengths callee)) → IsLongestWay program way (length_by lengths way)
by_way program place lengths Leaves lawful further callees = record { deep = 1; path = (refl, refl); most = λ n d way. omega (arith, way.0) }
by_way program place lengths (Continues next) lawful further callees =
    let on = further next lawful in
    record { deep = on.deep; path = goes_so program next (slice_index lengths next) on; most = λ n d way. goes_at_most program next (slice_index lengths next) n d on way }
by_way program place lengths (Branches next other) lawful further callees =
    longer_of program next other (slice_index lengths next) (slice_index lengths other) (further next lawful.0) (further other lawful.1)
by_way program place lengths (Enters callee next) lawful further callees =
    let inner = callees callee lawful.0 in
    let on = further next lawful.1 in
    record {
      deep = max (inner.deep + 1) on.deep;
      path = record {
        inner = slice_index lengths callee;
        inner_depth = inner.deep;
        path = inner.path;
        after = slice_index lengths next;
        after_depth = on.deep;
        rest = on.path;
        long = refl;
        deep = refl;
      };
      most = λ n d way. omega (arith, way.long, inner.most way.inner way.inner_depth way.path, on.most way.after way.after_depth way.rest);
    }

-- the lengths of the first n places
pub record AreLengths (program : List Slot) (places lengths : List ℕ) (n : ℕ) : Type 0 where
  pub whole : length lengths ≡ length program
  pub small : (k : ℕ) → slice_index lengths k ≤ MAX_WRITTEN_OUT
  pub filled : AreFilled places (IsLongest program) lengths n

pub lengths_first : (program : List Slot) (places lengths : List ℕ) (n : ℕ) → lengths ≡ replicate n 0 → n ≡ length program → AreLengths program places lengths 0
lengths_first program places lengths n is fits = record {
  whole = ap length is ∙ length-replicate {A = ℕ} n 0 ∙ fits;
  small = λ k. elim (cases_lt k n) [
    | inl lt ↦ omega (arith, ap (λ (xs : List ℕ). slice_index xs k) is, get_or-replicate {A = ℕ} n k 0 0 lt)
    | inr past ↦ omega (arith, ap (λ (xs : List ℕ). slice_index xs k) is, get_or_past {X = ℕ} (replicate n 0) k 0 (omega (arith, past, length-replicate {A = ℕ} n 0)))
  ];
  filled = filled_none places (IsLongest program) lengths;
}

-- no path is longer than the program may be when it is written out
few_from : (program : List Slot) (place longest : ℕ) → IsProgram program → IsLawful program → begins program place ≡ true → IsLongest program place longest → longest ≤ MAX_WRITTEN_OUT
few_from program place longest is lawful begun known = omega (arith, path_within program place longest known.deep is lawful begun known.path, lawful.short)

pub lengths_more : (program : List Slot) (places lengths : List ℕ) (n place : ℕ) (insn : Insn) → IsProgram program → IsLawful program → IsWholePostorder program places → n < length places → slice_get places n ≡ Some place → insn_at program place ≡ Some insn → AreLengths program places lengths n → AreLengths program places (set lengths place (length_by lengths (onward place insn))) (n + 1)
lengths_more program places lengths n place insn is lawful order lt at there done =
    let way = lawful_way program place insn is lawful.frames.calls.functions there in
    let begun = there_begins program place insn there in
    let within : place < length lengths = omega (arith, begins_inside program place begun, done.whole) in
    let known = at_place program place (length_by lengths (onward place insn)) insn there
    (by_way program place lengths (onward place insn) way
    (filled_further program places (IsLongest program) lengths n place order.order lt at done.filled) (filled_callee program places (IsLongest program) lengths n place order.order lt at done.filled)) in
    record {
      whole = length-set lengths place _ ∙ done.whole;
      small = λ k. elim (cases_eq k place) [
        | inl same ↦
            omega (
              arith,
              ap (slice_index (set lengths place (length_by lengths (onward place insn)))) same,
              get_or-set_same lengths place (length_by lengths (onward place insn)) 0 within,
              few_from program place (length_by lengths (onward place insn)) is lawful begun known,
            )
        | inr other ↦ omega (arith, done.small k, get_or-set_other lengths place k (length_by lengths (onward place insn)) 0 other)
      ];
      filled = filled_more places (IsLongest program) lengths n place _ at within known done.filled;
    }

-- at the end all places have theirs
pub are_longest : (program : List Slot) (places lengths : List ℕ) → IsProgram program → IsLawful program → IsWholePostorder program places → AreLengths program places lengths (length places) → AreLongest program lengths
are_longest program places lengths is lawful order done = record {
  whole = done.whole;
  each = λ place there.
      let known = filled_all program places (IsLongest program) lengths place order done.filled there in
      record {
        path = known.path.0;
        most = λ n path. known.most n (depth program (outermost place) n path) (path, refl);
        few = few_from program place (slice_index lengths place) is lawful there known;
      };
}
