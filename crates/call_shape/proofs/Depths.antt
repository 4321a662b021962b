-- How deep paths go from each place, place after place in a postorder.
use Rattle.std.proofs.Common.{◌≡◌, ℕ, ◌+◌, ◌<◌, ◌≤◌, max, List, length, Some, set, replicate, slice_get, slice_index, refl, ap, ◌∙◌, arith, inl, inr, length-set, get_or-set_same, get_or-set_other}
use Rattle.std.proofs.lemmas.Bool.{cases_eq, cases_lt}
use Rattle.std.proofs.lemmas.List.{get_or-replicate, get_or_past, length-replicate}
use Rattle.bpf_insn.specs.declared.insn.Insn.{Insn}
use Rattle.bpf_insn.specs.declared.program.Slot.{Slot}
use Rattle.bpf_insn.specs.declared.program.TheConstants.{MAX_SLOTS}
use Rattle.bpf_insn.specs.Program.{IsProgram, insn_at}
use Rattle.call_shape.specs.declared.onward.Onward.{Onward}
use Rattle.call_shape.specs.declared.onward.Onward.TheVariants.{Leaves, Continues, Branches, Enters}
use Rattle.call_shape.specs.Onward.{onward}
use Rattle.call_shape.specs.Depth.{depth_by}
use Rattle.call_shape.specs.Postorder.{IsWholePostorder}
use Rattle.call_shape.specs.Shape.{AreContained}
use Rattle.call_shape.specs.StaticPath.{outermost, depth, IsFrames}
use Rattle.call_shape.proofs.Places.{begins_inside, there_begins}
use Rattle.call_shape.proofs.Filled.{AreFilled, filled_none, filled_more, filled_further, filled_callee}
use Rattle.call_shape.proofs.Paths.{HasPath, WaysFrom, GoesOut, ways_on, way_from}
use Rattle.call_shape.proofs.Ways.{IsFurther, IsCalled, IsLawfulWay, lawful_way}

-- some path from a place is so deep, and none is deeper
pub record IsDeepest (program : List Slot) (place deepest : ℕ) : Type 0 where
  pub long : ℕ
  pub path : HasPath program (outermost place) long deepest
  pub most : (n d : ℕ) → HasPath program (outermost place) n d → d ≤ deepest

-- the same of paths from where control goes on
pub record IsDeepestWay (program : List Slot) (way : Onward) (deepest : ℕ) : Type 0 where
  pub long : ℕ
  pub path : WaysFrom program way long deepest
  pub most : (n d : ℕ) → WaysFrom program way n d → d ≤ deepest

at_place : (program : List Slot) (place deepest : ℕ) (insn : Insn) → insn_at program place ≡ Some insn → IsDeepestWay program (onward place insn) deepest → IsDeepest program place deepest
at_place program place deepest insn at is = record {
  long = is.long;
  path = way_from program place is.long deepest insn at is.path;
  most = λ n d path. is.most n d (ways_on program place n d insn at path);
}

goes_so : (program : List Slot) (next deepest : ℕ) (is : IsDeepest program next deepest) → GoesOut program next (is.long + 1) deepest
goes_so program next deepest is = record { after = is.long; rest = is.path; long = refl }

goes_at_most : (program : List Slot) (next deepest n d : ℕ) → IsDeepest program next deepest → GoesOut program next n d → d ≤ deepest
goes_at_most program next deepest n d is out = is.most out.after d out.rest

deeper_of : (program : List Slot) (next other a b : ℕ) → IsDeepest program next a → IsDeepest program other b → IsDeepestWay program (Branches next other) (max a b)
deeper_of program next other a b first second = elim (cases_lt a b) [
  | inl lt ↦ record {
    long = second.long + 1;
    path = inr (rw (let e : max a b ≡ b = omega arith in e) (goes_so program other b second));
    most = λ n d way. most n d way;
  }
  | inr ge ↦ record {
    long = first.long + 1;
    path = inl (rw (let e : max a b ≡ a = omega arith in e) (goes_so program next a first));
    most = λ n d way. most n d way;
  }
]
  where
    most : (n d : ℕ) → WaysFrom program (Branches next other) n d → d ≤ max a b
    most n d (inl out) = omega (arith, goes_at_most program next a n d first out)
    most n d (inr out) = omega (arith, goes_at_most program other b n d second out)

-- what is known where control goes on gives what is known of the place
by_way : (program : List Slot) (place : ℕ) (depths : List ℕ) (way : Onward) → IsLawfulWay program place way → ((next : ℕ) → IsFurther program place next → IsDeepest program next (slice_index depths next)) → ((callee : ℕ) → IsCalled program place callee → IsDeepest program callee (slice_index depths callee)) → IsDeepestWay program way (depth_by depths way)
by_way program place depths Leaves lawful further callees = record { long = 1; path = (refl, refl); most = λ n d way. omega (arith, way.1) }
by_way program place depths (Continues next) lawful further callees =
    let on = further next lawful in
    record { long = on.long + 1; path = goes_so program next _ on; most = λ n d way. goes_at_most program next _ n d on way }
by_way program place depths (Branches next other) lawful further callees = deeper_of program next other _ _ (further next lawful.0) (further other lawful.1)
by_way program place depths (Enters callee next) lawful further callees =
    let inner = callees callee lawful.0 in
    let on = further next lawful.1 in
    record {
      long = inner.long + on.long + 1;
      path = record {
        inner = inner.long;
        inner_depth = slice_index depths callee;
        path = inner.path;
        after = on.long;
        after_depth = slice_index depths next;
        rest = on.path;
        long = refl;
        deep = omega arith;
      };
      most = λ n d way. omega (arith, way.deep, inner.most way.inner way.inner_depth way.path, on.most way.after way.after_depth way.rest);
    }

-- the depths of the first n places, of which none is more than n
pub record AreDepths (program : List Slot) (places depths : List ℕ) (n : ℕ) : Type 0 where
  pub whole : length depths ≡ MAX_SLOTS
  pub small : (k : ℕ) → slice_index depths k ≤ n
  pub filled : AreFilled places (IsDeepest program) depths n

pub depths_first : (program : List Slot) (places : List ℕ) → AreDepths program places (replicate MAX_SLOTS 0) 0
depths_first program places = record {
  whole = length-replicate {A = ℕ} MAX_SLOTS 0;
  small = λ k. elim (cases_lt k MAX_SLOTS) [
    | inl lt ↦ omega (arith, get_or-replicate {A = ℕ} MAX_SLOTS k 0 0 lt)
    | inr past ↦ omega (arith, get_or_past {X = ℕ} (replicate MAX_SLOTS 0) k 0 (omega (arith, past, length-replicate {A = ℕ} MAX_SLOTS 0)))
  ];
  filled = filled_none places (IsDeepest program) (replicate MAX_SLOTS 0);
}

small_by : (depths : List ℕ) (n : ℕ) (way : Onward) → ((k : ℕ) → slice_index depths k ≤ n) → depth_by depths way ≤ n + 1
small_by depths n Leaves small = omega arith
small_by depths n (Continues next) small = omega (arith, small next)
small_by depths n (Branches next other) small = omega (arith, small next, small other)
small_by depths n (Enters callee next) small = omega (arith, small next, small callee)

pub depths_more : (program : List Slot) (places depths : List ℕ) (n place : ℕ) (insn : Insn) → IsProgram program → AreContained program → IsWholePostorder program places → n < length places → slice_get places n ≡ Some place → insn_at program place ≡ Some insn → AreDepths program places depths n → AreDepths program places (set depths place (depth_by depths (onward place insn))) (n + 1)
depths_more program places depths n place insn is functions order lt at there done =
    let way = lawful_way program place insn is functions there in
    let within : place < length depths = omega (arith, begins_inside program place (there_begins program place insn there), is.in_range.1, done.whole) in
    let deepest = by_way program place depths (onward place insn) way
    (filled_further program places (IsDeepest program) depths n place order.order lt at done.filled) (filled_callee program places (IsDeepest program) depths n place order.order lt at done.filled) in
    record {
      whole = length-set depths place _ ∙ done.whole;
      small = λ k. elim (cases_eq k place) [
        | inl same ↦ omega (arith, small_by depths n (onward place insn) done.small, ap (slice_index (set depths place (depth_by depths (onward place insn)))) same, get_or-set_same depths place (depth_by depths (onward place insn)) 0 within)
        | inr other ↦ omega (arith, done.small k, get_or-set_other depths place k (depth_by depths (onward place insn)) 0 other)
      ];
      filled = filled_more places (IsDeepest program) depths n place _ at within (at_place program place _ insn there deepest) done.filled;
    }

pub frames_first : (program : List Slot) (deepest : ℕ) → IsDeepest program 0 deepest → IsFrames program deepest
frames_first program deepest is = record {
  instructions = is.long;
  path = is.path.0;
  met = is.path.1;
  deepest = λ n other. is.most n (depth program (outermost 0) n other) (other, refl);
}
