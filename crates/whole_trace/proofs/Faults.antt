-- What is no continued trace's text has one first line that is not of the form.
use Rattle.std.proofs.Common.{◌≡◌, ◌≢◌, ◌+◌, ◌⊎◌, ℕ, Some, None, Result, Ok, Err, List, [], ◌∷◌, ◌++◌, length, inl, inr, refl, sym, ap, subst, ◌∙◌, append_assoc, append-nil, arith}
use Rattle.std.specs.Fmt.{option_append}
use Rattle.base.specs.declared.or_memory.OrMemory.{OrMemory}
use Rattle.base.specs.declared.or_memory.OrMemory.TheVariants.{OutOfMemory, Fault}
use Rattle.world_calls.specs.declared.carried_line.CarriedLine.{CarriedLine}
use Rattle.world_calls.specs.declared.record.Record.{Record}
use Rattle.world_calls.specs.declared.totals.Totals.{Totals}
use Rattle.world_calls.specs.declared.trace.Version.{Version}
use Rattle.trace_lines.proofs.Tests.{parts_of}
use Rattle.trace.specs.declared.fault.TraceFault.{TraceFault}
use Rattle.trace.specs.declared.fault.TraceFault.TheVariants.{Header, Line}
use Rattle.trace.specs.Reading.{HasNoLine, IsFaultyLine}
use Rattle.trace.specs.TraceText.{lines_text, records_text}
use Rattle.trace.proofs.FirstFaulty.{one_faulty_line as one_in_lines}
use Rattle.carried_lines.specs.InOrder.{AreInOrder, IsFront}
use Rattle.whole_trace.specs.Continued.{AreCarried, HasNoCarried, IsFaultyAfter, IsFaultyCarried, IsFaultyContinued, IsReadAfter, IsReadContinued, IsReadSo, SaysAfter, SaysCarried, SaysContinued, after_header, carried_texts}
use Rattle.whole_trace.specs.declared.reader.WholeTrace.{WholeTrace}
use Rattle.whole_trace.specs.OneText.{OneFaultyLine}
use Rattle.whole_trace.proofs.Lines.{GoesOn, all_there, first_there, goes_on, no_carried, no_lines, none_there, same_line}

-- what stands after the carried lines of a continued trace
pub record Rest (version : Version) (lines : List CarriedLine) (records : List Record) (totals : Totals) (text : List ℕ) : Type 0 where
  pub rest : List ℕ
  pub is : lines_text version records totals ≡ Some rest
  pub front : option_append (carried_texts version lines) (Some rest) ≡ Some text
  pub no_more : HasNoCarried version rest

pub rest_of : (version : Version) (lines : List CarriedLine) (records : List Record) (totals : Totals) (text : List ℕ) → after_header version lines records totals ≡ Some text → Rest version lines records totals text
rest_of version lines records totals text e =
    let parts = parts_of (carried_texts version lines) (lines_text version records totals) text e in
    record {
      rest = parts.1;
      is = parts.3;
      front = ap (option_append (carried_texts version lines)) (sym parts.3) ∙ e;
      no_more = no_carried version records totals parts.1 parts.3;
    }

-- a front of a list in order that goes on with this line may go on with it
pub may_go_on : (lines more others : List CarriedLine) (line : CarriedLine) → others ≡ lines ++ line ∷ more → AreInOrder others → IsFront (lines ++ line ∷ [])
may_go_on lines more others line is in_order = record { rest = more; in_order = subst AreInOrder (is ∙ sym (append_assoc lines (line ∷ []) more)) in_order }

-- ---- no trace

carried_or_not : (version : Version) (text : List ℕ) (number : ℕ) (it : IsFaultyCarried version text number) (others more : List CarriedLine) (after : List ℕ) → AreInOrder others
    → others ≡ it.lines ++ more → option_append (carried_texts version more) (Some after) ≡ Some it.rest → (records : List Record) (totals : Totals) → lines_text version records totals ≡ Some after → ⊥
carried_or_not version text number it others [] after in_order is left records totals e =
    let whole : AreInOrder it.lines = subst AreInOrder (is ∙ append-nil it.lines) in_order in
    no_lines version records totals it.rest (it.not_after whole) (e ∙ ap Some (none_there version after it.rest left))
carried_or_not version text number it others (line ∷ more) after in_order is left records totals e =
    let there = first_there version line more after it.rest left in
    it.not_next line there.0 there.1 (may_go_on it.lines more others line is in_order)

pub none_carried : (version : Version) (text : List ℕ) (number : ℕ) (lines : List CarriedLine) (records : List Record) (totals : Totals) → IsFaultyCarried version text number → AreInOrder lines → after_header version lines records totals ≢ Some text
none_carried version text number lines records totals it in_order e =
    let its = rest_of version lines records totals text e in
    let g = goes_on version it.lines lines it.rest its.rest text it.front its.front its.no_more in
    carried_or_not version text number it lines g.more its.rest in_order g.is g.left records totals its.is

pub none_after : (version : Version) (text : List ℕ) (number : ℕ) (lines : List CarriedLine) (records : List Record) (totals : Totals) → IsFaultyAfter version text number → AreInOrder lines → after_header version lines records totals ≢ Some text
none_after version text number lines records totals it in_order e =
    let its = rest_of version lines records totals text e in
    let same = all_there version it.lines lines it.rest its.rest text it.front it.no_more its.front its.no_more in
    one_in_lines.1 version it.rest it.is.place records totals it.is.is (its.is ∙ ap Some (sym same.rest_is))

pub none : (version : Version) (text : List ℕ) (number : ℕ) (lines : List CarriedLine) (records : List Record) (totals : Totals) → IsFaultyContinued version text number → AreInOrder lines → after_header version lines records totals ≢ Some text
none version text number lines records totals it in_order e = elim it [
  | inl carried ↦ none_carried version text number lines records totals carried in_order e
  | inr after ↦ none_after version text number lines records totals after in_order e
]

-- ---- one line

-- two lists of carried lines with which a text begins: one goes on from the other
pub record GoOn (version : Version) (lines others : List CarriedLine) (rest after : List ℕ) : Type 0 where
  pub which : GoesOn version lines others rest after ⊎ GoesOn version others lines after rest

one_longer : (version : Version) (line other : CarriedLine) (lines others : List CarriedLine) (rest after : List ℕ) → line ≡ other → GoOn version lines others rest after → GoOn version (line ∷ lines) (other ∷ others) rest after
one_longer version line other lines others rest after same its = record {
  which = elim its.which [
    | inl g ↦ inl (record { more = g.more; is = ap (λ (x : CarriedLine). x ∷ others) (sym same) ∙ ap (λ (xs : List CarriedLine). line ∷ xs) g.is; left = g.left })
    | inr g ↦ inr (record { more = g.more; is = ap (λ (x : CarriedLine). x ∷ lines) same ∙ ap (λ (xs : List CarriedLine). other ∷ xs) g.is; left = g.left })
  ];
}

go_on : (version : Version) (lines others : List CarriedLine) (rest after text : List ℕ) → option_append (carried_texts version lines) (Some rest) ≡ Some text → option_append (carried_texts version others) (Some after) ≡ Some text → GoOn version lines others rest after
go_on version [] others rest after text e f = record { which = inl (record { more = others; is = refl; left = f ∙ ap Some (sym (none_there version rest text e)) }) }
go_on version (line ∷ lines) [] rest after text e f = record { which = inr (record { more = line ∷ lines; is = refl; left = e ∙ ap Some (sym (none_there version after text f)) }) }
go_on version (line ∷ lines) (other ∷ others) rest after text e f =
    let a = first_there version line lines rest text e in
    let b = first_there version other others after text f in
    let same = same_line version line other a.0 b.0 text a.1 b.1 in
    one_longer version line other lines others rest after same.line_is (go_on version lines others rest after a.0 a.2 (b.2 ∙ ap Some (sym same.rest_is)))

-- one that cannot be longer is as long
as_long : (version : Version) (text : List ℕ) (number : ℕ) (it : IsFaultyCarried version text number) (others more : List CarriedLine) (after : List ℕ) → IsFront others
    → others ≡ it.lines ++ more → option_append (carried_texts version more) (Some after) ≡ Some it.rest → length it.lines ≡ length others
as_long version text number it others [] after front is left = sym (ap length (is ∙ append-nil it.lines))
as_long version text number it others (line ∷ more) after front is left =
    let there = first_there version line more after it.rest left in
    let longer : others ++ front.rest ≡ it.lines ++ line ∷ (more ++ front.rest) = ap (λ (xs : List CarriedLine). xs ++ front.rest) is ∙ append_assoc it.lines (line ∷ more) front.rest in
    absurd (it.not_next line there.0 there.1 (may_go_on it.lines (more ++ front.rest) (others ++ front.rest) line longer front.in_order))

both_carried : (version : Version) (text : List ℕ) (number other : ℕ) → IsFaultyCarried version text number → IsFaultyCarried version text other → number ≡ other
both_carried version text number other a b =
    let its = go_on version a.lines b.lines a.rest b.rest text a.front b.front in
    let same : length a.lines ≡ length b.lines = elim its.which [
      | inl g ↦ as_long version text number a b.lines g.more b.rest b.in_order g.is g.left
      | inr g ↦ sym (as_long version text other b a.lines g.more a.rest a.in_order g.is g.left)
    ] in
    a.place ∙ ap (λ (n : ℕ). n + 2) same ∙ sym b.place

-- where no line stands, the first is faulty
first_faulty : (version : Version) (text : List ℕ) (place : ℕ) → HasNoLine version text → IsFaultyLine version text place → place ≡ 2
unfolding records_text
first_faulty version text place nothing it =
    one_in_lines.0 version text place 2 it (record { records = []; sums = None; rest = text; front = refl; place = refl; faulty = nothing })

ends_there : (version : Version) (text : List ℕ) (number other : ℕ) (a : IsFaultyCarried version text number) (b : IsFaultyAfter version text other) (more : List CarriedLine)
    → b.lines ≡ a.lines ++ more → option_append (carried_texts version more) (Some b.rest) ≡ Some a.rest → number ≡ other
ends_there version text number other a b [] is left =
    let lines_are : b.lines ≡ a.lines = is ∙ append-nil a.lines in
    let none_here = subst (HasNoLine version) (sym (none_there version b.rest a.rest left)) (a.not_after (subst AreInOrder lines_are b.in_order)) in
    let place : b.is.place ≡ 2 = first_faulty version b.rest b.is.place none_here b.is.is in
    omega (arith, a.place, b.is.counted, place, ap length lines_are)
ends_there version text number other a b (line ∷ more) is left =
    let there = first_there version line more b.rest a.rest left in
    absurd (a.not_next line there.0 there.1 (may_go_on a.lines more b.lines line is b.in_order))

carried_and_after : (version : Version) (text : List ℕ) (number other : ℕ) → IsFaultyCarried version text number → IsFaultyAfter version text other → number ≡ other
carried_and_after version text number other a b =
    let g = goes_on version a.lines b.lines a.rest b.rest text a.front b.front b.no_more in
    ends_there version text number other a b g.more g.is g.left

both_after : (version : Version) (text : List ℕ) (number other : ℕ) → IsFaultyAfter version text number → IsFaultyAfter version text other → number ≡ other
both_after version text number other a b =
    let same = all_there version a.lines b.lines a.rest b.rest text a.front a.no_more b.front b.no_more in
    let place : a.is.place ≡ b.is.place = one_in_lines.0 version a.rest a.is.place b.is.place a.is.is (subst (λ (t : List ℕ). IsFaultyLine version t b.is.place) (sym same.rest_is) b.is.is) in
    omega (arith, a.is.counted, b.is.counted, place, ap length same.lines_are)

once : (version : Version) (text : List ℕ) (number other : ℕ) → IsFaultyContinued version text number → IsFaultyContinued version text other → number ≡ other
once version text number other one two = elim one [
  | inl a ↦ elim two [
    | inl b ↦ both_carried version text number other a b
    | inr b ↦ carried_and_after version text number other a b
  ]
  | inr a ↦ elim two [
    | inl b ↦ sym (carried_and_after version text other number b a)
    | inr b ↦ both_after version text number other a b
  ]
]

pub one_faulty_line : OneFaultyLine
one_faulty_line = record { once = once; none = none }

-- ---- what is read

-- after these carried lines
pub read_on : (version : Version) (text : List ℕ) (lines : List CarriedLine) (rest : List ℕ) (read : Result WholeTrace (OrMemory TraceFault)) → AreCarried version text lines rest → IsReadAfter version lines rest read → IsReadContinued version text read
read_on version text lines rest read it back others records totals in_order e =
    let its = rest_of version others records totals text e in
    let same = all_there version lines others rest its.rest text it.front it.no_more its.front its.no_more in
    subst (λ (xs : List CarriedLine). IsReadSo (Some xs) version records totals read) (sym same.lines_are) (back records totals (its.is ∙ ap Some (sym same.rest_is)))

-- a carried line is not of the form
pub read_none : (version : Version) (text : List ℕ) (lines : List CarriedLine) (error : OrMemory TraceFault) → SaysCarried version text lines (Err error) → IsReadContinued version text (Err error)
read_none version text lines OutOfMemory says others records totals in_order e = tt
read_none version text lines (Fault Header) says others records totals in_order e = says
read_none version text lines (Fault (Line number)) says others records totals in_order e = none_carried version text number others records totals says in_order e

pub said_none : (version : Version) (text : List ℕ) (lines : List CarriedLine) (error : OrMemory TraceFault) → SaysCarried version text lines (Err error) → SaysContinued version text (Err error)
said_none version text lines OutOfMemory says = tt
said_none version text lines (Fault Header) says = says
said_none version text lines (Fault (Line number)) says = inl says

pub said_on : (version : Version) (text : List ℕ) (lines : List CarriedLine) (rest : List ℕ) (read : Result WholeTrace (OrMemory TraceFault)) → AreCarried version text lines rest → SaysAfter version lines rest read → SaysContinued version text read
said_on version text lines rest (Ok whole) it said = record {
  lines = lines;
  carried = said.0;
  in_order = it.in_order;
  version_is = said.1;
  is = ap (option_append (carried_texts version lines)) said.2 ∙ it.front;
}
said_on version text lines rest (Err OutOfMemory) it said = tt
said_on version text lines rest (Err (Fault Header)) it said = said
said_on version text lines rest (Err (Fault (Line number))) it said = inr (record { lines = lines; rest = rest; front = it.front; in_order = it.in_order; no_more = it.no_more; is = said })
