-- Whatever lines were taken, the lines that are missing can follow them: the numbers, the clock, and openings of the other queues.
use Rattle.std.proofs.Common.{◌≡◌, ℕ, ◌≤◌, List, [], ◌∷◌, ◌++◌, length, take, drop, inl, inr, length-append, refl, ap, sym, subst, ◌∙◌, arith}
use Rattle.std.proofs.lemmas.Bool.{cases_eq, cases_lt}
use Rattle.std.proofs.lemmas.List.{length-take-le, take-append-drop}
use Rattle.std.proofs.lemmas.List.Elements.{All-drop}
use Rattle.world_calls.specs.declared.carried_line.CarriedLine.{CarriedLine}
use Rattle.world_calls.specs.declared.carried_line.CarriedLine.TheVariants as lines
use Rattle.world.specs.World.{queue_count}
use Rattle.engine_beginning.specs.Begun.{BegunState, IsComplete, KeepsBegun, MayFollow, begun, finished, with_line}
use Rattle.engine_beginning.specs.Lines.{LinesGoOn, Takes, openings_from}
use Rattle.engine_beginning.proofs.Keeping.{clock_kept, numbers_kept}
use Rattle.engine_beginning.proofs.Saying.{Says, first_says, says_its_lines, says_on}
use Rattle.engine_beginning.proofs.Whole.{OpeningsLead, open_all, takes_both}

-- ---- words, CCBs and freezes come only after the openings of all queues

abbrev IsFull : BegunState → Type 0
IsFull b = 4 ≤ b.after → IsComplete b

full_line : (b : BegunState) (line : CarriedLine) → MayFollow b line → IsFull (with_line line b)
full_line b (lines.Numbers ccb freeze run) may = λ late. absurd (omega (arith, late))
full_line b (lines.Clock reading) may = λ late. absurd (omega (arith, late))
full_line b (lines.Openings queue openings) may = λ late. absurd (omega (arith, late))
full_line b (lines.Word table index word) may = λ _. may.0.0
full_line b (lines.Ccb ccb) may = λ _. may.0.0
full_line b (lines.Freeze freeze) may = λ _. may.0.0

full_on : (from to : BegunState) (xs : List CarriedLine) → IsFull from → Takes from xs to → IsFull to
full_on from to [] full takes = subst IsFull takes full
full_on from to (line ∷ xs) full takes = full_on (with_line line from) to xs (full_line from line takes.1) takes.2

-- ---- what is missing

-- these lines lead to a state in which each queue has its openings
abbrev Completes : BegunState → Type 0
Completes b = (more : List CarriedLine) × (to : BegunState) × Takes b more to × IsComplete to

-- openings of the queues that have none, as they stand
with_openings : (b : BegunState) → KeepsBegun b → (2 ≤ b.after) × (b.after ≤ 3) → Completes b
with_openings b kept after =
    let all : List ℕ = b.transport.openings in
    let done : List ℕ = take b.opened all in
    let more : List ℕ = drop b.opened all in
    let answers = kept.beginning.limits.answers in
    let joined : done ++ more ≡ all = take-append-drop b.opened all in
    let long : length (done ++ more) ≡ length all = ap length joined in
    let count : length done ≡ b.opened = length-take-le b.opened all (omega (arith, kept.opened, answers.queues)) in
    let lead : OpeningsLead b more (done ++ more) = open_all b done more more after (sym count) (sym joined) refl (omega (arith, long, length-append done more, answers.queues))
    (All-drop (λ (o : ℕ). (1 ≤ o) × (o ≤ 255)) b.opened all answers.openings) in
    let same : queue_count lead.0.setup ≡ queue_count b.setup = ap (λ (s : BegunState). queue_count s.setup) lead.2.same in
    (openings_from b.opened more, lead.0, lead.1, lead.2.opened_all ∙ (long ∙ (answers.queues ∙ sym same)))

with_clock : (b : BegunState) → KeepsBegun b → b.after ≡ 1 → Completes b
with_clock b kept one =
    let line : CarriedLine = lines.Clock 0 in
    let may : MayFollow b line = (one, omega arith) in
    let rest = with_openings (with_line line b) (clock_kept b 0 kept may) (omega arith, omega arith) in
    (line ∷ rest.0, rest.1, (tt, may, rest.2), rest.3)

with_numbers : (b : BegunState) → KeepsBegun b → b.after ≡ 0 → Completes b
with_numbers b kept first =
    let line : CarriedLine = lines.Numbers 0 0 0 in
    let rest = with_clock (with_line line b) (numbers_kept b 0 0 0 kept first (omega arith) (omega arith) (omega arith)) refl in
    (line ∷ rest.0, rest.1, ((omega arith, omega arith, omega arith), first, rest.2), rest.3)

completes : (b : BegunState) → KeepsBegun b → IsFull b → Completes b
completes b kept full = elim (cases_lt b.after 4) [
  | inr late ↦ ([], b, refl, full (omega (arith, late)))
  | inl early ↦
      elim (cases_eq b.after 0) [
        | inl first ↦ with_numbers b kept first
        | inr some ↦
            elim (cases_eq b.after 1) [
              | inl one ↦ with_clock b kept one
              | inr more ↦ with_openings b kept (omega (arith, some, more), omega (arith, early))
            ]
      ]
]

pub lines_go_on : LinesGoOn
lines_go_on setup lawful xs to takes =
    let says : Says to xs = says_on (begun setup) to [] xs (first_says setup lawful) takes in
    let full : IsFull to = full_on (begun setup) to xs (λ late. absurd (omega (arith, late))) takes in
    let rest : Completes to = completes to says.kept full in
    let is = says_its_lines setup lawful (xs ++ rest.0) rest.1 (takes_both (begun setup) to rest.1 xs rest.0 takes rest.2) rest.3 in
    record { world = finished rest.1; is = is.0; rest = rest.0; begins = is.1 }
