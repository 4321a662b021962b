-- A front of a history is one, so a replay stops at one line, and never where the whole is one with its sums.
use Rattle.std.proofs.Common.{◌≡◌, ℕ, zero, suc, ◌+◌, ◌<◌, ◌≤◌, Some, List, [], ◌∷◌, ◌++◌, length, take, drop, inl, inr, refl, ap, sym, subst, ◌∙◌, arith}
use Rattle.std.proofs.lemmas.Bool.{cases_lt}
use Rattle.std.proofs.lemmas.List.{take-append-drop}
use Rattle.std.proofs.lemmas.List.Concat.{flat_map-append}
use Rattle.world_calls.specs.declared.record.Record.{Record}
use Rattle.world_calls.specs.declared.totals.Totals.{Totals}
use Rattle.world_calls.specs.declared.trace.Trace.{Trace}
use Rattle.world.specs.World.{Setup, World, beginning}
use Rattle.world.specs.Event.{Event, Reply}
use Rattle.world.specs.WorldRun.{WorldRun}
use Rattle.world.specs.Flat.{events_of, flat}
use Rattle.world.specs.TotalsOf.{TotalsOf}
use Rattle.world_laws.proofs.Leads.{leads_split}
use Rattle.engine_core.specs.ByNumber.{IsHistory}
use Rattle.world_calls.specs.declared.carried_line.CarriedLine.{CarriedLine}
use Rattle.engine_core.specs.Settings.{setup_over}
use Rattle.engine_succession.specs.FromLines.{IsRefused, IsWorldOf}
use Rattle.engine_succession.specs.declared.beginning.BeginFault.TheVariants.{DoesNotFit}
use Rattle.engine_succession.proofs.Refused.{none_is_refused, one_refusal}
use Rattle.replay.specs.Continued.{IsContinuedTraceOf, IsFaultyContinuedAt}
use Rattle.replay.specs.OneVerdict.{OneContinuedVerdict, OneVerdict}
use Rattle.replay.specs.Replaying.{IsFaultyAt, IsFirstFaulty, IsTraceOf}
use Rattle.replay.specs.declared.fault.ReplayFault.{ReplayFault}
use Rattle.replay.specs.declared.fault.ReplayFault.TheVariants.{Header, Carried, Behind}

-- a front of a history
pub shorter : (setup : Setup) (xs ys : List Record) → IsHistory setup (xs ++ ys) → IsHistory setup xs
shorter setup xs ys history =
    let parts = leads_split setup (beginning setup) (flat xs) (flat ys) history.0 (subst (λ (es : List (Event × Reply)). WorldRun setup es history.0) (flat_map-append events_of xs ys) history.1).1 in
    (parts.0, (history.1.0, parts.1))

front_of : (xs : List Record) (k n : ℕ) → k ≤ n → take k xs ++ drop k (take n xs) ≡ take n xs
front_of xs zero n le = refl
front_of xs (suc k) zero le = absurd (omega (arith, le))
front_of [] (suc k) (suc n) le = refl
front_of (x ∷ xs) (suc k) (suc n) le = ap (λ (ys : List Record). x ∷ ys) (front_of xs k n (omega (arith, le)))

front : (setup : Setup) (records : List Record) (k n : ℕ) → k ≤ n → IsHistory setup (take n records) → IsHistory setup (take k records)
front setup records k n le history = shorter setup (take k records) (drop k (take n records)) (subst (IsHistory setup) (sym (front_of records k n le)) history)

-- no line after the first
none_behind : (setup : Setup) (records : List Record) (totals : Totals) (count other : ℕ) → IsFirstFaulty setup records totals count → IsFirstFaulty setup records totals other → count < other → ⊥
none_behind setup records totals count other one two less = elim one.stops [
  | inl some ↦ some.1 (front setup records (count + 1) other (omega (arith, less)) two.lead)
  | inr all ↦ elim two.stops [
    | inl more ↦ omega (arith, all.0, more.0, less)
    | inr same ↦ omega (arith, all.0, same.0, less)
  ]
]

one_line : (setup : Setup) (records : List Record) (totals : Totals) (count other : ℕ) → IsFirstFaulty setup records totals count → IsFirstFaulty setup records totals other → count ≡ other
one_line setup records totals count other one two = elim (cases_lt count other) [
  | inl less ↦ absurd (none_behind setup records totals count other one two less)
  | inr not_less ↦ elim (cases_lt other count) [
    | inl more ↦ absurd (none_behind setup records totals other count two one more)
    | inr not_more ↦ omega (arith, not_less, not_more)
  ]
]

not_whole : (setup : Setup) (records : List Record) (totals : Totals) (count : ℕ) → IsFirstFaulty setup records totals count → TotalsOf setup records totals → ⊥
not_whole setup records totals count one is = elim one.stops [
  | inl some ↦ some.1 (shorter setup (take (count + 1) records) (drop (count + 1) records) (subst (IsHistory setup) (sym (take-append-drop (count + 1) records)) (is.0, is.1)))
  | inr all ↦ all.1 is
]

-- ---- with the header

one_fault : (setup : Setup) (lines : ℕ) (trace : Trace) (fault other : ReplayFault) → IsFaultyAt setup lines trace fault → IsFaultyAt setup lines trace other → fault ≡ other
one_fault setup lines trace Header Header one two = refl
one_fault setup lines trace Header (Carried count) one two = absurd two
one_fault setup lines trace Header (Behind carried records) one two = absurd (one two.0)
one_fault setup lines trace (Carried count) other one two = absurd one
one_fault setup lines trace (Behind carried records) Header one two = absurd (two one.0)
one_fault setup lines trace (Behind carried records) (Carried count) one two = absurd two
one_fault setup lines trace (Behind carried records) (Behind more others) one two =
    let same = one_line setup trace.records.items trace.totals records others one.2 two.2 in
    let lines_are : carried ≡ more = one.1 ∙ sym two.1 in
    λ i. Behind (lines_are i) (same i)

pub not_accepted : (setup : Setup) (lines : ℕ) (trace : Trace) (fault : ReplayFault) → IsFaultyAt setup lines trace fault → IsTraceOf setup trace → ⊥
not_accepted setup lines trace Header one is = one is.0
not_accepted setup lines trace (Carried count) one is = one
not_accepted setup lines trace (Behind carried records) one is = not_whole setup trace.records.items trace.totals records one.2 is.1

pub one_verdict : OneVerdict
one_verdict = (one_fault, not_accepted)

-- ---- of continued traces

-- the world of the lines is one
one_world : (config : Setup) (lines : List CarriedLine) (world other : World) → IsWorldOf config lines world → IsWorldOf config lines other → world ≡ other
one_world config lines world other one two = two.only world one.is one.lines_are

-- where there is such a world, no line is refused
none_refused : (config : Setup) (lines : List CarriedLine) (world : World) (count : ℕ) → IsWorldOf config lines world → IsRefused config lines (DoesNotFit count) → ⊥
none_refused config lines world count has refused = none_is_refused config lines count refused world has.is has.lines_are

one_continued_fault : (config : Setup) (lines : List CarriedLine) (trace : Trace) (fault other : ReplayFault) → IsFaultyContinuedAt config lines trace fault → IsFaultyContinuedAt config lines trace other → fault ≡ other
one_continued_fault config lines trace Header Header one two = refl
one_continued_fault config lines trace Header (Carried count) one two = absurd (one two.0)
one_continued_fault config lines trace Header (Behind carried records) one two = absurd (one two.is.0)
one_continued_fault config lines trace (Carried count) Header one two = absurd (two one.0)
one_continued_fault config lines trace (Carried count) (Carried other) one two = ap Carried (one_refusal config lines count other one.1 two.1)
one_continued_fault config lines trace (Carried count) (Behind carried records) one two = absurd (none_refused config lines two.world count two.has one.1)
one_continued_fault config lines trace (Behind carried records) Header one two = absurd (two one.is.0)
one_continued_fault config lines trace (Behind carried records) (Carried other) one two = absurd (none_refused config lines one.world other one.has two.1)
one_continued_fault config lines trace (Behind carried records) (Behind more others) one two =
    let same = one_world config lines one.world two.world one.has two.has in
    one_fault (setup_over config (Some two.world)) (length lines) trace (Behind carried records) (Behind more others)
    (subst (λ (w : World). IsFaultyAt (setup_over config (Some w)) (length lines) trace (Behind carried records)) same one.is) two.is

continued_not_accepted : (config : Setup) (lines : List CarriedLine) (trace : Trace) (fault : ReplayFault) → IsFaultyContinuedAt config lines trace fault → IsContinuedTraceOf config lines trace → ⊥
continued_not_accepted config lines trace Header one is = one is.is.0
continued_not_accepted config lines trace (Carried count) one is = none_refused config lines is.world count is.has one.1
continued_not_accepted config lines trace (Behind carried records) one is =
    let same = one_world config lines one.world is.world one.has is.has in
    not_accepted (setup_over config (Some is.world)) (length lines) trace (Behind carried records)
    (subst (λ (w : World). IsFaultyAt (setup_over config (Some w)) (length lines) trace (Behind carried records)) same one.is) is.is

pub one_continued_verdict : OneContinuedVerdict
one_continued_verdict = (one_continued_fault, continued_not_accepted)
