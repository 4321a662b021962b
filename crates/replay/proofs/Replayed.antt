-- Where a replay stops, and what its end says.
use Rattle.std.proofs.Common.{◌≡◌, ℕ, ◌+◌, ◌<◌, List, [], ◌∷◌, ◌++◌, length, length-append, take, inl, inr, refl, ap, sym, subst, ◌∙◌, arith, append-nil}
use Rattle.std.proofs.lemmas.List.{length_push, take_at}
use Rattle.world_calls.specs.declared.record.Record.{Record}
use Rattle.world_calls.specs.declared.totals.Totals.{Totals}
use Rattle.world.specs.World.{Setup, World, beginning}
use Rattle.world.specs.WorldRun.{WorldRun}
use Rattle.world.specs.Flat.{flat}
use Rattle.world.specs.TotalsOf.{TotalsOf, totals_in}
use Rattle.world_laws.proofs.Leads.{world_after_leads}
use Rattle.engine_core.specs.ByNumber.{NumberedState, IsBehind, IsHistory, CannotFollow, sums_behind}
use Rattle.replay.specs.Replaying.{RecordsLead, IsFirstFaulty}

pub history_behind : (setup : Setup) (engine : NumberedState) (records : List Record) → engine.setup ≡ setup → IsBehind records engine → IsHistory setup records
history_behind setup engine records same behind = subst (λ (s : Setup). IsHistory s records) same (behind.world, behind.leads)

pub one_behind : (yielded rest : List Record) (told : Record) → (yielded ++ told ∷ []) ++ rest ≡ yielded ++ told ∷ rest
one_behind [] rest told = refl
one_behind (x ∷ yielded) rest told = ap (λ (xs : List Record). x ∷ xs) (one_behind yielded rest told)

-- with the next record nothing leads
pub stops_here : (setup : Setup) (engine after : NumberedState) (yielded rest items : List Record) (told : Record) (count : ℕ) → IsBehind yielded engine → engine.setup ≡ setup → count ≡ length yielded → yielded ++ told ∷ rest ≡ items → CannotFollow engine told → RecordsLead setup items count after
stops_here setup engine after yielded rest items told count behind same counted all cannot =
    let front : take count items ≡ yielded = ap (take count) (sym all) ∙ take_at yielded (told ∷ rest) count (sym counted) in
    let longer : take (count + 1) items ≡ yielded ++ told ∷ [] =
    ap (take (count + 1)) (sym all ∙ sym (one_behind yielded rest told)) ∙ take_at (yielded ++ told ∷ []) rest (count + 1) (omega (arith, length_push yielded told, counted)) in
    let within : count < length items = omega (arith, ap length all, length-append yielded (told ∷ rest), counted) in (
      subst (IsHistory setup) (sym front) (history_behind setup engine yielded same behind),
      inl (within, λ history. cannot yielded behind (subst (λ (s : Setup). IsHistory s (yielded ++ told ∷ [])) (sym same) (subst (IsHistory setup) longer history))),
    )

-- all lead
pub all_lead : (setup : Setup) (engine : NumberedState) (yielded items : List Record) (count : ℕ) → IsBehind yielded engine → engine.setup ≡ setup → count ≡ length yielded → yielded ++ [] ≡ items → RecordsLead setup items count engine
all_lead setup engine yielded items count behind same counted all =
    let is : yielded ≡ items = sym (append-nil yielded) ∙ all in
    let front : take count items ≡ yielded = ap (take count) (sym all) ∙ take_at yielded [] count (sym counted) in (
      subst (IsHistory setup) (sym front) (history_behind setup engine yielded same behind),
      inr (counted ∙ ap length is, subst (λ (rs : List Record). IsBehind rs engine) is behind, same),
    )

-- ---- the last line

pub sums_are : (engine : NumberedState) (records : List Record) (count : ℕ) → (behind : IsBehind records engine) → count ≡ length records → sums_behind count engine ≡ totals_in records behind.world
sums_are engine records count behind counted =
    ap (λ (n : ℕ). sums_behind n engine) counted ∙ sym (ap (λ (w : World). totals_in records w) behind.is)

-- a last line with others says nothing true
pub refuses : (setup : Setup) (engine : NumberedState) (records : List Record) (count : ℕ) (totals : Totals) → IsBehind records engine → engine.setup ≡ setup → count ≡ length records → (sums_behind count engine ≡ totals → ⊥) → TotalsOf setup records totals → ⊥
refuses setup engine records count totals behind same counted differ it =
    let leads : WorldRun setup (flat records) behind.world = subst (λ (s : Setup). WorldRun s (flat records) behind.world) same behind.leads in
    let one : it.0 ≡ behind.world = sym (world_after_leads setup (beginning setup) (flat records) it.0 it.1.1) ∙ world_after_leads setup (beginning setup) (flat records) behind.world leads.1 in
    differ (sums_are engine records count behind counted ∙ sym (it.2 ∙ ap (λ (w : World). totals_in records w) one))

-- ---- the first line that does not follow

pub last_is_faulty : (setup : Setup) (engine : NumberedState) (records : List Record) (count : ℕ) (totals : Totals) → RecordsLead setup records count engine → count ≡ length records → (sums_behind count engine ≡ totals → ⊥) → IsFirstFaulty setup records totals count
last_is_faulty setup engine records count totals leads all differ = record {
  lead = leads.0;
  stops = elim leads.1 [
    | inl before ↦ absurd (omega (arith, before.0, all))
    | inr behind ↦ inr (all, refuses setup engine records count totals behind.1 behind.2 all differ)
  ];
}

pub one_is_faulty : (setup : Setup) (engine : NumberedState) (records : List Record) (count : ℕ) (totals : Totals) → RecordsLead setup records count engine → (count ≡ length records → ⊥) → IsFirstFaulty setup records totals count
one_is_faulty setup engine records count totals leads some = record {
  lead = leads.0;
  stops = elim leads.1 [
    | inl before ↦ inl before
    | inr behind ↦ absurd (some behind.0)
  ];
}
