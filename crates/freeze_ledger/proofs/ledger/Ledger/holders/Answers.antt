use Rattle.std.proofs.Common.{◌≡◌, ℕ, ◌<◌, ◌∙◌, List, map, ap, sym, subst}
use Rattle.ccb.specs.Rising.{AreRising}
use Rattle.freeze_ledger.specs.declared.freeze.Holder.{Holder}
use Rattle.ccb.specs.Places.{index_of}
use Rattle.freeze_ledger.specs.Freezes.{holders_of}
use Rattle.freeze_ledger.specs.State.{LedgerState}
use Rattle.freeze_ledger.specs.Entries.{EntriesState, all_of}
use Rattle.freeze_ledger.specs.Links.{walk, ends_at}
use Rattle.freeze_ledger.proofs.Numbered.{holders_rise}
use Rattle.freeze_ledger.proofs.Slots.{list_rises}
use Rattle.freeze_ledger.proofs.Walk.{walks}
use Rattle.freeze_ledger.proofs.ledger.Ledger.holders.Goals as goal

pub returns-clause-entries : goal.returns-clause-entries
returns-clause-entries c =
    let e : EntriesState = c.self.inside.entries in
    let links = c.self.inside.chains.links.items in
    let ends = c.self.inside.chains.ends.items in
    let first : c.first.result ≡ (ends_at ends (index_of c.args.place)).first = c.first.ensures ∙ ap (λ (p : ℕ). (ends_at ends p).first) c.index.ensures in
    let known : index_of c.args.place < e.places = subst (λ (s : LedgerState). index_of c.args.place < s.places) (sym c.self.view_is) c.requires in
    let numbered = c.are_numbered.ensures in
    (λ i. walk (c.count.ensures.entries i) (c.slots.ensures i) (c.links.ensures i) (first i))
    ∙ (walks e links ends c.args.place c.self.invariant.1 numbered.apart numbered.given known
    ∙ ap (λ (s : LedgerState). holders_of c.args.place s.freezes) c.self.view_is)

pub returns-clause-rising : goal.returns-clause-rising
returns-clause-rising c =
    let e : EntriesState = c.self.inside.entries in
    let links = c.self.inside.chains.links.items in
    let ends = c.self.inside.chains.ends.items in
    let first : c.first.result ≡ (ends_at ends (index_of c.args.place)).first = c.first.ensures ∙ ap (λ (p : ℕ). (ends_at ends p).first) c.index.ensures in
    let known : index_of c.args.place < e.places = subst (λ (s : LedgerState). index_of c.args.place < s.places) (sym c.self.view_is) c.requires in
    let numbered = c.are_numbered.ensures in
    let there = (λ i. walk (c.count.ensures.entries i) (c.slots.ensures i) (c.links.ensures i) (first i)) ∙ walks e links ends c.args.place c.self.invariant.1 numbered.apart numbered.given known in
    let rise = holders_rise c.args.place 0 (all_of e) e.greatest (list_rises e.slots e.greatest) in
    let up = subst (λ (xs : List (ℕ × Holder)). AreRising 0 (map (λ (holder : ℕ × Holder). holder.0) xs) e.greatest) (sym there) rise in
    subst (λ (s : LedgerState). AreRising 0 (map (λ (holder : ℕ × Holder). holder.0) (walk c.count.result c.slots.result.now.slots c.links.result.now c.first.result)) s.greatest) c.self.view_is up
