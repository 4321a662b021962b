use Rattle.std.proofs.Common.{◌≡◌, ◌≢◌, ℕ, ◌<◌, List, Option, Some, None, IsSome, IfSome, IfNone, OnSome, Contains, refl, subst}
use Rattle.freeze_ledger.specs.declared.freeze.Freeze.{Freeze}
use Rattle.freeze_ledger.specs.Freezes.{entry_of}
use Rattle.ccb.specs.Places.{index_of}
use Rattle.freeze_ledger.specs.Entries.{EntriesState, all_of, freeze_at, freezes_in}
use Rattle.freeze_ledger.specs.Invariant.{AreApart, AreGiven, AreKnown}
use Rattle.freeze_ledger.proofs.Slots.{listed, stands, entry_there}
use Rattle.freeze_ledger.proofs.entries.Entries.key_of.Goals as goal

held_by : (slots : List (Option Freeze)) (high : ℕ) (f : Freeze) (r : Option ℕ) → AreApart slots → AreGiven slots high → IfSome r (λ (key : ℕ). freeze_at slots key ≡ Some f) → IfNone r ((key : ℕ) → freeze_at slots key ≢ Some f) → (IsSome r → Contains (freezes_in slots high) f) × (Contains (freezes_in slots high) f → IsSome r)
held_by slots high f None apart given there none = (λ is. absurd (cc is), λ c. let s = stands slots high f c in absurd (none s.0 s.1))
held_by slots high f (Some key) apart given there none = (λ is. listed slots high apart given key f there, λ c. refl)

on_some : (slots : List (Option Freeze)) (high places : ℕ) (f : Freeze) (r : Option ℕ) → AreApart slots → AreGiven slots high → AreKnown slots places → IfSome r (λ (key : ℕ). freeze_at slots key ≡ Some f) → OnSome r (entry_of f.number (freezes_in slots high) ≡ Some f) × OnSome r (index_of f.place < places)
on_some slots high places f None apart given known there = (tt, tt)
on_some slots high places f (Some key) apart given known there = (entry_there slots high apart given key f there, known key f there)

pub returns-then-stands_at-clause-held : goal.returns-then-stands_at-clause-held
returns-then-stands_at-clause-held c =
    let kept = c.self.invariant in
    let there = c.stands_at.ensures.0 c.if-stands_at.true in
    (λ is. subst (λ (e : EntriesState). Contains (all_of e) c.args.freeze) c.self.view_is (listed c.self.inside.slots.slots c.self.inside.greatest kept.apart kept.given c.args.entered c.args.freeze there), λ has. refl)

pub returns-then-stands_at-clause-number : goal.returns-then-stands_at-clause-number
returns-then-stands_at-clause-number c =
    let kept = c.self.invariant in
    let there = c.stands_at.ensures.0 c.if-stands_at.true in
    subst (λ (e : EntriesState). entry_of c.args.freeze.number (all_of e) ≡ Some c.args.freeze) c.self.view_is (entry_there c.self.inside.slots.slots c.self.inside.greatest kept.apart kept.given c.args.entered c.args.freeze there)

pub returns-then-stands_at-clause-place : goal.returns-then-stands_at-clause-place
returns-then-stands_at-clause-place c =
    let there = c.stands_at.ensures.0 c.if-stands_at.true in
    subst (λ (e : EntriesState). index_of c.args.freeze.place < e.places) c.self.view_is (c.self.invariant.known c.args.entered c.args.freeze there)

pub returns-clause-held : goal.returns-clause-held
returns-clause-held c =
    let kept = c.self.invariant in
    subst (λ (e : EntriesState). (IsSome c.searched.result → Contains (all_of e) c.args.freeze) × (Contains (all_of e) c.args.freeze → IsSome c.searched.result)) c.self.view_is (held_by c.self.inside.slots.slots c.self.inside.greatest c.args.freeze c.searched.result kept.apart kept.given c.searched.ensures.there c.searched.ensures.none)

pub returns-clause-number : goal.returns-clause-number
returns-clause-number c =
    let kept = c.self.invariant in
    subst (λ (e : EntriesState). OnSome c.searched.result (entry_of c.args.freeze.number (all_of e) ≡ Some c.args.freeze)) c.self.view_is ((on_some c.self.inside.slots.slots c.self.inside.greatest _ c.args.freeze c.searched.result kept.apart kept.given kept.known c.searched.ensures.there).0)

pub returns-clause-place : goal.returns-clause-place
returns-clause-place c =
    let kept = c.self.invariant in
    subst (λ (e : EntriesState). OnSome c.searched.result (index_of c.args.freeze.place < e.places)) c.self.view_is ((on_some c.self.inside.slots.slots c.self.inside.greatest _ c.args.freeze c.searched.result kept.apart kept.given kept.known c.searched.ensures.there).1)
