use Rattle.std.proofs.Common.{ap, inl, inr, ◌∙◌}
use Rattle.slab.proofs.SlabLemmas.{Contains-cons, Contains-cons_cases, Contains-entries}
use Rattle.freeze_ledger.proofs.entries.searched.Goals as goal

pub loop-key-init : goal.loop-key-init
loop-key-init c =
    let left = c.into_iter-key-iterator.ensures.into_iter_gives ∙ c.iter-key-items.ensures.rest in (
      tt,
      tt,
      λ key found. rw left ((Contains-entries c.args.slots.now key c.args.freeze).1 found),
      λ key there. (Contains-entries c.args.slots.now key c.args.freeze).0 (rw left at there),
    )

pub loop-key-preserved : goal.loop-key-preserved
loop-key-preserved c =
    let at = c.in-Some.ensures.steps in (
      tt,
      tt,
      λ key found. elim (Contains-cons_cases _ _ _ (rw at at (c.loop-key.invariant.2 key found))) [
        | inl same ↦ let yes = c.is_same.ensures.1 (ap (λ e. e.1) same) in absurd (cc (yes, c.if-is_same.false))
        | inr rest ↦ rest
      ],
      λ key there. c.loop-key.invariant.3 key (rw at (Contains-cons _ _ _ there)),
    )
