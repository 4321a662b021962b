use Rattle.std.proofs.Common.{◌≡◌, ◌<◌, ◌≤◌, length, get_or, refl, ap, sym, ◌∙◌, arith, rules}
use Rattle.std.specs.List.{AllWithin}
use Rattle.std.proofs.lemmas.List.{get_or_default}
use Rattle.freeze_ledger.specs.declared.freeze.Freeze.{Freeze}
use Rattle.world.proofs.Lists.Entries.{freeze_key}
use Rattle.world.proofs.Lists.Placed.{missing_at, remove_is_leave, rises}
use Rattle.engine_core.proofs.guest_tokens.take_token.Goals as goal
use Rattle.engine_core.proofs.guest_tokens.take_token.Goals.{else-place-len-via-then-place-len+else-number-freeze, else-place-len-via-else-place-len}

pub place_for-place-requires : goal.place_for-place-requires
place_for-place-requires c =
    rw c.deref.ensures.value (λ i j d le l. rises freeze_key 0 c.args.tokens.now.items c.requires.0 i j d le l c.requires.1)

pub returns-then-number-freeze-clause-taken : goal.returns-then-number-freeze-clause-taken
returns-then-number-freeze-clause-taken c =
    let within : c.place_for-place.result < length c.args.tokens.now.items = search rules in
    let taken : c.into_token.result ≡ get_or c.args.tokens.now.items c.place_for-place.result c.into_token.result = search rules in
    let named : (get_or c.args.tokens.now.items c.place_for-place.result c.index.result.now).number ≡ c.args.freeze = ap freeze_key (sym c.index.ensures) ∙ (sym c.number.ensures ∙ c.if-number-freeze.true) in (
      (c.place_for-place.result, within, sym taken),
      ap freeze_key (taken ∙ get_or_default c.args.tokens.now.items c.place_for-place.result c.into_token.result c.index.result.now within) ∙ named,
      c.remove.ensures.items ∙ remove_is_leave freeze_key 0 c.args.tokens.now.items c.requires.0 c.place_for-place.result c.args.freeze c.index.result.now within c.requires.1 named,
    )

pub returns-else-place-len-clause-none : goal.returns-else-place-len-clause-none
returns-else-place-len-clause-none c =
    let lower : AllWithin (λ (it : Freeze). it.number < c.args.freeze) c.args.tokens.now.items 0 c.place_for-place.result = rw (← c.deref.ensures.value) c.place_for-place.ensures.lower in
    let others : AllWithin (λ (it : Freeze). c.args.freeze ≤ it.number) c.args.tokens.now.items c.place_for-place.result (length c.args.tokens.now.items) = rw (← c.deref.ensures.value) c.place_for-place.ensures.others in (
      refl,
      missing_at freeze_key 0 c.args.tokens.now.items c.requires.0 c.place_for-place.result c.args.freeze c.requires.1
          (λ j d l w. lower j d (omega arith) l) others
          (λ d l e. elim c.else-place-len.branch [
            | else-place-len-via-then-place-len+else-number-freeze w ↦
                w.if-number-freeze.false (w.number.ensures ∙ (ap freeze_key (w.index.ensures ∙ get_or_default c.args.tokens.now.items c.place_for-place.result w.index.result.now d l) ∙ e))
            | else-place-len-via-else-place-len w ↦ omega (arith, w.if-place-len.false, c.len.ensures, l)
          ]),
    )
