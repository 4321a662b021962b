use Rattle.std.proofs.Common.{◌≡◌, ◌∙◌, Option, IsSome, get_or, refl, ap, subst, sym, arith}
use Rattle.std.proofs.lemmas.Bool.{eqb-false, eqb-true}
use Rattle.std.proofs.lemmas.List.{get_or_default}
use Rattle.freeze_ledger.specs.declared.freeze.Freeze.{Freeze}
use Rattle.world.proofs.Lists.Entries.{freeze_key}
use Rattle.world.proofs.Lists.Placed.{found_at, missing_at, rises}
use Rattle.engine_core.proofs.guest_tokens.has_token.Goals as goal

pub place_for-place-requires : goal.place_for-place-requires
place_for-place-requires c = λ i j d le l. rises freeze_key 0 c.args.tokens.now c.requires.0 i j d le l c.requires.1

pub returns-then-place-tokens-clause-there : goal.returns-then-place-tokens-clause-there
returns-then-place-tokens-clause-there c = λ same.
    let tokens = c.args.tokens.now in
    let place = c.place_for-place.result in
    let token = c.index-tokens-place.result in
    let named : (get_or tokens place token).number ≡ c.args.freeze = ap freeze_key (sym c.index-tokens-place.is) ∙ (sym c.number.ensures ∙ eqb-true _ _ same) in
    subst (λ (found : Option Freeze). IsSome found) (sym (found_at freeze_key 0 tokens c.requires.0 place c.args.freeze token c.if-place-tokens.true c.requires.1 named)) refl

pub returns-then-place-tokens-clause-none : goal.returns-then-place-tokens-clause-none
returns-then-place-tokens-clause-none c = λ other.
    let tokens = c.args.tokens.now in
    let place = c.place_for-place.result in
    missing_at freeze_key 0 tokens c.requires.0 place c.args.freeze c.requires.1
    (λ j d l w. c.place_for-place.ensures.lower j d (omega arith) l) c.place_for-place.ensures.others
    (λ d l e. eqb-false _ _ other (c.number.ensures ∙ (ap freeze_key (c.index-tokens-place.is ∙ get_or_default tokens place c.index-tokens-place.result d l) ∙ e)))

pub returns-else-place-tokens-clause-none : goal.returns-else-place-tokens-clause-none
returns-else-place-tokens-clause-none c = λ _.
    let tokens = c.args.tokens.now in
    missing_at freeze_key 0 tokens c.requires.0 c.place_for-place.result c.args.freeze c.requires.1
    (λ j d l w. c.place_for-place.ensures.lower j d (omega arith) l) c.place_for-place.ensures.others
    (λ d l e. absurd (omega (arith, c.if-place-tokens.false, l)))
