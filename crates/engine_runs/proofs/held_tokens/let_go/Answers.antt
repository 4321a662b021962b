use Rattle.std.proofs.Common.{◌≡◌, None, Some, sym, ◌∙◌}
use Rattle.engine_runs.proofs.Tokens.{token_found, token_taken}
use Rattle.engine_runs.proofs.held_tokens.let_go.Goals as goal

pub unwrap-at-requires : goal.unwrap-at-requires
unwrap-at-requires c =
    token_found c.args.tokens.now.items c.requires.0 c.args.freeze c.requires.1 c.place_of_token.result c.as_slice.result.now c.as_slice.ensures.value c.place_of_token.ensures.none

pub unreachable-requires : goal.unreachable-requires
unreachable-requires c =
    let taken = token_taken c.args.tokens.now.items c.requires.0 c.args.freeze c.requires.1 c.place_of_token.result c.as_slice.result.now c.unwrap-at.result c.remove.result c.as_slice.ensures.value c.unwrap-at.ensures c.place_of_token.ensures.within c.place_of_token.ensures.found c.remove.ensures.value in
    let bad : None ≡ Some c.requires.1.entry = sym c.in_default.is ∙ taken.0 in
    cc

pub returns : goal.returns
returns c freezes it =
    let taken = token_taken c.args.tokens.now.items freezes c.args.freeze it c.place_of_token.result c.as_slice.result.now c.unwrap-at.result c.remove.result c.as_slice.ensures.value c.unwrap-at.ensures c.place_of_token.ensures.within c.place_of_token.ensures.found c.remove.ensures.value in
    let both : Some c.in-Some.held ≡ Some it.entry = sym c.in-Some.is ∙ taken.0 in
    let is : c.in-Some.held ≡ it.entry = cc in
    (c.into_token.ensures ∙ is, c.remove.ensures.items ∙ taken.1)
