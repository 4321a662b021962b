use Rattle.std.proofs.Common.{◌≡◌, length, ap, sym, ◌∙◌, arith}
use Rattle.std.proofs.lemmas.Bool.{eqb-true}
use Rattle.std.proofs.lemmas.Result.{err_from_is_err_and}
use Rattle.bpf_asm.specs.Lexemes.{lines}
use Rattle.bpf_asm.specs.Tokens.{tokens_in, tokens_of}
use Rattle.bpf_asm.proofs.Fronts.{front_nil, tokens_go_on, tokens_fails, tokens_end}
use Rattle.bpf_asm.proofs.token.tokens.Goals as goal

pub loop-rest-init : goal.loop-rest-init
unfolding tokens_of
loop-rest-init c =
    let text_is = c.as_bytes-rest.ensures.value in
    record {
      line_fits = omega (arith, ap length text_is);
      place_fits = omega (arith, ap length text_is);
      place_behind = λ more. omega (arith, ap length text_is);
      whole = rw (c.new-tokens.ensures.items, text_is) (front_nil (tokens_in 1 0 (lines c.args.text.now)));
    }

pub loop-rest-preserved : goal.loop-rest-preserved
loop-rest-preserved c =
    let first = c.first_line.ensures in
    let before = c.loop-rest.invariant in
    let pushed = c.in_ok-push_tokens.ensures in
    record {
      line_fits = omega (arith, first.shorter, before.line_fits);
      place_fits = omega (arith, first.fits, first.feed, first.shorter, before.place_fits, before.place_behind);
      place_behind = λ more. omega (arith, first.feed more, first.shorter, before.place_behind);
      whole = tokens_go_on c.loop-rest.tokens.items _ c.loop-rest.line c.loop-rest.place c.loop-rest.rest.now _ _ _ first.lines pushed.tokens pushed.spans before.whole;
    }

pub returns-in_err-push_tokens : goal.returns-in_err-push_tokens
returns-in_err-push_tokens c =
    let p = err_from_is_err_and c.from_residual.result c.from_residual.ensures.1 in
    rw (p.1, p.2) (tokens_fails c.in_err-push_tokens.field-0.0 c.loop-rest.tokens.items c.loop-rest.line c.loop-rest.place c.loop-rest.rest.now _ _ _ c.first_line.ensures.lines c.in_err-push_tokens.ensures.fault c.loop-rest.invariant.whole)

pub returns : goal.returns
returns c =
    let ended : length c.loop-rest.rest.now ≡ 0 = eqb-true _ _ (sym c.is_empty.ensures ∙ c.loop-rest-test.false) in
    sym c.loop-rest.invariant.whole ∙ tokens_end c.loop-rest.tokens.items c.loop-rest.line c.loop-rest.place c.loop-rest.rest.now ended
