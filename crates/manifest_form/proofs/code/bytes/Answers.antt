use Rattle.std.proofs.Common.{arith, ℕ, List, Option, Some, ap, sym, ◌∙◌, ◌≢◌, length}
use Rattle.std.proofs.lemmas.Bool.{eqb-true, eqb-false}
use Rattle.manifest_form.proofs.Codes.{pair_more, blank_more, fails_here, ends_here}
use Rattle.manifest_form.proofs.code.bytes.Goals as goal

pub returns-in_default : goal.returns-in_default
returns-in_default c =
    let some : length c.loop-rest.rest.now ≢ 0 = eqb-false _ _ (sym c.is_empty.ensures ∙ c.loop-rest-test.true) in
    fails_here c.loop-rest.bytes.items c.loop-rest.rest.now _ (sym c.in_default.ensures.read) (omega arith) c.loop-rest.invariant

abbrev with_byte : List ℕ → Option ℕ → Option (Option ℕ × List ℕ)
with_byte rest byte = Some (byte, rest)

pub loop-rest-preserved-in_ok-push : goal.loop-rest-preserved-in_ok-push
loop-rest-preserved-in_ok-push c = pair_more c.loop-rest.bytes.items c.in-Some-byte.byte _ c.loop-rest.rest.now c.in-Some.after.now _ c.in_ok-push.ensures.items (sym c.in-Some.ensures.read ∙ ap (with_byte c.in-Some.after.now) c.in-Some-byte.is) c.loop-rest.invariant

pub loop-rest-preserved : goal.loop-rest-preserved
loop-rest-preserved c = blank_more c.loop-rest.bytes.items c.loop-rest.rest.now c.in-Some.after.now _ (sym c.in-Some.ensures.read ∙ ap (with_byte c.in-Some.after.now) c.in_default-byte.is) c.loop-rest.invariant

pub returns : goal.returns
returns c = ends_here c.loop-rest.bytes.items c.loop-rest.rest.now _ (eqb-true _ _ (sym c.is_empty.ensures ∙ c.loop-rest-test.false)) c.loop-rest.invariant
