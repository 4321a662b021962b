use Rattle.std.proofs.Common.{◌≢◌, List, Some, ℕ, subst}
use Rattle.std.proofs.lemmas.Result.{err_from_is_err_and}
use Rattle.cli_io.proofs.Stages.{at_stays, drawn_there, made_there}
use Rattle.cli_io.proofs.replacing.create_beside.Goals as goal

pub returns-in_err-name : goal.returns-in_err-name
returns-in_err-name g c = λ path bytes base at.
    let seen = c.loop.invariant path bytes base at in
    let p = err_from_is_err_and c.from_residual-in_err-name.result c.from_residual-in_err-name.ensures.1 in
    rw p.1 (Some c.in_ok-chance.field-0, drawn_there path bytes base _ _ c.args.out.now c.args.look seen.0 _ seen.1 c.in_ok-chance.ensures c.requires)

pub loop-preserved-then-is_same : goal.loop-preserved-then-is_same
loop-preserved-then-is_same g c = λ path bytes base at.
    let seen = c.loop.invariant path bytes base at in
    (Some c.in_ok-chance.field-0, drawn_there path bytes base _ _ c.args.out.now c.args.look seen.0 _ seen.1 c.in_ok-chance.ensures c.requires)

pub returns-in-Ok : goal.returns-in-Ok
returns-in-Ok g c = λ path bytes base at.
    let seen = c.loop.invariant path bytes base at in
    let drawn = drawn_there path bytes base _ _ c.args.out.now c.args.look seen.0 _ seen.1 c.in_ok-chance.ensures c.requires in
    let O : List ℕ → Type 0 = λ n. n ≢ c.args.out.now in
    made_there path bytes base _ _ c.args.out.now c.args.look _ _ _ _ drawn c.in-Ok.ensures c.as_str-in-loop.ensures.value c.in_ok-name.ensures c.first_mode.ensures c.requires
    (subst O c.as_str.ensures.value (c.is_same.ensures c.if-is_same.false))

pub returns-then-ne : goal.returns-then-ne
returns-then-ne g c = λ path bytes base at.
    let seen = c.loop.invariant path bytes base at in
    let drawn = drawn_there path bytes base _ _ c.args.out.now c.args.look seen.0 _ seen.1 c.in_ok-chance.ensures c.requires in
    (Some c.in_ok-chance.field-0, at_stays path bytes base _ _ _ drawn c.in-Err.ensures)

pub loop-preserved : goal.loop-preserved
loop-preserved g c = λ path bytes base at.
    let seen = c.loop.invariant path bytes base at in
    let drawn = drawn_there path bytes base _ _ c.args.out.now c.args.look seen.0 _ seen.1 c.in_ok-chance.ensures c.requires in
    (Some c.in_ok-chance.field-0, at_stays path bytes base _ _ _ drawn c.in-Err.ensures)
