use Rattle.std.proofs.Common.{◌<◌, arith, rules}
use Rattle.std.specs.Prelude.{◌^◌}
use Rattle.std.proofs.Math.Nat.{mod-eq_of_lt}
use Rattle.engine_runs.proofs.runs.Runs.table_put.Goals as goal

pub returns-clause-tables : goal.returns-clause-tables
returns-clause-tables c =
    let fits : c.args.value < 2 ^ 64 = omega (arith, c.ranges.value.fits) in
    rw (mod-eq_of_lt fits) (search rules)
