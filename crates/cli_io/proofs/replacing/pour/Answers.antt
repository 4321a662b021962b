use Rattle.std.proofs.Common.{[], None}
use Rattle.std.proofs.lemmas.Result.{err_from_is_err_and}
use Rattle.cli_io.specs.declared.folder.Look.TheVariants.{Stream}
use Rattle.cli_io.specs.Replacing.{Pouring, Seen}
use Rattle.cli_io.proofs.Stages.{at_stays, front_of_all, opened_there, poured_or_not}
use Rattle.cli_io.proofs.replacing.pour.Goals as goal

pub returns-in_err-open_stream : goal.returns-in_err-open_stream
returns-in_err-open_stream g c = λ path base at.
    let p = err_from_is_err_and c.from_residual.result c.from_residual.ensures.1 in
    rw p.1 (Seen c.args.out.now Stream None, at_stays path c.args.bytes.now base _ _ _ at c.in_err-open_stream.ensures, tt)

pub returns : goal.returns
returns g c = λ path base at.
    let bytes = c.args.bytes.now in
    poured_or_not path bytes base _ c.args.out.now _
    (c.write_all.ensures path bytes base (Pouring c.args.out.now []) (front_of_all bytes) (opened_there path bytes base _ _ c.args.out.now at c.in_ok-open_stream.ensures))
