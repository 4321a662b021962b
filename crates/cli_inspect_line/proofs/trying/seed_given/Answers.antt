use Rattle.std.proofs.Common.{codes}
use Rattle.clap.specs.Words.{found_of, rows_of}
use Rattle.cli_line.proofs.Given.{nothing_given, text_given}
use Rattle.cli_inspect_line.proofs.Seeds.{no_seed, seed_is}
use Rattle.cli_inspect_line.proofs.trying.seed_given.Goals as goal

pub returns-in-Some-long_number : goal.returns-in-Some-long_number
returns-in-Some-long_number c =
    let f = found_of c.args.tried.now in
    seed_is (rows_of f) c.in-Some.word.now c.long_number.result _ (text_given f (codes "seed") c.get_str.result _ c.get_str.ensures c.in-Some.is) c.long_number.ensures c.in-Some-long_number.is

pub returns-in-None-long_number : goal.returns-in-None-long_number
returns-in-None-long_number c =
    let f = found_of c.args.tried.now in
    no_seed (rows_of f) c.in-Some.word.now c.long_number.result (text_given f (codes "seed") c.get_str.result _ c.get_str.ensures c.in-Some.is) c.long_number.ensures c.in-None-long_number.is

pub returns-in-None : goal.returns-in-None
returns-in-None c = nothing_given (found_of c.args.tried.now) (codes "seed") c.get_str.result c.get_str.ensures c.in-None.is
