use Rattle.std.proofs.Common.{inl, map, string_bytes}
use Rattle.cli_line.specs.RunLine.{spelled_out}
use Rattle.clap.specs.Words.{subcommand_of}
use Rattle.cli_line.specs.RunCommand.{camr_command}
use Rattle.cli_inspect_line.specs.FoundPlan.{HasFound}
use Rattle.cli_inspect_line.proofs.Once.{handed, once_gives, read_so, refused_twice}
use Rattle.cli_inspect_line.proofs.words.plan.Goals as goal

pub returns-in-Ok-clause-found : goal.returns-in-Ok-clause-found
returns-in-Ok-clause-found c = handed c.in-Ok.plan (HasFound (subcommand_of camr_command (map spelled_out (map string_bytes c.args.words.now)))) c.read_once.result c.read_once.ensures.same c.in-Ok.ensures.found

pub returns-in-Ok-clause-once : goal.returns-in-Ok-clause-once
returns-in-Ok-clause-once c = read_so c.in-Ok.plan c.read_once.result c.read_once.ensures.same

pub returns-in-Ok-clause-gives : goal.returns-in-Ok-clause-gives
returns-in-Ok-clause-gives c asked line plain = once_gives c.in-Ok.plan asked c.read_once.result c.read_once.ensures.same c.read_once.ensures.twice (c.in-Ok.ensures.gives asked line plain) plain

pub returns-in-Ok-clause-refuses : goal.returns-in-Ok-clause-refuses
returns-in-Ok-clause-refuses c = refused_twice c.in-Ok.plan (map spelled_out (map string_bytes c.args.words.now)) c.read_once.result c.read_once.ensures.twice c.in-Ok.ensures.clear c.in-Ok.ensures.found

pub returns-in-Err-clause-refuses : goal.returns-in-Err-clause-refuses
returns-in-Err-clause-refuses c = inl c.in-Err.ensures.refuses
