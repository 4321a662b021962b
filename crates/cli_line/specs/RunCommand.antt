-- The command line as `clap` sees it.
use Rattle.std.specs.Prelude.{◌≡◌, [], ◌∷◌, Some, true, false, codes, pos}
use Rattle.clap.specs.Words.{App, Rule, Text, app_of, new_app, new_rule, rule_of, with_rule}
use Rattle.clap.specs.Words.{with_subcommand}
use Rattle.clap.specs.declared.builder.arg.Arg.{Arg}
use Rattle.clap.specs.declared.builder.command.Command.{Command}
use Rattle.clap.specs.declared.builder.command.Command.TheViews.{out-Command}
use Rattle.clap.specs.declared.builder.action.ArgAction.TheVariants as action
use Rattle.clap.specs.declared.builder.value_parser.ValueParser.TheVariants as value_parser

-- the option `--workers N`, a number from 1 to 16, which is 1 where it is not given
abbrev pub workers_rule : Rule
workers_rule = record (new_rule (codes "workers")) {
  long = Some (codes "workers");
  value_names = 1;
  defaults = codes "1" ∷ [];
  parser = Some (value_parser.Signed (pos 1) (pos 16));
}

-- the option `--watch=WHEN`, any text, which is `never` where it is not given
abbrev pub watch_rule : Rule
watch_rule = record (new_rule (codes "watch")) {
  long = Some (codes "watch");
  value_names = 1;
  defaults = codes "never" ∷ [];
}

-- an option without a word
abbrev pub flag_rule : Text → Rule
flag_rule name = record (new_rule name) {
  long = Some name;
  action = Some action.SetTrue;
}

-- a path that has to be there
abbrev pub path_rule : Text → Rule
path_rule name = record (new_rule name) { required = true }

-- `run` with its options
abbrev pub run_options : App
run_options = with_rule (with_rule (with_rule (new_app (codes "run")) workers_rule) (flag_rule (codes "strict"))) watch_rule

-- `run`, with its options and its two paths in their order
abbrev pub run_command : App
run_command = with_rule (with_rule run_options (path_rule (codes "MANIFEST"))) (path_rule (codes "SCENARIO"))

-- `asm` with the text that it reads and the program that it writes
abbrev pub asm_command : App
asm_command = with_rule (with_rule (new_app (codes "asm")) (path_rule (codes "IN"))) (path_rule (codes "OUT"))

-- `dis` with its program
abbrev pub dis_command : App
dis_command = with_rule (new_app (codes "dis")) (path_rule (codes "FILE"))

-- `check` with its manifest
abbrev pub check_command : App
check_command = with_rule (new_app (codes "check")) (path_rule (codes "MANIFEST"))

-- an option of one word, which is that word if it is not given
abbrev pub default_rule : (name word : Text) → Rule
default_rule name word = record (new_rule name) {
  long = Some name;
  value_names = 1;
  defaults = word ∷ [];
}

-- `migrate` with the version, which is 2 if it is not given, the manifest that it reads and the one that it writes
abbrev pub migrate_command : App
migrate_command = with_rule (with_rule (with_rule (new_app (codes "migrate")) (default_rule (codes "to") (codes "2"))) (path_rule (codes "IN"))) (path_rule (codes "OUT"))

-- `replay` with its two paths in their order
abbrev pub replay_command : App
replay_command = with_rule (with_rule (new_app (codes "replay")) (path_rule (codes "MANIFEST"))) (path_rule (codes "TRACE"))

-- `explain` with its code or its manifest, and a scenario or a trace, which may be left out
abbrev pub explain_command : App
explain_command = with_rule (with_rule (new_app (codes "explain")) (path_rule (codes "WORD"))) (new_rule (codes "FILE"))

-- an option of one word, which may be left out
abbrev pub option_rule : Text → Rule
option_rule name = record (new_rule name) {
  long = Some name;
  value_names = 1;
}

-- `show` with the options that are about something with a number
abbrev pub numbered_command : App
numbered_command = with_rule (with_rule (with_rule (with_rule (new_app (codes "show"))
    (option_rule (codes "ccb"))) (option_rule (codes "queue"))) (option_rule (codes "run"))) (option_rule (codes "freeze"))

-- with those that are about times
abbrev pub timed_command : App
timed_command = with_rule (with_rule numbered_command (option_rule (codes "from"))) (option_rule (codes "to"))

-- with those that are about what was reported
abbrev pub reported_command : App
reported_command = with_rule (with_rule (with_rule timed_command (option_rule (codes "status"))) (option_rule (codes "sense")))
    (option_rule (codes "refused"))

-- with those for what is printed, and in which form
abbrev pub formed_command : App
formed_command = with_rule (with_rule reported_command (flag_rule (codes "summary"))) (flag_rule (codes "json"))

-- with those for what is written into a file of its own
abbrev pub drawn_command : App
drawn_command = with_rule (with_rule formed_command (option_rule (codes "svg"))) (option_rule (codes "perfetto"))

-- with its two paths in their order
abbrev pub show_command : App
show_command = with_rule (with_rule drawn_command (path_rule (codes "MANIFEST"))) (path_rule (codes "TRACE"))

-- an option of one word, which may be given more than once
abbrev pub repeated_rule : Text → Rule
repeated_rule name = record (new_rule name) {
  long = Some name;
  value_names = 1;
  action = Some action.Append;
}

-- `decide` with the options for the command that fails, and for the clock
abbrev pub standing_command : App
standing_command = with_rule (with_rule (with_rule (new_app (codes "decide"))
    (default_rule (codes "retries") (codes "5"))) (default_rule (codes "attempts") (codes "1"))) (default_rule (codes "clock") (codes "0"))

-- with that for the class of the command
abbrev pub classed_command : App
classed_command = with_rule standing_command (default_rule (codes "class") (codes "0"))

-- with all its options
abbrev pub wide_command : App
wide_command = with_rule (with_rule classed_command (repeated_rule (codes "word"))) (flag_rule (codes "all-sense"))

-- with its manifest, its queue and its CAM status
abbrev pub failing_command : App
failing_command = with_rule (with_rule (with_rule wide_command (path_rule (codes "MANIFEST"))) (path_rule (codes "QUEUE"))) (path_rule (codes "STATUS"))

-- with its SCSI status and its sense data
abbrev pub decide_command : App
decide_command = with_rule (with_rule failing_command (path_rule (codes "SCSI"))) (path_rule (codes "SENSE"))

-- `live` with the flags that say how lines are carried out
abbrev pub manner_command : App
manner_command = with_rule (with_rule (with_rule (new_app (codes "live")) (flag_rule (codes "clock"))) (flag_rule (codes "step"))) (flag_rule (codes "ack"))

-- with the journal's folder and its flag, the file for what is counted, and the manifest, which may be left out
abbrev pub live_command : App
live_command = with_rule (with_rule (with_rule (with_rule manner_command (option_rule (codes "journal"))) (flag_rule (codes "sync"))) (option_rule (codes "metrics"))) (new_rule (codes "MANIFEST"))

-- `try` with its options
abbrev pub seeded_command : App
seeded_command = with_rule (with_rule (new_app (codes "try")) (option_rule (codes "seed"))) (option_rule (codes "trace"))

-- with its two paths in their order
abbrev pub try_command : App
try_command = with_rule (with_rule seeded_command (path_rule (codes "MANIFEST"))) (path_rule (codes "DISKS"))

-- `audit` with a journal's folder
abbrev pub audit_command : App
audit_command = with_rule (new_app (codes "audit")) (path_rule (codes "DIR"))

-- the program, whose words begin after its own name; where there are none it shows its help
abbrev pub bare_command : App
bare_command = let a = new_app (codes "camr") in record a {
  top = record a.top {
    no_binary_name = true;
    arg_required_else_help = true;
    subcommand_required = true;
    has_version = true;
  };
}

-- with `asm` and `dis` alone
abbrev pub texts_command : App
texts_command = with_subcommand (with_subcommand bare_command asm_command.top) dis_command.top

-- with `check` too
abbrev pub programs_command : App
programs_command = with_subcommand texts_command check_command.top

-- with `explain` and `migrate` too
abbrev pub manifests_command : App
manifests_command = with_subcommand (with_subcommand programs_command explain_command.top) migrate_command.top

-- with `run` and `live` too
abbrev pub runs_command : App
runs_command = with_subcommand (with_subcommand manifests_command run_command.top) live_command.top

-- with `replay` and `audit` too
abbrev pub traces_command : App
traces_command = with_subcommand (with_subcommand runs_command replay_command.top) audit_command.top

-- with `show` too
abbrev pub shows_command : App
shows_command = with_subcommand traces_command show_command.top

-- with `decide` too
abbrev pub decides_command : App
decides_command = with_subcommand shows_command decide_command.top

-- the whole command line
abbrev pub camr_command : App
camr_command = with_subcommand decides_command try_command.top

-- ---- what is made for `clap`

-- the argument has that rule, and is for its own command alone
abbrev pub IsArgument : Rule → Arg → Type 0
IsArgument rule a = (rule_of a ≡ rule) × (a.global ≡ false)

-- the command is that one, and has no argument for other commands
abbrev pub IsCommand : App → Command → Type 0
IsCommand app c = (app_of c ≡ app) × ((out-Command c).has_globals ≡ false)
