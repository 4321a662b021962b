-- the numbers so far
use Rattle.std.proofs.Common.{◌+◌, ◌*◌, ◌≤◌, length, map, take}
use Rattle.trace_lines.specs.Texts.{number_text}
use Rattle.trace_lines.specs.Written.{IsPut}
use Rattle.carried_lines.specs.CarriedText.{after_blanks}
use Rattle.carried_lines.proofs.printing.put_numbers.Given as goal

abbrev pub invariant-loop-number : goal.invariant-loop-number
invariant-loop-number l = record {
  put : IsPut (after_blanks (map number_text (take l.number-index l.numbers))) l.initial.text l.text;
  few : length l.text ≤ length l.initial.text + 11 * l.number-index;
}
