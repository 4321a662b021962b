-- the digits of the bytes so far
use Rattle.std.proofs.Common.{◌≡◌, ◌+◌, ◌*◌, ◌≤◌, ◌++◌, length, take}
use Rattle.std.specs.Prelude.{flat_map}
use Rattle.trace_lines.specs.Texts.{pair_text}
use Rattle.trace_lines.proofs.printing.print_bytes.Given as goal

abbrev pub invariant-loop-byte : goal.invariant-loop-byte
invariant-loop-byte l = record {
  put : l.text ≡ l.initial.text ++ flat_map pair_text (take l.byte-index l.bytes);
  few : length l.text ≤ length l.initial.text + 2 * l.byte-index;
}
