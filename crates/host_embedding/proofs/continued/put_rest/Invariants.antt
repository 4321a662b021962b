use Rattle.std.proofs.Common.{◌≡◌, ◌≤◌, drop, length, take}
use Rattle.carried_lines.specs.CarriedText.{carried_text}
use Rattle.host_embedding.specs.Lines.{AddsLines, IsWithin}
use Rattle.host_embedding.proofs.continued.put_rest.Given as goal

abbrev pub invariant-loop-number : goal.invariant-loop-number
invariant-loop-number l = record {
  room : l.put.written ≤ length l.place;
  next : l.put.next ≡ l.number;
  within : IsWithin l.lines l.fn.put.next l.number;
  lines : AddsLines (carried_text l.version) l.fn.lines (take l.fn.put.written l.fn.place) l.fn.put.next (take l.put.written l.place) l.put.next;
  onward : l.fn.put.written ≤ l.put.written;
  begun : l.number ≡ l.fn.put.next → (l.put.written ≡ l.fn.put.written) × (l.place ≡ l.fn.place);
  behind : drop l.put.written l.place ≡ drop l.put.written l.fn.place;
}
