-- the value so far
use Rattle.std.proofs.Common.{◌≡◌, ◌<◌, ◌^◌, drop}
use Rattle.host_journal.specs.Names.{value_from}
use Rattle.host_journal.proofs.names.value_of.Given as goal

abbrev pub invariant-loop-digit : goal.invariant-loop-digit
invariant-loop-digit l = record {
  so_far : value_from 0 l.digits ≡ value_from l.value (drop l.digit-index l.digits);
  small : l.value < 10 ^ l.digit-index;
}
