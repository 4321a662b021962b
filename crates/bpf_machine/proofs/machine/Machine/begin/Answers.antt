use Rattle.std.proofs.Common.{◌<◌}
use Rattle.std.proofs.lemmas.List.Elements.{All-from_get_or}
use Rattle.bpf_machine.proofs.Entries.{entry_is}
use Rattle.bpf_machine.proofs.machine.Machine.begin.Goals as goal

pub returns-clause-value : goal.returns-clause-value
returns-clause-value c =
    entry_is c.args.context.now c.args.freeze _ _ _ _ c.first_registers-self-inside.ensures c.begin.ensures c.clear.ensures c.at_start-self-inside.ensures

pub returns-clause-entry : goal.returns-clause-entry
returns-clause-entry c = record {
  context = c.args.context.now;
  freeze = c.args.freeze;
  bytes = (search, All-from_get_or (λ byte. byte < 256) c.args.context.now 0 (λ i lt. c.fits-context i));
  number = search;
  is = returns-clause-value c;
}
