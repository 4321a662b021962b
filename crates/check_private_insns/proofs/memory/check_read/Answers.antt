use Rattle.std.proofs.Common.{◌≤◌, ◌+◌, subst}
use Rattle.check_register_kinds.specs.declared.region.Region.{Region}
use Rattle.check_register_kinds.specs.Kinds.{LiesAt, size_of}
use Rattle.check_private_insns.proofs.Reading.{context_read}
use Rattle.check_private_insns.proofs.memory.check_read.Goals as goal

pub returns-in-Context-clause-reads : goal.returns-in-Context-clause-reads
returns-in-Context-clause-reads c = λ numbers callers m address is lies.
    context_read numbers callers c.args.description.now m c.args.access.offsets address c.args.bytes is
    (subst (λ (region : Region). LiesAt region c.args.access.offsets address) c.in-Context.is lies)
    (subst (λ (region : Region). c.args.access.offsets.most + c.args.bytes ≤ size_of region) c.in-Context.is c.requires.inside)
