use Rattle.std.proofs.Common.{refl}
use Rattle.host_live.proofs.Come.{cut_here, ended_here, over_at_line}
use Rattle.host_live.proofs.lines.Lines.end.Goals as goal

pub returns-then-is_empty-clause-waits : goal.returns-then-is_empty-clause-waits
returns-then-is_empty-clause-waits c = λ base told came stands taken over.
    let none = c.is_empty.ensures.empty c.if-is_empty.true stands.line (stands.kept c.requires.untold) in
    (ended_here base c.args.self.now _ told came refl refl refl refl stands none taken over, refl, over_at_line base told c.args.self.now came stands none taken over)

pub returns-clause-waits : goal.returns-clause-waits
returns-clause-waits c = λ base told came stands taken over.
    (cut_here base c.args.self.now _ told came c.requires.going refl refl refl stands (c.is_empty.ensures.some c.if-is_empty.false stands.line (stands.kept c.requires.untold)) taken over, refl)
