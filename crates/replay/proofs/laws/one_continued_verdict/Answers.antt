use Rattle.replay.proofs.OneVerdict.{one_continued_verdict}
use Rattle.replay.proofs.laws.one_continued_verdict.Goals as goal

pub returns : goal.returns
returns c = one_continued_verdict
