use Rattle.std.proofs.Common.{ap, ◌∙◌}
use Rattle.engine_carried.specs.FreezeAbove.{holder_above}
use Rattle.engine_carried.proofs.Above.{place_lists}
use Rattle.engine_carried.proofs.freezes.place_above.Goals as goal

pub returns : goal.returns
returns c = c.holder_above.ensures ∙ (ap (holder_above c.args.place c.args.after) c.in-Some.ensures.holders ∙ place_lists c.args.place c.args.after c.args.transport.now.freezes)
