use Rattle.std.proofs.Common.{[], subst, sym}
use Rattle.engine_core.specs.ByNumber.{IsBehind}
use Rattle.engine_core.proofs.Numbered.{behind_begun}
use Rattle.replay.proofs.replaying.replay.Goals as goal

pub replay_on-requires-clause-nothing : goal.replay_on-requires-clause-nothing
replay_on-requires-clause-nothing g c = subst (IsBehind []) (sym c.in_ok-engine.ensures.opened) (behind_begun c.args.config.now c.open.ensures.begins)
