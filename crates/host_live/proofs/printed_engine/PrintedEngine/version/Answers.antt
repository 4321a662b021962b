use Rattle.std.proofs.Common.{◌≡◌, ◌∙◌, ap, rules}
use Rattle.world.specs.World.{version_of}
use Rattle.host_live.proofs.printed_engine.PrintedEngine.version.Goals as goal

pub returns : goal.returns
returns c =
    let own : c.of.result ≡ version_of c.config.result.now = search rules in
    rw (← c.self.view_is) (own ∙ ap version_of c.config.ensures)
