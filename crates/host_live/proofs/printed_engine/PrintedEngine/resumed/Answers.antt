use Rattle.std.proofs.Common.{◌≡◌, ◌∙◌, ap, refl, rules}
use Rattle.world.specs.World.{version_of}
use Rattle.host_live.specs.Growth.{resumed}
use Rattle.host_live.specs.declared.printed.Printed.{Printed}
use Rattle.host_live.proofs.Underway.{underway_resumed}
use Rattle.host_live.proofs.printed_engine.PrintedEngine.resumed.Goals as goal

pub invariant_of-result : goal.invariant_of-result
invariant_of-result c =
    let own : c.of.result ≡ version_of c.config.result.now = search rules in
    let version : c.of.result ≡ version_of c.args.engine.setup = own ∙ ap version_of c.config.ensures in
    underway_resumed c.args.engine.setup c.args.engine c.resumed-printed.result c.args.count c.transport.ensures.run.1.lawful refl
    (ap (λ (p : Printed). p.lines.version) c.resumed-printed.ensures ∙ version) c.requires.behind

pub returns : goal.returns
returns c =
    let own : c.of.result ≡ version_of c.config.result.now = search rules in
    let version : c.of.result ≡ version_of c.args.engine.setup = own ∙ ap version_of c.config.ensures in
    ap (λ (p : Printed). record { engine = c.args.engine; printed = p; metrics = c.args.metrics }) (c.resumed-printed.ensures ∙ ap (λ (v : _). resumed v c.args.count) version)
