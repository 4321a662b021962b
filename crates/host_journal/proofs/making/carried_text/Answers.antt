use Rattle.std.proofs.Common.{◌≡◌, Some, rules, subst}
use Rattle.std.specs.Prelude.{IfErr, IfOk}
use Rattle.world.specs.World.{version_of}
use Rattle.world_calls.specs.declared.trace.Version.{Version}
use Rattle.whole_trace.specs.Front.{front_text}
use Rattle.host_journal.specs.Made.{AreUnfit}
use Rattle.host_journal.proofs.making.carried_text.Goals as goal

pub returns-clause-first : goal.returns-clause-first
returns-clause-first c =
    let own : c.of.result ≡ version_of c.args.config.now = search rules in
    subst (λ (v : Version). IfOk c.text_in.result (λ bytes. front_text v c.args.lines.now ≡ Some bytes.items)) own c.text_in.ensures.first

pub returns-clause-refused : goal.returns-clause-refused
returns-clause-refused c =
    let own : c.of.result ≡ version_of c.args.config.now = search rules in
    subst (λ (v : Version). IfErr c.text_in.result (AreUnfit v c.args.lines.now)) own c.text_in.ensures.refused
