use Rattle.std.proofs.Common.{◌∙◌, List, ap, subst, sym}
use Rattle.world_calls.specs.declared.carried_line.CarriedLine.{CarriedLine}
use Rattle.world.specs.World.{version_of}
use Rattle.world_calls.specs.declared.trace.Version.{Version}
use Rattle.carried_lines.specs.CarriedText.{carried_text}
use Rattle.carried_lines.specs.FirstLine.{continued_header}
use Rattle.engine_core.specs.EngineState.{EngineState}
use Rattle.host_embedding.specs.Lines.{PutsCarried, PutsLines}
use Rattle.host_embedding.proofs.Beginning.{puts_carried}
use Rattle.host_embedding.proofs.engine_handle.EngineHandle.put_carried.Goals as goal

pub returns-then-recorded-eq0-clause-lines : goal.returns-then-recorded-eq0-clause-lines
returns-then-recorded-eq0-clause-lines c =
    let puts : PutsLines (carried_text (version_of c.self.inside.engine.setup)) c.put_from.result c.continued_header-first.result.now c.self.inside.lines.items 0 c.args.from c.args.place.now c.put_from.new.place c.put_from.new.put.written c.put_from.new.put.next =
    subst (λ (version : Version). PutsLines (carried_text version) c.put_from.result c.continued_header-first.result.now c.self.inside.lines.items 0 c.args.from c.args.place.now c.put_from.new.place c.put_from.new.put.written c.put_from.new.put.next) c.version-version.ensures
    (subst (λ (its : List CarriedLine). PutsLines (carried_text c.version-version.result) c.put_from.result c.continued_header-first.result.now its 0 c.args.from c.args.place.now c.put_from.new.place c.put_from.new.put.written c.put_from.new.put.next)
    c.deref.ensures.value c.put_from.ensures.lines) in
    subst (λ (state : EngineState). PutsCarried c.put_from.result state c.args.from c.args.place.now c.put_from.new.place c.put_from.new.put.written c.put_from.new.put.next) c.self.view_is
    (puts_carried c.self.inside.engine c.self.inside.is_continued c.self.inside.lines.items c.put_from.result c.continued_header-first.result.now c.args.from c.args.place.now c.put_from.new.place c.put_from.new.put.written c.put_from.new.put.next
    c.self.invariant.1 c.if-self.true (sym c.recorded.ensures ∙ c.if-recorded-eq0.true) (c.continued_header-first.ensures ∙ ap continued_header c.version-version.ensures) puts)
