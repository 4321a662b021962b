use Rattle.std.proofs.Common.{◌≡◌, sym, subst, ◌∙◌, rules}
use Rattle.bpf_semantics.specs.declared.stop.Stop.{Stop}
use Rattle.bpf_semantics.specs.declared.stop.Stop.TheVariants.{Exit}
use Rattle.engine_core.specs.TakingOver.{ArrivesAt, LeadsFrom}
use Rattle.engine_core.proofs.StopEnds.{exiting, exit_ends, exit_holds, no_token}
use Rattle.engine_core.proofs.commit_segment.take_over.Goals as goal

pub answer-r0-requires : goal.answer-r0-requires
answer-r0-requires c = subst (λ (s : Stop). ArrivesAt c.args.transport.now c.args.runs.now c.args.place c.args.to.value s) (search rules) c.requires

pub end-requires-clause-run : goal.end-requires-clause-run
end-requires-clause-run c = (c.requires.admitted.out.it, c.requires.admitted.there)

pub end-requires-clause-nothing : goal.end-requires-clause-nothing
end-requires-clause-nothing c =
    let is : c.args.stop.now ≡ Exit c.in-Exit.r0 = search rules in
    no_token c.args.transport.now c.args.runs.now c.args.place c.requires.segment c.requires.number c.requires.admitted
    (exiting c.args.transport.now c.args.runs.now c.args.place c.requires.segment c.requires.ends.segment_is c.requires.number c.requires.admitted c.in-Exit.r0 (c.requires.ends.stop_is ∙ is))

pub returns-in-Exit-clause-leads : goal.returns-in-Exit-clause-leads
returns-in-Exit-clause-leads c =
    let is : c.args.stop.now ≡ Exit c.in-Exit.r0 = search rules in
    subst (λ (s : Stop). LeadsFrom c.args.to.value s c.in-Exit.r0 c.args.place c.args.transport.now c.args.runs.now c.args.transport.now c.end.new.self) (sym is)
    (λ segment ends number admitted. exit_ends c.args.transport.now c.args.runs.now c.end.new.self c.args.place segment c.in-Exit.r0 ends.segment_is ends.stop_is c.end.ensures number admitted)

pub returns-in-Exit-clause-tokens : goal.returns-in-Exit-clause-tokens
returns-in-Exit-clause-tokens c =
    exit_holds c.args.transport.now c.args.runs.now c.end.new.self c.args.place c.requires.segment c.requires.number c.requires.admitted c.end.ensures
