use Rattle.std.proofs.Common.{◌≡◌, ℕ, List, Some, refl, ap, sym, subst, ◌∙◌, arith}
use Rattle.helpers.specs.declared.table.HelperEffect.TheVariants as effects
use Rattle.helpers.specs.declared.request.Request.{Request}
use Rattle.helpers.specs.Table.{row_of}
use Rattle.bpf_semantics.specs.Step.{Wrote}
use Rattle.interpreter.specs.Segments.{SegmentState}
use Rattle.engine_runs.specs.RunsState.{RunsState}
use Rattle.engine_runs.specs.RunPlaces.{HasRunAt}
use Rattle.world.specs.declared.queue_info.QueueInfo.{QueueInfo as Info}
use Rattle.world.specs.World.{Transport, LiveRun, World}
use Rattle.world.specs.QueueInfo.{queue_info, info_bytes}
use Rattle.world.specs.RunSteps.{answers}
use Rattle.world_laws.proofs.Telling.{info_wrote}
use Rattle.world_laws.proofs.Deeds.{suits}
use Rattle.engine_core.specs.TakingOver.{IsCalled, at_stop, Does}
use Rattle.engine_core.proofs.Calls.{is_answer, deed_step, between, queue_there}
use Rattle.engine_core.proofs.helper_effects.tell_queue.Goals as goal

module _ (transport : Transport) (old : RunsState) (place : ℕ) (segment : SegmentState) (request : Request) (it : IsCalled transport old place segment request) (is : (row_of request.helper).effect ≡ effects.TellQueue) where
  told_queue : (queue : ℕ) (info : Info) (bytes : List ℕ) → ((run : LiveRun) → HasRunAt old.runs.list place run → queue ≡ run.queue) → ((world : World) → info ≡ queue_info (record world { transport = transport }) queue) → bytes ≡ info_bytes info → Does place segment request (record { r0 = 0; written = Some (record { address = request.arguments.first; bytes = bytes }) }) transport old transport old
  told_queue queue info bytes queue_is info_is bytes_is =
      let address : ℕ = request.arguments.first in
      let columns = suits effects.TellQueue request is in
      record {
        allowed = is_answer segment.to request (record { r0 = 0; written = Some (record { address = address; bytes = bytes }) }) _ _ columns.gives_is columns.machine_is (omega arith, omega arith)
            (subst (λ (bs : List ℕ). Wrote address 16 (record { address = address; bytes = bs })) (sym bytes_is) (info_wrote address info));
        list = refl;
        tokens = it.admitted.kept.tokens;
        step = λ n b setup history kept.
            let run : LiveRun = at_stop b.out.it segment in
            let before : World = between transport old segment setup history b.out.it in
            let same : info_bytes (queue_info before run.queue) ≡ bytes =
            sym (bytes_is ∙ ap info_bytes (info_is before ∙ ap (queue_info before) (queue_is b.out.it b.there))) in
            record {
              world = before;
              step = deed_step before run request effects.TellQueue is
                  ∙ ap (λ (bs : List ℕ). Some (answers before run request (record { r0 = 0; written = Some (record { address = address; bytes = bs }) }))) same;
              is = refl;
            };
      }

pub queue-requires : goal.queue-requires
queue-requires c = (c.requires.1.1.admitted.out.it, c.requires.1.1.admitted.there)

pub queue_info-info-requires : goal.queue_info-info-requires
queue_info-info-requires c = queue_there c.args.transport.now c.args.runs.now c.args.place c.requires.1.0 c.args.request.now c.requires.1.1 c.queue.result.0 c.queue.ensures

pub returns : goal.returns
returns c =
    record {
      does = λ segment it.
          told_queue c.args.transport.now c.args.runs.now c.args.place segment c.args.request.now it c.requires.0 c.queue.result.0 c.queue_info-info.result c.to_bytes.result c.queue.ensures c.queue_info-info.ensures c.to_bytes.ensures;
    }
