use Rattle.std.proofs.Common.{◌≡◌, ◌∙◌, ◌<◌, ℕ, Option, None, Some, refl, sym, ap, subst, arith}
use Rattle.std.specs.Prelude.{false, slice_index_or, if◌then◌else◌}
use Rattle.host_metrics.specs.declared.before.Elapsing.{Elapsing}
use Rattle.host_metrics.specs.Notes.{KnowsElapsing, code_completed, code_finished, completion_at, controller_frozen_of, elapsed, finish_at, instructions_of, is_at, is_controller_frozen, is_queue_frozen, is_recovery, is_requeue, is_start, is_submission, queue_frozen_of, recovery_at, refusal_at, refusal_told, requeue_at, start_at, submission_at}
use Rattle.host_metrics.proofs.Counting.{cell_is, counted_one, frozen_are, grows_same, instructions_are, none_either, row_is, summed_one, summed_still}
use Rattle.host_metrics.proofs.metrics.Metrics.count.Goals as goal

pub returns-in-Some : goal.returns-in-Some
returns-in-Some c = λ note same is.
    let known : KnowsElapsing (Some c.in-Some.elapsing) note = subst (λ (o : Option Elapsing). KnowsElapsing o note) c.in-Some.is is.elapsing in
    rw (← c.self.view_is) (record {
      records = grows_same c.self.inside.records 1 1 c.grown-self-inside.result refl c.grown-self-inside.ensures;
      refusals = counted_one refusal_at note c.refusal_told.result _ _ (c.refusal_told.ensures ∙ ap refusal_told (sym same)) c.add.ensures.many c.add.ensures.each;
      submissions = counted_one submission_at note c.row_if.result _ _ (row_is is_submission c.args.told.now c.args.before.now.queue note c.is_submission.result c.row_if.result c.row_if.ensures c.is_submission.ensures same is.queue) c.add-2.ensures.many c.add-2.ensures.each;
      starts = counted_one start_at note c.row_if-2.result _ _ (row_is is_start c.args.told.now c.args.before.now.queue note c.is_start.result c.row_if-2.result c.row_if-2.ensures c.is_start.ensures same is.queue) c.add-3.ensures.many c.add-3.ensures.each;
      recoveries = counted_one recovery_at note c.row_if-3.result _ _ (row_is is_recovery c.args.told.now c.args.before.now.queue note c.is_recovery.result c.row_if-3.result c.row_if-3.ensures c.is_recovery.ensures same is.queue) c.add-4.ensures.many c.add-4.ensures.each;
      requeues = counted_one requeue_at note c.row_if-4.result _ _ (row_is is_requeue c.args.told.now c.args.before.now.queue note c.is_requeue.result c.row_if-4.result c.row_if-4.ensures c.is_requeue.ensures same is.queue) c.add-5.ensures.many c.add-5.ensures.each;
      completions = counted_one completion_at note c.cell_of.result _ _ (cell_is code_completed c.args.told.now c.args.before.now.queue note c.code_completed.result c.cell_of.result c.cell_of.ensures c.code_completed.ensures same is.queue) c.add-6.ensures.many c.add-6.ensures.each;
      finishes = counted_one finish_at note c.cell_of-2.result _ _ (cell_is code_finished c.args.told.now c.args.before.now.queue note c.code_finished.result c.cell_of-2.result c.cell_of-2.ensures c.code_finished.ensures same is.queue) c.add-7.ensures.many c.add-7.ensures.each;
      instructions = summed_one instructions_of note (λ place. if is_at place c.row_if-5.result then c.instructions_told.result else 0) _ _ (λ place within. instructions_are c.args.told.now c.args.before.now.queue note c.row_if-5.result c.instructions_told.result place c.row_if-5.ensures c.instructions_told.ensures same is.queue) c.add-8.ensures.many c.add-8.ensures.each;
      queues_frozen = summed_one queue_frozen_of note (λ queue. if slice_index_or c.in-Some.elapsing.queues queue false then c.elapsed_told-milliseconds.result else 0) _ _ (λ queue within. frozen_are _ (is_queue_frozen note.transport queue) c.in-Some.elapsing.clock c.elapsed_told-milliseconds.result c.args.told.now note (known.1 queue (omega (arith, within, c.self.invariant.queues))) c.elapsed_told-milliseconds.ensures known.0 same) c.add_marked.ensures.many c.add_marked.ensures.each;
      controllers_frozen = summed_one controller_frozen_of note (λ controller. if slice_index_or c.in-Some.elapsing.controllers controller false then c.elapsed_told-milliseconds.result else 0) _ _ (λ controller within. frozen_are _ (is_controller_frozen note.transport controller) c.in-Some.elapsing.clock c.elapsed_told-milliseconds.result c.args.told.now note (known.2 controller (omega (arith, within, c.self.invariant.controllers))) c.elapsed_told-milliseconds.ensures known.0 same) c.add_marked-in-Some.ensures.many c.add_marked-in-Some.ensures.each;
    })

pub returns-in-None : goal.returns-in-None
returns-in-None c = λ note same is.
    let none : elapsed note ≡ 0 = subst (λ (o : Option Elapsing). KnowsElapsing o note) c.in-None.is is.elapsing in
    rw (← c.self.view_is) (record {
      records = grows_same c.self.inside.records 1 1 c.grown-self-inside.result refl c.grown-self-inside.ensures;
      refusals = counted_one refusal_at note c.refusal_told.result _ _ (c.refusal_told.ensures ∙ ap refusal_told (sym same)) c.add.ensures.many c.add.ensures.each;
      submissions = counted_one submission_at note c.row_if.result _ _ (row_is is_submission c.args.told.now c.args.before.now.queue note c.is_submission.result c.row_if.result c.row_if.ensures c.is_submission.ensures same is.queue) c.add-2.ensures.many c.add-2.ensures.each;
      starts = counted_one start_at note c.row_if-2.result _ _ (row_is is_start c.args.told.now c.args.before.now.queue note c.is_start.result c.row_if-2.result c.row_if-2.ensures c.is_start.ensures same is.queue) c.add-3.ensures.many c.add-3.ensures.each;
      recoveries = counted_one recovery_at note c.row_if-3.result _ _ (row_is is_recovery c.args.told.now c.args.before.now.queue note c.is_recovery.result c.row_if-3.result c.row_if-3.ensures c.is_recovery.ensures same is.queue) c.add-4.ensures.many c.add-4.ensures.each;
      requeues = counted_one requeue_at note c.row_if-4.result _ _ (row_is is_requeue c.args.told.now c.args.before.now.queue note c.is_requeue.result c.row_if-4.result c.row_if-4.ensures c.is_requeue.ensures same is.queue) c.add-5.ensures.many c.add-5.ensures.each;
      completions = counted_one completion_at note c.cell_of.result _ _ (cell_is code_completed c.args.told.now c.args.before.now.queue note c.code_completed.result c.cell_of.result c.cell_of.ensures c.code_completed.ensures same is.queue) c.add-6.ensures.many c.add-6.ensures.each;
      finishes = counted_one finish_at note c.cell_of-2.result _ _ (cell_is code_finished c.args.told.now c.args.before.now.queue note c.code_finished.result c.cell_of-2.result c.cell_of-2.ensures c.code_finished.ensures same is.queue) c.add-7.ensures.many c.add-7.ensures.each;
      instructions = summed_one instructions_of note (λ place. if is_at place c.row_if-5.result then c.instructions_told.result else 0) _ _ (λ place within. instructions_are c.args.told.now c.args.before.now.queue note c.row_if-5.result c.instructions_told.result place c.row_if-5.ensures c.instructions_told.ensures same is.queue) c.add-8.ensures.many c.add-8.ensures.each;
      queues_frozen = summed_still queue_frozen_of note _ (λ queue. none_either (is_queue_frozen note.transport queue) (elapsed note) none);
      controllers_frozen = summed_still controller_frozen_of note _ (λ controller. none_either (is_controller_frozen note.transport controller) (elapsed note) none);
    })
