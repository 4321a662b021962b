use Rattle.std.proofs.Common.{◌≡◌, ℕ, ◌<◌, List, All, ap, length, map, sym, subst, ◌∙◌, arith}
use Rattle.std.proofs.lemmas.List.{length-map}
use Rattle.std.specs.Prelude.{slice_index_or}
use Rattle.workers.specs.Serving.{HasServed, IsReady, WorkerState, all_of, at_rest, nothing_served}
use Rattle.workers.proofs.Turns.{IsFew, ready_each, serve_each, few_each, stopped_each, whole}
use Rattle.workers.proofs.serving.serve_in.Goals as goal

pub serve_all-requires-clause-ready : goal.serve_all-requires-clause-ready
serve_all-requires-clause-ready g c κs within =
    subst (λ (ws : List WorkerState). All (IsReady c.args.inbox.now) ws) (sym (c.deref_mut.ensures.value ∙ c.take_seats.ensures.workers)) (ready_each c.args.inbox.now c.args.seats.items c.requires.passes)

pub give_back-requires-clause-started : goal.give_back-requires-clause-started
give_back-requires-clause-started g c =
    let same : length c.serve_all.new.workers ≡ length c.take_seats.new.workers.items = omega (arith, c.serve_all.auto.workers, ap length c.deref_mut.ensures.value) in
    let long : length c.serve_all.new.workers ≡ length c.args.seats.items = omega (arith, same, ap length c.take_seats.ensures.workers, length-map c.args.seats.items at_rest) in
    let each : (i : ℕ) (d : WorkerState) → i < length c.args.seats.items → HasServed g.B.Origin.setup (slice_index_or (map at_rest c.args.seats.items) i d) (slice_index_or c.serve_all.new.workers i d) =
    subst (λ (ws : List WorkerState). (i : ℕ) (d : WorkerState) → i < length c.args.seats.items → HasServed g.B.Origin.setup (slice_index_or ws i d) (slice_index_or c.serve_all.new.workers i d)) (c.deref_mut.ensures.value ∙ c.take_seats.ensures.workers)
    (λ i d lt. (c.serve_all.ensures i d (omega (arith, lt, long, same, ap length c.deref_mut.ensures.value))).0) in
    subst (λ (ws : List WorkerState). All IsFew ws) (sym (whole c.take_seats.new.workers.len c.serve_all.new.workers c.take_seats.new.workers.items same (omega (arith, same, c.deref_mut.ensures.len, ap length c.deref_mut.ensures.value))))
    (few_each g.B.Origin.setup c.args.seats.items c.serve_all.new.workers long each)

pub returns : goal.returns
returns g c =
    let same : length c.serve_all.new.workers ≡ length c.take_seats.new.workers.items = omega (arith, c.serve_all.auto.workers, ap length c.deref_mut.ensures.value) in
    let long : length c.serve_all.new.workers ≡ length c.args.seats.items = omega (arith, same, ap length c.take_seats.ensures.workers, length-map c.args.seats.items at_rest) in
    let each : (i : ℕ) (d : WorkerState) → i < length c.args.seats.items → HasServed g.B.Origin.setup (slice_index_or (map at_rest c.args.seats.items) i d) (slice_index_or c.serve_all.new.workers i d) =
    subst (λ (ws : List WorkerState). (i : ℕ) (d : WorkerState) → i < length c.args.seats.items → HasServed g.B.Origin.setup (slice_index_or ws i d) (slice_index_or c.serve_all.new.workers i d)) (c.deref_mut.ensures.value ∙ c.take_seats.ensures.workers)
    (λ i d lt. (c.serve_all.ensures i d (omega (arith, lt, long, same, ap length c.deref_mut.ensures.value))).0) in
    record {
      workers = c.serve_all.new.workers;
      each_did = serve_each g.B.Origin.setup c.args.seats.items c.serve_all.new.workers long each;
      stopped = stopped_each g.B.Origin.setup c.args.seats.items c.serve_all.new.workers long (λ i d lt. (c.serve_all.ensures i d (omega (arith, lt, long, same, ap length c.deref_mut.ensures.value))).1);
      served_is = c.give_back.ensures
          ∙ ap (λ (ws : List WorkerState). all_of ws nothing_served) (whole c.take_seats.new.workers.len c.serve_all.new.workers c.take_seats.new.workers.items same (omega (arith, same, c.deref_mut.ensures.len, ap length c.deref_mut.ensures.value)));
    }
