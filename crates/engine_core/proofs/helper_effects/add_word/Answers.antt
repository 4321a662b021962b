use Rattle.std.proofs.Common.{map, ◌≡◌, ℕ, ◌+◌, ◌<◌, Some, ap, sym, subst, ◌∙◌, arith}
use Rattle.std.specs.Prelude.{◌%◌, ◌^◌}
use Rattle.std.proofs.Math.Nat.{mod-lt}
use Rattle.helpers.specs.declared.table.HelperEffect.TheVariants as effects
use Rattle.helpers.specs.declared.request.Request.{Request}
use Rattle.helpers.specs.Table.{row_of, answer_number}
use Rattle.interpreter.specs.Segments.{SegmentState}
use Rattle.engine_runs.specs.RunsState.{RunsState}
use Rattle.table_store.specs.Tables.{with_word, word_at}
use Rattle.world.specs.World.{Transport, LiveRun, World}
use Rattle.world.specs.Lookups.{with_run}
use Rattle.world.specs.RunSteps.{answers, with_its_word}
use Rattle.world_laws.proofs.Deeds.{suits}
use Rattle.engine_core.specs.TakingOver.{IsCalled, at_stop, Does}
use Rattle.world.proofs.Steps.Moves.{run_key}
use Rattle.engine_core.proofs.Holding.{same_numbers}
use Rattle.engine_core.proofs.Calls.{is_answer, deed_step, between, its_word_there}
use Rattle.engine_core.proofs.helper_effects.add_word.Goals as goal

module _ (transport : Transport) (old : RunsState) (place : ℕ) (segment : SegmentState) (request : Request) (it : IsCalled transport old place segment request) (is : (row_of request.helper).effect ≡ effects.AddWord) where
  added_one : (sum : ℕ) (after : RunsState) → sum ≡ (word_at old.runs.tables request.arguments.first request.arguments.second + request.arguments.third) % 2 ^ 64 → after ≡ record old { runs = record old.runs { tables = with_word old.runs.tables request.arguments.first request.arguments.second sum } } → Does place segment request (answer_number sum) transport old transport after
  added_one sum after sum_is after_is =
      let total : ℕ = word_at old.runs.tables request.arguments.first request.arguments.second + request.arguments.third in
      let below : sum < 2 ^ 64 = subst (λ (n : ℕ). n < 2 ^ 64) (sym sum_is) (mod-lt total (omega arith)) in
      let columns = suits effects.AddWord request is in
      record {
        allowed = is_answer segment.to request (answer_number sum) _ _ columns.gives_is columns.machine_is (omega arith, omega (arith, below)) tt;
        list = ap (λ (r : RunsState). r.runs.list) after_is;
        tokens = same_numbers transport.freezes old after it.admitted.kept.tokens (ap (λ (r : RunsState). r.tokens) after_is) (ap (λ (r : RunsState). map run_key r.runs.list) after_is);
        step = λ n b setup history kept.
            let run : LiveRun = at_stop b.out.it segment in
            let before : World = between transport old segment setup history b.out.it in
            let end : World = with_its_word before request (total % 2 ^ 64) in
            record {
              world = end;
              step = deed_step before run request effects.AddWord is ∙ ap (λ (w : ℕ). Some (answers end run request (answer_number w))) (sym sum_is);
              is = ap (λ (r : RunsState). record end { transport = transport; runs = (record r.runs { list = with_run run r.runs.list }) })
                  (ap (λ (w : ℕ). record old { runs = record old.runs { tables = with_word old.runs.tables request.arguments.first request.arguments.second w } }) (sym sum_is) ∙ sym after_is);
            };
      }

pub table_add-requires : goal.table_add-requires
table_add-requires c =
    its_word_there c.requires.1.0 c.args.runs.now c.args.place c.requires.1.1 c.args.request.now c.requires.1.2 _ (suits effects.AddWord c.args.request.now c.requires.0)

pub returns : goal.returns
returns c transport =
    record {
      does = λ segment it.
          rw c.number.ensures (added_one transport c.args.runs.now c.args.place segment c.args.request.now it c.requires.0 c.table_add.result c.table_add.new.self c.table_add.ensures.answer c.table_add.ensures.tables);
    }
