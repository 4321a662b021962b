use Rattle.std.proofs.Common.{◌≡◌, ℕ, ◌+◌, List, [], ◌∷◌, ◌++◌, true, false, Some, inl, inr, refl, ap, sym, ◌∙◌, arith}
use Rattle.std.proofs.lemmas.Bool.{cond-true, cond-false}
use Rattle.freeze_ledger.specs.declared.freeze.Holder.TheVariants.{Run}
use Rattle.freeze_ledger.specs.declared.freeze.Freeze.{Freeze}
use Rattle.freeze_ledger.specs.Freezes.{meets_limit}
use Rattle.std.specs.Prelude.{slice_set}
use Rattle.ccb.specs.declared.place.Place.{Place}
use Rattle.helpers.specs.declared.request.Request.{Request}
use Rattle.helpers.specs.Table.{row_of, answer_number}
use Rattle.bpf_semantics.specs.Calls.{is_held}
use Rattle.bpf_semantics.specs.Step.{IsNewFreeze}
use Rattle.interpreter.specs.Segments.{SegmentState}
use Rattle.engine_runs.specs.RunsState.{RunsState, tokens_at}
use Rattle.engine_runs.specs.RunPlaces.{HasRunAt}
use Rattle.world.specs.World.{Transport, LiveRun, World}
use Rattle.world.specs.Lookups.{with_run}
use Rattle.world.specs.FreezeSteps.{froze}
use Rattle.world.specs.RunSteps.{answers}
use Rattle.world.proofs.Lists.HeldBy.{none_above}
use Rattle.world_laws.proofs.Kept.{room_from}
use Rattle.engine_core.proofs.Recording.{kept_sound}
use Rattle.world_laws.proofs.Deeds.{FreezesByRow}
use Rattle.engine_core.specs.TakingOver.{IsCalled, FreezesPlace, at_stop, Does}
use Rattle.engine_core.proofs.Freezing.{freezing, by_row, freezing_step}
use Rattle.engine_core.proofs.Calls.{is_answer, between, held_are}
use Rattle.engine_core.proofs.Holding.{holds_one_more, same_freezes}
use Rattle.engine_transport.specs.Freezing.{IsTaken, took}
use Rattle.engine_core.proofs.helper_effects.take_freeze.Goals as goal

module _ (transport : Transport) (old : RunsState) (place : ℕ) (segment : SegmentState) (request : Request) (frozen : Place) (it : IsCalled transport old place segment request) (asks : FreezesPlace place old request frozen) where
  -- at a limit nothing is taken
  froze_none : (more : Transport) → meets_limit frozen transport.freezes transport.greatest_freeze ≡ true → more ≡ transport → Does place segment request (answer_number 0) transport old more old
  froze_none more full more_is =
      let columns : FreezesByRow (row_of request.helper) = by_row place old request frozen asks in
      record {
        allowed = is_answer segment.to request (answer_number 0) _ _ columns.gives_is columns.machine_is (inl refl) tt;
        list = refl;
        tokens = same_freezes transport.freezes more.freezes old it.admitted.kept.tokens (ap (λ (m : Transport). m.freezes) more_is);
        step = λ n b setup history kept.
            let standing : LiveRun = at_stop b.out.it segment in
            let before : World = between transport old segment setup history b.out.it in
            record {
              world = before;
              step = freezing_step place old request frozen asks before b.out.it segment.to b.there
                  ∙ ap Some (cond-true (meets_limit frozen transport.freezes transport.greatest_freeze) _ _ full);
              is = λ i. record before { transport = sym more_is i };
            };
      }

  -- a number that is given now is not held
  new_freeze : meets_limit frozen transport.freezes transport.greatest_freeze ≡ false → (answer : ℕ) → answer ≡ transport.greatest_freeze + 1 → IsNewFreeze segment.to.held answer
  new_freeze free answer answer_is =
      let a = it.admitted in
      let sound = kept_sound a.setup a.history transport old a.kept in
      let room = room_from frozen transport.freezes transport.greatest_freeze free in
      let fresh : is_held segment.to.held (transport.greatest_freeze + 1) ≡ false =
      ap (λ (ns : List ℕ). is_held ns (transport.greatest_freeze + 1)) (held_are transport old place segment request it it.number a)
      ∙ none_above a.out.it.number (transport.greatest_freeze + 1) transport.freezes transport.greatest_freeze sound.kept.freezes.numbered (omega arith) in
      inr (omega (arith, answer_is), omega (arith, answer_is, room.numbers), ap (is_held segment.to.held) answer_is ∙ fresh)

  froze_one : (number answer : ℕ) (f : Freeze) (more : Transport) (after : RunsState) → ((run : LiveRun) → HasRunAt old.runs.list place run → number ≡ run.number) → IsTaken transport frozen (Run number) (Some f) → more ≡ took transport (Some f) → answer ≡ f.number → after ≡ record old { tokens = slice_set old.tokens place (tokens_at old place ++ Some f ∷ []) } → Does place segment request (answer_number answer) transport old more after
  froze_one number answer f more after named taken more_was told after_is =
      let a = it.admitted in
      let columns : FreezesByRow (row_of request.helper) = by_row place old request frozen asks in
      let sound = kept_sound a.setup a.history transport old a.kept in
      let answer_is : answer ≡ transport.greatest_freeze + 1 = told ∙ ap (λ (x : Freeze). x.number) taken.1 in
      let runs_are : old.runs ≡ after.runs = sym (ap (λ (r : RunsState). r.runs) after_is) in
      record {
        allowed = is_answer segment.to request (answer_number answer) _ _ columns.gives_is columns.machine_is (new_freeze taken.0 answer answer_is) tt;
        list = ap (λ (r : RunsState). r.runs.list) after_is;
        tokens = holds_one_more transport.freezes more.freezes old after place old.runs.greatest a.out.it f a.kept.tokens a.there sound.kept.runs.rising
            (ap (λ (x : Freeze). x.holder) taken.1 ∙ ap Run (named a.out.it a.there)) (ap (λ (m : Transport). m.freezes) more_was) after_is;
        step = λ n b setup history kept.
            let standing : LiveRun = at_stop b.out.it segment in
            let before : World = between transport old segment setup history b.out.it in
            let end : World = froze before frozen (Run b.out.it.number) in
            let f_is : f ≡ record { number = transport.greatest_freeze + 1; place = frozen; holder = Run b.out.it.number } =
            taken.1 ∙ ap (λ (k : ℕ). record { number = transport.greatest_freeze + 1; place = frozen; holder = Run k }) (named b.out.it b.there) in
            let more_is : end.transport ≡ more = sym (more_was ∙ ap (λ (x : Freeze). took transport (Some x)) f_is) in
            record {
              world = end;
              step = freezing_step place old request frozen asks before b.out.it segment.to b.there
                  ∙ (ap Some (cond-false (meets_limit frozen transport.freezes transport.greatest_freeze) _ _ taken.0
                  ∙ ap (λ (k : ℕ). answers end standing request (answer_number k)) (sym answer_is)));
              is = λ i. record end { transport = more_is i; runs = record (runs_are i) { list = with_run standing (runs_are i).list } };
            };
      }

pub take-requires : goal.take-requires
take-requires c = (freezing c.args.transport.now c.args.runs.now c.args.place c.requires.1.0 c.args.request.now c.requires.1.1 c.args.frozen c.requires.0).known

pub hold-requires-clause-room : goal.hold-requires-clause-room
hold-requires-clause-room c = (freezing c.args.transport.now c.args.runs.now c.args.place c.requires.1.0 c.args.request.now c.requires.1.1 c.args.frozen c.requires.0).few

pub returns-in-Some : goal.returns-in-Some
returns-in-Some c =
    record {
      does = λ segment it.
          rw (c.number-in-Some.ensures, c.from.ensures)
          (froze_one c.args.transport.now c.args.runs.now c.args.place segment c.args.request.now c.args.frozen it c.requires.0 c.number.result c.hold.result c.in-Some.token c.take.new.self c.hold.new.self c.number.ensures c.in-Some.ensures.taken c.in-Some.ensures.state c.hold.ensures.number c.hold.ensures.tokens);
    }

pub returns-in-None : goal.returns-in-None
returns-in-None c =
    record {
      does = λ segment it.
          rw c.number-in-None.ensures
          (froze_none c.args.transport.now c.args.runs.now c.args.place segment c.args.request.now c.args.frozen it c.requires.0 c.take.new.self c.in-None.ensures.taken c.in-None.ensures.state);
    }
