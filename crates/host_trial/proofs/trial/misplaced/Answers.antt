use Rattle.std.proofs.Common.{◌∙◌, refl, sym}
use Rattle.std.proofs.lemmas.Option.{slice_get_read}
use Rattle.host_trial.proofs.Misplaced.{none_at_all, one_more}
use Rattle.host_trial.proofs.trial.misplaced.Goals as goal

pub loop-place-preserved : goal.loop-place-preserved
loop-place-preserved c =
    let devices = c.args.devices.now in
    one_more devices c.args.queues c.loop-place.place c.index-devices-place.result
    (slice_get_read devices _ c.loop-place.place c.index-devices-place.result refl c.loop-place-test.true c.index-devices-place.is)
    (sym c.is_misplaced.ensures ∙ c.if-is_misplaced.false) c.loop-place.invariant

pub returns-then-is_misplaced-clause-found : goal.returns-then-is_misplaced-clause-found
returns-then-is_misplaced-clause-found c = record {
  place = c.loop-place.place;
  device = c.index-devices-place.result;
  number_is = refl;
  there = slice_get_read c.args.devices.now _ c.loop-place.place c.index-devices-place.result refl c.loop-place-test.true c.index-devices-place.is;
  misplaced = sym c.is_misplaced.ensures ∙ c.if-is_misplaced.true;
}

pub returns-clause-none : goal.returns-clause-none
returns-clause-none c = none_at_all c.args.devices.now c.args.queues c.loop-place.place c.loop-place-test.false c.loop-place.invariant
