use Rattle.std.proofs.Common.{◌≡◌, ◌≤◌, drop, length, take}
use Rattle.scenario.specs.Left.{steps_left}
use Rattle.host_scenario.specs.Turns.{are_in_turn, first_turn, seen}
use Rattle.host_scenario.proofs.Walked.{Walks}
use Rattle.host_scenario.proofs.turns.are_in_turn.Given as goal

abbrev pub invariant-loop-step : goal.invariant-loop-step
invariant-loop-step l = record {
  walks : Walks l.scenario l.yielded (steps_left l.step-iterator);
  passed : l.passed ≡ length l.yielded;
  before : l.passed ≤ l.count;
  same : are_in_turn l.all (seen l.reached l.records.items) (drop l.passed (take l.count l.scenario)) ≡ are_in_turn l.all (first_turn l.records.items) (take l.count l.scenario);
  served : l.reached.served ≤ l.reached.place;
  started : l.reached.started ≤ l.reached.place;
  ended : l.reached.ended ≤ l.reached.place;
  within : l.reached.place ≤ length l.records.items;
  few : l.reached.put ≤ l.passed;
}
