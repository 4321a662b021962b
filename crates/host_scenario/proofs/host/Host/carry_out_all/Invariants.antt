use Rattle.std.proofs.Common.{◌≡◌, ◌≤◌, length}
use Rattle.world.specs.World.{version_of}
use Rattle.scenario.specs.Left.{steps_left}
use Rattle.host_scenario.specs.Served.{InboxIsKept}
use Rattle.host_scenario.proofs.Steps.{Done}
use Rattle.host_scenario.proofs.Walked.{Walks}
use Rattle.host_scenario.proofs.host.Host.carry_out_all.Given as goal

abbrev pub invariant-loop-step : goal.invariant-loop-step
invariant-loop-step g l = record {
  walks : Walks l.scenario l.yielded (steps_left l.step-iterator);
  done : Done (version_of g.B.Origin.setup) l.scenario (length l.yielded) l.self.caller.mine l.self.held.tokens l.self.put.account.put;
  kept : InboxIsKept l.self.inbox l.self.put l.self.take l.self.seats.items;
  all : length l.self.seats.items ≡ length l.fn.self.seats.items;
  carried : l.carried ≡ length l.yielded;
  calls : l.calls ≡ length l.self.caller.mine;
  completions : l.completions ≡ length l.self.put.account.put;
  few_calls : l.calls ≤ length l.yielded;
  few_completions : l.completions ≤ length l.yielded;
}
