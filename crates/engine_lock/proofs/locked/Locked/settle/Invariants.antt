use Rattle.std.proofs.Common.{◌≡◌, ◌+◌, ◌++◌, ◌≤◌, List, All, length, vec_len}
use Rattle.std.specs.List.{sum_by}
use Rattle.monitor.specs.Telling.{Agrees, CallerState}
use Rattle.engine_lock.proofs.locked.Locked.settle.Given as goal

abbrev pub invariant-loop-caller : goal.invariant-loop-caller
invariant-loop-caller g l = record {
  parts : l.all.parts + vec_len l.callers + l.fn.self.given ≡ g.B.Ledger.parts + length l.fn.callers.items;
  apart : l.all.parts ≤ g.B.Ledger.parts;
  amount : l.all.amount + sum_by (λ (c : CallerState). length c.mine) l.callers.items ≡ sum_by (λ (c : CallerState). length c.mine) l.fn.callers.items;
  same : l.keeper.history ≡ l.fn.self.history;
  gone : List CallerState;
  all : l.fn.callers.items ≡ l.callers.items ++ gone;
  agree : All (Agrees l.keeper.history) gone;
}

abbrev pub decreases-loop-caller : goal.decreases-loop-caller
decreases-loop-caller g l = vec_len l.callers
