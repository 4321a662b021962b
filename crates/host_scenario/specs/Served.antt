-- What becomes of a scenario's completions: the host puts each into its inbox, and the callers of workers record each that they took.
use Rattle.std.specs.Prelude.{◌≡◌, ℕ, zero, suc, ◌+◌, List, [], ◌∷◌, ◌++◌, map, length, All}
use Rattle.std.specs.List.Sorted.{IsPermutation}
use Rattle.world_calls.specs.declared.record.Record.{Record}
use Rattle.ccb.specs.Completion.{Outcome}
use Rattle.inbox.specs.Views.{InboxView, PassView}
use Rattle.monitor.specs.declared.knowledge.Pair.{Pair}
use Rattle.monitor.specs.LegalHistory.{made_by, records}
use Rattle.scenario.specs.Commands.{Step}
use Rattle.scenario.specs.declared.command.Command.{Command}
use Rattle.scenario.specs.declared.command.Command.TheVariants.{Call}
use Rattle.world_calls.specs.declared.call.Call.TheVariants.{Complete}
use Rattle.workers.specs.Recorded.{completions_of}
use Rattle.workers.specs.Serving.{SeatState}

-- the completion that the host puts into its inbox
abbrev pub completion_for : Command → List Outcome
completion_for (Call (Complete completion)) = completion ∷ []
completion_for command = []

-- those of these steps, in their order
abbrev pub completes_of : List Step → List Outcome
completes_of [] = []
completes_of (step ∷ steps) = completion_for step.command ++ completes_of steps

-- the seat's caller recorded the completions that its pass took, each once and in the order of the takes
abbrev pub HasRecorded : SeatState → Type 0
HasRecorded seat = completions_of seat.caller.mine ≡ seat.pass.account.taken

-- so many numbers, from this one on
abbrev pub from : ℕ → ℕ → List ℕ
from n zero = []
from n (suc count) = n ∷ from (n + 1) count

-- The passes are all of the inbox, and what they took is recorded: pass 0 puts, pass 1 has taken nothing, and the seats have the others.
pub record InboxIsKept (inbox : InboxView) (put take : PassView) (seats : List SeatState) : Type 0 where
  pub one_put : inbox.shape.puts ≡ 1
  pub all_takes : inbox.shape.takes ≡ length seats + 1
  pub put_is : put.account.number ≡ 0
  pub take_is : take.account.number ≡ 1
  pub took_none : take.account.taken ≡ []
  pub numbers : map (λ seat. seat.pass.account.number) seats ≡ from 2 (length seats)
  pub recorded : All HasRecorded seats

-- the completions that these callers recorded, the first caller's first
abbrev pub recorded_by : List ℕ → List Pair → List Outcome
recorded_by [] history = []
recorded_by (caller ∷ callers) history = completions_of (made_by caller history) ++ recorded_by callers history

-- In a history of which these are the records, so many callers recorded the completions that were put, each once, but for these that
-- are left. One alone recorded them in their order.
pub record HasTaken (workers : ℕ) (put left : List Outcome) (told : List Record) : Type 0 where
  pub history : List Pair
  pub its : records history ≡ told
  pub callers : List ℕ
  pub many : length callers ≡ workers
  pub moved : IsPermutation (recorded_by callers history ++ left) put
  pub alone : workers ≡ 1 → recorded_by callers history ++ left ≡ put

-- The same, where no more completions are recorded than these.
pub record AreServed (put left : List Outcome) (told : List Record) : Type 0 where
  pub workers : ℕ
  pub taken : HasTaken workers put left told
  pub no_more : length (completions_of told) + length left ≡ length put
