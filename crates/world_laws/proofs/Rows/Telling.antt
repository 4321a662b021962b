-- Worked rows of helpers 9 and 10: what a queue's 16 bytes are, and what is told of a trace call.
use Rattle.std.proofs.Common.{◌≡◌, ℕ, List, false, [], ◌∷◌, Some, refl}
use Rattle.helpers.specs.declared.limits.HelperLimits.{HelperLimits}
use Rattle.helpers.specs.declared.table.Helper.TheVariants as helpers
use Rattle.helpers.specs.declared.table.Helper.{Helper}
use Rattle.helpers.specs.Table.{row_of, asking, telling, answer_number}
use Rattle.world.specs.declared.ccb_state.CcbState.TheVariants.{Waiting, Active, InRecovery}
use Rattle.world.specs.World.{LiveRun, World}
use Rattle.world.specs.QueueInfo.{queue_info, info_bytes}
use Rattle.world.specs.Told.{plain, traces}
use Rattle.world.specs.RunSteps.{answers, step_request, may_call}
use Rattle.world_laws.proofs.Rows.Worked.{ccb_in, freeze_of, transported, with_ccbs}

-- queue 0 has three freezes, two active CCBs, one that waits, one in recovery, and two openings
abbrev busy : World
busy = (transported (λ t. record t { freezes = freeze_of 1 7 ∷ freeze_of 2 7 ∷ freeze_of 3 8 ∷ []; greatest_freeze = 3 }) (with_ccbs (ccb_in 1 5 Active ∷ ccb_in 2 5 Waiting ∷ ccb_in 3 5 InRecovery ∷ ccb_in 4 5 Active ∷ []) 4))

busy_bytes : info_bytes (queue_info busy 0) ≡ 3 ∷ 0 ∷ 0 ∷ 0 ∷ 2 ∷ 0 ∷ 0 ∷ 0 ∷ 1 ∷ 0 ∷ 0 ∷ 0 ∷ 2 ∷ 0 ∷ 0 ∷ 0 ∷ []
busy_bytes = refl

-- a trace call is answered by 0
trace_answers_zero : (run : LiveRun) (address : ℕ) (bytes : List ℕ) → step_request busy run (telling helpers.Trace address bytes) ≡ Some (answers busy run (telling helpers.Trace address bytes) (answer_number 0))
unfolding row_of
trace_answers_zero run address bytes = refl

-- and is told with its bytes: neither as a plain call of helper 10 nor with other bytes
not_plain : (l : HelperLimits) (run : LiveRun) (address : ℕ) (bytes : List ℕ) → may_call l run (plain helpers.Trace) (telling helpers.Trace address bytes) ≡ false
unfolding row_of
not_plain l run address bytes = refl

not_others : (l : HelperLimits) (run : LiveRun) (address : ℕ) → may_call l run (traces helpers.Trace (1 ∷ 2 ∷ [])) (telling helpers.Trace address (1 ∷ 3 ∷ [])) ≡ false
unfolding row_of
not_others l run address = refl

-- helper 9 is told as a plain call, and as no trace call
no_trace : (l : HelperLimits) (run : LiveRun) (helper : Helper) (address : ℕ) (bytes : List ℕ) → may_call l run (traces helper bytes) (asking helpers.QueueInfo address 0 0) ≡ false
unfolding row_of
no_trace l run helper address bytes = refl
