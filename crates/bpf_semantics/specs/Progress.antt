-- The law that ties being stuck to the steps: a machine that is not stuck has exactly one next private step, or stands
-- at a helper call whose rule holds, or at the outermost exit with nothing held and its CCB disposed of.
use Rattle.std.specs.Prelude.{◌≡◌, ℕ, true, false, List, [], Some, None, ◌⊎◌}
use Rattle.bpf_insn.specs.declared.program.Slot.{Slot}
use Rattle.helpers.specs.declared.limits.HelperLimits.{HelperLimits}
use Rattle.helpers.specs.declared.request.Request.{Request}
use Rattle.bpf_semantics.specs.MachineState.{MachineState}
use Rattle.bpf_semantics.specs.Calls.{meets_rule}
use Rattle.bpf_semantics.specs.Step.{private_step, request_at, exit_at}
use Rattle.bpf_semantics.specs.Stuck.{is_stuck}

pub record HasStep (program : List Slot) (m : MachineState) : Type 0 where
  pub next : MachineState
  pub step : private_step program m ≡ Some next
  pub no_call : request_at program m ≡ None
  pub no_exit : exit_at program m ≡ None

pub record AtLawfulCall (program : List Slot) (limits : HelperLimits) (m : MachineState) : Type 0 where
  pub request : Request
  pub call : request_at program m ≡ Some request
  pub rule : meets_rule limits m request ≡ true
  pub no_step : private_step program m ≡ None
  pub no_exit : exit_at program m ≡ None

pub record AtLawfulExit (program : List Slot) (m : MachineState) : Type 0 where
  pub r0 : ℕ
  pub exit : exit_at program m ≡ Some r0
  pub released : m.held ≡ []
  pub disposed : m.disposed ≡ true
  pub no_step : private_step program m ≡ None
  pub no_call : request_at program m ≡ None

abbrev pub Progress : Type 0
Progress =
    (program : List Slot) (limits : HelperLimits) (m : MachineState) → is_stuck program limits m ≡ false →
    HasStep program m ⊎ (AtLawfulCall program limits m ⊎ AtLawfulExit program m)
