-- A number for why a line is not carried out.
use Rattle.std.specs.Prelude.{ℕ, Option, Some, None, zero, suc}
use Rattle.host_live.specs.declared.reports.LineFault.{LineFault}
use Rattle.host_live.specs.declared.reports.LineFault.TheVariants.{DoesNotFit, Form, Manifest, NotHeld, RunLive}

abbrev pub fault_of_code : ℕ → Option LineFault
fault_of_code zero = None
fault_of_code (suc zero) = Some Form
fault_of_code (suc (suc zero)) = Some NotHeld
fault_of_code (suc (suc (suc zero))) = Some RunLive
fault_of_code (suc (suc (suc (suc zero)))) = Some DoesNotFit
fault_of_code (suc (suc (suc (suc (suc code))))) = Some Manifest
