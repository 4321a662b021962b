-- How a refusal is printed: its code and its slot in decimal.
use Rattle.std.specs.Prelude.{ℕ, List, ◌++◌, codes, decimal}
use Rattle.call_shape.specs.FaultText.{fault_text}
use Rattle.check_register_kinds.specs.CauseText.{cause_text}
use Rattle.verifier.specs.declared.refusal.Refusal.{Refusal}
use Rattle.verifier.specs.declared.refusal.Refusal.TheVariants.{Shape, Check}

abbrev pub refusal_text : Refusal → List ℕ
refusal_text (Shape fault) = fault_text fault
refusal_text (Check cause slot) = cause_text cause ++ (codes " at " ++ decimal slot)
