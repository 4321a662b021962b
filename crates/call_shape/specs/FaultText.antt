-- How a fault of a shape is printed: its code and its slot in decimal, which is 0 where a fault is of the whole program.
use Rattle.std.specs.Prelude.{ℕ, List, ◌++◌, codes, decimal}
use Rattle.call_shape.specs.declared.fault.ShapeFault.{ShapeFault}
use Rattle.call_shape.specs.declared.fault.ShapeFault.TheVariants.{OpenEnd, TargetOutside, TargetSecondSlot, TargetBackward, NoSuchFunction, LeavesFunction, CallCycle, TooManyFrames, TooLong}

abbrev pub fault_text : ShapeFault → List ℕ
fault_text (OpenEnd slot) = codes "S1 at " ++ decimal slot
fault_text (TargetOutside slot) = codes "S2 at " ++ decimal slot
fault_text (TargetSecondSlot slot) = codes "S3 at " ++ decimal slot
fault_text (TargetBackward slot) = codes "S4 at " ++ decimal slot
fault_text (NoSuchFunction slot) = codes "S5 at " ++ decimal slot
fault_text (LeavesFunction slot) = codes "S6 at " ++ decimal slot
fault_text (CallCycle slot) = codes "S7 at " ++ decimal slot
fault_text TooManyFrames = codes "S8 at 0"
fault_text TooLong = codes "S9 at 0"
