-- How a fault is printed: its number, and the line in decimal.
use Rattle.std.specs.Prelude.{ℕ, List, ◌++◌, codes, decimal}
use Rattle.trace.specs.declared.fault.TraceFault.{TraceFault}
use Rattle.trace.specs.declared.fault.TraceFault.TheVariants.{Header, Line}

abbrev pub fault_text : TraceFault → List ℕ
fault_text Header = codes "X1 at 1"
fault_text (Line number) = codes "X2 at " ++ decimal number
