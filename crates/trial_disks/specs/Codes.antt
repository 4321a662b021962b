-- The code of a fault, by what is wrong.
use Rattle.std.specs.Prelude.{ℕ, List, codes}
use Rattle.trial_disks.specs.declared.fault.Wrong.{Wrong}
use Rattle.trial_disks.specs.declared.fault.Wrong.TheVariants as wrongs

abbrev pub code_of : Wrong → List ℕ
code_of (wrongs.Text line column) = codes "D1"
code_of wrongs.Missing = codes "D2"
code_of wrongs.Unknown = codes "D2"
code_of (wrongs.Form form) = codes "D3"
code_of (wrongs.Outside number bounds) = codes "D4"
code_of (wrongs.Turned least most) = codes "D4"
code_of (wrongs.Never never) = codes "D4"
code_of (wrongs.Queue misplaced) = codes "D5"
