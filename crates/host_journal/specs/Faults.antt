-- The fault of a file.
use Rattle.base.specs.declared.or_memory.OrMemory.{OrMemory}
use Rattle.base.specs.declared.or_memory.OrMemory.TheVariants.{OutOfMemory as NoMemory, Fault}
use Rattle.host_journal.specs.declared.disk.DiskFault.{DiskFault}
use Rattle.host_journal.specs.declared.disk.DiskFault.TheVariants.{Missing, Failed, OutOfMemory}
use Rattle.host_journal.specs.declared.fault.JournalFault.{JournalFault}
use Rattle.host_journal.specs.declared.fault.JournalFault.TheVariants.{File}
use Rattle.host_journal.specs.declared.fault.JournalFile.{JournalFile}

-- memory, or that file, by how a call failed
abbrev pub file_error : DiskFault → JournalFile → OrMemory JournalFault
file_error OutOfMemory file = NoMemory
file_error Missing file = Fault (File file)
file_error Failed file = Fault (File file)
