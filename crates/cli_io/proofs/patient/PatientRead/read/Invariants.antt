-- no try took anything
use Rattle.std.specs.Io.KnownBytes.{Keeps}
use Rattle.cli_io.proofs.patient.PatientRead.read.Given as goal

abbrev pub invariant-loop : goal.invariant-loop
invariant-loop g l = Keeps (g.S.Read.remaining l.fn.self.stream) (g.S.Read.remaining l.self.stream)
