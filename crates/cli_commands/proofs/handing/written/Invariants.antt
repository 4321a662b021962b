-- nothing was written so far
use Rattle.std.specs.Io.KnownBytes.{Keeps}
use Rattle.cli_commands.proofs.handing.written.Given as goal

abbrev pub invariant-loop : goal.invariant-loop
invariant-loop g l = Keeps (g.W.Write.contents l.fn.out) (g.W.Write.contents l.out)
