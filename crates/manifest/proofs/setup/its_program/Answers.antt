use Rattle.std.proofs.Common.{Option, is_some, option_map, ap, sym, ◌∙◌, refl}
use Rattle.std.proofs.lemmas.Bool.{false≢true}
use Rattle.manifest.specs.declared.programs.NamedProgram.{NamedProgram}
use Rattle.manifest.specs.Seen.{named_seen}
use Rattle.manifest.proofs.Configured.{find_seen}
use Rattle.manifest.proofs.setup.its_program.Goals as goal

pub unreachable-requires : goal.unreachable-requires
unreachable-requires c =
    let seen = ap (λ (found : Option NamedProgram). is_some (option_map named_seen found)) c.in_default.ensures in
    false≢true (seen ∙ ap is_some (find_seen c.args.queue.now.program.now c.args.programs.now) ∙ c.requires)

pub returns : goal.returns
returns c = record {
  program = named_seen c.in-Some.named.now;
  found = sym (find_seen c.args.queue.now.program.now c.args.programs.now) ∙ sym (ap (option_map named_seen) c.in-Some.ensures);
  is = sym c.in_ok-try_clone.ensures;
}
