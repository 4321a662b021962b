use Rattle.std.proofs.Common.{List, subst, sym}
use Rattle.show_question.specs.declared.TableWord.{TableWord}
use Rattle.host_decision.specs.Faults.{AreFaultless}
use Rattle.host_decision.proofs.opening_lines.lines_of.Goals as goal

pub tables_of-requires : goal.tables_of-requires
tables_of-requires c = subst (λ (words : List TableWord). AreFaultless c.args.config.now words) (sym c.as_slice.ensures.value) c.requires
