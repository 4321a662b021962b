use Rattle.std.proofs.Common.{◌≡◌, ℕ, ◌+◌, ◌%◌, ◌^◌, ap, arith, rules, subst, sym, ◌∙◌}
use Rattle.table_store.specs.Tables.{with_word}
use Rattle.engine_runs.specs.RunsState.{RunsState}
use Rattle.engine_beginning.specs.Begun.{KeepsBegun, begun_as}
use Rattle.engine_beginning.proofs.Keeping.{word_kept}
use Rattle.engine_beginning.proofs.beginning.Beginning.word.Goals as goal

pub invariant_of-self : goal.invariant_of-self
invariant_of-self c =
    let small : c.args.word % 2 ^ 64 ≡ c.args.word = search rules in
    subst (λ (r : RunsState). KeepsBegun (begun_as c.self.inside.config.now 4 c.self.inside.ccb c.self.inside.freeze c.self.inside.run c.self.inside.opened c.args.table (c.from-from.result + 1) c.self.inside.transport r)) (sym (c.table_put.ensures.tables ∙ ap (λ (w : ℕ). record c.self.inside.runs { runs = record c.self.inside.runs.runs { tables = with_word c.self.inside.runs.runs.tables c.args.table c.args.index w } }) small))
    (subst (λ (n : ℕ). KeepsBegun (begun_as c.self.inside.config.now 4 c.self.inside.ccb c.self.inside.freeze c.self.inside.run c.self.inside.opened c.args.table (n + 1) c.self.inside.transport ((λ (w : ℕ). record c.self.inside.runs { runs = record c.self.inside.runs.runs { tables = with_word c.self.inside.runs.runs.tables c.args.table c.args.index w } }) c.args.word))) (sym c.from-from.ensures)
    (word_kept (begun_as c.self.inside.config.now c.self.inside.after c.self.inside.ccb c.self.inside.freeze c.self.inside.run c.self.inside.opened c.self.inside.table c.self.inside.index c.self.inside.transport c.self.inside.runs) c.args.table c.args.index c.args.word c.self.invariant (search rules) (omega (arith, c.ranges.word.fits))))
