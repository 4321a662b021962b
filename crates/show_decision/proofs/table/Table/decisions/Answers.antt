use Rattle.std.proofs.Common.{◌≡◌, ℕ, arith, map, string_bytes, subst}
use Rattle.show_decision.specs.Table.{AreDecided}
use Rattle.show_decision.specs.declared.rows.TheConstants.{CODES}
use Rattle.show_decision.proofs.Keys.{decided_more}
use Rattle.show_decision.proofs.TextsAt.{found_once}
use Rattle.show_decision.proofs.table.Table.decisions.Goals as goal

pub loop-code-preserved : goal.loop-code-preserved
loop-code-preserved c =
    let it = c.args.self.now in
    let old = c.loop-code.decisions in
    let new = c.add.new.decisions in
    record {
      found = c.in_ok-add.ensures.found;
      decided = decided_more it.config.now it.lines.items it.failure it.response c.args.key c.loop-code.code old.numbers.items (map string_bytes old.texts.items) new.numbers.items (map string_bytes new.texts.items)
          c.loop-code.invariant.decided c.in_ok-add.ensures.adds;
    }

pub returns-clause-apart : goal.returns-clause-apart
returns-clause-apart c = found_once c.loop-code.decisions.places (map string_bytes c.loop-code.decisions.texts.items) c.loop-code.invariant.found

pub returns-clause-decided : goal.returns-clause-decided
returns-clause-decided c =
    let it = c.args.self.now in
    let all : c.loop-code.code ≡ CODES = omega (arith, c.loop-code.auto.code-end, c.loop-code-test.false) in
    subst (λ (count : ℕ). AreDecided it.config.now it.lines.items it.failure it.response c.args.key count c.loop-code.decisions.numbers.items (map string_bytes c.loop-code.decisions.texts.items)) all
    c.loop-code.invariant.decided
