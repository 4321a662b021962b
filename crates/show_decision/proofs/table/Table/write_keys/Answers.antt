use Rattle.std.proofs.Common.{◌≡◌, ◌++◌, ℕ, [], arith, subst}
use Rattle.show_decision.specs.Table.{AreKeyTexts}
use Rattle.show_decision.specs.declared.table.TheConstants.{KEYS}
use Rattle.show_decision.proofs.Keys.{keys_more, no_keys}
use Rattle.show_decision.proofs.Written.{append_none, appends_both}
use Rattle.show_decision.proofs.table.Table.write_keys.Goals as goal

pub loop-key-init : goal.loop-key-init
loop-key-init g c =
    let it = c.args.self.now in
    ([], no_keys it.config.now it.lines.items it.failure it.response, append_none (g.W.Write.contents c.args.out.now))

pub loop-key-preserved : goal.loop-key-preserved
loop-key-preserved g c =
    let it = c.args.self.now in
    let so = c.loop-key.invariant in
    let next = c.in_ok-write_key.ensures in (
      so.0 ++ next.0,
      keys_more it.config.now it.lines.items it.failure it.response c.loop-key.key so.0 next.0 so.1 next.1,
      appends_both (g.W.Write.contents c.args.out.now) (g.W.Write.contents c.loop-key.out) (g.W.Write.contents c.write_key.new.out) so.0 next.0 so.2 next.2,
    )

pub returns : goal.returns
returns g c =
    let it = c.args.self.now in
    let so = c.loop-key.invariant in
    let all : c.loop-key.key ≡ KEYS = omega (arith, c.loop-key.auto.key-end, c.loop-key-test.false) in
    (so.0, subst (λ (count : ℕ). AreKeyTexts it.config.now it.lines.items it.failure it.response count so.0) all so.1, so.2)
