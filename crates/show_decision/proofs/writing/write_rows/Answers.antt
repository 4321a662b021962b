use Rattle.std.proofs.Common.{map, string_bytes}
use Rattle.show_decision.specs.RowTexts.{line_text}
use Rattle.show_decision.proofs.Written.{append_all, append_more, append_none}
use Rattle.show_decision.proofs.writing.write_rows.Goals as goal

pub loop-row-init : goal.loop-row-init
loop-row-init g c = append_none (g.W.Write.contents c.args.out.now)

pub loop-row-preserved : goal.loop-row-preserved
loop-row-preserved g c =
    append_more (line_text c.args.heading (map string_bytes c.args.decisions.now.texts.items)) c.args.rows.now c.loop-row.row-index _ (g.W.Write.contents c.args.out.now) (g.W.Write.contents c.loop-row.out)
    (g.W.Write.contents c.write_row.new.out) c.loop-row-test.true c.loop-row.invariant c.in_ok-write_row.ensures

pub returns : goal.returns
returns g c =
    append_all (line_text c.args.heading (map string_bytes c.args.decisions.now.texts.items)) c.args.rows.now c.loop-row.row-index (g.W.Write.contents c.args.out.now) (g.W.Write.contents c.loop-row.out)
    c.loop-row-test.false c.loop-row.invariant
