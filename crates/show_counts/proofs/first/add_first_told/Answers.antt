use Rattle.std.proofs.Common.{rules, List, map, ap, sym, ◌∙◌}
use Rattle.std.proofs.lemmas.List.{map_push}
use Rattle.world_calls.specs.declared.record.Record.{Record}
use Rattle.show_counts.specs.Columns.{at, first_told, or_later}
use Rattle.show_counts.specs.Told.{told_by}
use Rattle.show_counts.proofs.Steps.{first_more, or_later_none, rest_left}
use Rattle.show_counts.proofs.first.add_first_told.Goals as goal

pub loop-record-init : goal.loop-record-init
loop-record-init c = (λ number. sym (or_later_none (at c.args.table.now number)), search rules)

pub loop-record-preserved : goal.loop-record-preserved
loop-record-preserved c =
    let i = c.loop-record.invariant in
    let yielded = map (λ it. it.now) c.loop-record.yielded in
    let more = map_push (λ it. it.now) c.loop-record.yielded c.in-Some.record in (
      λ number. first_more (told_by c.args.tells) number yielded c.in-Some.record.now (at c.args.table.now number) _ _ c.told.result (c.in_ok-keep.ensures number) (i.0 number) c.told.ensures
          ∙ ap (λ (records : List Record). or_later (at c.args.table.now number) (first_told (told_by c.args.tells) number records)) (sym more),
      rest_left yielded _ c.loop-record.record-iterator c.next.new.self c.args.records.now.items c.in-Some.record.now more (search rules) i.1,
    )
