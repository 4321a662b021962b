use Rattle.std.proofs.Common.{[], sym, ◌∙◌}
use Rattle.world.specs.World.{World}
use Rattle.engine_carried.proofs.Adding.{last_given}
use Rattle.engine_carried.proofs.carried_numbers.greatest_run.Goals as goal

pub next_number-requires : goal.next_number-requires
next_number-requires c = λ world. sym (c.is_full.ensures world) ∙ c.if-is_full.false

pub returns-then-is_full : goal.returns-then-is_full
returns-then-is_full c =
    let world : World = record { transport = record { live = []; openings = []; freezes = []; greatest_ccb = 0; greatest_freeze = 0; clock = 0 }; runs = c.args.runs.now.runs; ended = [] } in
    last_given c.args.runs.now.runs c.requires.none c.requires.last (sym (c.is_full.ensures world) ∙ c.if-is_full.true)
