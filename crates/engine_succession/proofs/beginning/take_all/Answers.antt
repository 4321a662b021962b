use Rattle.std.proofs.Common.{◌≡◌, ℕ, ◌+◌, List, true, false, ap, arith, refl, subst, sym}
use Rattle.std.proofs.lemmas.List.{take_all, take_more}
use Rattle.world_calls.specs.declared.carried_line.CarriedLine.{CarriedLine}
use Rattle.engine_succession.specs.Taking.{AreTaken}
use Rattle.engine_succession.proofs.Taking.{stops_here, taken_push}
use Rattle.engine_succession.proofs.beginning.take_all.Goals as goal

pub loop-line-preserved : goal.loop-line-preserved
loop-line-preserved c = record {
  place_is = ap (λ (n : ℕ). n + 1) c.loop-line.invariant.place_is;
  taken = subst (λ (ls : List CarriedLine). AreTaken c.args.beginning.now ls c.args.guests.now.items c.take.new.self c.keep.new.guests.items)
      (sym (take_more c.args.lines.now c.loop-line.line-index _ c.loop-line-test.true))
      (taken_push c.args.beginning.now c.loop-line.beginning c.take.new.self _ _ c.in-Ok.token c.args.guests.now.items c.loop-line.guests.items c.keep.new.guests.items
      c.loop-line.invariant.taken c.in-Ok.ensures.ranged (c.in-Ok.ensures.may.0 refl) c.in-Ok.ensures.taken c.in-Ok.ensures.token c.in-Ok-keep.ensures);
}

pub returns-clause-taken : goal.returns-clause-taken
returns-clause-taken c =
    subst (λ (ls : List CarriedLine). AreTaken c.args.beginning.now ls c.args.guests.now.items c.loop-line.beginning c.loop-line.guests.items)
    (take_all c.loop-line.line-index c.args.lines.now (omega (arith, c.loop-line-test.false))) c.loop-line.invariant.taken

pub returns-in-Err-clause-stopped : goal.returns-in-Err-clause-stopped
returns-in-Err-clause-stopped c =
    stops_here c.args.beginning.now c.loop-line.beginning c.args.lines.now c.loop-line.place c.loop-line.line-index _ c.args.guests.now.items c.loop-line.guests.items c.loop-line.invariant.place_is c.loop-line-test.true
    c.loop-line.invariant.taken (take_more c.args.lines.now c.loop-line.line-index _ c.loop-line-test.true) (λ may. let bad : false ≡ true = c.in-Err.ensures.may.1 may in cc)
