use Rattle.std.proofs.Common.{rules, ◌≡◌, ◌++◌, ◌∷◌, List, [], Some, arith, ap, length, length-append, subst, sym, ◌∙◌, true, false}
use Rattle.std.specs.Fmt.{option_append}
use Rattle.world_calls.specs.declared.carried_line.CarriedLine.{CarriedLine}
use Rattle.carried_lines.specs.Following.{HasTaken}
use Rattle.carried_lines.specs.InOrder.{IsFront}
use Rattle.whole_trace.specs.Continued.{carried_texts}
use Rattle.whole_trace.proofs.Lines.{no_other, none_before, one_more, same_line}
use Rattle.whole_trace.proofs.continued.read_lines.Goals as goal

pub loop-line-init : goal.loop-line-init
loop-line-init c = record {
  taken = subst (λ (xs : List CarriedLine). HasTaken xs c.new-order.result) (sym c.requires.none) c.new-order.ensures;
  front = subst (λ (xs : List CarriedLine). option_append (carried_texts c.args.version xs) (Some c.args.text.now) ≡ Some c.args.text.now) (sym c.requires.none) (none_before c.args.version);
  place = omega (arith, ap length c.requires.none);
  fits = omega (arith, ap length c.requires.none);
  text = c.utf8.text;
}

pub loop-line-preserved : goal.loop-line-preserved
loop-line-preserved c = record {
  taken = subst (λ (xs : List CarriedLine). HasTaken xs c.take.new.self) (sym c.in_ok-keep.ensures) (c.take.ensures.taken c.if-not-take.false c.loop-line.lines.items c.loop-line.invariant.taken);
  front = subst (λ (xs : List CarriedLine). option_append (carried_texts c.args.version xs) (Some c.in-Some.after.now) ≡ Some c.args.text.now) (sym c.in_ok-keep.ensures)
      (one_more c.args.version c.loop-line.lines.items c.in-Some.line c.loop-line.rest.now c.in-Some.after.now c.args.text.now c.loop-line.invariant.front c.in-Some.ensures.some);
  place = omega (arith, c.loop-line.invariant.place, ap length c.in_ok-keep.ensures, length-append c.loop-line.lines.items (c.in-Some.line ∷ []));
  fits = omega (arith, c.loop-line.invariant.fits, c.in-Some.ensures.shorter, ap length c.in_ok-keep.ensures, length-append c.loop-line.lines.items (c.in-Some.line ∷ []));
  text = search rules;
}

pub returns-then-not-take : goal.returns-then-not-take
returns-then-not-take c = record {
  lines = c.loop-line.lines.items;
  rest = c.loop-line.rest.now;
  front = c.loop-line.invariant.front;
  place = c.loop-line.invariant.place;
  in_order = c.loop-line.invariant.taken.front;
  not_next = λ line more begins front.
      let same = same_line c.args.version line c.in-Some.line more c.in-Some.after.now c.loop-line.rest.now begins c.in-Some.ensures.some in
      let yes = (c.take.ensures.accepts c.loop-line.lines.items c.loop-line.invariant.taken).1 (subst (λ (l : CarriedLine). IsFront (c.loop-line.lines.items ++ l ∷ [])) same.line_is front) in
      let bad : true ≡ false = sym yes ∙ c.if-not-take.true in
      cc;
  not_after = λ whole. no_other c.args.version c.in-Some.line c.in-Some.after.now c.loop-line.rest.now c.in-Some.ensures.some;
}
