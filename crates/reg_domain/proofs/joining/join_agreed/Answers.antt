use Rattle.std.proofs.Common.{refl, ◌∙◌}
use Rattle.check_description.proofs.RegisterPlaces.{number_below}
use Rattle.reg_domain.proofs.Meeting.{wider}
use Rattle.reg_domain.proofs.joining.join_agreed.Goals as goal

pub returns-clause-first : goal.returns-clause-first
returns-clause-first c =
    wider c.args.description.now _ (λ i few. (c.join_registers.ensures i few).of_first) (λ frames covers. c.join-2.ensures.covers frames (c.join.ensures.first frames covers)) c.join-2.ensures.first c.join-3.ensures.first refl refl refl

pub returns-clause-second : goal.returns-clause-second
returns-clause-second c =
    wider c.args.other.now _ (λ i few. (c.join_registers.ensures i few).of_second) (λ frames covers. c.join-2.ensures.covers frames (c.join.ensures.second frames covers)) c.join-2.ensures.second c.join-3.ensures.second refl c.requires.held c.requires.disposal

pub returns-clause-joins : goal.returns-clause-joins
returns-clause-joins c = record {
  equal = λ reg. (c.join_registers.ensures _ (number_below reg)).equal;
  numbers = λ reg. (c.join_registers.ensures _ (number_below reg)).numbers;
  bounds = λ reg. (c.join_registers.ensures _ (number_below reg)).bounds;
  known = λ frame at same first second. c.join-2.ensures.knows frame at same (c.join.ensures.knows frame at first second);
  unspilled = c.join-2.ensures.none;
  depth = c.join-2.ensures.depth ∙ c.join.ensures.depth;
  held = refl;
  disposal = refl;
}
