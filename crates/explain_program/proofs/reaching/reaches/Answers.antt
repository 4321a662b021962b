use Rattle.std.proofs.Common.{ℕ, subst, arith}
use Rattle.explain_program.specs.Listed.{ListsToo}
use Rattle.explain_program.specs.Reaching.{LeadsFrom}
use Rattle.explain_program.proofs.Listed.{few_listed, listed_none, nothing_marked}
use Rattle.explain_program.proofs.Search.{search_first, search_more, all_reached}
use Rattle.explain_program.proofs.reaching.reaches.Goals as goal

pub add-requires : goal.add-requires
add-requires c = listed_none c.none-places.result c.none-places.ensures.marked c.none-places.ensures.order c.none-places.ensures.empty

pub loop-followed-init : goal.loop-followed-init
loop-followed-init c = search_first c.args.program.now c.args.from c.none-places.result c.add.new.self (nothing_marked c.none-places.result c.none-places.ensures.marked) c.add.ensures

pub offset_bounds-places-followed : goal.offset_bounds-places-followed
offset_bounds-places-followed c = omega (arith, few_listed c.loop-followed.places c.loop-followed.invariant.listed)

pub bounds-places-followed : goal.bounds-places-followed
bounds-places-followed c = omega (arith, few_listed c.loop-followed.places c.loop-followed.invariant.listed)

pub overflow_add-followed : goal.overflow_add-followed
overflow_add-followed c = omega (arith, few_listed c.loop-followed.places c.loop-followed.invariant.listed)

pub loop-followed-smaller : goal.loop-followed-smaller
loop-followed-smaller c = omega (arith, few_listed c.loop-followed.places c.loop-followed.invariant.listed)

pub loop-followed-preserved : goal.loop-followed-preserved
loop-followed-preserved c =
    let lists = subst (λ (at : ℕ). ListsToo (LeadsFrom c.args.program.now at) c.loop-followed.places c.add_next.new.self) c.from-place.ensures c.add_next.ensures in
    search_more c.args.program.now c.args.from c.loop-followed.places c.add_next.new.self c.loop-followed.followed c.loop-followed.invariant c.loop-followed-test.true lists

pub returns : goal.returns
returns c = (
  c.loop-followed.invariant.reached c.args.to,
  λ comes. all_reached c.args.program.now c.args.from c.loop-followed.places c.loop-followed.followed c.len-slots.ensures.program c.loop-followed.invariant c.loop-followed-test.false c.args.to comes c.requires,
)
