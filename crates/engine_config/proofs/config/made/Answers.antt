use Rattle.std.proofs.Common.{◌∙◌, ℕ, List, subst, arith}
use Rattle.std.specs.Global.{Global}
use Rattle.std.specs.declared.vec.Vec.{Vec}
use Rattle.engine_config.specs.Configured.{AreWords, HaveRoom, controllers_of, firsts_of, queues_of}
use Rattle.engine_config.proofs.Setups.{kept}
use Rattle.engine_config.proofs.config.made.Goals as goal

pub invariant_of-result : goal.invariant_of-result
invariant_of-result c =
    let many = c.are_so_many.ensures.0 c.if-not-are_so_many.false in
    let given = c.are_given_under.ensures.given.0 c.if-not-are_given_under.false in
    let known = c.are_given_under.ensures.known c.if-not-are_given_under.false in
    kept c.args.limits (controllers_of c.args.queues) (firsts_of c.args.tables.items) (queues_of c.args.queues) (omega arith) (omega arith) (many.1 ∙ c.count.ensures) c.requires.under (λ k d lt. (given k d lt, known k d lt)) c.requires.plain
    (subst (λ (lists : List (Vec ℕ Global)). HaveRoom c.args.limits.table_lengths (firsts_of lists)) c.deref.ensures.value (c.have_room.ensures.room.0 c.if-not-have_room.false))
    (subst (λ (lists : List (Vec ℕ Global)). AreWords (firsts_of lists)) c.deref.ensures.value (c.have_room.ensures.known c.if-not-have_room.false))
