use Rattle.std.proofs.Common.{◌≡◌, ℕ, List, false, true, map, subst, sym, ◌∙◌}
use Rattle.std.specs.Global.{Global}
use Rattle.std.specs.declared.sync.Arc.{Arc}
use Rattle.helpers.specs.declared.limits.HelperSet.{HelperSet}
use Rattle.helpers.specs.declared.limits.HelperSet.TheVariants.{Classes}
use Rattle.bpf_accepted.specs.declared.accepted.Accepted.{Accepted}
use Rattle.world.specs.Lawful.{AreUnder}
use Rattle.engine_config.specs.Configured.{queue_of, under_of}
use Rattle.engine_config.proofs.Setups.{under_classes, classes_there}
use Rattle.engine_config.proofs.config.Config.with_classes.Goals as goal

-- each queue's program is behind a counted reference
abbrev Queues : Type 0
Queues = List (ℕ × ℕ × Arc Accepted Global)

pub returns-then-not-are_under-clause-lawful : goal.returns-then-not-are_under-clause-lawful
returns-then-not-are_under-clause-lawful c = (
  λ e. absurd (let impossible : false ≡ true = e in cc),
  λ h. let there : AreUnder Classes c.args.controllers (map queue_of (map under_of c.args.queues.items)) =
      subst (λ (helpers : HelperSet). AreUnder helpers c.args.controllers (map queue_of (map under_of c.args.queues.items))) h.0 h.1.under in
      let lent = classes_there c.args.controllers c.deref.result.now (subst (λ (queues : Queues). AreUnder Classes c.args.controllers (map queue_of (map under_of queues))) (sym c.deref.ensures.value) there) in
      sym c.if-not-are_under.true ∙ c.are_under.ensures.1 lent,
)

pub made-requires-clause-under : goal.made-requires-clause-under
made-requires-clause-under c =
    let lent = c.are_under.ensures.0 c.if-not-are_under.false in
    let there = under_classes c.args.controllers c.deref.result.now lent.0 lent.1 in
    subst (λ (helpers : HelperSet). AreUnder helpers c.args.controllers (map queue_of (map under_of c.args.queues.items))) (sym c.in-Classes.is)
    (subst (λ (queues : Queues). AreUnder Classes c.args.controllers (map queue_of (map under_of queues))) c.deref.ensures.value there)
