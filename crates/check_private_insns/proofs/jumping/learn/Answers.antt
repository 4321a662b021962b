use Rattle.std.proofs.Common.{refl, subst}
use Rattle.check_register_kinds.specs.Finds.{Found}
use Rattle.check_private_insns.proofs.jumping.learn.Goals as goal

pub returns-in-FreezeIsSure-clause-means : goal.returns-in-FreezeIsSure-clause-means
returns-in-FreezeIsSure-clause-means c = λ numbers callers a b m is first second found.
    let its = subst (Found numbers a b) c.in-FreezeIsSure.is found in
    (refl, (numbers, c.freeze_is_sure.ensures.kept numbers callers its.0 m is its.1 its.2))
