use Rattle.std.specs.Int.{w16}
use Rattle.std.proofs.Common.{ℤ, subst}
use Rattle.std.proofs.lemmas.Int.{to_z-of_z}
use Rattle.check_private_insns.proofs.Loading.{loads_ok}
use Rattle.check_private_insns.proofs.Storing.{Reaches}
use Rattle.check_private_insns.proofs.memory.loaded.Goals as goal

pub returns-clause-loads : goal.returns-clause-loads
returns-clause-loads c =
    loads_ok c.given.result c.args.description.now c.args.form c.args.src c.args.offset c.kind.result c.in_ok-access.access c.load_bytes-bytes.result c.kind.ensures
    (subst (λ (z : ℤ). Reaches c.kind.result z c.in_ok-access.access.region c.in_ok-access.access.offsets) (to_z-of_z w16 c.args.offset c.ranges.offset) c.in_ok-access.ensures.address)
    c.load_bytes-bytes.ensures c.in_ok-check_read.ensures.reads c.given.ensures.gives
