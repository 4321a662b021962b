use Rattle.std.specs.Int.{w16}
use Rattle.std.proofs.Common.{ℤ, subst}
use Rattle.std.proofs.lemmas.Int.{to_z-of_z}
use Rattle.check_private_insns.proofs.Loading.{place_read_if}
use Rattle.check_private_insns.proofs.Storing.{Reaches}
use Rattle.check_private_insns.proofs.memory.read_place.Goals as goal

pub returns-in-Ok : goal.returns-in-Ok
returns-in-Ok c =
    place_read_if c.args.description.now c.args.form c.args.src c.args.offset c.kind.result c.in-Ok.access c.load_bytes-bytes.result c.depth.result c.place_of.result c.kind.ensures
    (subst (λ (z : ℤ). Reaches c.kind.result z c.in-Ok.access.region c.in-Ok.access.offsets) (to_z-of_z w16 c.args.offset c.ranges.offset) c.in-Ok.ensures.address)
    c.in-Ok.ensures.inside c.load_bytes-bytes.ensures (c.is_unsigned.ensures c.if-not-is_unsigned.false) c.depth.ensures.frames c.place_of.ensures
