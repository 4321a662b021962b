use Rattle.std.specs.Int.{w16}
use Rattle.std.proofs.Common.{ℤ, subst}
use Rattle.std.proofs.lemmas.Int.{to_z-of_z}
use Rattle.check_private_insns.proofs.Storing.{stores_ok, known_leaves, Reaches}
use Rattle.check_private_insns.proofs.memory.store.Goals as goal

pub returns-in-Ok-clause-stores : goal.returns-in-Ok-clause-stores
returns-in-Ok-clause-stores c =
    stores_ok c.store_at.result c.args.description.now c.store_at.new.description c.args.size c.args.dst c.args.offset c.args.word c.kind.result c.in-Ok.access.region c.in-Ok.access.offsets c.kind.ensures
    (subst (λ (z : ℤ). Reaches c.kind.result z c.in-Ok.access.region c.in-Ok.access.offsets) (to_z-of_z w16 c.args.offset c.ranges.offset) c.in-Ok.ensures.address)
    c.store_bytes-bytes.result c.store_bytes-bytes.ensures c.store_at.ensures.puts (c.is_written.ensures.0 c.if-not-is_written.false)

pub returns-in-Ok-clause-leaves : goal.returns-in-Ok-clause-leaves
returns-in-Ok-clause-leaves c =
    known_leaves c.store_at.result c.args.description.now c.store_at.new.description c.args.dst c.args.offset _ c.args.word c.kind.result c.in-Ok.access c.store_bytes-bytes.result _
    c.kind.ensures (to_z-of_z w16 c.args.offset c.ranges.offset) c.store_bytes-bytes.ensures c.in-Ok.ensures.known c.store_at.ensures.leaves
