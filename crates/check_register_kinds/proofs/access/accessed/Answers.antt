use Rattle.std.specs.Int.{w16}
use Rattle.std.proofs.lemmas.Int.{to_z-of_z}
use Rattle.check_register_kinds.proofs.Accesses.{reached}
use Rattle.check_register_kinds.proofs.access.accessed.Goals as goal

pub returns-in-Address-clause-address : goal.returns-in-Address-clause-address
returns-in-Address-clause-address c =
    rw c.in-Address.is (reached c.located.result c.in-Address.region c.in-Address.offsets _ c.args.offset (to_z-of_z w16 c.args.offset c.ranges.offset) c.located.ensures.address)
