use Rattle.std.specs.Int.{w16}
use Rattle.std.proofs.lemmas.Int.{to_z-of_z}
use Rattle.check_private_insns.proofs.GoingOn.{load_goes}
use Rattle.check_private_insns.proofs.StaysKnown.{changes_linked}
use Rattle.check_private_insns.proofs.straight.load.Goals as goal

pub returns-clause-goes : goal.returns-clause-goes
returns-clause-goes c =
    load_goes c.args.description.now (record c.set.new.description { loaded = c.loaded_from-description.result }) c.args.form c.args.dst c.args.src c.args.offset _ c.read_place-place.result (rw (to_z-of_z w16 c.args.offset c.ranges.offset) at c.in_ok-kind.ensures.loads) c.set.ensures.set
    (changes_linked c.args.description.now c.set.new.description c.loaded_from-description.result c.args.dst c.set.ensures.replaces.only) c.set.ensures.replaces.numbers
    (rw (to_z-of_z w16 c.args.offset c.ranges.offset) at c.read_place-place.ensures) c.loaded_from-description.ensures
