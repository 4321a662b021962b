use Rattle.base.proofs.Places.{kept_copied}
use Rattle.base.proofs.padded_list.PaddedList.copied.Goals as goal

pub invariant_of-result : goal.invariant_of-result
invariant_of-result g c = rw (c.copy_from_slice.ensures.after, c.blank-places.ensures) (kept_copied g.T.Blank.blank g.row.N c.args.values.now c.requires)
