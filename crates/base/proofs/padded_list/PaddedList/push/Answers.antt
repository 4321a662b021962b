use Rattle.std.proofs.Common.{arith}
use Rattle.base.proofs.Places.{len_is, kept_push}
use Rattle.base.proofs.padded_list.PaddedList.push.Goals as goal

pub invariant_of-self : goal.invariant_of-self
invariant_of-self g c =
    let blank = g.T.Blank.blank in
    let long = len_is blank g.row.N c.self.inside.places c.self.inside.len c.self.invariant c.args.self.now c.self.view_is in
    kept_push blank g.row.N c.self.inside.places c.self.inside.len c.self.invariant c.args.value (omega (arith, long, c.requires))
