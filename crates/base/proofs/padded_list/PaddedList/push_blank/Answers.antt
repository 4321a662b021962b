use Rattle.std.proofs.Common.{arith}
use Rattle.base.proofs.Places.{len_is, kept_more, more_is}
use Rattle.base.proofs.padded_list.PaddedList.push_blank.Goals as goal

pub invariant_of-self : goal.invariant_of-self
invariant_of-self g c =
    let blank = g.T.Blank.blank in
    let long = len_is blank g.row.N c.self.inside.places c.self.inside.len c.self.invariant c.args.self.now c.self.view_is in
    kept_more blank g.row.N c.self.inside.places c.self.inside.len c.self.invariant (omega (arith, long, c.requires))

pub returns : goal.returns
returns g c =
    let blank = g.T.Blank.blank in
    let long = len_is blank g.row.N c.self.inside.places c.self.inside.len c.self.invariant c.args.self.now c.self.view_is in
    more_is blank g.row.N c.self.inside.places c.self.inside.len c.self.invariant c.args.self.now c.self.view_is (omega (arith, long, c.requires))
