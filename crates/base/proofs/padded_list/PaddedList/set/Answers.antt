use Rattle.std.proofs.Common.{arith}
use Rattle.base.proofs.Places.{len_is, kept_set, set_is}
use Rattle.base.proofs.padded_list.PaddedList.set.Goals as goal

pub invariant_of-self : goal.invariant_of-self
invariant_of-self g c =
    let blank = g.T.Blank.blank in
    let long = len_is blank g.row.N c.self.inside.places c.self.inside.len c.self.invariant c.args.self.now c.self.view_is in
    kept_set blank g.row.N c.self.inside.places c.self.inside.len c.self.invariant c.args.place c.args.value (omega (arith, long, c.requires))

pub returns : goal.returns
returns g c =
    let blank = g.T.Blank.blank in
    let long = len_is blank g.row.N c.self.inside.places c.self.inside.len c.self.invariant c.args.self.now c.self.view_is in
    set_is blank g.row.N c.self.inside.places c.self.inside.len c.self.invariant c.args.self.now c.self.view_is c.args.place c.args.value (omega (arith, long, c.requires))
