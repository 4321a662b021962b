use Rattle.std.proofs.Common.{◌-◌, set, sym, subst, arith}
use Rattle.base.specs.Padded.{IsPadded}
use Rattle.base.proofs.Places.{len_is, kept_less}
use Rattle.base.proofs.padded_list.PaddedList.remove_last.Goals as goal

pub invariant_of-self : goal.invariant_of-self
invariant_of-self g c =
    let blank = g.T.Blank.blank in
    let places = c.self.inside.places in
    let len = c.self.inside.len in
    let long = len_is blank g.row.N places len c.self.invariant c.args.self.now c.self.view_is in
    subst (λ x. IsPadded blank g.row.N (set places (len - 1) x) (len - 1)) (sym c.blank.ensures)
    (kept_less blank g.row.N places len c.self.invariant (len - 1) (omega (arith, long, c.requires)))
