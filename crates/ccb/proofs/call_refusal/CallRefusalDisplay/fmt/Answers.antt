use Rattle.std.proofs.lemmas.Grind.{put_two}
use Rattle.std.proofs.Common.{refl}
use Rattle.ccb.proofs.Codes.{code_is}
use Rattle.ccb.proofs.call_refusal.CallRefusalDisplay.fmt.Goals as goal

pub returns-clause-writes : goal.returns-clause-writes
returns-clause-writes g c = λ plain ok.
    let first = c.in_ok-write_char.ensures.writes plain refl in
    let second = c.write_char-2.ensures.writes first.plain ok in
    put_two _ _ _ _ _ _ _ first second (rw (c.from.ensures, c.from-2.ensures, c.row-row.ensures) (code_is c.args.self.now))
