use Rattle.std.proofs.Common.{◌≡◌, ◌++◌, ◌∙◌, false, true, List, ap, refl, subst, sym}
use Rattle.freeze_ledger.specs.declared.freeze.Freeze.{Freeze}
use Rattle.engine_succession.specs.Stepwise.{HasBegun, StepwiseState}
use Rattle.engine_beginning.specs.Begun.{BegunState, MayFollow}
use Rattle.engine_succession.specs.Taking.{listed}
use Rattle.engine_succession.proofs.OneByOne.{stops_there, takes_line}
use Rattle.engine_succession.proofs.stepwise.StepwiseBeginning.take.Goals as goal

pub returns-in-Ok-clause-takes : goal.returns-in-Ok-clause-takes
returns-in-Ok-clause-takes c = λ setup lines has.
    takes_line c.self.inside.beginning c.take.new.self c.args.line.now c.in-Ok.token c.self.inside.guests.items c.keep_token.new.guests.items c.take.ensures.ranged (c.in-Ok.ensures.may.0 refl) c.in-Ok.ensures.taken c.in-Ok.ensures.token
    (c.keep_token.ensures ∙ ap (λ (l : List Freeze). l ++ listed c.in-Ok.token) c.reserve.ensures.items) setup lines (subst (HasBegun setup lines) (sym c.self.view_is) has)

pub returns-in-Err-clause-takes : goal.returns-in-Err-clause-takes
returns-in-Err-clause-takes c = λ setup lines more has.
    let is : c.args.self.now.begun ≡ c.self.inside.beginning = cc (ap (λ (s : StepwiseState). s.begun) c.self.view_is) in
    stops_there c.args.self.now c.args.self.now c.args.line.now (λ may. let bad : false ≡ true = c.in-Err.ensures.may.1 (subst (λ (b : BegunState). MayFollow b c.args.line.now) is may) in cc) setup lines more has
