use Rattle.std.proofs.Common.{ℕ, Bool, false, Some, List, [], ◌++◌, ap, sym, if◌then◌else◌}
use Rattle.host_live.specs.Inputs.{CameState}
use Rattle.test_journals.proofs.stops.OnceInput.wait.Goals as goal

pub returns-clause-comes : goal.returns-clause-comes
returns-clause-comes c =
    let all : List ℕ = c.args.self.now.bytes.now in
    let state : Bool → CameState = λ has_come. record { before = [] ++ (if has_come then all else []); piece = all; is_over = false } in
    (all, ap (λ (b : Bool). Some (state b)) (sym c.if-self.false))
