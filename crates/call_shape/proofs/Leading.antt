-- Where control may come: ways put one after the other, ways under calls that are open outside, and those through a function
-- and back after its call.
use Rattle.std.proofs.Common.{ℕ, zero, suc, List, ◌∷◌, inl, inr}
use Rattle.bpf_insn.specs.declared.program.Slot.{Slot}
use Rattle.call_shape.specs.StaticPath.{Standing, outermost, PathLeads, StaticPath, starts, goes_on}
use Rattle.call_shape.proofs.Paths.{back, exit_returns, leads_under, under}

-- one way and then another
pub leads_through : (program : List Slot) (from between to : Standing) → PathLeads program from between → PathLeads program between to → PathLeads program from to
leads_through program from between to first starts = first
leads_through program from between to first (goes_on at next insn rest is leads) = goes_on at next insn (leads_through program from between at first rest) is leads

-- the same while further calls are open outside
pub leads_inside : (program : List Slot) (outer : List ℕ) (from to : Standing) → PathLeads program from to → PathLeads program (under from outer) (under to outer)
leads_inside program outer from to starts = starts
leads_inside program outer from to (goes_on at next insn rest is leads) =
    goes_on (under at outer) (under next outer) insn (leads_inside program outer from at rest) is (leads_under at insn next outer leads)

-- along a path to the end of a function control comes back from the call that is open outside
leads_on_out : (program : List Slot) (from : Standing) (n : ℕ) (at : Standing) (return : ℕ) (outer : List ℕ) → StaticPath program at n → PathLeads program from (under at (return ∷ outer)) → PathLeads program from (back return outer)
leads_on_out program from zero at return outer path come = absurd path
leads_on_out program from (suc n) at return outer (insn, is, inl end) come =
    goes_on (under at (return ∷ outer)) (back return outer) insn come is (exit_returns at insn return outer end.0)
leads_on_out program from (suc n) at return outer (insn, is, inr (to, leads, rest)) come =
    leads_on_out program from n to return outer rest
    (goes_on (under at (return ∷ outer)) (under to (return ∷ outer)) insn come is (leads_under at insn to (return ∷ outer) leads))

-- and so it does from the start of a function that is called
pub leads_back : (program : List Slot) (from : Standing) (n start return : ℕ) (outer : List ℕ) → StaticPath program (outermost start) n → PathLeads program from (record { slot = start; returns = return ∷ outer }) → PathLeads program from (back return outer)
leads_back program from n start return outer path come = leads_on_out program from n (outermost start) return outer path come
