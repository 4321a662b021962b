-- In a program whose functions stand in a calling order a path leads out from every place, and no call lies on a cycle.
use Rattle.std.proofs.Common.{◌≡◌, ℕ, zero, suc, ◌+◌, ◌≤◌, max, List, length, Some, true, slice_get, refl, ap, sym, ◌∙◌, arith, inl}
use Rattle.bpf_insn.specs.declared.program.Slot.{Slot}
use Rattle.bpf_insn.specs.Program.{IsProgram}
use Rattle.call_shape.specs.declared.onward.Onward.{Onward}
use Rattle.call_shape.specs.declared.onward.Onward.TheVariants.{Leaves, Continues, Branches, Enters}
use Rattle.call_shape.specs.Onward.{onward}
use Rattle.call_shape.specs.Calls.{begins, function_of, callee_at, CallsThrough, IsOnCycle, StandsBefore, IsCallingOrder}
use Rattle.call_shape.specs.Shape.{AreContained}
use Rattle.call_shape.specs.StaticPath.{outermost}
use Rattle.call_shape.specs.WaysOut.{EveryPlaceHasAWayOut, NothingOrderedIsOnACycle}
use Rattle.call_shape.proofs.Places.{begins_there, begins_inside}
use Rattle.call_shape.proofs.SlotFunctions.{function_before, function_starts, own_function, caller_begins, callee_starts}
use Rattle.call_shape.proofs.Paths.{HasPath, WaysFrom, way_from}
use Rattle.call_shape.proofs.Ways.{IsFurther, IsLawfulWay, lawful_way}

pub record HasWayOut (program : List Slot) (place : ℕ) : Type 0 where
  pub long : ℕ
  pub deep : ℕ
  pub path : HasPath program (outermost place) long deep

-- from where control goes on a way leads out, so one leads out from here
way_on : (program : List Slot) (place : ℕ) (way : Onward) → IsLawfulWay program place way → ((next : ℕ) → IsFurther program place next → HasWayOut program next) → ((callee : ℕ) → callee_at program place ≡ Some callee → begins program callee ≡ true → HasWayOut program callee) → (n : ℕ) × (d : ℕ) × WaysFrom program way n d
way_on program place Leaves way further callees = (1, 1, (refl, refl))
way_on program place (Continues next) way further callees =
    let on = further next way in
    (on.long + 1, on.deep, record { after = on.long; rest = on.path; long = refl })
way_on program place (Branches next other) way further callees =
    let on = further next way.0 in
    (on.long + 1, on.deep, inl (record { after = on.long; rest = on.path; long = refl }))
way_on program place (Enters callee next) way further callees =
    let inner = callees callee way.0.leads way.0.there in
    let on = further next way.1 in (
      inner.long + on.long + 1,
      max (inner.deep + 1) on.deep,
      record {
        inner = inner.long;
        inner_depth = inner.deep;
        path = inner.path;
        after = on.long;
        after_depth = on.deep;
        rest = on.path;
        long = refl;
        deep = refl;
      },
    )

-- by how many slots are left, where a way leads out of each function that is called
within_function : (left : ℕ) (program : List Slot) (function : ℕ) → IsProgram program → AreContained program → ((place callee : ℕ) → function_of program place ≡ function → callee_at program place ≡ Some callee → begins program callee ≡ true → HasWayOut program callee) → (place : ℕ) → length program ≤ place + left → function_of program place ≡ function → begins program place ≡ true → HasWayOut program place
within_function zero program function is functions callees place le of there = absurd (omega (arith, begins_inside program place there))
within_function (suc left) program function is functions callees place le of there =
    let here = begins_there program place there in
    let out = way_on program place (onward place here.0) (lawful_way program place here.0 is functions here.1)
    (λ next on. within_function left program function is functions callees next (omega (arith, on.forward)) (on.within ∙ of) on.there)
    (λ callee leads there. callees place callee of leads there) in
    record { long = out.0; deep = out.1; path = way_from program place out.0 out.1 here.0 here.1 out.2 }

-- by how many functions stand before in the order
by_rank : (rank : ℕ) (program : List Slot) (order : List ℕ) → IsProgram program → AreContained program → IsCallingOrder program order → (place : ℕ) → StandsBefore order rank (function_of program place) → begins program place ≡ true → HasWayOut program place
by_rank zero program order is functions ordered place stands there = absurd (omega (arith, stands.before))
by_rank (suc rank) program order is functions ordered place stands there =
    within_function (length program) program (function_of program place) is functions (λ at callee of leads begin.
    let first = ordered.callees_first stands.index at callee (stands.there ∙ ap Some (sym of)) leads in
    let own = own_function program callee (callee_starts program at callee begin leads) in
    by_rank rank program order is functions ordered callee (record { index = first.index; before = omega (arith, first.before, stands.before); there = first.there ∙ ap Some (sym own) }) begin)
    place (omega arith) refl there

stands_somewhere : (program : List Slot) (order : List ℕ) (place : ℕ) → IsCallingOrder program order → begins program place ≡ true → StandsBefore order (length order) (function_of program place)
stands_somewhere program order place ordered there =
    ordered.all (function_of program place) (omega (arith, function_before program place, begins_inside program place there)) (function_starts program place)

pub ways_out_lem : EveryPlaceHasAWayOut
ways_out_lem program is ordered place there =
    let out = by_rank (length ordered.order) program ordered.order is ordered.functions ordered.ordered place (stands_somewhere program ordered.order place ordered.ordered there) there in
    (out.long, out.path.0)

-- calls lead down in the order
descends : (n : ℕ) (program : List Slot) (order : List ℕ) (i from to : ℕ) → IsCallingOrder program order → slice_get order i ≡ Some from → CallsThrough program n from to → (j : ℕ) × (j ≤ i) × (slice_get order j ≡ Some to)
descends zero program order i from to ordered at same = (i, omega arith, at ∙ ap Some same)
descends (suc n) program order i from to ordered at (next, call, rest) =
    let first = ordered.callees_first i call.place next (at ∙ ap Some (sym call.from)) call.leads in
    let on = descends n program order first.index next to ordered first.there rest in
    (on.0, omega (arith, on.1, first.before), on.2)

falls : (rank : ℕ) (program : List Slot) (order : List ℕ) (place : ℕ) → IsCallingOrder program order → IsOnCycle program place → StandsBefore order rank (function_of program place) → ⊥
falls zero program order place ordered on stands = omega (arith, stands.before)
falls (suc rank) program order place ordered on stands =
    let first = ordered.callees_first stands.index place on.callee stands.there on.leads in
    let back = descends on.calls program order first.index on.callee (function_of program place) ordered first.there on.back in
    falls rank program order place ordered on (record { index = back.0; before = omega (arith, back.1, first.before, stands.before); there = back.2 })

pub no_cycle_lem : NothingOrderedIsOnACycle
no_cycle_lem program ordered place on =
    falls (length ordered.order) program ordered.order place ordered.ordered on
    (stands_somewhere program ordered.order place ordered.ordered (caller_begins program place on.callee on.leads))
