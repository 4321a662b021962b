-- A step makes no more CCBs of a queue active than the queue has openings.
use Rattle.std.proofs.Common.{◌≡◌, ℕ, ◌+◌, ◌<◌, ◌≤◌, ◌⊎◌, Bool, true, false, cond, eqb, inl, inr, refl, ap, subst, arith, slice_index}
use Rattle.std.specs.Prelude.{◌&&◌}
use Rattle.std.proofs.lemmas.Bool.{cases_eq, ne_eqb, and_left, and_right}
use Rattle.std.proofs.lemmas.List.Sums.{sum_by_push}
use Rattle.ccb.specs.Ccb.{submitted}
use Rattle.world.specs.declared.ccb_state.CcbState.TheVariants.{Waiting}
use Rattle.world.specs.World.{Setup, LiveCcb, World}
use Rattle.world.specs.Lookups.{is_active, is_of, active_count}
use Rattle.world.specs.Event.{Event, Reply}
use Rattle.world.specs.Laws.CcbLaws.{StartsKeepOpenings}
use Rattle.world.specs.Limits.{CcbLimits}
use Rattle.world.proofs.Lists.Rising.{count_put, count_leave}
use Rattle.world_laws.proofs.Steps.Cases.{case_of}
use Rattle.world.proofs.Steps.Moves.{ccb_key, CcbMove, ccbs_stay, ccb_enters, ccb_changes, ccb_leaves}
use Rattle.world_laws.proofs.Steps.Effects.{effect_of}
use Rattle.world_laws.proofs.Leads.{lists_are_kept}

abbrev works : ℕ → LiveCcb → Bool
works queue live = is_of queue live && is_active live.state

-- no more of the queue are active than before, or than it has openings
abbrev Keeps : ℕ → World → World → Type 0
Keeps queue before after = (active_count queue after.transport.live ≤ active_count queue before.transport.live) ⊎ (active_count queue after.transport.live ≤ slice_index before.transport.openings queue)

-- a CCB counts once
at_most_one : (b : Bool) → cond {A = ℕ} b 1 0 ≤ 1
at_most_one true = omega arith
at_most_one false = omega arith

not_counted : (b : Bool) → b ≡ false → cond {A = ℕ} b 1 0 ≡ 0
not_counted b e = ap (λ (x : Bool). cond {A = ℕ} x 1 0) e

move_starts : (setup : Setup) (before : World) (event : Event) (reply : Reply) (after : World) (queue : ℕ) → CcbLimits setup before → CcbMove setup before event reply after → Keeps queue before after
move_starts setup before event reply after queue kept (ccbs_stay e g unended) = inl (rw e (omega arith))
move_starts setup before event reply after queue kept (ccb_enters its priority retries class unclassed known full e g unended) =
    let c : LiveCcb = record { ccb = submitted (record { 0 = before.transport.greatest_ccb + 1 }) its priority retries class; state = Waiting } in
    let none = not_counted (works queue c) (and_right (is_of queue c) false refl) in
    inl (rw e (omega (arith, sum_by_push (λ (x : LiveCcb). cond (works queue x) 1 0) before.transport.live c, none)))
move_starts setup before event reply after queue kept (ccb_changes old new plain found queue_is active_or_not may e g unended) =
    let moved = count_put ccb_key (works queue) 0 before.transport.live before.transport.greatest_ccb new old kept.rising found in
    elim active_or_not [
      | inl idle ↦
          let none = not_counted (works queue new) (and_right (is_of queue new) (is_active new.state) idle) in
          inl (rw e (omega (arith, moved, none)))
      | inr other ↦
          elim other [
            | inl as_before ↦
                let same : works queue new ≡ works queue old = λ i. eqb (queue_is i) queue && as_before i in
                let counted : cond {A = ℕ} (works queue new) 1 0 ≡ cond (works queue old) 1 0 = ap (λ (b : Bool). cond {A = ℕ} b 1 0) same in
                inl (rw e (omega (arith, moved, counted)))
            | inr free ↦
                elim (cases_eq new.ccb.queue.0 queue) [
                  | inl same ↦
                      let here : active_count queue before.transport.live < slice_index before.transport.openings queue = subst (λ (q : ℕ). active_count q before.transport.live < slice_index before.transport.openings q) same free in
                      inr (rw e (omega (arith, moved, at_most_one (works queue new), here)))
                  | inr apart ↦
                      let none = not_counted (works queue new) (and_left (is_of queue new) (is_active new.state) (ne_eqb _ _ apart)) in
                      inl (rw e (omega (arith, moved, none)))
                ]
          ]
    ]
move_starts setup before event reply after queue kept (ccb_leaves number code old found may e g one) = inl (rw e (count_leave ccb_key (works queue) before.transport.live number))

pub starts_keep_openings : StartsKeepOpenings
starts_keep_openings setup xs before run event reply after e queue =
    let kept = lists_are_kept setup xs before run in
    move_starts setup before event reply after queue kept.ccbs (effect_of setup before event reply after kept (case_of setup before event reply after e)).ccbs
