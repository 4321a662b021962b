-- Each CCB number that was given is live or ended, and ended once.
use Rattle.std.proofs.Common.{◌≡◌, ℕ, ◌+◌, ◌≤◌, List, [], ◌∷◌, ◌++◌, Bool, cond, eqb, Option, Some, None, ◌⊎◌, inl, inr, refl, ap, sym, subst, ◌∙◌, arith, append_assoc}
use Rattle.std.proofs.lemmas.Bool.{cases_eq, cases_lt, eq-eqb, ne_eqb}
use Rattle.std.proofs.lemmas.List.{append-nil}
use Rattle.std.proofs.lemmas.List.Sums.{sum_by_push}
use Rattle.world.specs.World.{Setup, LiveCcb, EndedCcb, World, beginning, beginning_of}
use Rattle.world.specs.Beginning.{IsBeginning}
use Rattle.world.specs.Lookups.{ccb_of, with_ccb}
use Rattle.world.specs.Event.{Event, Reply}
use Rattle.world.specs.WorldRun.{Leads}
use Rattle.world.specs.Laws.CcbLaws.{ended_times, AreAccounted, finished_by, finished_in, EachIsLiveOrEnded}
use Rattle.std.specs.Prelude.{IfSome}
use Rattle.world.proofs.Lists.Rising.{found_bounds}
use Rattle.world.proofs.Lists.Found.{leave, at_head, at_tail, found_push, missing_push, put_same, put_other, leave_same, leave_other}
use Rattle.world_laws.proofs.Kept.{step_keeps, beginning_keeps}
use Rattle.world_laws.proofs.Steps.Cases.{case_of}
use Rattle.world.proofs.Steps.Moves.{KeepsLists, ccb_key, CcbMove, ccbs_stay, ccb_enters, ccb_changes, ccb_leaves}
use Rattle.world_laws.proofs.Steps.Effects.{effect_of}

absent : (o : Option LiveCcb) (x : LiveCcb) → o ≡ None → o ≡ Some x → ⊥
absent o x none some = let bad : None ≡ Some x = sym none ∙ some in cc

-- found or not
cases_found : (o : Option LiveCcb) → (o ≡ None) ⊎ ((it : LiveCcb) × (o ≡ Some it))
cases_found None = inl refl
cases_found (Some it) = inr (it, refl)

-- of a run that begins in this world, whose live CCBs have numbers that were given
module _ (begun : World) (old : (n : ℕ) (it : LiveCcb) → ccb_of n begun.transport.live ≡ Some it → n ≤ begun.transport.greatest_ccb) where
  accounts_from : (live live' : List LiveCcb) (ended ended' : List EndedCcb) (greatest greatest' : ℕ) → live' ≡ live → ended' ≡ ended → greatest' ≡ greatest → AreAccounted begun live ended greatest → AreAccounted begun live' ended' greatest'
  accounts_from live live' ended ended' greatest greatest' p q r accounts =
      subst (λ (n : ℕ). AreAccounted begun live' ended' n) (sym r)
      (subst (λ (d : List EndedCcb). AreAccounted begun live' d greatest) (sym q)
      (subst (λ (l : List LiveCcb). AreAccounted begun l ended greatest) (sym p) accounts))

  -- one more, of the next number
  accounts_push : (live : List LiveCcb) (ended : List EndedCcb) (greatest : ℕ) (new : LiveCcb) → begun.transport.greatest_ccb ≤ greatest → new.ccb.number.0 ≡ greatest + 1 → AreAccounted begun live ended greatest → AreAccounted begun (live ++ new ∷ []) ended (greatest + 1)
  accounts_push live ended greatest new since named accounts =
      record {
        each = λ n given.
            elim (cases_lt greatest n) [
              | inl above ↦
                  let none = accounts.no_other n (λ was. elim was [ inl it ↦ omega (arith, above, since, old n it.0 it.1) | inr it ↦ omega (arith, above, it.1) ]) in
                  let is_next : new.ccb.number.0 ≡ n = elim given [ inl it ↦ absurd (omega (arith, above, since, old n it.0 it.1)) | inr it ↦ omega (arith, named, above, it.1) ] in
                  inl (new, missing_push ccb_key n live new none.0 ∙ at_head ccb_key n new [] is_next, none.1)
              | inr below ↦
                  elim (accounts.each n (elim given [ inl it ↦ inl it | inr it ↦ inr (it.0, below) ])) [
                    | inl it ↦ inl (it.0, found_push ccb_key n live new it.0 it.1, it.2)
                    | inr it ↦ inr (missing_push ccb_key n live new it.0 ∙ at_tail ccb_key n new [] (λ e. omega (arith, e, named, below)), it.1)
                  ]
            ];
        no_other = λ n outside.
            let none = accounts.no_other n (λ was. outside (elim was [ inl it ↦ inl it | inr it ↦ inr (it.0, omega (arith, it.1)) ])) in
            let apart : new.ccb.number.0 ≡ n → ⊥ = λ e. outside (inr (omega (arith, e, named, since), omega (arith, e, named))) in
            (missing_push ccb_key n live new none.0 ∙ at_tail ccb_key n new [] apart, none.1);
      }

  -- one that is changed in its place
  accounts_put : (live : List LiveCcb) (ended : List EndedCcb) (greatest : ℕ) (old new : LiveCcb) → ccb_of new.ccb.number.0 live ≡ Some old → AreAccounted begun live ended greatest → AreAccounted begun (with_ccb new live) ended greatest
  accounts_put live ended greatest old new found accounts =
      record {
        each = λ n given.
            elim (cases_eq new.ccb.number.0 n) [
              | inl same ↦
                  let was : ccb_of n live ≡ Some old = subst (λ (k : ℕ). ccb_of k live ≡ Some old) same found in
                  let is : ccb_of n (with_ccb new live) ≡ Some new = subst (λ (k : ℕ). ccb_of k (with_ccb new live) ≡ Some new) same (put_same ccb_key new live old found) in
                  elim (accounts.each n given) [
                    | inl it ↦ inl (new, is, it.2)
                    | inr it ↦ absurd (absent (ccb_of n live) old it.0 was)
                  ]
              | inr apart ↦
                  let stays = put_other ccb_key new n live apart in
                  elim (accounts.each n given) [
                    | inl it ↦ inl (it.0, stays ∙ it.1, it.2)
                    | inr it ↦ inr (stays ∙ it.0, it.1)
                  ]
            ];
        no_other = λ n outside.
            let none = accounts.no_other n outside in
            let apart : new.ccb.number.0 ≡ n → ⊥ = λ same. absent (ccb_of n live) old none.0 (subst (λ (k : ℕ). ccb_of k live ≡ Some old) same found) in
            (put_other ccb_key new n live apart ∙ none.0, none.1);
      }

  -- one that is finished
  accounts_leave : (live : List LiveCcb) (ended : List EndedCcb) (greatest number code : ℕ) (old : LiveCcb) → ccb_of number live ≡ Some old → AreAccounted begun live ended greatest → AreAccounted begun (leave ccb_key number live) (ended ++ record { number = number; code = code } ∷ []) greatest
  accounts_leave live ended greatest number code old found accounts =
      let last : EndedCcb = record { number = number; code = code } in
      let times : (n : ℕ) → ended_times n (ended ++ last ∷ []) ≡ ended_times n ended + cond {A = ℕ} (eqb number n) 1 0 = λ n.
      sum_by_push (λ (one : EndedCcb). cond (eqb one.number n) 1 0) ended last in
      record {
        each = λ n given.
            elim (cases_eq number n) [
              | inl same ↦
                  let was : ccb_of n live ≡ Some old = subst (λ (k : ℕ). ccb_of k live ≡ Some old) same found in
                  let once : cond {A = ℕ} (eqb number n) 1 0 ≡ 1 = ap (λ (b : Bool). cond {A = ℕ} b 1 0) (eq-eqb _ _ same) in
                  elim (accounts.each n given) [
                    | inl it ↦ inr (subst (λ (k : ℕ). ccb_of n (leave ccb_key k live) ≡ None) (sym same) (leave_same ccb_key n live), omega (arith, times n, once, it.2))
                    | inr it ↦ absurd (absent (ccb_of n live) old it.0 was)
                  ]
              | inr apart ↦
                  let stays = leave_other ccb_key number n live apart in
                  let never : cond {A = ℕ} (eqb number n) 1 0 ≡ 0 = ap (λ (b : Bool). cond {A = ℕ} b 1 0) (ne_eqb _ _ apart) in
                  elim (accounts.each n given) [
                    | inl it ↦ inl (it.0, stays ∙ it.1, omega (arith, times n, never, it.2))
                    | inr it ↦ inr (stays ∙ it.0, omega (arith, times n, never, it.1))
                  ]
            ];
        no_other = λ n outside.
            let none = accounts.no_other n outside in
            let apart : number ≡ n → ⊥ = λ same. absent (ccb_of n live) old none.0 (subst (λ (k : ℕ). ccb_of k live ≡ Some old) same found) in
            let never : cond {A = ℕ} (eqb number n) 1 0 ≡ 0 = ap (λ (b : Bool). cond {A = ℕ} b 1 0) (ne_eqb _ _ apart) in
            (leave_other ccb_key number n live apart ∙ none.0, omega (arith, times n, never, none.1));
      }

  abbrev Accounts : World → Type 0
  Accounts world = AreAccounted begun world.transport.live world.ended world.transport.greatest_ccb

  -- where nothing is finished nothing ended
  none_more : (before after : World) (event : Event) (reply : Reply) → after.ended ≡ before.ended ++ finished_by before event reply → finished_by before event reply ≡ [] → after.ended ≡ before.ended
  none_more before after event reply ended none = ended ∙ (ap (λ (l : List EndedCcb). before.ended ++ l) none ∙ append-nil before.ended)

  move_accounts : (setup : Setup) (before : World) (event : Event) (reply : Reply) (after : World) → begun.transport.greatest_ccb ≤ before.transport.greatest_ccb → Accounts before → after.ended ≡ before.ended ++ finished_by before event reply → CcbMove setup before event reply after → Accounts after
  move_accounts setup before event reply after since accounts ended (ccbs_stay e g unended) =
      accounts_from before.transport.live after.transport.live before.ended after.ended before.transport.greatest_ccb after.transport.greatest_ccb e (none_more before after event reply ended unended) g accounts
  move_accounts setup before event reply after since accounts ended (ccb_enters queue priority retries class unclassed known full e g unended) =
      accounts_from _ after.transport.live before.ended after.ended _ after.transport.greatest_ccb e (none_more before after event reply ended unended) g (accounts_push before.transport.live before.ended before.transport.greatest_ccb _ since refl accounts)
  move_accounts setup before event reply after since accounts ended (ccb_changes old new plain found queue_is active may e g unended) =
      accounts_from _ after.transport.live before.ended after.ended before.transport.greatest_ccb after.transport.greatest_ccb e (none_more before after event reply ended unended) g (accounts_put before.transport.live before.ended before.transport.greatest_ccb old new found accounts)
  move_accounts setup before event reply after since accounts ended (ccb_leaves number code old found may e g one) =
      accounts_from _ after.transport.live _ after.ended before.transport.greatest_ccb after.transport.greatest_ccb e (ended ∙ ap (λ (l : List EndedCcb). before.ended ++ l) one) g (accounts_leave before.transport.live before.ended before.transport.greatest_ccb number code old found accounts)

  -- numbers that are given only rise
  rises : (setup : Setup) (before : World) (event : Event) (reply : Reply) (after : World) → begun.transport.greatest_ccb ≤ before.transport.greatest_ccb → CcbMove setup before event reply after → begun.transport.greatest_ccb ≤ after.transport.greatest_ccb
  rises setup before event reply after since (ccbs_stay e g unended) = omega (arith, since, g)
  rises setup before event reply after since (ccb_enters queue priority retries class unclassed known full e g unended) = omega (arith, since, g)
  rises setup before event reply after since (ccb_changes old new plain found queue_is active may e g unended) = omega (arith, since, g)
  rises setup before event reply after since (ccb_leaves number code old found may e g one) = omega (arith, since, g)

  leads_accounts : (setup : Setup) (before : World) (xs : List (Event × Reply)) (after : World) → KeepsLists setup before → (run : Leads setup before xs after) → begun.transport.greatest_ccb ≤ before.transport.greatest_ccb → Accounts before → Accounts after × (after.ended ≡ before.ended ++ finished_in setup before xs after run)
  leads_accounts setup before [] after kept run since accounts = (subst Accounts run accounts, sym (ap (λ (w : World). w.ended) run) ∙ sym (append-nil before.ended))
  leads_accounts setup before (x ∷ xs) after kept run since accounts =
      let between : World = run.0 in
      let it = effect_of setup before x.0 x.1 between kept (case_of setup before x.0 x.1 between run.1) in
      let rest = leads_accounts setup between xs after (step_keeps setup before x.0 x.1 between run.1 kept) run.2 (rises setup before x.0 x.1 between since it.ccbs) (move_accounts setup before x.0 x.1 between since accounts it.ended it.ccbs) in
      (rest.0, rest.1 ∙ (ap (λ (l : List EndedCcb). l ++ finished_in setup between xs after run.2) it.ended ∙ append_assoc before.ended (finished_by before x.0 x.1) (finished_in setup between xs after run.2)))

  -- the world in which a run begins, in which nothing ended
  begun_accounts : begun.ended ≡ [] → Accounts begun
  begun_accounts none_ended =
      record {
        each = λ n given.
            elim given [
              | inl it ↦ inl (it.0, it.1, ap (ended_times n) none_ended)
              | inr it ↦ absurd (omega (arith, it.0, it.1))
            ];
        no_other = λ n outside.
            elim (cases_found (ccb_of n begun.transport.live)) [
              | inl none ↦ (none, ap (ended_times n) none_ended)
              | inr it ↦ absurd (outside (inl it))
            ];
      }

nothing_ended : (setup : Setup) (carried : Option World) → IfSome carried (IsBeginning setup) → (beginning_of setup carried).ended ≡ []
nothing_ended setup None begins = refl
nothing_ended setup (Some world) begins = begins.none_ended

pub each_is_live_or_ended : EachIsLiveOrEnded
each_is_live_or_ended setup xs world run =
    let begun : World = beginning setup in
    let kept = beginning_keeps setup run.0 in
    let old : (n : ℕ) (it : LiveCcb) → ccb_of n begun.transport.live ≡ Some it → n ≤ begun.transport.greatest_ccb = λ n it found.
    (found_bounds ccb_key 0 begun.transport.live begun.transport.greatest_ccb n it kept.ccbs.rising found).1 in
    let none = nothing_ended setup setup.carried run.0 in
    let its = leads_accounts begun old setup begun xs world kept run.1 (omega arith) (begun_accounts begun old none) in
    (its.0, its.1 ∙ ap (λ (l : List EndedCcb). l ++ finished_in setup begun xs world run.1) none)
