-- What each step of a CCB makes of what its queue has to know, and that it is nothing to the other queues.
use Rattle.std.proofs.Common.{◌≡◌, ℕ, ◌+◌, ◌<◌, List, [], ◌∷◌, ◌++◌, map, Bool, true, false, cond, Some, refl, ap, sym, ◌∙◌, arith}
use Rattle.std.specs.Prelude.{◌&&◌}
use Rattle.std.specs.List.{All, count_by}
use Rattle.std.proofs.lemmas.List.Elements.{All-head, All-tail}
use Rattle.std.proofs.lemmas.Bool.{and_left, eq-eqb, ne_eqb}
use Rattle.std.proofs.lemmas.List.Sums.{sum_by-cons, sum_by_push}
use Rattle.ccb.specs.Rising.{AreRising}
use Rattle.ccb.specs.declared.CcbId.{CcbId}
use Rattle.dev_queue.specs.State.{QueueState, empty_queue, live, with_waiting, with_started, with_withdrawn, with_stopped, with_left}
use Rattle.world.specs.declared.ccb_state.CcbState.{CcbState}
use Rattle.world.specs.declared.ccb_state.CcbState.TheVariants.{Waiting, Active, InRecovery}
use Rattle.world.specs.World.{LiveCcb}
use Rattle.world.specs.Lookups.{is_waiting, is_active, is_of, live_count, active_count, ccb_of, with_ccb}
use Rattle.world.proofs.Lists.Found.{leave}
use Rattle.world.proofs.Lists.Rising.{count_put, count_gone}
use Rattle.world.proofs.Steps.Moves.{ccb_key}
use Rattle.engine_transport.specs.Queues.{is_recovering, pair_of, pairs_of, waits_on, recovers_on, queue_state_of, with_gone}
use Rattle.engine_transport.proofs.Pairs.{pairs_no, pairs_length, pairs_push_yes, pairs_push_no, pairs_put_out, pairs_put_in, pairs_put_no, pairs_put_same, pairs_gone, pairs_out}

-- the CCB is of the queue, and in a state of this kind
abbrev pub on : (CcbState → Bool) → ℕ → LiveCcb → Bool
on kind queue x = is_of queue x && kind x.state

pub on_is : (kind : CcbState → Bool) (queue : ℕ) (x : LiveCcb) (s : CcbState) → x.ccb.queue.0 ≡ queue → x.state ≡ s → on kind queue x ≡ kind s
on_is kind queue x s of is = ap (λ (b : Bool). b && kind x.state) (eq-eqb _ _ of) ∙ ap kind is

pub on_other : (kind : CcbState → Bool) (queue : ℕ) (x : LiveCcb) → (x.ccb.queue.0 ≡ queue → ⊥) → on kind queue x ≡ false
on_other kind queue x apart = and_left _ _ (ne_eqb _ _ apart)

abbrev one_if : Bool → ℕ
one_if b = cond b 1 0

-- a change moves a count by that one alone
moved : (kind : CcbState → Bool) (queue : ℕ) (ccbs : List LiveCcb) (high : ℕ) (c x : LiveCcb) → AreRising 0 (map ccb_key ccbs) high → ccb_of c.ccb.number.0 ccbs ≡ Some x → (now was : Bool) → on kind queue c ≡ now → on kind queue x ≡ was → count_by (on kind queue) (with_ccb c ccbs) + one_if was ≡ count_by (on kind queue) ccbs + one_if now
moved kind queue ccbs high c x rising found now was now_is was_is =
    let both = count_put ccb_key (on kind queue) 0 ccbs high c x rising found in
    let before : one_if (on kind queue x) ≡ one_if was = ap one_if was_is in
    let after : one_if (on kind queue c) ≡ one_if now = ap one_if now_is in
    omega (arith, both, before, after)

gone : (kind : CcbState → Bool) (queue : ℕ) (ccbs : List LiveCcb) (high number : ℕ) (x : LiveCcb) → AreRising 0 (map ccb_key ccbs) high → ccb_of number ccbs ≡ Some x → (was : Bool) → on kind queue x ≡ was → count_by (on kind queue) (leave ccb_key number ccbs) + one_if was ≡ count_by (on kind queue) ccbs
gone kind queue ccbs high number x rising found was was_is =
    let both = count_gone ccb_key (on kind queue) 0 ccbs high number x rising found in
    let before : one_if (on kind queue x) ≡ one_if was = ap one_if was_is in
    omega (arith, both, before)

pub entered : (kind : CcbState → Bool) (queue : ℕ) (ccbs : List LiveCcb) (c : LiveCcb) (now : Bool) → on kind queue c ≡ now → count_by (on kind queue) (ccbs ++ c ∷ []) ≡ count_by (on kind queue) ccbs + one_if now
entered kind queue ccbs c now now_is =
    let both = sum_by_push (λ (y : LiveCcb). cond (on kind queue y) 1 0) ccbs c in
    let after : one_if (on kind queue c) ≡ one_if now = ap one_if now_is in
    omega (arith, both, after)

-- two queues with the same parts are one
pub same_queue : (a b : QueueState) → a.waiting ≡ b.waiting → a.active ≡ b.active → a.recovering ≡ b.recovering → a.openings ≡ b.openings → a ≡ b
same_queue a b w k r o = λ i. record { waiting = w i; active = k i; recovering = r i; openings = o i }

-- each CCB of the queue is in one state
one_state : (b : Bool) (s : CcbState) → one_if (b && is_waiting s) + one_if (b && is_active s) + one_if (b && is_recovering s) ≡ one_if b
one_state false s = refl
one_state true Waiting = refl
one_state true Active = refl
one_state true InRecovery = refl

all_states : (queue : ℕ) (ccbs : List LiveCcb) → count_by (waits_on queue) ccbs + active_count queue ccbs + count_by (recovers_on queue) ccbs ≡ live_count queue ccbs
all_states queue [] = refl
all_states queue (y ∷ ys) =
    let w = sum_by-cons (λ (x : LiveCcb). cond (on is_waiting queue x) 1 0) y ys in
    let a = sum_by-cons (λ (x : LiveCcb). cond (on is_active queue x) 1 0) y ys in
    let r = sum_by-cons (λ (x : LiveCcb). cond (on is_recovering queue x) 1 0) y ys in
    let l = sum_by-cons (λ (x : LiveCcb). cond (is_of queue x) 1 0) y ys in
    omega (arith, w, a, r, l, all_states queue ys, one_state (is_of queue y) y.state)

-- a queue counts its live CCBs
pub live_is : (queue openings : ℕ) (ccbs : List LiveCcb) → live (queue_state_of queue openings ccbs) ≡ live_count queue ccbs
live_is queue openings ccbs = omega (arith, pairs_length (waits_on queue) ccbs, all_states queue ccbs)

-- a CCB enters, and waits
pub entered_is : (openings : ℕ) (ccbs : List LiveCcb) (high : ℕ) (c : LiveCcb) → AreRising 0 (map ccb_key ccbs) high → high < c.ccb.number.0 → c.state ≡ Waiting → queue_state_of c.ccb.queue.0 openings (ccbs ++ c ∷ []) ≡ with_waiting c.ccb.number c.ccb.priority (queue_state_of c.ccb.queue.0 openings ccbs)
entered_is openings ccbs high c rising above is =
    same_queue _ _
    (pairs_push_yes (waits_on c.ccb.queue.0) 0 ccbs high c rising above (on_is is_waiting c.ccb.queue.0 c Waiting refl is))
    (omega (arith, entered is_active c.ccb.queue.0 ccbs c false (on_is is_active c.ccb.queue.0 c Waiting refl is)))
    (omega (arith, entered is_recovering c.ccb.queue.0 ccbs c false (on_is is_recovering c.ccb.queue.0 c Waiting refl is))) refl

pub entered_other : (queue openings : ℕ) (ccbs : List LiveCcb) (c : LiveCcb) → (c.ccb.queue.0 ≡ queue → ⊥) → queue_state_of queue openings (ccbs ++ c ∷ []) ≡ queue_state_of queue openings ccbs
entered_other queue openings ccbs c apart =
    same_queue _ _ (pairs_push_no (waits_on queue) ccbs c (on_other is_waiting queue c apart))
    (omega (arith, entered is_active queue ccbs c false (on_other is_active queue c apart)))
    (omega (arith, entered is_recovering queue ccbs c false (on_other is_recovering queue c apart))) refl

-- a change of a CCB that is of another queue, and stays there
pub changed_other : (queue openings : ℕ) (ccbs : List LiveCcb) (high : ℕ) (c x : LiveCcb) → AreRising 0 (map ccb_key ccbs) high → ccb_of c.ccb.number.0 ccbs ≡ Some x → c.ccb.queue.0 ≡ x.ccb.queue.0 → (x.ccb.queue.0 ≡ queue → ⊥) → queue_state_of queue openings (with_ccb c ccbs) ≡ queue_state_of queue openings ccbs
changed_other queue openings ccbs high c x rising found stays apart =
    let apart_now : c.ccb.queue.0 ≡ queue → ⊥ = λ e. apart (sym stays ∙ e) in
    same_queue _ _ (pairs_put_no (waits_on queue) 0 ccbs high c x rising found (on_other is_waiting queue x apart) (on_other is_waiting queue c apart_now))
    (omega (arith, moved is_active queue ccbs high c x rising found false false (on_other is_active queue c apart_now) (on_other is_active queue x apart)))
    (omega (arith, moved is_recovering queue ccbs high c x rising found false false (on_other is_recovering queue c apart_now) (on_other is_recovering queue x apart))) refl

-- a waiting CCB starts
pub started_is : (queue openings : ℕ) (ccbs : List LiveCcb) (high : ℕ) (c x : LiveCcb) → AreRising 0 (map ccb_key ccbs) high → ccb_of c.ccb.number.0 ccbs ≡ Some x → c.ccb.queue.0 ≡ queue → x.ccb.queue.0 ≡ queue → c.state ≡ Active → x.state ≡ Waiting → queue_state_of queue openings (with_ccb c ccbs) ≡ with_started c.ccb.number (queue_state_of queue openings ccbs)
started_is queue openings ccbs high c x rising found of was_of is was =
    same_queue _ _ (pairs_put_out (waits_on queue) 0 ccbs high c x rising found (on_is is_waiting queue x Waiting was_of was) (on_is is_waiting queue c Active of is))
    (omega (arith, moved is_active queue ccbs high c x rising found true false (on_is is_active queue c Active of is) (on_is is_active queue x Waiting was_of was)))
    (omega (arith, moved is_recovering queue ccbs high c x rising found false false (on_is is_recovering queue c Active of is) (on_is is_recovering queue x Waiting was_of was))) refl

-- an active CCB is in recovery
pub recovering_is : (queue openings : ℕ) (ccbs : List LiveCcb) (high : ℕ) (c x : LiveCcb) → AreRising 0 (map ccb_key ccbs) high → ccb_of c.ccb.number.0 ccbs ≡ Some x → c.ccb.queue.0 ≡ queue → x.ccb.queue.0 ≡ queue → c.state ≡ InRecovery → x.state ≡ Active → queue_state_of queue openings (with_ccb c ccbs) ≡ with_stopped true (queue_state_of queue openings ccbs)
recovering_is queue openings ccbs high c x rising found of was_of is was =
    same_queue _ _ (pairs_put_no (waits_on queue) 0 ccbs high c x rising found (on_is is_waiting queue x Active was_of was) (on_is is_waiting queue c InRecovery of is))
    (omega (arith, moved is_active queue ccbs high c x rising found false true (on_is is_active queue c InRecovery of is) (on_is is_active queue x Active was_of was)))
    (omega (arith, moved is_recovering queue ccbs high c x rising found true false (on_is is_recovering queue c InRecovery of is) (on_is is_recovering queue x Active was_of was))) refl

-- a CCB in recovery waits again
pub requeued_is : (queue openings : ℕ) (ccbs : List LiveCcb) (high : ℕ) (c x : LiveCcb) → AreRising 0 (map ccb_key ccbs) high → ccb_of c.ccb.number.0 ccbs ≡ Some x → c.ccb.queue.0 ≡ queue → x.ccb.queue.0 ≡ queue → c.state ≡ Waiting → x.state ≡ InRecovery → queue_state_of queue openings (with_ccb c ccbs) ≡ with_waiting c.ccb.number c.ccb.priority (with_left (queue_state_of queue openings ccbs))
requeued_is queue openings ccbs high c x rising found of was_of is was =
    same_queue _ _ (pairs_put_in (waits_on queue) 0 ccbs high c x rising found (on_is is_waiting queue x InRecovery was_of was) (on_is is_waiting queue c Waiting of is))
    (omega (arith, moved is_active queue ccbs high c x rising found false false (on_is is_active queue c Waiting of is) (on_is is_active queue x InRecovery was_of was)))
    (omega (arith, moved is_recovering queue ccbs high c x rising found false true (on_is is_recovering queue c Waiting of is) (on_is is_recovering queue x InRecovery was_of was))) refl

-- a CCB that does not wait is finished
pub finished_is : (queue openings : ℕ) (ccbs : List LiveCcb) (high number : ℕ) (x : LiveCcb) (s : CcbState) → AreRising 0 (map ccb_key ccbs) high → ccb_of number ccbs ≡ Some x → x.ccb.queue.0 ≡ queue → x.state ≡ s → is_waiting s ≡ false → queue_state_of queue openings (leave ccb_key number ccbs) ≡ with_gone (is_active s) (queue_state_of queue openings ccbs)
finished_is queue openings ccbs high number x Waiting rising found was_of was stands = absurd (let bad : true ≡ false = stands in cc)
finished_is queue openings ccbs high number x Active rising found was_of was stands =
    same_queue _ _ (pairs_gone (waits_on queue) 0 ccbs high number x rising found (on_is is_waiting queue x Active was_of was))
    (omega (arith, gone is_active queue ccbs high number x rising found true (on_is is_active queue x Active was_of was)))
    (omega (arith, gone is_recovering queue ccbs high number x rising found false (on_is is_recovering queue x Active was_of was))) refl
finished_is queue openings ccbs high number x InRecovery rising found was_of was stands =
    same_queue _ _ (pairs_gone (waits_on queue) 0 ccbs high number x rising found (on_is is_waiting queue x InRecovery was_of was))
    (omega (arith, gone is_active queue ccbs high number x rising found false (on_is is_active queue x InRecovery was_of was)))
    (omega (arith, gone is_recovering queue ccbs high number x rising found true (on_is is_recovering queue x InRecovery was_of was))) refl

pub finished_other : (queue openings : ℕ) (ccbs : List LiveCcb) (high number : ℕ) (x : LiveCcb) → AreRising 0 (map ccb_key ccbs) high → ccb_of number ccbs ≡ Some x → (x.ccb.queue.0 ≡ queue → ⊥) → queue_state_of queue openings (leave ccb_key number ccbs) ≡ queue_state_of queue openings ccbs
finished_other queue openings ccbs high number x rising found apart =
    same_queue _ _ (pairs_gone (waits_on queue) 0 ccbs high number x rising found (on_other is_waiting queue x apart))
    (omega (arith, gone is_active queue ccbs high number x rising found false (on_other is_active queue x apart)))
    (omega (arith, gone is_recovering queue ccbs high number x rising found false (on_other is_recovering queue x apart))) refl

-- a CCB that waits is withdrawn
pub withdrawn_is : (queue openings : ℕ) (ccbs : List LiveCcb) (high : ℕ) (number : CcbId) (x : LiveCcb) → AreRising 0 (map ccb_key ccbs) high → ccb_of number.0 ccbs ≡ Some x → x.ccb.queue.0 ≡ queue → x.state ≡ Waiting → queue_state_of queue openings (leave ccb_key number.0 ccbs) ≡ with_withdrawn number (queue_state_of queue openings ccbs)
withdrawn_is queue openings ccbs high number x rising found was_of was =
    same_queue _ _ (pairs_out (waits_on queue) 0 ccbs high number x rising found (on_is is_waiting queue x Waiting was_of was))
    (omega (arith, gone is_active queue ccbs high number.0 x rising found false (on_is is_active queue x Waiting was_of was)))
    (omega (arith, gone is_recovering queue ccbs high number.0 x rising found false (on_is is_recovering queue x Waiting was_of was))) refl

-- a CCB of which nothing changes that its queue knows
pub unchanged_is : (queue openings : ℕ) (ccbs : List LiveCcb) (high : ℕ) (c x : LiveCcb) → AreRising 0 (map ccb_key ccbs) high → ccb_of c.ccb.number.0 ccbs ≡ Some x → c.ccb.queue ≡ x.ccb.queue → c.state ≡ x.state → pair_of c ≡ pair_of x → queue_state_of queue openings (with_ccb c ccbs) ≡ queue_state_of queue openings ccbs
unchanged_is queue openings ccbs high c x rising found of is pair =
    let same : (kind : CcbState → Bool) → on kind queue c ≡ on kind queue x = λ kind i. on kind queue (record { ccb = record x.ccb { queue = of i }; state = is i }) in
    same_queue _ _ (pairs_put_same (waits_on queue) 0 ccbs high c x rising found (same is_waiting) pair)
    (omega (arith, moved is_active queue ccbs high c x rising found (on is_active queue x) (on is_active queue x) (same is_active) refl))
    (omega (arith, moved is_recovering queue ccbs high c x rising found (on is_recovering queue x) (on is_recovering queue x) (same is_recovering) refl)) refl

-- no CCB is of the queue
nothing_waits : (queue : ℕ) (ccbs : List LiveCcb) → All (λ (l : LiveCcb). l.ccb.queue.0 < queue) ccbs → pairs_of (waits_on queue) ccbs ≡ []
nothing_waits queue [] h = refl
nothing_waits queue (y ∷ ys) h =
    let below = All-head (λ (l : LiveCcb). l.ccb.queue.0 < queue) y ys h in
    pairs_no (waits_on queue) y ys (on_other is_waiting queue y (λ e. omega (arith, below, e)))
    ∙ nothing_waits queue ys (All-tail (λ (l : LiveCcb). l.ccb.queue.0 < queue) y ys h)

none_counted : (kind : CcbState → Bool) (queue : ℕ) (ccbs : List LiveCcb) → All (λ (l : LiveCcb). l.ccb.queue.0 < queue) ccbs → count_by (on kind queue) ccbs ≡ 0
none_counted kind queue [] h = refl
none_counted kind queue (y ∷ ys) h =
    let below = All-head (λ (l : LiveCcb). l.ccb.queue.0 < queue) y ys h in
    let all = sum_by-cons (λ (x : LiveCcb). cond (on kind queue x) 1 0) y ys in
    let here : one_if (on kind queue y) ≡ 0 = ap one_if (on_other kind queue y (λ e. omega (arith, below, e))) in
    omega (arith, all, here, none_counted kind queue ys (All-tail (λ (l : LiveCcb). l.ccb.queue.0 < queue) y ys h))

pub told_nothing : (queue openings : ℕ) (ccbs : List LiveCcb) → All (λ (l : LiveCcb). l.ccb.queue.0 < queue) ccbs → queue_state_of queue openings ccbs ≡ empty_queue openings
told_nothing queue openings ccbs h = same_queue _ _ (nothing_waits queue ccbs h) (none_counted is_active queue ccbs h) (none_counted is_recovering queue ccbs h) refl
