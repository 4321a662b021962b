-- What a table keeps is kept by one CCB more, by a change of one, by one fewer, and by one queue more; and what it says
-- of a CCB that is found.
use Rattle.std.proofs.Common.{◌≡◌, ℕ, zero, suc, ◌+◌, ◌<◌, ◌≤◌, List, [], ◌∷◌, ◌++◌, length, map, set, get_or, true, false, cond, Bool, Option, Some, inl, inr, refl, ap, sym, subst, ◌∙◌, arith}
use Rattle.std.specs.List.{All, count_by}
use Rattle.std.proofs.lemmas.Bool.{cases_eq}
use Rattle.std.proofs.lemmas.List.{map-set, get_or-set_same, get_or-set_other}
use Rattle.std.proofs.lemmas.List.Elements.{All-push, All-filter}
use Rattle.std.proofs.Math.ListN.{length-set}
use Rattle.ccb.specs.declared.CcbId.{CcbId}
use Rattle.ccb.specs.declared.QueueId.{QueueId}
use Rattle.dev_queue.specs.Waiting.{waits}
use Rattle.dev_queue.specs.State.{QueueState, empty_queue}
use Rattle.freeze_ledger.specs.State.{LedgerState}
use Rattle.world.specs.declared.ccb_state.CcbState.{CcbState}
use Rattle.world.specs.declared.ccb_state.CcbState.TheVariants.{Waiting, Active, InRecovery}
use Rattle.world.specs.World.{LiveCcb}
use Rattle.world.specs.Lookups.{is_waiting, is_active, ccb_of, with_ccb}
use Rattle.ccb.specs.Rising.{AreRising}
use Rattle.world.proofs.Lists.Found.{leave}
use Rattle.world.proofs.Lists.Each.{all_found, all_put}
use Rattle.world.proofs.Lists.Rising.{rising_push, rising_leave, missing_high, found_counts}
use Rattle.world.proofs.Steps.Moves.{ccb_key}
use Rattle.world.specs.World.{Transport}
use Rattle.engine_transport.specs.Listed.{ListState}
use Rattle.engine_transport.specs.Queues.{is_recovering, pair_of, waits_on, queue_state_of, queue_at, AreTold}
use Rattle.engine_transport.specs.Invariant.{KeepsTable, seen}
use Rattle.engine_transport.proofs.Listed.{numbered_put, listed_as}
use Rattle.engine_transport.proofs.Pairs.{waits_missing, waits_other, waits_there}
use Rattle.engine_transport.proofs.Told.{on, on_is, entered_other, changed_other, finished_other, unchanged_is}

-- one queue that learns, and others to which the change is nothing
told_set : (queues : List QueueState) (before after : List LiveCcb) (queue : ℕ) (new : QueueState) → AreTold queues before → queue < length queues → new ≡ queue_state_of queue (queue_at queues queue).openings after → ((other openings : ℕ) → (queue ≡ other → ⊥) → queue_state_of other openings after ≡ queue_state_of other openings before) → AreTold (set queues queue new) after
told_set queues before after queue new told known new_is others other below =
    let was : other < length queues = omega (arith, below, length-set queues queue new) in
    elim (cases_eq other queue) [
      | inl same ↦
          let here : queue_at (set queues queue new) queue ≡ new = get_or-set_same queues queue new (empty_queue 0) known in
          let fits : queue_at (set queues queue new) queue ≡ queue_state_of queue (queue_at (set queues queue new) queue).openings after =
          here ∙ (new_is ∙ ap (λ (o : ℕ). queue_state_of queue o after) (sym (ap (λ (q : QueueState). q.openings) (here ∙ new_is)))) in
          subst (λ (k : ℕ). queue_at (set queues queue new) k ≡ queue_state_of k (queue_at (set queues queue new) k).openings after) (sym same) fits
      | inr apart ↦
          let there : queue_at (set queues queue new) other ≡ queue_at queues other = get_or-set_other queues queue other new (empty_queue 0) apart in
          there ∙ (told other was ∙ (sym (others other (queue_at queues other).openings (λ e. apart (sym e)))
          ∙ ap (λ (q : QueueState). queue_state_of other q.openings after) (sym there)))
    ]

-- where the openings of the queue stay, those of all do
pub openings_set : (queues : List QueueState) (queue : ℕ) (new : QueueState) → new.openings ≡ (queue_at queues queue).openings → map (λ (q : QueueState). q.openings) (set queues queue new) ≡ map (λ (q : QueueState). q.openings) queues
openings_set [] queue new e = refl
openings_set (q ∷ qs) zero new e = ap (λ (o : ℕ). o ∷ map (λ (q : QueueState). q.openings) qs) e
openings_set (q ∷ qs) (suc queue) new e = ap (λ (os : List ℕ). q.openings ∷ os) (openings_set qs queue new e)

pub openings_at : (queues : List QueueState) (queue : ℕ) → get_or (map (λ (q : QueueState). q.openings) queues) queue 0 ≡ (queue_at queues queue).openings
openings_at [] queue = refl
openings_at (q ∷ qs) zero = refl
openings_at (q ∷ qs) (suc queue) = openings_at qs queue

-- what is known of a CCB that is found

pub known_queue : (list : ListState) (queues : List QueueState) (number : ℕ) (x : LiveCcb) → KeepsTable list queues → ccb_of number list.live ≡ Some x → x.ccb.queue.0 < length queues
known_queue list queues number x h found = all_found ccb_key (λ (l : LiveCcb). l.ccb.queue.0 < length queues) number list.live x h.known found

active_is : (s : CcbState) → is_active s ≡ true → s ≡ Active
active_is Waiting e = cc
active_is Active e = refl
active_is InRecovery e = cc

pub active_found : (x : LiveCcb) → is_active x.state ≡ true → x.state ≡ Active
active_found x e = active_is x.state e

counted : (kind : CcbState → Bool) (number : ℕ) (ccbs : List LiveCcb) (x : LiveCcb) (s : CcbState) → ccb_of number ccbs ≡ Some x → x.state ≡ s → kind s ≡ true → 1 ≤ count_by (on kind x.ccb.queue.0) ccbs
counted kind number ccbs x s found is holds =
    let one : cond {A = ℕ} (on kind x.ccb.queue.0 x) 1 0 ≡ 1 = ap (λ (b : Bool). cond {A = ℕ} b 1 0) (on_is kind x.ccb.queue.0 x s refl is ∙ holds) in
    omega (arith, one, found_counts ccb_key (on kind x.ccb.queue.0) number ccbs x found)

pub active_there : (list : ListState) (queues : List QueueState) (number : ℕ) (x : LiveCcb) → KeepsTable list queues → ccb_of number list.live ≡ Some x → x.state ≡ Active → 1 ≤ (queue_at queues x.ccb.queue.0).active
active_there list queues number x h found is =
    let told = ap (λ (q : QueueState). q.active) (h.told x.ccb.queue.0 (known_queue list queues number x h found)) in
    omega (arith, told, counted is_active number list.live x Active found is refl)

pub recovering_there : (list : ListState) (queues : List QueueState) (number : ℕ) (x : LiveCcb) → KeepsTable list queues → ccb_of number list.live ≡ Some x → x.state ≡ InRecovery → 1 ≤ (queue_at queues x.ccb.queue.0).recovering
recovering_there list queues number x h found is =
    let told = ap (λ (q : QueueState). q.recovering) (h.told x.ccb.queue.0 (known_queue list queues number x h found)) in
    omega (arith, told, counted is_recovering number list.live x InRecovery found is refl)

-- one of them, for a CCB that does not wait
pub counted_there : (list : ListState) (queues : List QueueState) (number : ℕ) (x : LiveCcb) (s : CcbState) → KeepsTable list queues → ccb_of number list.live ≡ Some x → x.state ≡ s → is_waiting s ≡ false → 1 ≤ cond (is_active s) (queue_at queues x.ccb.queue.0).active (queue_at queues x.ccb.queue.0).recovering
counted_there list queues number x Waiting h found is stands = absurd (let bad : true ≡ false = stands in cc)
counted_there list queues number x Active h found is stands = active_there list queues number x h found is
counted_there list queues number x InRecovery h found is stands = recovering_there list queues number x h found is

pub waits_not : (list : ListState) (queues : List QueueState) (number : CcbId) (x : LiveCcb) → KeepsTable list queues → ccb_of number.0 list.live ≡ Some x → x.state ≡ InRecovery → waits number (queue_at queues x.ccb.queue.0).waiting ≡ false
waits_not list queues number x h found is =
    ap (λ (q : QueueState). waits number q.waiting) (h.told x.ccb.queue.0 (known_queue list queues number.0 x h found))
    ∙ waits_other (waits_on x.ccb.queue.0) number 0 list.live list.greatest x h.rising found (on_is is_waiting x.ccb.queue.0 x InRecovery refl is)

-- one that waits does
pub waits_found : (list : ListState) (queues : List QueueState) (number : CcbId) (x : LiveCcb) → KeepsTable list queues → ccb_of number.0 list.live ≡ Some x → x.state ≡ Waiting → waits number (queue_at queues x.ccb.queue.0).waiting ≡ true
waits_found list queues number x h found is =
    ap (λ (q : QueueState). waits number q.waiting) (h.told x.ccb.queue.0 (known_queue list queues number.0 x h found))
    ∙ waits_there (waits_on x.ccb.queue.0) number list.live x found (on_is is_waiting x.ccb.queue.0 x Waiting refl is)

-- a number that was not given does not wait
pub waits_not_yet : (list : ListState) (queues : List QueueState) (queue : ℕ) (number : CcbId) → KeepsTable list queues → queue < length queues → list.greatest < number.0 → waits number (queue_at queues queue).waiting ≡ false
waits_not_yet list queues queue number h known above =
    ap (λ (q : QueueState). waits number q.waiting) (h.told queue known)
    ∙ waits_missing (waits_on queue) number list.live (missing_high ccb_key 0 list.live list.greatest number.0 above h.rising)

-- the steps

pub kept_changed : (list : ListState) (queues : List QueueState) (c x : LiveCcb) (queue : ℕ) (new : QueueState) → KeepsTable list queues → ccb_of c.ccb.number.0 list.live ≡ Some x → c.ccb.queue.0 ≡ queue → x.ccb.queue.0 ≡ queue → queue_state_of queue (queue_at queues queue).openings (with_ccb c list.live) ≡ new → KeepsTable (listed_as list.greatest (with_ccb c list.live)) (set queues queue new)
kept_changed list queues c x queue new h found of was_of new_is =
    let n = length-set queues queue new in
    let known : queue < length queues = omega (arith, known_queue list queues c.ccb.number.0 x h found, was_of) in
    record {
      rising = numbered_put list.live list.greatest c h.rising;
      known = subst (λ (k : ℕ). All (λ (l : LiveCcb). l.ccb.queue.0 < k) (with_ccb c list.live)) (sym n)
          (all_put ccb_key (λ (l : LiveCcb). l.ccb.queue.0 < length queues) c list.live (omega (arith, known, of)) h.known);
      told = told_set queues list.live (with_ccb c list.live) queue new h.told known (sym new_is)
          (λ other openings apart. changed_other other openings list.live list.greatest c x h.rising found (of ∙ sym was_of) (λ e. apart (sym was_of ∙ e)));
      few = omega (arith, n, h.few);
    }

-- a change that is nothing to its queue
pub kept_unchanged : (list : ListState) (queues : List QueueState) (c x : LiveCcb) → KeepsTable list queues → ccb_of c.ccb.number.0 list.live ≡ Some x → c.ccb.queue ≡ x.ccb.queue → c.state ≡ x.state → pair_of c ≡ pair_of x → KeepsTable (listed_as list.greatest (with_ccb c list.live)) queues
kept_unchanged list queues c x h found of is pair = record {
  rising = numbered_put list.live list.greatest c h.rising;
  known = all_put ccb_key (λ (l : LiveCcb). l.ccb.queue.0 < length queues) c list.live (omega (arith, known_queue list queues c.ccb.number.0 x h found, ap (λ (q : QueueId). q.0) of)) h.known;
  told = λ queue below. h.told queue below ∙ sym (unchanged_is queue (queue_at queues queue).openings list.live list.greatest c x h.rising found of is pair);
  few = h.few;
}

pub kept_left : (list : ListState) (queues : List QueueState) (number : ℕ) (x : LiveCcb) (new : QueueState) → KeepsTable list queues → ccb_of number list.live ≡ Some x → queue_state_of x.ccb.queue.0 (queue_at queues x.ccb.queue.0).openings (leave ccb_key number list.live) ≡ new → KeepsTable (listed_as list.greatest (leave ccb_key number list.live)) (set queues x.ccb.queue.0 new)
kept_left list queues number x new h found new_is =
    let n = length-set queues x.ccb.queue.0 new in
    let known = known_queue list queues number x h found in
    record {
      rising = rising_leave ccb_key 0 list.live list.greatest number h.rising;
      known = subst (λ (k : ℕ). All (λ (l : LiveCcb). l.ccb.queue.0 < k) (leave ccb_key number list.live)) (sym n)
          (All-filter _ (λ (l : LiveCcb). l.ccb.queue.0 < length queues) list.live h.known);
      told = told_set queues list.live (leave ccb_key number list.live) x.ccb.queue.0 new h.told known (sym new_is)
          (λ other openings apart. finished_other other openings list.live list.greatest number x h.rising found apart);
      few = omega (arith, n, h.few);
    }

pub kept_entered : (list : ListState) (queues : List QueueState) (c : LiveCcb) (new : QueueState) → KeepsTable list queues → c.ccb.number.0 ≡ list.greatest + 1 → c.ccb.queue.0 < length queues → queue_state_of c.ccb.queue.0 (queue_at queues c.ccb.queue.0).openings (list.live ++ c ∷ []) ≡ new → KeepsTable (listed_as c.ccb.number.0 (list.live ++ c ∷ [])) (set queues c.ccb.queue.0 new)
kept_entered list queues c new h next known new_is =
    let n = length-set queues c.ccb.queue.0 new in
    record {
      rising = subst (λ (k : ℕ). AreRising 0 (map ccb_key (list.live ++ c ∷ [])) k) (sym next) (rising_push ccb_key 0 list.live list.greatest c h.rising next);
      known = subst (λ (k : ℕ). All (λ (l : LiveCcb). l.ccb.queue.0 < k) (list.live ++ c ∷ [])) (sym n)
          (All-push (λ (l : LiveCcb). l.ccb.queue.0 < length queues) list.live c h.known known);
      told = told_set queues list.live (list.live ++ c ∷ []) c.ccb.queue.0 new h.told known (sym new_is)
          (λ other openings apart. entered_other other openings list.live c apart);
      few = omega (arith, n, h.few);
    }

-- the CCB that a look-up gave is the one that is asked for
pub record Meant (list : ListState) (number : ℕ) (live asked : LiveCcb) : Type 0 where
  pub found : ccb_of number list.live ≡ Some live
  pub same : live ≡ asked

pub meant : (ledger : LedgerState) (clock : ℕ) (list : ListState) (queues : List QueueState) (now : Transport) (number : ℕ) (answer : Option LiveCcb) (live asked : LiveCcb) → seen list queues ledger clock ≡ now → ccb_of number now.live ≡ Some asked → answer ≡ ccb_of number list.live → answer ≡ Some live → Meant list number live asked
meant ledger clock list queues now number answer live asked view asked_is answer_is live_is =
    let found : ccb_of number list.live ≡ Some live = sym answer_is ∙ live_is in
    let other : ccb_of number list.live ≡ Some asked = subst (λ (s : Transport). ccb_of number s.live ≡ Some asked) (sym view) asked_is in
    let both : Some live ≡ Some asked = sym found ∙ other in
    record { found = found; same = cc }

-- a queue has other openings
pub kept_opened : (list : ListState) (queues : List QueueState) (queue openings : ℕ) → KeepsTable list queues → queue < length queues → KeepsTable list (set queues queue (record (queue_at queues queue) { openings = openings }))
kept_opened list queues queue openings h known =
    record {
      rising = h.rising;
      known = subst (λ (k : ℕ). All (λ (l : LiveCcb). l.ccb.queue.0 < k) list.live) (sym n) h.known;
      told = fits;
      few = omega (arith, n, h.few);
    }
  where
    new : QueueState
    new = record (queue_at queues queue) { openings = openings }

    n : length (set queues queue new) ≡ length queues
    n = length-set queues queue new

    fits : AreTold (set queues queue new) list.live
    fits other below =
        elim (cases_eq other queue) [
          | inl same ↦
              let here : queue_at (set queues queue new) queue ≡ new = get_or-set_same queues queue new (empty_queue 0) known in
              let fits_here : queue_at (set queues queue new) queue ≡ queue_state_of queue (queue_at (set queues queue new) queue).openings list.live =
              here
              ∙ (ap (λ (q : QueueState). record q { openings = openings }) (h.told queue known)
              ∙ ap (λ (o : ℕ). queue_state_of queue o list.live) (sym (ap (λ (q : QueueState). q.openings) here))) in
              subst (λ (k : ℕ). queue_at (set queues queue new) k ≡ queue_state_of k (queue_at (set queues queue new) k).openings list.live) (sym same) fits_here
          | inr apart ↦
              let was : other < length queues = omega (arith, below, n) in
              let there : queue_at (set queues queue new) other ≡ queue_at queues other = get_or-set_other queues queue other new (empty_queue 0) apart in
              there ∙ (h.told other was ∙ ap (λ (q : QueueState). queue_state_of other q.openings list.live) (sym there))
        ]

pub opened_is : (ledger : LedgerState) (clock : ℕ) (list : ListState) (queues after : List QueueState) (now : Transport) (queue openings : ℕ) → seen list queues ledger clock ≡ now → after ≡ set queues queue (record (queue_at queues queue) { openings = openings }) → seen list after ledger clock ≡ record now { openings = set now.openings queue openings }
opened_is ledger clock list queues after now queue openings view made =
    subst (λ (s : Transport). seen list after ledger clock ≡ record s { openings = set s.openings queue openings }) view
    (λ i. record (seen list queues ledger clock) { openings = numbers i })
  where
    numbers : map (λ (q : QueueState). q.openings) after ≡ set (map (λ (q : QueueState). q.openings) queues) queue openings
    numbers = ap (λ (qs : List QueueState). map (λ (q : QueueState). q.openings) qs) made ∙ map-set (λ (q : QueueState). q.openings) queues queue (record (queue_at queues queue) { openings = openings })
