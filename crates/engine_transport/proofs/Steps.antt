-- What each call leaves: what the table keeps, and what contracts see of it.
use Rattle.std.proofs.Common.{◌≡◌, ℕ, ◌+◌, ◌<◌, List, [], ◌∷◌, ◌++◌, length, map, set, Bool, true, false, Option, Some, refl, ap, sym, subst, ◌∙◌, arith}
use Rattle.std.proofs.lemmas.List.{length-map}
use Rattle.ccb.specs.declared.CcbId.{CcbId}
use Rattle.ccb.specs.declared.ccb.Ccb.{Ccb}
use Rattle.ccb.specs.Ccb.{advised, started}
use Rattle.dev_queue.specs.Waiting.{IsLeastNumber}
use Rattle.dev_queue.specs.State.{QueueState, with_waiting, with_started, with_withdrawn, with_stopped, with_left}
use Rattle.freeze_ledger.specs.State.{LedgerState}
use Rattle.world.specs.declared.ccb_state.CcbState.TheVariants.{Waiting, Active, InRecovery}
use Rattle.world.specs.World.{LiveCcb}
use Rattle.world.specs.Lookups.{is_waiting, is_active, ccb_of, with_ccb, next_waiting}
use Rattle.world.proofs.Lists.Found.{leave}
use Rattle.world.proofs.Steps.Moves.{ccb_key, ccb_found}
use Rattle.world.specs.World.{Transport}
use Rattle.engine_transport.specs.Listed.{ListState}
use Rattle.engine_transport.specs.Queues.{pair_of, queue_at, with_gone}
use Rattle.ccb.specs.Places.{places_of}
use Rattle.engine_transport.specs.Invariant.{KeepsTable, KeepsTransport, seen}
use Rattle.engine_transport.proofs.Listed.{listed_as}
use Rattle.engine_transport.proofs.Told.{entered_is, started_is, recovering_is, requeued_is, finished_is, withdrawn_is}
use Rattle.engine_transport.proofs.Next.{Starts, least_starts}
use Rattle.engine_transport.proofs.Kept.{openings_set, known_queue, kept_changed, kept_unchanged, kept_left, kept_entered}

openings_gone : (active : Bool) (queue : QueueState) → (with_gone active queue).openings ≡ queue.openings
openings_gone true queue = refl
openings_gone false queue = refl

-- back among those that wait
abbrev pub again : LiveCcb → QueueState → QueueState
again c queue = with_waiting c.ccb.number c.ccb.priority (with_left queue)

-- the CCB that starts
pub next_one : (list : ListState) (queues : List QueueState) (queue : ℕ) (number : CcbId) → KeepsTable list queues → queue < length queues → IsLeastNumber (queue_at queues queue).waiting number → Starts queue list.live number
next_one list queues queue number h known least =
    least_starts queue list.live list.greatest number h.rising (subst (λ (q : QueueState). IsLeastNumber q.waiting number) (h.told queue known) least)

-- it is the one that a look-up by its number gave
pub record Dispatched (queue : ℕ) (list : ListState) (number : CcbId) (next : LiveCcb) (ccb : Ccb) : Type 0 where
  pub next_is : next_waiting queue list.live ≡ Some next
  pub number_is : next.ccb.number ≡ number
  pub queue_is : next.ccb.queue.0 ≡ queue
  pub state_is : next.state ≡ Waiting
  pub found : ccb_of ccb.number.0 list.live ≡ Some next

pub dispatched : (list : ListState) (queues : List QueueState) (queue : ℕ) (number : CcbId) (answer : Option LiveCcb) (next : LiveCcb) (ccb : Ccb) → KeepsTable list queues → queue < length queues → IsLeastNumber (queue_at queues queue).waiting number → answer ≡ ccb_of number.0 list.live → answer ≡ Some next → ccb ≡ started next.ccb → Dispatched queue list number next ccb
dispatched list queues queue number answer next ccb h known least answer_is next_there ccb_is =
    let s = next_one list queues queue number h known least in
    let both : Some s.it ≡ Some next = sym s.found ∙ (sym answer_is ∙ next_there) in
    let same : s.it ≡ next = cc in
    record {
      next_is = s.next ∙ both;
      number_is = ap (λ (l : LiveCcb). l.ccb.number) (sym same) ∙ s.number_is;
      queue_is = ap (λ (l : LiveCcb). l.ccb.queue.0) (sym same) ∙ s.queue_is;
      state_is = ap (λ (l : LiveCcb). l.state) (sym same) ∙ s.state_is;
      found = subst (λ (b : Ccb). ccb_of b.number.0 list.live ≡ Some next) (sym ccb_is) (ccb_found number.0 list.live next (sym answer_is ∙ next_there));
    }

-- the CCB as it stands in the list once it has started
abbrev pub as_active : Ccb → LiveCcb
as_active ccb = record { ccb = ccb; state = Active }

module _ (ledger : LedgerState) (clock : ℕ) where
  -- the table is kept, and contracts see this
  pub record After (list : ListState) (queues : List QueueState) (state : Transport) : Type 0 where
    pub kept : KeepsTable list queues
    pub seen_is : seen list queues ledger clock ≡ state

  pub seen_set : (list : ListState) (queues : List QueueState) (queue : ℕ) (new : QueueState) → new.openings ≡ (queue_at queues queue).openings → seen list (set queues queue new) ledger clock ≡ seen list queues ledger clock
  seen_set list queues queue new e = λ i. record (seen list queues ledger clock) { openings = openings_set queues queue new e i }

  -- said of what equals the list, the queues and the number of the queue
  carried : (f : QueueState → QueueState) (list after : ListState) (queues queues_after : List QueueState) (queue known_as : ℕ) (state : Transport) → after ≡ list → queues_after ≡ set queues known_as (f (queue_at queues known_as)) → known_as ≡ queue → After list (set queues queue (f (queue_at queues queue))) state → After after queues_after state
  carried f list after queues queues_after queue known_as state e es same h =
      let here : After list (set queues known_as (f (queue_at queues known_as))) state = subst (λ (q : ℕ). After list (set queues q (f (queue_at queues q))) state) (sym same) h in
      let there : After list queues_after state = subst (λ (qs : List QueueState). After list qs state) (sym es) here in
      subst (λ (l : ListState). After l queues_after state) (sym e) there

  pub finished : (list after : ListState) (queues queues_after : List QueueState) (number known_as : ℕ) (active : Bool) (x : LiveCcb) → KeepsTable list queues → ccb_of number list.live ≡ Some x → is_waiting x.state ≡ false → active ≡ is_active x.state → after ≡ listed_as list.greatest (leave ccb_key number list.live) → queues_after ≡ set queues known_as (with_gone active (queue_at queues known_as)) → known_as ≡ x.ccb.queue.0 → After after queues_after (seen (listed_as list.greatest (leave ccb_key number list.live)) queues ledger clock)
  finished list after queues queues_after number known_as active x h found stands is e es same =
      let out : QueueState → QueueState = with_gone (is_active x.state) in
      let told = h.told x.ccb.queue.0 (known_queue list queues number x h found) in
      let new = finished_is x.ccb.queue.0 (queue_at queues x.ccb.queue.0).openings list.live list.greatest number x x.state h.rising found refl refl stands ∙ ap out (sym told) in
      carried out (listed_as list.greatest (leave ccb_key number list.live)) after queues queues_after x.ccb.queue.0 known_as _ e
      (es ∙ ap (λ (b : Bool). set queues known_as (with_gone b (queue_at queues known_as))) is) same
      (record {
        kept = kept_left list queues number x (out (queue_at queues x.ccb.queue.0)) h found new;
        seen_is = seen_set (listed_as list.greatest (leave ccb_key number list.live)) queues x.ccb.queue.0 (out (queue_at queues x.ccb.queue.0)) (openings_gone (is_active x.state) (queue_at queues x.ccb.queue.0));
      })

  pub withdrawn : (list after : ListState) (queues queues_after : List QueueState) (number : CcbId) (known_as : ℕ) (x : LiveCcb) → KeepsTable list queues → ccb_of number.0 list.live ≡ Some x → x.state ≡ Waiting → after ≡ listed_as list.greatest (leave ccb_key number.0 list.live) → queues_after ≡ set queues known_as (with_withdrawn number (queue_at queues known_as)) → known_as ≡ x.ccb.queue.0 → After after queues_after (seen (listed_as list.greatest (leave ccb_key number.0 list.live)) queues ledger clock)
  withdrawn list after queues queues_after number known_as x h found was e es same =
      let told = h.told x.ccb.queue.0 (known_queue list queues number.0 x h found) in
      let new = withdrawn_is x.ccb.queue.0 (queue_at queues x.ccb.queue.0).openings list.live list.greatest number x h.rising found refl was ∙ ap (with_withdrawn number) (sym told) in
      carried (with_withdrawn number) (listed_as list.greatest (leave ccb_key number.0 list.live)) after queues queues_after x.ccb.queue.0 known_as _ e es same
      (record {
        kept = kept_left list queues number.0 x (with_withdrawn number (queue_at queues x.ccb.queue.0)) h found new;
        seen_is = seen_set (listed_as list.greatest (leave ccb_key number.0 list.live)) queues x.ccb.queue.0 (with_withdrawn number (queue_at queues x.ccb.queue.0)) refl;
      })

  -- what is advised is nothing to the queues
  pub advised_one : (list after : ListState) (queues : List QueueState) (c x : LiveCcb) (word : ℕ) → KeepsTable list queues → c ≡ record x { ccb = advised x.ccb word } → ccb_of c.ccb.number.0 list.live ≡ Some x → after ≡ listed_as list.greatest (with_ccb c list.live) → After after queues (seen (listed_as list.greatest (with_ccb c list.live)) queues ledger clock)
  advised_one list after queues c x word h is found e =
      subst (λ (l : ListState). After l queues (seen (listed_as list.greatest (with_ccb c list.live)) queues ledger clock)) (sym e)
      (record {
        kept = kept_unchanged list queues c x h found (ap (λ (l : LiveCcb). l.ccb.queue) is) (ap (λ (l : LiveCcb). l.state) is) (ap pair_of is);
        seen_is = refl;
      })

  pub recovered : (list after : ListState) (queues queues_after : List QueueState) (known_as : ℕ) (c x : LiveCcb) → KeepsTable list queues → ccb_of c.ccb.number.0 list.live ≡ Some x → x.state ≡ Active → c.state ≡ InRecovery → c.ccb.queue.0 ≡ x.ccb.queue.0 → after ≡ listed_as list.greatest (with_ccb c list.live) → queues_after ≡ set queues known_as (with_stopped true (queue_at queues known_as)) → known_as ≡ x.ccb.queue.0 → After after queues_after (seen (listed_as list.greatest (with_ccb c list.live)) queues ledger clock)
  recovered list after queues queues_after known_as c x h found was is stays e es same =
      let told = h.told x.ccb.queue.0 (known_queue list queues c.ccb.number.0 x h found) in
      let new = recovering_is x.ccb.queue.0 (queue_at queues x.ccb.queue.0).openings list.live list.greatest c x h.rising found stays refl is was ∙ ap (with_stopped true) (sym told) in
      carried (with_stopped true) (listed_as list.greatest (with_ccb c list.live)) after queues queues_after x.ccb.queue.0 known_as _ e es same
      (record {
        kept = kept_changed list queues c x x.ccb.queue.0 (with_stopped true (queue_at queues x.ccb.queue.0)) h found stays refl new;
        seen_is = seen_set (listed_as list.greatest (with_ccb c list.live)) queues x.ccb.queue.0 (with_stopped true (queue_at queues x.ccb.queue.0)) refl;
      })

  pub requeued_one : (list after : ListState) (queues queues_after : List QueueState) (known_as : ℕ) (c x : LiveCcb) → KeepsTable list queues → ccb_of c.ccb.number.0 list.live ≡ Some x → x.state ≡ InRecovery → c.state ≡ Waiting → c.ccb.queue.0 ≡ x.ccb.queue.0 → after ≡ listed_as list.greatest (with_ccb c list.live) → queues_after ≡ set queues known_as (again c (queue_at queues known_as)) → known_as ≡ x.ccb.queue.0 → After after queues_after (seen (listed_as list.greatest (with_ccb c list.live)) queues ledger clock)
  requeued_one list after queues queues_after known_as c x h found was is stays e es same =
      let told = h.told x.ccb.queue.0 (known_queue list queues c.ccb.number.0 x h found) in
      let new = requeued_is x.ccb.queue.0 (queue_at queues x.ccb.queue.0).openings list.live list.greatest c x h.rising found stays refl is was ∙ ap (again c) (sym told) in
      carried (again c) (listed_as list.greatest (with_ccb c list.live)) after queues queues_after x.ccb.queue.0 known_as _ e es same
      (record {
        kept = kept_changed list queues c x x.ccb.queue.0 (again c (queue_at queues x.ccb.queue.0)) h found stays refl new;
        seen_is = seen_set (listed_as list.greatest (with_ccb c list.live)) queues x.ccb.queue.0 (again c (queue_at queues x.ccb.queue.0)) refl;
      })

  pub started_one : (list after : ListState) (queues queues_after : List QueueState) (known_as : ℕ) (c x : LiveCcb) → KeepsTable list queues → ccb_of c.ccb.number.0 list.live ≡ Some x → x.state ≡ Waiting → c.state ≡ Active → c.ccb.queue.0 ≡ x.ccb.queue.0 → after ≡ listed_as list.greatest (with_ccb c list.live) → queues_after ≡ set queues known_as (with_started c.ccb.number (queue_at queues known_as)) → known_as ≡ x.ccb.queue.0 → After after queues_after (seen (listed_as list.greatest (with_ccb c list.live)) queues ledger clock)
  started_one list after queues queues_after known_as c x h found was is stays e es same =
      let told = h.told x.ccb.queue.0 (known_queue list queues c.ccb.number.0 x h found) in
      let new = started_is x.ccb.queue.0 (queue_at queues x.ccb.queue.0).openings list.live list.greatest c x h.rising found stays refl is was ∙ ap (with_started c.ccb.number) (sym told) in
      carried (with_started c.ccb.number) (listed_as list.greatest (with_ccb c list.live)) after queues queues_after x.ccb.queue.0 known_as _ e es same
      (record {
        kept = kept_changed list queues c x x.ccb.queue.0 (with_started c.ccb.number (queue_at queues x.ccb.queue.0)) h found stays refl new;
        seen_is = seen_set (listed_as list.greatest (with_ccb c list.live)) queues x.ccb.queue.0 (with_started c.ccb.number (queue_at queues x.ccb.queue.0)) refl;
      })

  pub entered_one : (list after : ListState) (queues queues_after : List QueueState) (known_as : ℕ) (c : LiveCcb) → KeepsTable list queues → c.ccb.number.0 ≡ list.greatest + 1 → c.ccb.queue.0 < length queues → c.state ≡ Waiting → after ≡ listed_as c.ccb.number.0 (list.live ++ c ∷ []) → queues_after ≡ set queues known_as (with_waiting c.ccb.number c.ccb.priority (queue_at queues known_as)) → known_as ≡ c.ccb.queue.0 → After after queues_after (seen (listed_as c.ccb.number.0 (list.live ++ c ∷ [])) queues ledger clock)
  entered_one list after queues queues_after known_as c h next known is e es same =
      let told = h.told c.ccb.queue.0 known in
      let new = entered_is (queue_at queues c.ccb.queue.0).openings list.live list.greatest c h.rising (omega (arith, next)) is ∙ ap (with_waiting c.ccb.number c.ccb.priority) (sym told) in
      carried (with_waiting c.ccb.number c.ccb.priority) (listed_as c.ccb.number.0 (list.live ++ c ∷ [])) after queues queues_after c.ccb.queue.0 known_as _ e es same
      (record {
        kept = kept_entered list queues c (with_waiting c.ccb.number c.ccb.priority (queue_at queues c.ccb.queue.0)) h next known new;
        seen_is = seen_set (listed_as c.ccb.number.0 (list.live ++ c ∷ [])) queues c.ccb.queue.0 (with_waiting c.ccb.number c.ccb.priority (queue_at queues c.ccb.queue.0)) refl;
      })

  pub dispatched_after : (list after : ListState) (queues queues_after : List QueueState) (queue : ℕ) (number : CcbId) (next : LiveCcb) (ccb : Ccb) → KeepsTable list queues → Dispatched queue list number next ccb → ccb ≡ started next.ccb → after ≡ listed_as list.greatest (with_ccb (as_active ccb) list.live) → queues_after ≡ set queues queue (with_started number (queue_at queues queue)) → After after queues_after (seen (listed_as list.greatest (with_ccb (as_active (started next.ccb)) list.live)) queues ledger clock)
  dispatched_after list after queues queues_after queue number next ccb h d ccb_is e es =
      subst (λ (b : Ccb). After after queues_after (seen (listed_as list.greatest (with_ccb (as_active b) list.live)) queues ledger clock)) ccb_is
      (started_one list after queues queues_after queue (as_active ccb) next h d.found d.state_is refl (ap (λ (b : Ccb). b.queue.0) ccb_is) e
      (es ∙ ap (λ (n : CcbId). set queues queue (with_started n (queue_at queues queue))) (sym (ap (λ (b : Ccb). b.number) ccb_is ∙ d.number_is))) (sym d.queue_is))

  -- the ledger is for the queues still
  pub kept_on : (list after : ListState) (queues queues_after : List QueueState) (state : Transport) → KeepsTransport list queues ledger → After after queues_after state → state.openings ≡ map (λ (q : QueueState). q.openings) queues → KeepsTransport after queues_after ledger
  kept_on list after queues queues_after state k it same = record {
    table = it.kept;
    places = k.places
        ∙ ap (λ (n : ℕ). places_of n 8) (sym (length-map queues (λ (q : QueueState). q.openings))
        ∙ (ap length (sym same) ∙ (ap (λ (s : Transport). length s.openings) (sym it.seen_is) ∙ length-map queues_after (λ (q : QueueState). q.openings))));
  }
