-- What the records keep is kept by one run more, by a change of one, and by one fewer; and what is seen of them then.
use Rattle.std.proofs.Common.{◌≡◌, ℕ, ◌+◌, ◌<◌, ◌≤◌, List, [], ◌∷◌, ◌++◌, map, length, get_or, set, false, leb, Option, None, ap, sym, subst, ◌∙◌, arith, length-append}
use Rattle.std.specs.List.{remove}
use Rattle.std.proofs.lemmas.Bool.{or_parts, leb-false}
use Rattle.std.proofs.lemmas.List.{map_push, map-set}
use Rattle.std.proofs.lemmas.List.Edits.{length-remove}
use Rattle.std.proofs.Math.ListN.{length-set}
use Rattle.freeze_ledger.specs.declared.freeze.Freeze.{Freeze}
use Rattle.helpers.specs.Table.{of_queues}
use Rattle.ccb.specs.Rising.{AreRising}
use Rattle.cam_numbered_slots.specs.NumberedState.{NumberedState}
use Rattle.cam_numbered_slots.proofs.Numbers.{map_remove, rising_more}
use Rattle.world.specs.World.{LiveRun, Runs, Setup, World, opening}
use Rattle.world.specs.CcbSteps.{run_meets_limit}
use Rattle.world.proofs.Lists.Found.{put_keys}
use Rattle.world.proofs.Lists.Rising.{rising_push, rising_leave}
use Rattle.engine_runs.specs.declared.run_record.RunRecord.{RunRecord}
use Rattle.engine_runs.specs.LiveRuns.{live_of, lives_of, number_of}
use Rattle.engine_runs.specs.RunsState.{seen, tokens_in}
use Rattle.engine_runs.specs.Invariant.{KeepsRuns}
use Rattle.engine_runs.proofs.Records.{key_of, own, record_changed, record_kept, record_removed}

-- a further run meets no limit
abbrev pub HasRoom : Runs → Type 0
HasRoom runs = (world : World) → run_meets_limit (record world { runs = runs }) ≡ false

some_setup : Setup
some_setup = record { limits = of_queues 0 []; controllers = 0; tables = []; queues = []; carried = None }

-- then there is room, and a further number
pub has_room : (runs : Runs) → HasRoom runs → (length runs.list < 256) × (runs.greatest < 4294967295)
has_room runs h =
    let parts = or_parts (leb 256 (length runs.list)) (leb 4294967295 runs.greatest) (h (opening some_setup)) in
    (leb-false _ _ parts.0, leb-false _ _ parts.1)

-- what is seen, from what is seen of the records
pub seen_is : (rs : List RunRecord) (greatest : ℕ) (tables : List (List ℕ)) (list : List LiveRun) (tokens : List (List (Option Freeze))) → lives_of rs ≡ list → map tokens_in rs ≡ tokens → seen rs greatest tables ≡ record { runs = record { list = list; greatest = greatest; tables = tables }; tokens = tokens }
seen_is rs greatest tables list tokens lives held = λ i. record { runs = record { list = lives i; greatest = greatest; tables = tables }; tokens = held i }

-- with a further one the numbers rise too
pub rises_on : (s : NumberedState RunRecord) (greatest : ℕ) → KeepsRuns s greatest → AreRising 0 (s.numbers ++ (greatest + 1) ∷ []) (greatest + 1)
rises_on s greatest k =
    rising_more 0 s.numbers greatest (greatest + 1) (subst (λ (ns : List ℕ). AreRising 0 ns greatest) (sym k.numbered) (own s.values greatest k.rising)) (omega arith)

-- nor do they cease to where numbers up to a greater one are passed over
rises_up : (low : ℕ) (ns : List ℕ) (high more : ℕ) → AreRising low ns high → high ≤ more → AreRising low ns more
rises_up low [] high more rising up = omega (arith, rising, up)
rises_up low (n ∷ ns) high more rising up = (rising.0, rises_up n ns high more rising.1 up)

pub kept_passed : (s : NumberedState RunRecord) (greatest more : ℕ) → KeepsRuns s greatest → greatest ≤ more → KeepsRuns s more
kept_passed s greatest more k up = record {
  numbered = k.numbered;
  rising = rises_up 0 (map number_of (lives_of s.values)) greatest more k.rising up;
  within = k.within;
  room = k.room;
}

-- one more run
pub kept_started : (s : NumberedState RunRecord) (greatest : ℕ) (r : RunRecord) → KeepsRuns s greatest → length s.values < 256 → r.number ≡ greatest + 1 → KeepsRuns (record s { numbers = s.numbers ++ r.number ∷ []; values = s.values ++ r ∷ [] }) (greatest + 1)
kept_started s greatest r k few number = record {
  numbered = ap (λ (ns : List ℕ). ns ++ r.number ∷ []) k.numbered ∙ sym (map_push key_of s.values r);
  rising = subst (λ (ls : List LiveRun). AreRising 0 (map number_of ls) (greatest + 1)) (sym (map_push live_of s.values r)) (rising_push number_of 0 (lives_of s.values) greatest (live_of r) k.rising number);
  within = omega (arith, length-append s.values (r ∷ []), few);
  room = k.room;
}

rising_changed : (rs : List RunRecord) (greatest k : ℕ) (c d : RunRecord) → AreRising 0 (map number_of (lives_of rs)) greatest → k < length rs → (get_or rs k d).number ≡ c.number → AreRising 0 (map number_of (lives_of (set rs k c))) greatest
rising_changed rs greatest k c d h l e =
    subst (λ (ns : List ℕ). AreRising 0 ns greatest)
    (sym (ap (map number_of) (record_changed rs greatest k c d h l e) ∙ put_keys number_of (live_of c) (lives_of rs))) h

-- a run that changed, but for its number
pub kept_changed : (s : NumberedState RunRecord) (greatest i : ℕ) (r c : RunRecord) → KeepsRuns s greatest → i < length s.values → r ≡ get_or s.values i r → c.number ≡ r.number → KeepsRuns (record s { values = set s.values i c }) greatest
kept_changed s greatest i r c k l is number = record {
  numbered = k.numbered ∙ sym (record_kept key_of s.values i r c l is number);
  rising = rising_changed s.values greatest i c r k.rising l (sym (ap key_of is) ∙ sym number);
  within = omega (arith, length-set s.values i c, k.within);
  room = k.room;
}

-- one run fewer
pub kept_ended : (s left : NumberedState RunRecord) (greatest i n : ℕ) (d : RunRecord) → KeepsRuns s greatest → i < length s.values → (get_or s.values i d).number ≡ n → left ≡ record s { numbers = remove s.numbers i; values = remove s.values i } → KeepsRuns left greatest
kept_ended s left greatest i n d k l e is = rw is record {
  numbered = ap (λ (ns : List ℕ). remove ns i) k.numbered ∙ sym (map_remove key_of s.values i l);
  rising = subst (λ (ls : List LiveRun). AreRising 0 (map number_of ls) greatest) (sym (record_removed s.values greatest i n d k.rising l e)) (rising_leave number_of 0 (lives_of s.values) greatest n k.rising);
  within = omega (arith, length-remove s.values i l, k.within);
  room = k.room;
}

-- a run that changed what it has the right to give back
pub tokens_set : (rs : List RunRecord) (greatest : ℕ) (tables : List (List ℕ)) (place : ℕ) (r c : RunRecord) (tokens : List (Option Freeze)) → place < length rs → r ≡ get_or rs place r → live_of c ≡ live_of r → tokens_in c ≡ tokens → seen (set rs place c) greatest tables ≡ record (seen rs greatest tables) { tokens = set (map tokens_in rs) place tokens }
tokens_set rs greatest tables place r c tokens l is same held =
    seen_is _ greatest tables _ _ (record_kept live_of rs place r c l is same) (map-set tokens_in rs place c ∙ ap (λ ts. set (map tokens_in rs) place ts) held)
