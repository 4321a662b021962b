-- What the list of live CCBs keeps is kept by one more at the end, by a change of one, and by one fewer.
use Rattle.std.proofs.Common.{◌≡◌, ℕ, ◌+◌, ◌<◌, ◌≤◌, List, [], ◌∷◌, ◌++◌, length, map, get_or, set, cond, Option, Some, None, IfSome, IfNone, Contains, ap, sym, subst, ◌∙◌, arith, length-append}
use Rattle.std.specs.List.{remove}
use Rattle.std.proofs.lemmas.List.{map_push}
use Rattle.std.proofs.lemmas.List.Edits.{length-remove}
use Rattle.std.proofs.lemmas.List.Sums.{sum_by_push}
use Rattle.std.proofs.Math.ListN.{length-set}
use Rattle.world.specs.World.{LiveCcb}
use Rattle.world.specs.Lookups.{is_active, ccb_of, with_ccb}
use Rattle.ccb.specs.Rising.{AreRising}
use Rattle.world.proofs.Lists.Found.{leave, put_keys}
use Rattle.world.proofs.Lists.Rising.{rising_push, rising_leave, count_put, count_gone}
use Rattle.world.proofs.Lists.Placed.{found_at, set_is_put, remove_is_leave}
use Rattle.world.proofs.Steps.Moves.{ccb_key}
use Rattle.cam_numbered_slots.specs.NumberedState.{NumberedState, IsPlaceOf as HasNumberAt}
use Rattle.cam_numbered_slots.proofs.Found.{absent, stands}
use Rattle.cam_numbered_slots.proofs.Numbers.{map_remove, rising_more}
use Rattle.engine_transport.specs.Listed.{ListState, IsListed, IsPlaceOf}

-- the list that contracts see
abbrev pub listed_as : ℕ → List LiveCcb → ListState
listed_as greatest ccbs = record { live = ccbs; greatest = greatest }

-- a change keeps the numbers
pub numbered_put : (ccbs : List LiveCcb) (high : ℕ) (c : LiveCcb) → AreRising 0 (map ccb_key ccbs) high → AreRising 0 (map ccb_key (with_ccb c ccbs)) high
numbered_put ccbs high c h = subst (λ (ns : List ℕ). AreRising 0 ns high) (sym (put_keys ccb_key c ccbs)) h

abbrev pub counts : LiveCcb → ℕ
counts c = cond (is_active c.state) 1 0

-- as a look-up by number says
pub place_is : (s : NumberedState LiveCcb) (greatest active number place : ℕ) → IsListed s greatest active → HasNumberAt number s.numbers place → IsPlaceOf number s.values place
place_is s greatest active number place h found =
    let it = stands ccb_key number s.numbers s.values place h.numbered found in
    record { within = it.0; here = it.1 }

pub not_there : (s : NumberedState LiveCcb) (greatest active number : ℕ) → IsListed s greatest active → (Contains s.numbers number → ⊥) → ccb_of number s.values ≡ None
not_there s greatest active number h none =
    absent ccb_key number s.values (subst (λ (ns : List ℕ). Contains ns number → ⊥) h.numbered none)

-- the same of what may have been found
pub place_found : (s : NumberedState LiveCcb) (greatest active number : ℕ) (o : Option ℕ) → IsListed s greatest active → IfSome o (HasNumberAt number s.numbers) → IfSome o (IsPlaceOf number s.values)
place_found s greatest active number None h found = tt
place_found s greatest active number (Some place) h found = place_is s greatest active number place h found

pub not_there_if : (s : NumberedState LiveCcb) (greatest active number : ℕ) (o : Option ℕ) → IsListed s greatest active → IfNone o (Contains s.numbers number → ⊥) → IfNone o (ccb_of number s.values ≡ None)
not_there_if s greatest active number None h none = not_there s greatest active number h none
not_there_if s greatest active number (Some place) h none = tt

-- the CCB at the place is the one of the number
pub placed : (ccbs : List LiveCcb) (greatest number place : ℕ) (it : LiveCcb) → AreRising 0 (map ccb_key ccbs) greatest → IsPlaceOf number ccbs place → it ≡ get_or ccbs place it → ccb_of number ccbs ≡ Some it
placed ccbs greatest number place it rising p e = found_at ccb_key 0 ccbs greatest place number it p.within rising (p.here it) ∙ ap Some (sym e)

-- numbers rise up to any greater one
pub rises_up : (low : ℕ) (ns : List ℕ) (high more : ℕ) → AreRising low ns high → high ≤ more → AreRising low ns more
rises_up low [] high more rising up = omega (arith, rising, up)
rises_up low (n ∷ ns) high more rising up = (rising.0, rises_up n ns high more rising.1 up)

-- with a further one the numbers rise too
pub rises_on : (s : NumberedState LiveCcb) (greatest active : ℕ) (c : LiveCcb) → IsListed s greatest active → c.ccb.number.0 ≡ greatest + 1 → AreRising 0 (s.numbers ++ c.ccb.number.0 ∷ []) c.ccb.number.0
rises_on s greatest active c h next =
    rising_more 0 s.numbers greatest c.ccb.number.0 (subst (λ (ns : List ℕ). AreRising 0 ns greatest) (sym h.numbered) h.rising) (omega (arith, next))

pub listed_push : (s : NumberedState LiveCcb) (greatest active : ℕ) (c : LiveCcb) → IsListed s greatest active → length s.values < 4096 → c.ccb.number.0 ≡ greatest + 1 → (now : ℕ) → now ≡ active + counts c → IsListed (record s { numbers = s.numbers ++ c.ccb.number.0 ∷ []; values = s.values ++ c ∷ [] }) c.ccb.number.0 now
listed_push s greatest active c h few next now now_is = record {
  numbered = ap (λ (ns : List ℕ). ns ++ c.ccb.number.0 ∷ []) h.numbered ∙ sym (map_push ccb_key s.values c);
  rising = subst (λ (n : ℕ). AreRising 0 (map ccb_key (s.values ++ c ∷ [])) n) (sym next) (rising_push ccb_key 0 s.values greatest c h.rising next);
  within = omega (arith, length-append s.values (c ∷ []));
  room = h.room;
  counted = omega (arith, sum_by_push counts s.values c, h.counted, now_is);
}

-- a change by place is one by number
pub set_is : (ccbs : List LiveCcb) (greatest place : ℕ) (c : LiveCcb) → AreRising 0 (map ccb_key ccbs) greatest → IsPlaceOf c.ccb.number.0 ccbs place → set ccbs place c ≡ with_ccb c ccbs
set_is ccbs greatest place c rising p = set_is_put ccb_key 0 ccbs greatest place c c p.within rising (p.here c)

pub remove_is : (ccbs : List LiveCcb) (greatest number place : ℕ) (it : LiveCcb) → AreRising 0 (map ccb_key ccbs) greatest → IsPlaceOf number ccbs place → remove ccbs place ≡ leave ccb_key number ccbs
remove_is ccbs greatest number place it rising p = remove_is_leave ccb_key 0 ccbs greatest place number it p.within rising (p.here it)

pub listed_put : (s : NumberedState LiveCcb) (greatest active place : ℕ) (c it : LiveCcb) → IsListed s greatest active → IsPlaceOf c.ccb.number.0 s.values place → it ≡ get_or s.values place it → (now : ℕ) → now + counts it ≡ active + counts c → IsListed (record s { values = set s.values place c }) greatest now
listed_put s greatest active place c it h p e now now_is =
    let same : set s.values place c ≡ with_ccb c s.values = set_is s.values greatest place c h.rising p in
    let found = placed s.values greatest c.ccb.number.0 place it h.rising p e in
    record {
      numbered = rw same (h.numbered ∙ sym (put_keys ccb_key c s.values));
      rising = rw same (numbered_put s.values greatest c h.rising);
      within = omega (arith, length-set s.values place c, h.within);
      room = h.room;
      counted = rw same (omega (arith, count_put ccb_key (λ (l : LiveCcb). is_active l.state) 0 s.values greatest c it h.rising found, h.counted, now_is));
    }

pub listed_remove : (s left : NumberedState LiveCcb) (greatest active place number : ℕ) (it : LiveCcb) → IsListed s greatest active → IsPlaceOf number s.values place → it ≡ get_or s.values place it → left ≡ record s { numbers = remove s.numbers place; values = remove s.values place } → (now : ℕ) → now + counts it ≡ active → IsListed left greatest now
listed_remove s left greatest active place number it h p e is now now_is =
    let same : remove s.values place ≡ leave ccb_key number s.values = remove_is s.values greatest number place it h.rising p in
    let found = placed s.values greatest number place it h.rising p e in
    rw is record {
      numbered = ap (λ (ns : List ℕ). remove ns place) h.numbered ∙ sym (map_remove ccb_key s.values place p.within);
      rising = rw same (rising_leave ccb_key 0 s.values greatest number h.rising);
      within = omega (arith, length-remove s.values place p.within, h.within);
      room = h.room;
      counted = rw same (omega (arith, count_gone ccb_key (λ (l : LiveCcb). is_active l.state) 0 s.values greatest number it h.rising found, h.counted, now_is));
    }
