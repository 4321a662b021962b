-- What an index over slots keeps is kept by a value more, by one that is changed and by one fewer; and what is seen of it.
use Rattle.std.proofs.Common.{◌≡◌, ℕ, ◌<◌, ◌≤◌, List, [], ◌∷◌, ◌++◌, length, get_or, set, Option, Some, None, ap, sym, subst, ◌∙◌, arith}
use Rattle.std.specs.List.{remove}
use Rattle.std.specs.Vec.{vec_capacity}
use Rattle.std.specs.declared.vec.Vec.{Vec}
use Rattle.std.specs.declared.alloc.Global.{Global}
use Rattle.std.proofs.lemmas.List.{get_or-map, length-map, map_push, length-set}
use Rattle.ccb.specs.Rising.{AreRising}
use Rattle.cam_numbered_slots.specs.declared.numbered_slots.Entry.{Entry}
use Rattle.cam_numbered_slots.specs.Invariant.{AreSlots, KeepsSlots, IsFull, numbers_of, used_by, value_at, values_in, seen}
use Rattle.cam_numbered_slots.proofs.Values.{values_length, found_there}
use Rattle.cam_numbered_slots.proofs.Numbers.{map_remove, rising_remove}
use Rattle.cam_numbered_slots.proofs.Laid.{slots_taken, slots_changed, values_taken, values_changed}

abbrev pub number_in : Entry → ℕ
number_in entry = entry.number

abbrev pub slot_in : Entry → ℕ
slot_in entry = entry.slot

-- the slot of the entry at a place
pub slot_there : (index : List Entry) (place : ℕ) (e : Entry) → place < length index → e ≡ get_or index place e → get_or (used_by index) place 0 ≡ e.slot
slot_there index place e l is = get_or-map slot_in index place e 0 l ∙ ap slot_in (sym is)

used_within : (index : List Entry) (place : ℕ) → place < length index → place < length (used_by index)
used_within index place l = omega (arith, length-map index slot_in)

module _ {T : Type 0} where
  -- what is seen, part by part
  pub seen_is : (index : List Entry) (slots : List (Option T)) (most : ℕ) (numbers : List ℕ) (values : List T) (room : ℕ) → numbers_of index ≡ numbers → values_in (used_by index) slots ≡ values → most ≡ room → seen index slots most ≡ record { numbers = numbers; values = values; most = room }
  seen_is index slots most numbers values room ns vs ms = λ i. record { numbers = ns i; values = vs i; most = ms i }

  pub values_count : (index : Vec Entry Global) (slots : Vec (Option T) Global) (free : Vec ℕ Global) → KeepsSlots index slots free → length (values_in (used_by index.items) slots.items) ≡ length index.items
  values_count index slots free k = values_length (value_at slots.items) (used_by index.items) k.slots.full ∙ length-map index.items slot_in

  pub place_within : (index : Vec Entry Global) (slots : Vec (Option T) Global) (free : Vec ℕ Global) (place : ℕ) → KeepsSlots index slots free → place < length (values_in (used_by index.items) slots.items) → place < length index.items
  place_within index slots free place k l = omega (arith, values_count index slots free k)

  pub full_there : (index : Vec Entry Global) (slots : Vec (Option T) Global) (free : Vec ℕ Global) (place : ℕ) (e : Entry) → KeepsSlots index slots free → place < length index.items → e ≡ get_or index.items place e → IsFull slots.items e.slot
  full_there index slots free place e k l is =
      subst (IsFull slots.items) (slot_there index.items place e l is) (k.slots.full place 0 (used_within index.items place l))

  -- and the value in it is the one of the place
  pub value_there : (index : Vec Entry Global) (slots : Vec (Option T) Global) (free : Vec ℕ Global) (place : ℕ) (e : Entry) (v : T) → KeepsSlots index slots free → place < length index.items → e ≡ get_or index.items place e → value_at slots.items e.slot ≡ Some (get_or (values_in (used_by index.items) slots.items) place v)
  value_there index slots free place e v k l is =
      ap (value_at slots.items) (sym (slot_there index.items place e l is))
      ∙ found_there (value_at slots.items) (used_by index.items) place 0 v k.slots.full (used_within index.items place l)

  pub kept_push : (index next : Vec Entry Global) (slots filled : Vec (Option T) Global) (free rest : Vec ℕ Global) (e : Entry) → KeepsSlots index slots free → next.items ≡ index.items ++ e ∷ [] → vec_capacity next ≡ vec_capacity index → vec_capacity filled ≡ vec_capacity slots → vec_capacity rest ≡ vec_capacity free → length filled.items ≤ vec_capacity filled → AreSlots (used_by index.items ++ e.slot ∷ []) filled.items rest.items → AreRising 0 (numbers_of index.items ++ e.number ∷ []) e.number → KeepsSlots next filled rest
  kept_push index next slots filled free rest e k items index_room slots_room free_room within laid rising = record {
    high = e.number;
    rising = subst (λ (ns : List ℕ). AreRising 0 ns e.number) (sym (ap numbers_of items ∙ map_push number_in index.items e)) rising;
    slots = subst (λ (us : List ℕ). AreSlots us filled.items rest.items) (sym (ap used_by items ∙ map_push slot_in index.items e)) laid;
    within = within;
    index_room = omega (arith, index_room, slots_room, k.index_room);
    free_room = omega (arith, free_room, slots_room, k.free_room);
    short = omega (arith, slots_room, k.short);
  }

  pub kept_remove : (index next : Vec Entry Global) (slots less : Vec (Option T) Global) (free more : Vec ℕ Global) (place : ℕ) (e : Entry) → KeepsSlots index slots free → place < length index.items → e ≡ get_or index.items place e → next.items ≡ remove index.items place → vec_capacity next ≡ vec_capacity index → less.items ≡ set slots.items e.slot None → vec_capacity less ≡ vec_capacity slots → more.items ≡ free.items ++ e.slot ∷ [] → vec_capacity more ≡ vec_capacity free → KeepsSlots next less more
  kept_remove index next slots less free more place e k l is items index_room emptied slots_room listed free_room =
      let laid : AreSlots (remove (used_by index.items) place) (set slots.items e.slot None) (free.items ++ e.slot ∷ []) =
      slots_taken (used_by index.items) slots.items free.items place e.slot k.slots (used_within index.items place l) (slot_there index.items place e l is) in
      record {
        high = k.high;
        rising = subst (λ (ns : List ℕ). AreRising 0 ns k.high) (sym (ap numbers_of items ∙ map_remove number_in index.items place l))
            (rising_remove 0 (numbers_of index.items) k.high place (omega (arith, length-map index.items number_in, l)) k.rising);
        slots = rw (emptied, listed) (subst (λ (us : List ℕ). AreSlots us (set slots.items e.slot None) (free.items ++ e.slot ∷ [])) (sym (ap used_by items ∙ map_remove slot_in index.items place l)) laid);
        within = omega (arith, ap (λ (xs : List (Option T)). length xs) emptied, length-set {A = Option T} slots.items e.slot None, slots_room, k.within);
        index_room = omega (arith, index_room, slots_room, k.index_room);
        free_room = omega (arith, free_room, slots_room, k.free_room);
        short = omega (arith, slots_room, k.short);
      }

  pub values_left : (index next : List Entry) (slots less : List (Option T)) (free : List ℕ) (place : ℕ) (e : Entry) → AreSlots (used_by index) slots free → place < length index → e ≡ get_or index place e → next ≡ remove index place → less ≡ set slots e.slot None → values_in (used_by next) less ≡ remove (values_in (used_by index) slots) place
  values_left index next slots less free place e laid l is items emptied =
      (λ i. values_in (used_by (items i)) (emptied i))
      ∙ (ap (λ (us : List ℕ). values_in us (set slots e.slot None)) (map_remove slot_in index place l)
      ∙ values_taken (used_by index) slots free place e.slot laid (used_within index place l) (slot_there index place e l is))

  pub kept_changed : (index : Vec Entry Global) (slots changed : Vec (Option T) Global) (free : Vec ℕ Global) (place : ℕ) (e : Entry) (w : T) → KeepsSlots index slots free → place < length index.items → e ≡ get_or index.items place e → changed.items ≡ set slots.items e.slot (Some w) → vec_capacity changed ≡ vec_capacity slots → KeepsSlots index changed free
  kept_changed index slots changed free place e w k l is items slots_room = record {
    high = k.high;
    rising = k.rising;
    slots = rw items (slots_changed (used_by index.items) slots.items free.items place e.slot w k.slots (used_within index.items place l) (slot_there index.items place e l is));
    within = omega (arith, ap (λ (xs : List (Option T)). length xs) items, length-set {A = Option T} slots.items e.slot (Some w), slots_room, k.within);
    index_room = omega (arith, slots_room, k.index_room);
    free_room = omega (arith, slots_room, k.free_room);
    short = omega (arith, slots_room, k.short);
  }

  pub values_with : (index : List Entry) (slots : List (Option T)) (free : List ℕ) (place : ℕ) (e : Entry) (w : T) → AreSlots (used_by index) slots free → place < length index → e ≡ get_or index place e → values_in (used_by index) (set slots e.slot (Some w)) ≡ set (values_in (used_by index) slots) place w
  values_with index slots free place e w laid l is =
      values_changed (used_by index) slots free place e.slot w laid (used_within index place l) (slot_there index place e l is)
