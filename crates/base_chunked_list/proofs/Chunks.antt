-- Chunks of values, one after the other: how many there are, where each stands, and what is left of them.
use Rattle.std.proofs.Common.{◌≡◌, ◌↔◌, ℕ, ◌+◌, ◌-◌, ◌*◌, ◌/◌, ◌%◌, ◌<◌, ◌≤◌, List, [], ◌∷◌, ◌++◌, length, drop, get_or, take, Option, None, Some, IfSome, vec_capacity, refl, sym, ap, subst, ◌∙◌, arith}
use Rattle.std.specs.declared.vec.Vec.{Vec}
use Rattle.std.specs.declared.alloc.Global.{Global}
use Rattle.std.specs.List.{remove}
use Rattle.std.proofs.Math.Seq.{drop-append-add, take-length}
use Rattle.std.proofs.lemmas.List.{append_assoc, drop-append-le, length-append, length-drop, length-take-le, get_or-take, get_or_append_left, get_or-append_right}
use Rattle.std.proofs.lemmas.List.Concat.{get_or-flat_map}
use Rattle.std.proofs.lemmas.List.Elements.{All-head, All-tail}
use Rattle.base_chunked_list.specs.Chunks.{items_of, AreNotEmpty}
use Rattle.base_chunked_list.specs.Invariant.{AreFull, IsSpare, KeepsChunks, KeepsFrom, seen_from, spare_room}

module _ {T : Type 0} where
  pub count_items : (chunks : List (Vec T Global)) → AreFull chunks → length (items_of chunks) ≡ length chunks * 1024
  count_items [] full = refl
  count_items (chunk ∷ chunks) full =
      let first : length chunk.items ≡ 1024 = All-head (λ (c : Vec T Global). length c.items ≡ 1024) chunk chunks full in
      let others = count_items chunks (All-tail (λ (c : Vec T Global). length c.items ≡ 1024) chunk chunks full) in
      length-append chunk.items (items_of chunks) ∙ omega (arith, first, others)

  -- how many values there are
  pub count : (full : Vec (Vec T Global) Global) (last : Vec T Global) (spare : Option (Vec T Global)) → KeepsChunks full last spare → length (items_of full.items ++ last.items) ≡ length full.items * 1024 + length last.items
  count full last spare h = omega (arith, length-append (items_of full.items) last.items, count_items full.items h.full)

  -- how many values are left
  pub count_from : (gone : ℕ) (full : Vec (Vec T Global) Global) (last : Vec T Global) (spare : Option (Vec T Global)) → KeepsFrom gone full last spare
      → (length (drop gone (items_of full.items ++ last.items)) + gone ≡ length full.items * 1024 + length last.items) × (gone ≤ length full.items * 1024 + length last.items)
  count_from gone full last spare h =
      let whole = count full last spare h.chunks in
      (omega (arith, length-drop gone (items_of full.items ++ last.items), whole, h.all), omega (arith, whole, h.all))

  -- a value of a full chunk
  pub in_full : (chunks : List (Vec T Global)) (last : List T) (place : ℕ) (chunk : Vec T Global) (value : T) → AreFull chunks → place / 1024 < length chunks → chunk ≡ get_or chunks (place / 1024) chunk → value ≡ get_or chunk.items (place % 1024) value → value ≡ get_or (items_of chunks ++ last) place value
  in_full chunks last place chunk value full within is value_is =
      let values : Vec T Global → List T = λ c. c.items in
      let long : length (get_or chunks (place / 1024) chunk).items ≡ 1024 = full (place / 1024) chunk within in
      let before : length (items_of (take (place / 1024) chunks)) ≡ (place / 1024) * 1024 =
      count_items (take (place / 1024) chunks) (λ k d l.
      let below : k < place / 1024 = omega (arith, l, length-take-le (place / 1024) chunks (omega (arith, within))) in
      ap (λ (c : Vec T Global). length c.items) (get_or-take (place / 1024) chunks k d below) ∙ full k d (omega (arith, below, within)))
      ∙ ap (λ n. n * 1024) (length-take-le (place / 1024) chunks (omega (arith, within))) in
      let there : get_or (items_of chunks) (length (items_of (take (place / 1024) chunks)) + place % 1024) value ≡ get_or (get_or chunks (place / 1024) chunk).items (place % 1024) value =
      get_or-flat_map values chunks (place / 1024) (place % 1024) chunk value within (omega (arith, long)) in
      let at : length (items_of (take (place / 1024) chunks)) + place % 1024 ≡ place = omega (arith, before) in
      value_is
      ∙ ap (λ (c : Vec T Global). get_or c.items (place % 1024) value) is
      ∙ sym there
      ∙ ap (λ n. get_or (items_of chunks) n value) at
      ∙ sym (get_or_append_left (items_of chunks) last value place (omega (arith, within, count_items chunks full)))

  -- a value of the last chunk
  pub in_last : (chunks : List (Vec T Global)) (last : List T) (place : ℕ) (value : T) → AreFull chunks → length last ≤ 1024 → length chunks ≤ place / 1024 → place < length chunks * 1024 + length last → value ≡ get_or last (place % 1024) value → value ≡ get_or (items_of chunks ++ last) place value
  in_last chunks last place value full short behind within value_is =
      value_is
      ∙ ap (λ n. get_or last n value) (omega (arith, short, behind, within))
      ∙ sym (get_or-append_right (items_of chunks) last (length chunks * 1024) place value (count_items chunks full) (omega (arith, behind)))

  -- the chunks after the first one
  pub others_not_empty : (chunks others : List (Vec T Global)) (chunk : Vec T Global) → AreNotEmpty chunks → chunks ≡ chunk ∷ others → AreNotEmpty others
  others_not_empty chunks others chunk h are = All-tail (λ (c : Vec T Global). 0 < length c.items) chunk others (subst AreNotEmpty are h)

  -- there is room for so many values more exactly where there is after the full chunks
  pub room_is : (gone : ℕ) (full : Vec (Vec T Global) Global) (last : Vec T Global) (spare : Option (Vec T Global)) (more : ℕ) → KeepsFrom gone full last spare
      → (length last.items + more ≤ 1024 + spare_room spare) ↔ (length (seen_from gone full.items last.items spare).items + more ≤ (seen_from gone full.items last.items spare).capacity)
  room_is gone full last spare more h =
      let left = count_from gone full last spare h in
      (λ l. omega (arith, l, left.0, left.1), λ l. omega (arith, l, left.0, left.1))

  -- a chunk that is full holds values
  pub are_some : (chunks : List (Vec T Global)) → AreFull chunks → AreNotEmpty chunks
  are_some chunks full = λ k d l. omega (arith, full k d l)

  -- without its first chunk, of which all values are among the first so many
  pub first_gone : (gone : ℕ) (chunks : List (Vec T Global)) (last : List T) → AreFull chunks → 0 < length chunks → 1024 ≤ gone
      → drop (gone - 1024) (items_of (remove chunks 0) ++ last) ≡ drop gone (items_of chunks ++ last)
  first_gone gone [] last full some more = absurd (omega (arith, some))
  first_gone gone (chunk ∷ others) last full some more =
      let first : length chunk.items ≡ 1024 = All-head (λ (c : Vec T Global). length c.items ≡ 1024) chunk others full in
      let sum : length chunk.items + (gone - 1024) ≡ gone = omega (arith, first, more) in
      sym (drop-append-add chunk.items (items_of others ++ last) (gone - 1024))
      ∙ ap (λ n. drop n (chunk.items ++ (items_of others ++ last))) sum
      ∙ ap (λ l. drop gone l) (sym (append_assoc chunk.items (items_of others) last))

  -- the others are full too
  pub others_full : (chunks : List (Vec T Global)) → AreFull chunks → AreFull (remove chunks 0)
  others_full [] full = full
  others_full (chunk ∷ others) full = All-tail (λ (c : Vec T Global). length c.items ≡ 1024) chunk others full

  -- what is left of the first chunk, and the others
  pub left_of_first : (gone : ℕ) (chunks others : List (Vec T Global)) (chunk : Vec T Global) (last : List T) → chunks ≡ chunk ∷ others → gone ≤ length chunk.items
      → drop gone chunk.items ++ (items_of others ++ last) ≡ drop gone (items_of chunks ++ last)
  left_of_first gone chunks others chunk last is few =
      sym (drop-append-le gone chunk.items (items_of others ++ last) few)
      ∙ ap (λ l. drop gone l) (sym (append_assoc chunk.items (items_of others) last))
      ∙ ap (λ (l : List (Vec T Global)). drop gone (items_of l ++ last)) (sym is)

  -- the first chunk is full
  pub first_full : (chunks others : List (Vec T Global)) (chunk : Vec T Global) → AreFull chunks → chunks ≡ chunk ∷ others → length chunk.items ≡ 1024
  first_full chunks others chunk full is = All-head (λ (c : Vec T Global). length c.items ≡ 1024) chunk others (subst AreFull is full)

  -- a slice from one place on
  pub slice_from : (gone : ℕ) (values : List T) → take (length values - gone) (drop gone values) ≡ drop gone values
  slice_from gone values = ap (λ n. take n (drop gone values)) (sym (length-drop gone values)) ∙ take-length (drop gone values)

  spare_still : (whole left : Vec (Vec T Global) Global) (spare : Option (Vec T Global)) → length left.items ≤ length whole.items → vec_capacity left ≡ vec_capacity whole
      → IfSome spare (IsSpare whole) → IfSome spare (IsSpare left)
  spare_still whole left None fewer same h = h
  spare_still whole left (Some chunk) fewer same h = record { empty = h.empty; room = h.room; place = omega (arith, fewer, same, h.place); few = omega (arith, fewer, h.few) }

  -- with fewer full chunks, of which so many values are forgotten
  pub still_keeps : (gone : ℕ) (whole left : Vec (Vec T Global) Global) (last : Vec T Global) (spare : Option (Vec T Global)) → KeepsChunks whole last spare → AreFull left.items
      → length left.items ≤ length whole.items → vec_capacity left ≡ vec_capacity whole → gone ≤ length left.items * 1024 + length last.items → gone < 1024 → KeepsFrom gone left last spare
  still_keeps gone whole left last spare h full fewer same few first =
      let chunks : KeepsChunks left last spare = record { full = full; few = omega (arith, fewer, h.few); within = h.within; room = h.room; spare = spare_still whole left spare fewer same h.spare } in
      record { chunks = chunks; all = omega (arith, few, count left last spare chunks); first = first }
