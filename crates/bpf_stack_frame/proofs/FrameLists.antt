-- A frame as bytes and the set of the written ones: what a read sees and what a write leaves.
use Rattle.std.proofs.Common.{◌≡◌, ℕ, zero, suc, ◌+◌, ◌-◌, ◌≤◌, Bool, true, false, List, [], ◌∷◌, ◌++◌, Option, Some, None, is_some, length, map, take, drop, replicate, refl, ap, sym, ◌∙◌, arith, add-zero, append_assoc, length-append, length-drop}
use Rattle.std.proofs.lemmas.List.{map-append, take-map, drop-map, length-take-le, length-replicate, take_all, get_or-drop, drop-drop}
use Rattle.std.specs.Prelude.{slice_index, slice_index_or}
use Rattle.std.specs.Option.{option_map}
use borrow.Rule.Slice.PartMut.{put_mid, mid_of}
use Rattle.byteorder.specs.Endian.{little_number}
use Rattle.bpf_stack_frame.proofs.Sets.{length-with_all}
use Rattle.bpf_stack_frame.specs.ByteSet.{HasAll, with_all}
use Rattle.bpf_stack_frame.specs.Frame.{all_written, byte_of, word_at, written_at}
use Rattle.bpf_stack_frame.specs.FrameBytes.{written_byte, frame_of, bytes_of, written_of, AreFrame}

frame_of-append : (xs ys : List ℕ) (s t : List Bool) → length xs ≡ length s → frame_of (xs ++ ys) (s ++ t) ≡ frame_of xs s ++ frame_of ys t
frame_of-append [] ys [] t same = refl
frame_of-append [] ys (b ∷ s) t same = absurd (omega arith)
frame_of-append (x ∷ xs) ys [] t same = absurd (omega arith)
frame_of-append (x ∷ xs) ys (b ∷ s) t same = ap (λ (l : List (Option ℕ)). written_byte b x ∷ l) (frame_of-append xs ys s t (omega arith))

frame_of-none : (xs : List ℕ) → frame_of xs [] ≡ []
frame_of-none [] = refl
frame_of-none (x ∷ xs) = refl

take-frame_of : (n : ℕ) (xs : List ℕ) (s : List Bool) → take n (frame_of xs s) ≡ frame_of (take n xs) (take n s)
take-frame_of zero xs s = refl
take-frame_of (suc n) [] s = refl
take-frame_of (suc n) (x ∷ xs) [] = refl
take-frame_of (suc n) (x ∷ xs) (b ∷ s) = ap (λ (l : List (Option ℕ)). written_byte b x ∷ l) (take-frame_of n xs s)

drop-frame_of : (n : ℕ) (xs : List ℕ) (s : List Bool) → drop n (frame_of xs s) ≡ frame_of (drop n xs) (drop n s)
drop-frame_of zero xs s = refl
drop-frame_of (suc n) [] s = refl
drop-frame_of (suc n) (x ∷ xs) [] = sym (frame_of-none (drop n xs))
drop-frame_of (suc n) (x ∷ xs) (b ∷ s) = drop-frame_of n xs s

frame_of-written : (xs : List ℕ) → frame_of xs (replicate (length xs) true) ≡ map Some xs
frame_of-written [] = refl
frame_of-written (x ∷ xs) = ap (λ (l : List (Option ℕ)). Some x ∷ l) (frame_of-written xs)

-- bytes after some were written over
abbrev pub pasted : ℕ → List ℕ → List ℕ → List ℕ
pasted offset new bytes = take offset bytes ++ new ++ drop (offset + length new) bytes

module _ (bytes : List ℕ) (written : List Bool) (offset : ℕ) (new : List ℕ) (are : AreFrame bytes written) (inside : offset + length new ≤ 512) where
  count : ℕ
  count = length new

  front_bytes : length (take offset bytes) ≡ offset
  front_bytes = length-take-le offset bytes (omega (arith, are.count.0))

  front_written : length (take offset written) ≡ offset
  front_written = length-take-le offset written (omega (arith, are.count.1))

  pub frame_of-pasted : frame_of (pasted offset new bytes) (with_all written offset (length new)) ≡ written_at offset new (frame_of bytes written)
  unfolding with_all written_at
  frame_of-pasted =
      let middle = replicate (length new) true in
      let same : length (take offset bytes ++ new) ≡ length (take offset written ++ middle) =
      omega (arith, length-append (take offset bytes) new, length-append (take offset written) middle, front_bytes, front_written, length-replicate {A = Bool} (length new) true) in
      frame_of-append (take offset bytes ++ new) (drop (offset + length new) bytes) (take offset written ++ middle) (drop (offset + length new) written) same
      ∙ ap (λ (l : List (Option ℕ)). l ++ frame_of (drop (offset + length new) bytes) (drop (offset + length new) written)) (frame_of-append (take offset bytes) new (take offset written) middle (omega (arith, front_bytes, front_written)))
      ∙ ap (λ (l : List (Option ℕ)). l ++ frame_of new middle ++ frame_of (drop (offset + length new) bytes) (drop (offset + length new) written)) (sym (take-frame_of offset bytes written))
      ∙ ap (λ (l : List (Option ℕ)). take offset (frame_of bytes written) ++ l ++ frame_of (drop (offset + length new) bytes) (drop (offset + length new) written)) (frame_of-written new)
      ∙ ap (λ (l : List (Option ℕ)). take offset (frame_of bytes written) ++ map Some new ++ l) (sym (drop-frame_of (offset + length new) bytes written))

-- what is known of each byte, after a write
map-written_at : {Y : Type 0} (f : Option ℕ → Y) (offset : ℕ) (new : List ℕ) (frame : List (Option ℕ)) → map f (written_at offset new frame) ≡ take offset (map f frame) ++ map f (map Some new) ++ drop (offset + length new) (map f frame)
unfolding written_at
map-written_at {Y} f offset new frame =
    map-append f (take offset frame ++ map Some new) (drop (offset + length new) frame)
    ∙ ap (λ (l : List Y). l ++ map f (drop (offset + length new) frame)) (map-append f (take offset frame) (map Some new))
    ∙ ap (λ (l : List Y). l ++ map f (map Some new) ++ map f (drop (offset + length new) frame)) (sym (take-map f offset frame))
    ∙ ap (λ (l : List Y). take offset (map f frame) ++ map f (map Some new) ++ l) (sym (drop-map f (offset + length new) frame))

bytes_of-some : (xs : List ℕ) → bytes_of (map Some xs) ≡ xs
bytes_of-some [] = refl
bytes_of-some (x ∷ xs) = ap (λ (l : List ℕ). x ∷ l) (bytes_of-some xs)

written_of-some : (xs : List ℕ) → written_of (map Some xs) ≡ replicate (length xs) true
written_of-some [] = refl
written_of-some (x ∷ xs) = ap (λ (l : List Bool). true ∷ l) (written_of-some xs)

pub pasted_kept : (bytes : List ℕ) (written : List Bool) (offset : ℕ) (new : List ℕ) → AreFrame bytes written → offset + length new ≤ 512 → AreFrame (pasted offset new bytes) (with_all written offset (length new))
unfolding with_all
pasted_kept bytes written offset new are inside =
    let frame = frame_of bytes written in
    let is = frame_of-pasted bytes written offset new are inside in
    record {
      count = (
        omega (arith, length-append (take offset bytes ++ new) (drop (offset + length new) bytes), length-append (take offset bytes) new, front_bytes bytes written offset new are inside, length-drop (offset + length new) bytes, are.count.0),
        length-with_all written offset (length new) (omega (arith, are.count.1)) ∙ are.count.1,
      );
      same_bytes = ap bytes_of is ∙ map-written_at byte_of offset new frame
          ∙ ap (λ (l : List ℕ). take offset l ++ bytes_of (map Some new) ++ drop (offset + length new) l) are.same_bytes
          ∙ ap (λ (l : List ℕ). take offset bytes ++ l ++ drop (offset + length new) bytes) (bytes_of-some new);
      same_written = ap written_of is ∙ map-written_at is_some offset new frame
          ∙ ap (λ (l : List Bool). take offset l ++ written_of (map Some new) ++ drop (offset + length new) l) are.same_written
          ∙ ap (λ (l : List Bool). take offset written ++ l ++ drop (offset + length new) written) (written_of-some new);
    }

-- a read sees the bytes as they are kept
pub bytes_from : (bytes : List ℕ) (written : List Bool) (offset : ℕ) → AreFrame bytes written → map byte_of (drop offset (frame_of bytes written)) ≡ drop offset bytes
bytes_from bytes written offset are = sym (drop-map byte_of offset (frame_of bytes written)) ∙ ap (drop offset) are.same_bytes

pub unwritten_frame : (n : ℕ) → frame_of (replicate n 0) (replicate n false) ≡ replicate n None
unwritten_frame zero = refl
unwritten_frame (suc n) = ap (λ (l : List (Option ℕ)). None ∷ l) (unwritten_frame n)

-- the part of the bytes that a reader of words is given
pub word_kept : (bytes : List ℕ) (written : List Bool) (offset count : ℕ) → AreFrame bytes written → little_number count (mid_of offset (512 - offset) bytes) ≡ word_at count offset (frame_of bytes written)
unfolding word_at
word_kept bytes written offset count are =
    let rest = drop offset bytes in
    ap (little_number count) (take_all (512 - offset) rest (omega (arith, length-drop offset bytes, are.count.0)) ∙ sym (bytes_from bytes written offset are))

pub byte_kept : (bytes : List ℕ) (written : List Bool) (offset : ℕ) → AreFrame bytes written → slice_index bytes offset ≡ word_at 1 offset (frame_of bytes written)
unfolding word_at
byte_kept bytes written offset are =
    let first : slice_index (drop offset bytes) 0 ≡ slice_index bytes offset = get_or-drop offset bytes 0 0 ∙ ap (λ (n : ℕ). slice_index bytes n) (add-zero offset) in
    let same : slice_index (drop offset bytes) 0 ≡ slice_index (map byte_of (drop offset (frame_of bytes written))) 0 =
    ap (λ (l : List ℕ). slice_index l 0) (sym (bytes_from bytes written offset are)) in
    omega arith

-- the bytes after a part of them was written over
pub put_mid_is : (bytes new : List ℕ) (offset : ℕ) → put_mid offset (offset + length new - offset) bytes new ≡ pasted offset new bytes
put_mid_is bytes new offset =
    let many : offset + length new - offset ≡ length new = omega arith in
    ap (λ (n : ℕ). take offset bytes ++ (new ++ drop n (drop offset bytes))) many
    ∙ ap (λ (l : List ℕ). take offset bytes ++ (new ++ l)) (drop-drop (length new) offset bytes)
    ∙ sym (append_assoc (take offset bytes) new (drop (offset + length new) bytes))

none_written : (bytes : List ℕ) → frame_of bytes (replicate (length bytes) false) ≡ replicate (length bytes) None
none_written [] = refl
none_written (byte ∷ bytes) = ap (λ (l : List (Option ℕ)). None ∷ l) (none_written bytes)

written_of-none : (n : ℕ) → written_of (replicate n None) ≡ replicate n false
written_of-none zero = refl
written_of-none (suc n) = ap (λ (l : List Bool). false ∷ l) (written_of-none n)

-- a frame is unwritten exactly where the set of the written bytes is empty
pub unwritten_is : (bytes : List ℕ) (written : List Bool) → AreFrame bytes written → written ≡ replicate 512 false → frame_of bytes written ≡ replicate 512 None
unwritten_is bytes written are none =
    ap (frame_of bytes) (none ∙ ap (λ (n : ℕ). replicate n false) (sym are.count.0))
    ∙ none_written bytes
    ∙ ap (λ (n : ℕ). replicate n None) are.count.0

pub unwritten_has : (bytes : List ℕ) (written : List Bool) → AreFrame bytes written → frame_of bytes written ≡ replicate 512 None → written ≡ replicate 512 false
unwritten_has bytes written are none = sym are.same_written ∙ ap written_of none ∙ written_of-none 512

some_kept : {X Y : Type 0} (f : X → Y) (o : Option X) → is_some (option_map f o) ≡ is_some o
some_kept f None = refl
some_kept f (Some x) = refl

-- so many first bytes are all written exactly where the set has them
first_written : (count : ℕ) (bytes : List ℕ) (written : List Bool) → count ≤ length bytes → length bytes ≡ length written → HasAll written 0 count → is_some (all_written (take count (frame_of bytes written))) ≡ true
first_written zero bytes written few same has = refl
first_written (suc n) [] written few same has = absurd (omega arith)
first_written (suc n) (b ∷ bytes) [] few same has = absurd (omega arith)
first_written (suc n) (b ∷ bytes) (false ∷ written) few same has = absurd (let bad : false ≡ true = has 0 (omega arith) (omega arith) in cc)
first_written (suc n) (b ∷ bytes) (true ∷ written) few same has =
    some_kept (λ rest. b ∷ rest) (all_written (take n (frame_of bytes written)))
    ∙ first_written n bytes written (omega arith) (omega arith) (λ k from to. has (suc k) (omega arith) (omega arith))

first_has : (count : ℕ) (bytes : List ℕ) (written : List Bool) → count ≤ length bytes → length bytes ≡ length written → is_some (all_written (take count (frame_of bytes written))) ≡ true → HasAll written 0 count
first_has zero bytes written few same all = λ k from to. absurd (omega arith)
first_has (suc n) [] written few same all = absurd (omega arith)
first_has (suc n) (b ∷ bytes) [] few same all = absurd (omega arith)
first_has (suc n) (b ∷ bytes) (false ∷ written) few same all = absurd (let bad : false ≡ true = all in cc)
first_has (suc n) (b ∷ bytes) (true ∷ written) few same all =
    each (first_has n bytes written (omega arith) (omega arith) (sym (some_kept (λ rest. b ∷ rest) (all_written (take n (frame_of bytes written)))) ∙ all))
  where
    each : HasAll written 0 n → HasAll (true ∷ written) 0 (suc n)
    each has zero from to = refl
    each has (suc k) from to = has k (omega arith) (omega arith)

-- and so from an offset on
module _ (bytes : List ℕ) (written : List Bool) (offset count : ℕ) (are : AreFrame bytes written) (inside : offset + count ≤ 512) where
  few : count ≤ length (drop offset bytes)
  few = omega (arith, length-drop offset bytes, are.count.0)

  same : length (drop offset bytes) ≡ length (drop offset written)
  same = omega (arith, length-drop offset bytes, length-drop offset written, are.count.0, are.count.1)

  pub all_written_from : HasAll written offset count → is_some (all_written (take count (drop offset (frame_of bytes written)))) ≡ true
  all_written_from has =
      ap (λ (frame : List (Option ℕ)). is_some (all_written (take count frame))) (drop-frame_of offset bytes written)
      ∙ first_written count (drop offset bytes) (drop offset written) few same (λ k from to. get_or-drop offset written k false ∙ has (offset + k) (omega arith) (omega arith))

  pub has_all_from : is_some (all_written (take count (drop offset (frame_of bytes written)))) ≡ true → HasAll written offset count
  has_all_from all = λ k from to.
      let place : offset + (k - offset) ≡ k = omega arith in
      let there = first_has count (drop offset bytes) (drop offset written) few same (ap (λ (frame : List (Option ℕ)). is_some (all_written (take count frame))) (sym (drop-frame_of offset bytes written)) ∙ all) (k - offset) (omega arith) (omega arith) in
      ap (λ (n : ℕ). slice_index_or written n false) (sym place) ∙ sym (get_or-drop offset written (k - offset) false) ∙ there
