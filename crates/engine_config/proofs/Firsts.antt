-- The first words of tables: that each list has room in its table, and that each word is one.
use Rattle.std.proofs.Common.{◌≡◌, ℕ, ◌+◌, ◌<◌, ◌≤◌, ◌^◌, List, [], length, get_or, take, inl, inr, subst, arith}
use Rattle.std.specs.Prelude.{All}
use Rattle.std.proofs.lemmas.Bool.{cases_lt}
use Rattle.std.proofs.lemmas.List.{take_all}
use Rattle.std.proofs.lemmas.List.Elements.{All-more}
use Rattle.engine_config.specs.Configured.{AreWords, HaveRoom}

-- those before a place
pub record HaveRoomSoFar (lengths : List ℕ) (firsts : List (List ℕ)) (count : ℕ) : Type 0 where
  pub room : (table : ℕ) → table < count → length (get_or firsts table []) ≤ get_or lengths table 0
  pub words : AreWords (take count firsts)

pub room_for_none : (lengths : List ℕ) → HaveRoom lengths []
room_for_none lengths = record { lists = omega arith; words = λ table less. absurd (omega (arith, less)) }

pub room_for_one_more : (lengths : List ℕ) (firsts : List (List ℕ)) (count : ℕ) (words : List ℕ) (most : ℕ) → count < length firsts → words ≡ get_or firsts count [] → most ≡ get_or lengths count 0 → length words ≤ most
    → All (λ word. word < 2 ^ 64) words → HaveRoomSoFar lengths firsts count → HaveRoomSoFar lengths firsts (count + 1)
room_for_one_more lengths firsts count words most inside is most_is few fit before = record {
  room = λ table less. elim (cases_lt table count) [
    | inl so ↦ before.room table so
    | inr here ↦
        let at : count ≡ table = omega (arith, less, here) in
        subst (λ (k : ℕ). length (get_or firsts k []) ≤ get_or lengths k 0) at (subst (λ (n : ℕ). length (get_or firsts count []) ≤ n) most_is (subst (λ (ws : List ℕ). length ws ≤ most) is few))
  ];
  words = All-more (λ ws. All (λ word. word < 2 ^ 64) ws) firsts count [] inside before.words (subst (λ (ws : List ℕ). All (λ word. word < 2 ^ 64) ws) is fit);
}

pub have_room : (lengths : List ℕ) (firsts : List (List ℕ)) (count : ℕ) → length firsts ≤ length lengths → length firsts ≤ count → HaveRoomSoFar lengths firsts count → HaveRoom lengths firsts
have_room lengths firsts count few past h = record { lists = few; words = λ table less. h.room table (omega (arith, less, past)) }

pub are_words : (lengths : List ℕ) (firsts : List (List ℕ)) (count : ℕ) → length firsts ≤ count → HaveRoomSoFar lengths firsts count → AreWords firsts
are_words lengths firsts count past h = subst AreWords (take_all count firsts past) h.words
