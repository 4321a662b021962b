-- Lines of which each may follow the one before it are what a list in order begins with.
use Rattle.std.proofs.Common.{◌≡◌, ◌+◌, ◌<◌, ◌==◌, ◌&&◌, ◌++◌, nat_lt, ℕ, true, Option, Some, None, List, [], ◌∷◌, map, refl, sym, arith, subst}
use Rattle.std.specs.List.{AllByRecursion}
use Rattle.std.proofs.lemmas.Bool.{lt-ltb}
use Rattle.std.proofs.lemmas.Bool.Decides.{nat_tests}
use Rattle.freeze_ledger.specs.declared.freeze.Freeze.{Freeze}
use Rattle.world_calls.specs.declared.carried_line.CarriedCcb.{CarriedCcb}
use Rattle.world_calls.specs.declared.carried_line.CarriedLine.{CarriedLine}
use Rattle.world_calls.specs.declared.carried_line.CarriedLine.TheVariants as lines
use Rattle.carried_lines.specs.InOrder.{AreInOrder, IsCcbBefore, IsFreezeBefore, IsFront, IsWordBefore, Rise, TableWord, openings_from, word_line}
use Rattle.carried_lines.specs.Following.{is_next, last_of, may_follow}

-- each of the lines may follow the one before it, and the first of them the line that was last
abbrev pub Follow : Option CarriedLine → List CarriedLine → Type 0
Follow last [] = Unit {0}
Follow last (line ∷ more) = (may_follow last line ≡ true) × Follow (Some line) more

-- the last line after these
abbrev pub last_after : Option CarriedLine → List CarriedLine → Option CarriedLine
last_after last [] = last
last_after last (line ∷ more) = last_after (Some line) more

last_is : (line : CarriedLine) (more : List CarriedLine) → last_after (Some line) more ≡ last_of (line ∷ more)
last_is line [] = refl
last_is line (next ∷ more) = last_is next more

pub last_of_all : (all : List CarriedLine) → last_after None all ≡ last_of all
last_of_all [] = refl
last_of_all (line ∷ more) = last_is line more

pub front_follows : (last : Option CarriedLine) (front rest : List CarriedLine) → Follow last (front ++ rest) → Follow last front
front_follows last [] rest h = tt
front_follows last (line ∷ front) rest h = (h.0, front_follows (Some line) front rest h.1)

pub rest_follows : (last : Option CarriedLine) (front rest : List CarriedLine) → Follow last (front ++ rest) → Follow (last_after last front) rest
rest_follows last [] rest h = h
rest_follows last (line ∷ front) rest h = rest_follows (Some line) front rest h.1

pub both_follow : (last : Option CarriedLine) (front rest : List CarriedLine) → Follow last front → Follow (last_after last front) rest → Follow last (front ++ rest)
both_follow last [] rest h k = k
both_follow last (line ∷ front) rest h k = (h.0, both_follow (Some line) front rest h.1 k)

-- ---- a list in order is such a chain

abbrev pub ccb_line : CarriedCcb → CarriedLine
ccb_line it = lines.Ccb it

abbrev pub freeze_line : Freeze → CarriedLine
freeze_line it = lines.Freeze it

more_freezes : (before : Freeze) (freezes : List Freeze) → Rise IsFreezeBefore (before ∷ freezes) → Follow (Some (lines.Freeze before)) (map freeze_line freezes)
unfolding is_next
more_freezes before [] rise = tt
more_freezes before (freeze ∷ freezes) rise = (lt-ltb before.number freeze.number rise.0, more_freezes freeze freezes rise.1)

freezes_follow : (last : CarriedLine) (freezes : List Freeze) → ((freeze : Freeze) → is_next last (lines.Freeze freeze) ≡ true) → Rise IsFreezeBefore freezes → Follow (Some last) (map freeze_line freezes)
freezes_follow last [] next rise = tt
freezes_follow last (freeze ∷ freezes) next rise = (next freeze, more_freezes freeze freezes rise)

module _ (freezes : List Freeze) (freezes_rise : Rise IsFreezeBefore freezes) where
  more_ccbs : (before : CarriedCcb) (ccbs : List CarriedCcb) → Rise IsCcbBefore (before ∷ ccbs) → Follow (Some (lines.Ccb before)) (map ccb_line ccbs ++ map freeze_line freezes)
  unfolding is_next
  more_ccbs before [] rise = freezes_follow (lines.Ccb before) freezes (λ freeze. refl) freezes_rise
  more_ccbs before (ccb ∷ ccbs) rise = (lt-ltb before.number.0 ccb.number.0 rise.0, more_ccbs ccb ccbs rise.1)

  ccbs_follow : (last : CarriedLine) (ccbs : List CarriedCcb) → ((ccb : CarriedCcb) → is_next last (lines.Ccb ccb) ≡ true) → ((freeze : Freeze) → is_next last (lines.Freeze freeze) ≡ true)
      → Rise IsCcbBefore ccbs → Follow (Some last) (map ccb_line ccbs ++ map freeze_line freezes)
  ccbs_follow last [] ccb_next freeze_next rise = freezes_follow last freezes freeze_next freezes_rise
  ccbs_follow last (ccb ∷ ccbs) ccb_next freeze_next rise = (ccb_next ccb, more_ccbs ccb ccbs rise)

  module _ (ccbs : List CarriedCcb) (ccbs_rise : Rise IsCcbBefore ccbs) where
    abbrev ends : List CarriedLine
    ends = map ccb_line ccbs ++ map freeze_line freezes

    word_next : (before word : TableWord) → IsWordBefore before word → 0 < word.word → is_next (word_line before) (word_line word) ≡ true
    unfolding is_next
    word_next before word rise there = grind (arith, nat_tests)

    more_words : (before : TableWord) (words : List TableWord) → Rise IsWordBefore (before ∷ words) → AllByRecursion (λ it. 0 < it.word) words → Follow (Some (word_line before)) (map word_line words ++ ends)
    unfolding is_next
    more_words before [] rise there = ccbs_follow (word_line before) ccbs (λ ccb. refl) (λ freeze. refl) ccbs_rise
    more_words before (word ∷ words) rise there = (word_next before word rise.0 there.0, more_words word words rise.1 there.1)

    module _ (words : List TableWord) (words_rise : Rise IsWordBefore words) (words_there : AllByRecursion (λ it. 0 < it.word) words) where
      first_word : (last : CarriedLine) (more : List TableWord) → Rise IsWordBefore more → AllByRecursion (λ it. 0 < it.word) more
          → ((word : TableWord) → 0 < word.word → is_next last (word_line word) ≡ true) → ((ccb : CarriedCcb) → is_next last (lines.Ccb ccb) ≡ true) → ((freeze : Freeze) → is_next last (lines.Freeze freeze) ≡ true)
          → Follow (Some last) (map word_line more ++ ends)
      first_word last [] rise there word_next ccb_next freeze_next = ccbs_follow last ccbs ccb_next freeze_next ccbs_rise
      first_word last (word ∷ more) rise there word_next ccb_next freeze_next = (word_next word there.0, more_words word more rise there.1)

      there_is : (word : ℕ) → 0 < word → (nat_lt 0 word && true) ≡ true
      there_is word there = rw (lt-ltb 0 word there) refl

      queue_next : (queue : ℕ) → (queue + 1 == queue + 1) ≡ true
      queue_next queue = grind (arith, nat_tests)

      more_openings : (queue before : ℕ) (openings : List ℕ) → Follow (Some (lines.Openings queue before)) (openings_from (queue + 1) openings ++ (map word_line words ++ ends))
      unfolding is_next
      more_openings queue before [] =
          first_word (lines.Openings queue before) words words_rise words_there (λ word there. there_is word.word there) (λ ccb. refl) (λ freeze. refl)
      more_openings queue before (openings ∷ more) = (queue_next queue, more_openings (queue + 1) openings more)

      after_clock : (reading : ℕ) (openings : List ℕ) → Follow (Some (lines.Clock reading)) (openings_from 0 openings ++ (map word_line words ++ ends))
      unfolding is_next
      after_clock reading [] = first_word (lines.Clock reading) words words_rise words_there (λ word there. there_is word.word there) (λ ccb. refl) (λ freeze. refl)
      after_clock reading (openings ∷ more) = (refl, more_openings 0 openings more)

pub in_order_follows : (all : List CarriedLine) → AreInOrder all → Follow None all
unfolding is_next
in_order_follows all is =
    subst (Follow None) (sym is.whole)
    (refl, (refl, after_clock is.freezes is.freezes_rise is.ccbs is.ccbs_rise is.words is.words_rise is.words_there is.reading is.openings))

pub front_of_follows : (taken : List CarriedLine) → IsFront taken → Follow None taken
front_of_follows taken front = front_follows None taken front.rest (in_order_follows (taken ++ front.rest) front.in_order)
