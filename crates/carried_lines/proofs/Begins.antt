-- What lines of which each may follow the one before it are: parts of a list in order, and so the list in order or what one begins with.
use Rattle.std.proofs.Common.{◌≡◌, ◌+◌, ◌<◌, ◌==◌, ◌&&◌, ◌||◌, ◌++◌, nat_lt, ℕ, Bool, true, false, Some, None, List, [], ◌∷◌, map, refl, sym, ap, ◌∙◌, arith, append-nil, subst}
use Rattle.std.specs.List.{AllByRecursion}
use Rattle.std.proofs.lemmas.Bool.{ltb-true}
use Rattle.std.proofs.lemmas.Bool.Decides.{nat_tests}
use Rattle.freeze_ledger.specs.declared.freeze.Freeze.{Freeze}
use Rattle.world_calls.specs.declared.carried_line.CarriedCcb.{CarriedCcb}
use Rattle.world_calls.specs.declared.carried_line.CarriedLine.{CarriedLine}
use Rattle.world_calls.specs.declared.carried_line.CarriedLine.TheVariants as lines
use Rattle.trace_lines.proofs.Tests.{both}
use Rattle.carried_lines.specs.InOrder.{AreInOrder, IsCcbBefore, IsFreezeBefore, IsFront, IsWordBefore, Rise, TableWord, openings_from, word_line}
use Rattle.carried_lines.specs.Following.{is_complete, is_next, last_of}
use Rattle.carried_lines.proofs.Chains.{Follow, ccb_line, freeze_line}

never : (a : Bool) → (a && false) ≡ true → ⊥
never true h = absurd cc
never false h = absurd cc

abbrev cons : CarriedLine → List CarriedLine → List CarriedLine
cons line more = line ∷ more

-- ---- freezes, after a freeze

record Freezes (before : Freeze) (all : List CarriedLine) : Type 0 where
  pub freezes : List Freeze
  pub are : all ≡ map freeze_line freezes
  pub rise : Rise IsFreezeBefore (before ∷ freezes)

freezes_in : (before : Freeze) (all : List CarriedLine) → Follow (Some (lines.Freeze before)) all → Freezes before all
unfolding is_next
freezes_in before [] h = record { freezes = []; are = refl; rise = tt }
freezes_in before (lines.Freeze freeze ∷ more) h =
    let rest = freezes_in freeze more h.1 in
    record { freezes = freeze ∷ rest.freezes; are = ap (cons (lines.Freeze freeze)) rest.are; rise = (ltb-true before.number freeze.number h.0, rest.rise) }
freezes_in before (lines.Word table index word ∷ more) h = absurd (never (nat_lt 0 word) h.0)
freezes_in before (line ∷ more) h = absurd (let bad = h.0 in cc)

rise_tail : {T : Type 0} (before : T → T → Type 0) (x : T) (xs : List T) → Rise before (x ∷ xs) → Rise before xs
rise_tail before x [] h = tt
rise_tail before x (y ∷ xs) h = h.1

-- ---- CCBs and freezes, after a CCB

record Ends (all : List CarriedLine) : Type 0 where
  pub ccbs : List CarriedCcb
  pub freezes : List Freeze
  pub are : all ≡ map ccb_line ccbs ++ map freeze_line freezes
  pub ccbs_rise : Rise IsCcbBefore ccbs
  pub freezes_rise : Rise IsFreezeBefore freezes

no_ends : Ends []
no_ends = record { ccbs = []; freezes = []; are = refl; ccbs_rise = tt; freezes_rise = tt }

freeze_ends : (freeze : Freeze) (more : List CarriedLine) → Follow (Some (lines.Freeze freeze)) more → Ends (lines.Freeze freeze ∷ more)
freeze_ends freeze more h =
    let rest = freezes_in freeze more h in
    record { ccbs = []; freezes = freeze ∷ rest.freezes; are = ap (cons (lines.Freeze freeze)) rest.are; ccbs_rise = tt; freezes_rise = rest.rise }

-- after this CCB
record MoreCcbs (before : CarriedCcb) (all : List CarriedLine) : Type 0 where
  pub ends : Ends all
  pub rise : Rise IsCcbBefore (before ∷ ends.ccbs)

ccbs_in : (before : CarriedCcb) (all : List CarriedLine) → Follow (Some (lines.Ccb before)) all → MoreCcbs before all
unfolding is_next no_ends freeze_ends
ccbs_in before [] h = record { ends = no_ends; rise = tt }
ccbs_in before (lines.Ccb ccb ∷ more) h =
    let rest = ccbs_in ccb more h.1 in
    let ends : Ends (lines.Ccb ccb ∷ more) = record {
      ccbs = ccb ∷ rest.ends.ccbs;
      freezes = rest.ends.freezes;
      are = ap (cons (lines.Ccb ccb)) rest.ends.are;
      ccbs_rise = rest.rise;
      freezes_rise = rest.ends.freezes_rise;
    } in
    record { ends = ends; rise = (ltb-true before.number.0 ccb.number.0 h.0, rest.rise) }
ccbs_in before (lines.Freeze freeze ∷ more) h = record { ends = freeze_ends freeze more h.1; rise = tt }
ccbs_in before (lines.Word table index word ∷ more) h = absurd (never (nat_lt 0 word) h.0)
ccbs_in before (line ∷ more) h = absurd (let bad = h.0 in cc)

ccb_ends : (ccb : CarriedCcb) (more : List CarriedLine) → Follow (Some (lines.Ccb ccb)) more → Ends (lines.Ccb ccb ∷ more)
ccb_ends ccb more h =
    let rest = ccbs_in ccb more h in
    record {
      ccbs = ccb ∷ rest.ends.ccbs;
      freezes = rest.ends.freezes;
      are = ap (cons (lines.Ccb ccb)) rest.ends.are;
      ccbs_rise = rest.rise;
      freezes_rise = rest.ends.freezes_rise;
    }

-- ---- words, CCBs and freezes, after a word

record Words (all : List CarriedLine) : Type 0 where
  pub words : List TableWord
  pub rest : List CarriedLine
  pub ends : Ends rest
  pub are : all ≡ map word_line words ++ rest
  pub rise : Rise IsWordBefore words
  pub there : AllByRecursion (λ it. 0 < it.word) words

no_words : (all : List CarriedLine) → Ends all → Words all
no_words all ends = record { words = []; rest = all; ends = ends; are = refl; rise = tt; there = tt }

-- after this word
record MoreWords (before : TableWord) (all : List CarriedLine) : Type 0 where
  pub words : Words all
  pub rise : Rise IsWordBefore (before ∷ words.words)

word_before : (before word : TableWord) → is_next (word_line before) (word_line word) ≡ true → IsWordBefore before word × (0 < word.word)
unfolding is_next
word_before before word h =
    let parts = both (nat_lt 0 word.word) (nat_lt before.table word.table || (before.table == word.table && nat_lt before.index word.index)) h in
    ((grind (arith, nat_tests), λ same. grind (arith, nat_tests)), ltb-true 0 word.word parts.0)

words_in : (before : TableWord) (all : List CarriedLine) → Follow (Some (word_line before)) all → MoreWords before all
unfolding is_next no_words
words_in before [] h = record { words = no_words [] no_ends; rise = tt }
words_in before (lines.Word table index word ∷ more) h =
    let this : TableWord = record { table = table; index = index; word = word } in
    let step = word_before before this h.0 in
    let rest = words_in this more h.1 in
    let words : Words (lines.Word table index word ∷ more) = record {
      words = this ∷ rest.words.words;
      rest = rest.words.rest;
      ends = rest.words.ends;
      are = ap (cons (lines.Word table index word)) rest.words.are;
      rise = rest.rise;
      there = (step.1, rest.words.there);
    } in
    record { words = words; rise = (step.0, rest.rise) }
words_in before (lines.Ccb ccb ∷ more) h = record { words = no_words (lines.Ccb ccb ∷ more) (ccb_ends ccb more h.1); rise = tt }
words_in before (lines.Freeze freeze ∷ more) h = record { words = no_words (lines.Freeze freeze ∷ more) (freeze_ends freeze more h.1); rise = tt }
words_in before (line ∷ more) h = absurd (let bad = h.0 in cc)

word_words : (table index word : ℕ) (more : List CarriedLine) → 0 < word → Follow (Some (lines.Word table index word)) more → Words (lines.Word table index word ∷ more)
word_words table index word more there h =
    let this : TableWord = record { table = table; index = index; word = word } in
    let rest = words_in this more h in
    record {
      words = this ∷ rest.words.words;
      rest = rest.words.rest;
      ends = rest.words.ends;
      are = ap (cons (lines.Word table index word)) rest.words.are;
      rise = rest.rise;
      there = (there, rest.words.there);
    }

-- ---- openings and all that follows

record Openings (queue : ℕ) (all : List CarriedLine) : Type 0 where
  pub openings : List ℕ
  pub rest : List CarriedLine
  pub words : Words rest
  pub are : all ≡ openings_from queue openings ++ rest

no_openings : (queue : ℕ) (all : List CarriedLine) → Words all → Openings queue all
no_openings queue all words = record { openings = []; rest = all; words = words; are = refl }

one_more : (queue openings : ℕ) (more : List CarriedLine) → Openings (queue + 1) more → Openings queue (lines.Openings queue openings ∷ more)
one_more queue openings more rest = record {
  openings = openings ∷ rest.openings;
  rest = rest.rest;
  words = rest.words;
  are = ap (cons (lines.Openings queue openings)) rest.are;
}

openings_in : (before held : ℕ) (all : List CarriedLine) → Follow (Some (lines.Openings before held)) all → Openings (before + 1) all
unfolding is_next
openings_in before held [] h = no_openings (before + 1) [] (no_words [] no_ends)
openings_in before held (lines.Openings queue openings ∷ more) h =
    let same : before + 1 ≡ queue = grind (arith, nat_tests) in
    subst (λ q. Openings q (lines.Openings queue openings ∷ more)) (sym same) (one_more queue openings more (openings_in queue openings more h.1))
openings_in before held (lines.Word table index word ∷ more) h =
    let there = both (nat_lt 0 word) true h.0 in
    no_openings (before + 1) (lines.Word table index word ∷ more) (word_words table index word more (ltb-true 0 word there.0) h.1)
openings_in before held (lines.Ccb ccb ∷ more) h = no_openings (before + 1) (lines.Ccb ccb ∷ more) (no_words (lines.Ccb ccb ∷ more) (ccb_ends ccb more h.1))
openings_in before held (lines.Freeze freeze ∷ more) h = no_openings (before + 1) (lines.Freeze freeze ∷ more) (no_words (lines.Freeze freeze ∷ more) (freeze_ends freeze more h.1))
openings_in before held (line ∷ more) h = absurd (let bad = h.0 in cc)

after_clock : (reading : ℕ) (all : List CarriedLine) → Follow (Some (lines.Clock reading)) all → Openings 0 all
unfolding is_next
after_clock reading [] h = no_openings 0 [] (no_words [] no_ends)
after_clock reading (lines.Openings queue openings ∷ more) h =
    let same : 0 ≡ queue = grind (arith, nat_tests) in
    subst (λ q. Openings q (lines.Openings queue openings ∷ more)) (sym same) (one_more queue openings more (openings_in queue openings more h.1))
after_clock reading (lines.Word table index word ∷ more) h =
    let there = both (nat_lt 0 word) true h.0 in
    no_openings 0 (lines.Word table index word ∷ more) (word_words table index word more (ltb-true 0 word there.0) h.1)
after_clock reading (lines.Ccb ccb ∷ more) h = no_openings 0 (lines.Ccb ccb ∷ more) (no_words (lines.Ccb ccb ∷ more) (ccb_ends ccb more h.1))
after_clock reading (lines.Freeze freeze ∷ more) h = no_openings 0 (lines.Freeze freeze ∷ more) (no_words (lines.Freeze freeze ∷ more) (freeze_ends freeze more h.1))
after_clock reading (line ∷ more) h = absurd (let bad = h.0 in cc)

-- ---- all of it

all_in_order : (ccb freeze run reading : ℕ) (more : List CarriedLine) → Openings 0 more → AreInOrder (lines.Numbers ccb freeze run ∷ lines.Clock reading ∷ more)
all_in_order ccb freeze run reading more is =
    let words = is.words in
    let ends = words.ends in
    let parts : more ≡ openings_from 0 is.openings ++ (map word_line words.words ++ (map ccb_line ends.ccbs ++ map freeze_line ends.freezes)) =
    is.are ∙ ap (λ (t : List CarriedLine). openings_from 0 is.openings ++ t) (words.are ∙ ap (λ (t : List CarriedLine). map word_line words.words ++ t) ends.are) in
    record {
      ccb = ccb;
      freeze = freeze;
      run = run;
      reading = reading;
      openings = is.openings;
      words = words.words;
      ccbs = ends.ccbs;
      freezes = ends.freezes;
      whole = ap (λ (t : List CarriedLine). lines.Numbers ccb freeze run ∷ lines.Clock reading ∷ t) parts;
      words_rise = words.rise;
      words_there = words.there;
      ccbs_rise = ends.ccbs_rise;
      freezes_rise = ends.freezes_rise;
    }

-- from the clock on the lines are in order
pub complete_in_order : (all : List CarriedLine) → Follow None all → is_complete (last_of all) ≡ true → AreInOrder all
unfolding is_next
complete_in_order [] h e = absurd cc
complete_in_order (lines.Numbers ccb freeze run ∷ []) h e = absurd cc
complete_in_order (lines.Numbers ccb freeze run ∷ lines.Clock reading ∷ more) h e = all_in_order ccb freeze run reading more (after_clock reading more h.1.1)
complete_in_order (lines.Numbers ccb freeze run ∷ lines.Word table index word ∷ more) h e = absurd (never (nat_lt 0 word) h.1.0)
complete_in_order (lines.Numbers ccb freeze run ∷ line ∷ more) h e = absurd (let bad = h.1.0 in cc)
complete_in_order (line ∷ more) h e = absurd (let bad = h.0 in cc)

-- two lines that are in order whatever comes after the first
pub begins_empty : AreInOrder (lines.Numbers 0 0 0 ∷ lines.Clock 0 ∷ [])
begins_empty = all_in_order 0 0 0 0 [] (no_openings 0 [] (no_words [] no_ends))

pub follows_front : (taken : List CarriedLine) → Follow None taken → IsFront taken
unfolding is_next
follows_front [] h = record { rest = lines.Numbers 0 0 0 ∷ lines.Clock 0 ∷ []; in_order = begins_empty }
follows_front (lines.Numbers ccb freeze run ∷ []) h = record { rest = lines.Clock 0 ∷ []; in_order = all_in_order ccb freeze run 0 [] (no_openings 0 [] (no_words [] no_ends)) }
follows_front (lines.Numbers ccb freeze run ∷ lines.Clock reading ∷ more) h = record {
  rest = [];
  in_order = subst AreInOrder (sym (append-nil (lines.Numbers ccb freeze run ∷ lines.Clock reading ∷ more))) (all_in_order ccb freeze run reading more (after_clock reading more h.1.1));
}
follows_front (lines.Numbers ccb freeze run ∷ lines.Word table index word ∷ more) h = absurd (never (nat_lt 0 word) h.1.0)
follows_front (lines.Numbers ccb freeze run ∷ line ∷ more) h = absurd (let bad = h.1.0 in cc)
follows_front (line ∷ more) h = absurd (let bad = h.0 in cc)
