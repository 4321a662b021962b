-- Which lists of carried lines are in order, as far as that is seen without a manifest.
use Rattle.std.specs.Prelude.{◌≡◌, ℕ, ◌+◌, ◌<◌, ◌≤◌, List, [], ◌∷◌, ◌++◌, map, ⊤}
use Rattle.std.specs.List.{AllByRecursion}
use Rattle.freeze_ledger.specs.declared.freeze.Freeze.{Freeze}
use Rattle.world_calls.specs.declared.carried_line.CarriedCcb.{CarriedCcb}
use Rattle.world_calls.specs.declared.carried_line.CarriedLine.{CarriedLine}
use Rattle.world_calls.specs.declared.carried_line.CarriedLine.TheVariants as lines

-- each is before the next one
abbrev pub Rise : {T : Type 0} → (T → T → Type 0) → List T → Type 0
Rise before [] = ⊤
Rise before (x ∷ []) = ⊤
Rise before (x ∷ y ∷ more) = before x y × Rise before (y ∷ more)

-- a word of a table
pub record TableWord : Type 0 where
  pub table : ℕ
  pub index : ℕ
  pub word : ℕ

-- by table, and then by index
abbrev pub IsWordBefore : TableWord → TableWord → Type 0
IsWordBefore one other = (one.table ≤ other.table) × (one.table ≡ other.table → one.index < other.index)

abbrev pub IsCcbBefore : CarriedCcb → CarriedCcb → Type 0
IsCcbBefore one other = one.number.0 < other.number.0

abbrev pub IsFreezeBefore : Freeze → Freeze → Type 0
IsFreezeBefore one other = one.number < other.number

-- a line for each queue, numbered from the first one on
abbrev pub openings_from : ℕ → List ℕ → List CarriedLine
openings_from queue [] = []
openings_from queue (openings ∷ more) = lines.Openings queue openings ∷ openings_from (queue + 1) more

abbrev pub word_line : TableWord → CarriedLine
word_line it = lines.Word it.table it.index it.word

-- The greatest numbers and the clock, once each; the openings of queues 0, 1 and so on; words that are not 0, CCBs and freezes, each of
-- which rise.
pub record AreInOrder (all : List CarriedLine) : Type 0 where
  pub ccb : ℕ
  pub freeze : ℕ
  pub run : ℕ
  pub reading : ℕ
  pub openings : List ℕ
  pub words : List TableWord
  pub ccbs : List CarriedCcb
  pub freezes : List Freeze
  pub whole : all ≡ lines.Numbers ccb freeze run ∷ lines.Clock reading
      ∷ (openings_from 0 openings ++ (map word_line words ++ (map (λ it. lines.Ccb it) ccbs ++ map (λ it. lines.Freeze it) freezes)))
  pub words_rise : Rise IsWordBefore words
  pub words_there : AllByRecursion (λ it. 0 < it.word) words
  pub ccbs_rise : Rise IsCcbBefore ccbs
  pub freezes_rise : Rise IsFreezeBefore freezes

-- a list that is in order begins with these lines
pub record IsFront (taken : List CarriedLine) : Type 0 where
  pub rest : List CarriedLine
  pub in_order : AreInOrder (taken ++ rest)
