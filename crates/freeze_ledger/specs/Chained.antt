-- When links are chains of the places' entries in the order of their numbers.
use Rattle.std.specs.Prelude.{◌≡◌, ℕ, ◌+◌, ◌<◌, List, length, Option, None, Some}
use Rattle.freeze_ledger.specs.declared.chains.Link.{Link}
use Rattle.freeze_ledger.specs.declared.chains.Ends.{Ends}
use Rattle.freeze_ledger.specs.declared.freeze.Freeze.{Freeze}
use Rattle.ccb.specs.Places.{index_of}
use Rattle.freeze_ledger.specs.Entries.{freeze_at, EntriesState}
use Rattle.freeze_ledger.specs.Links.{link_at, ends_at}

abbrev pub lower : ℕ → ℕ → Type 0
lower one other = one < other

abbrev pub higher : ℕ → ℕ → Type 0
higher one other = other < one

pub record LinkLeadsTo (comes : ℕ → ℕ → Type 0) (slots : List (Option Freeze)) (place number key : ℕ) : Type 0 where
  pub freeze : Freeze
  pub there : freeze_at slots key ≡ Some freeze
  pub named : index_of freeze.place ≡ place
  pub behind : comes number freeze.number
  pub first : (other : ℕ) (between : Freeze) → freeze_at slots other ≡ Some between → index_of between.place ≡ place → comes number between.number → comes between.number freeze.number → ⊥

-- of the place's freezes that come after this number in that order, the key is of the first; without one there is none
abbrev pub LinkLeads : (ℕ → ℕ → Type 0) → List (Option Freeze) → (place number : ℕ) → Option ℕ → Type 0
LinkLeads comes slots place number None =
    (key : ℕ) (freeze : Freeze) → freeze_at slots key ≡ Some freeze → index_of freeze.place ≡ place → comes number freeze.number → ⊥
LinkLeads comes slots place number (Some key) = LinkLeadsTo comes slots place number key

pub record IsChained (entries : EntriesState) (links : List Link) (ends : List Ends) : Type 0 where
  pub firsts : (place : ℕ) → place < length ends → LinkLeads lower entries.slots place 0 (ends_at ends place).first
  pub lasts : (place : ℕ) → place < length ends → LinkLeads higher entries.slots place (entries.greatest + 1) (ends_at ends place).last
  pub laters : (key : ℕ) (freeze : Freeze) → freeze_at entries.slots key ≡ Some freeze → LinkLeads lower entries.slots (index_of freeze.place) freeze.number (link_at links key).later
  pub earliers : (key : ℕ) (freeze : Freeze) → freeze_at entries.slots key ≡ Some freeze → LinkLeads higher entries.slots (index_of freeze.place) freeze.number (link_at links key).earlier
  pub within : (key : ℕ) (freeze : Freeze) → freeze_at entries.slots key ≡ Some freeze → key < length links
  pub places : length ends ≡ entries.places
  pub keys : length links ≡ entries.keys
