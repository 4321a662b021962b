-- Which names are those of a journal.
use Rattle.std.specs.Prelude.{◌≡◌, ◌≤◌, ◌==◌, ◌&&◌, ℕ, Bool, true, false, not, nat_le, nat_lt, Option, Some, None, List, [], ◌∷◌, length, count_by, flat_map, slice_index, EachIndex, SomeIndex}
use Rattle.std.specs.List.{list_all, list_any}
use Rattle.host_journal.specs.declared.names.NameKind.{NameKind}
use Rattle.host_journal.specs.declared.names.NameKind.TheVariants.{Segment, Manifest, Foreign}
use Rattle.host_journal.specs.declared.listing.Listing.{Listing}
use Rattle.host_journal.specs.declared.listing.Listing.TheVariants as listings
use Rattle.host_journal.specs.declared.listing.Numbers.{Numbers}
use Rattle.host_journal.specs.Names.{kind_of}

abbrev pub is_foreign : NameKind → Bool
is_foreign Foreign = true
is_foreign kind = false

-- the number, of a segment's name, and of a manifest's
abbrev pub segment_in : NameKind → List ℕ
segment_in (Segment number) = number ∷ []
segment_in kind = []

abbrev pub manifest_in : NameKind → List ℕ
manifest_in (Manifest number) = number ∷ []
manifest_in kind = []

abbrev pub segments_in : List (List ℕ) → List ℕ
segments_in names = flat_map (λ name. segment_in (kind_of name)) names

abbrev pub manifests_in : List (List ℕ) → List ℕ
manifests_in names = flat_map (λ name. manifest_in (kind_of name)) names

-- each name is one of a journal
abbrev pub AreKnown : List (List ℕ) → Type 0
AreKnown names = list_all (λ name. not (is_foreign (kind_of name))) names ≡ true

abbrev pub has : List ℕ → ℕ → Bool
has numbers number = list_any (λ other. other == number) numbers

-- there is a segment of that number, with its manifest
abbrev pub IsWhole : (segments manifests : List ℕ) → ℕ → Type 0
IsWhole segments manifests number = (has segments number ≡ true) × (has manifests number ≡ true)

-- there is one of each number from that one to that one
abbrev pub AreWhole : (segments manifests : List ℕ) → (first last : ℕ) → Type 0
AreWhole segments manifests first last = (number : ℕ) → first ≤ number → number ≤ last → IsWhole segments manifests number

abbrev pub are_from : ℕ → List ℕ → Bool
are_from first numbers = list_all (λ number. nat_le first number) numbers

abbrev pub count_above : ℕ → List ℕ → ℕ
count_above last numbers = count_by (λ number. nat_lt last number) numbers

-- no manifest is below the first segment, and one at most above the last
abbrev pub are_own : List ℕ → (first last : ℕ) → Bool
are_own manifests first last = are_from first manifests && nat_le (count_above last manifests) 1

-- The segments are those from that number to that one: there is no gap, each has its manifest, and no other manifest is there but one above
-- the last segment.
pub record AreSegments (segments manifests : List ℕ) (first last : ℕ) : Type 0 where
  pub some : first ≤ last
  pub within : list_all (λ number. nat_le first number && nat_le number last) segments ≡ true
  pub whole : AreWhole segments manifests first last
  pub own : are_own manifests first last ≡ true

-- There is no segment, and one manifest at most.
pub record AreNone (segments manifests : List ℕ) : Type 0 where
  pub none : segments ≡ []
  pub few : length manifests ≤ 1

-- the names are those of a journal of these segments, or of one without a segment
abbrev pub IsJournal : List (List ℕ) → (first last : ℕ) → Type 0
IsJournal names first last = AreKnown names × AreSegments (segments_in names) (manifests_in names) first last

abbrev pub IsEmptyJournal : List (List ℕ) → Type 0
IsEmptyJournal names = AreKnown names × AreNone (segments_in names) (manifests_in names)

-- the names are those of no journal
pub record IsForeign (names : List (List ℕ)) : Type 0 where
  pub not_empty : IsEmptyJournal names → ⊥
  pub not_whole : (first last : ℕ) → IsJournal names first last → ⊥

-- what is said of names
abbrev pub Lists : List (List ℕ) → Listing → Type 0
Lists names listings.Foreign = IsForeign names
Lists names listings.Empty = IsEmptyJournal names
Lists names (listings.Segments first last) = IsJournal names first last

-- ---- inside

abbrev pub Collects : List (List ℕ) → Option Numbers → Type 0
Collects names None = AreKnown names → ⊥
Collects names (Some numbers) = AreKnown names × (numbers.segments.items ≡ segments_in names) × (numbers.manifests.items ≡ manifests_in names)

abbrev pub ListsNumbers : (segments manifests : List ℕ) → Listing → Type 0
ListsNumbers segments manifests listings.Foreign = (AreNone segments manifests → ⊥) × ((first last : ℕ) → AreSegments segments manifests first last → ⊥)
ListsNumbers segments manifests listings.Empty = AreNone segments manifests
ListsNumbers segments manifests (listings.Segments first last) = AreSegments segments manifests first last

abbrev pub IsLeast : List ℕ → ℕ → Type 0
IsLeast numbers least = SomeIndex numbers (λ k. slice_index numbers k ≡ least) × EachIndex numbers (λ k. least ≤ slice_index numbers k)

abbrev pub IsGreatest : List ℕ → ℕ → Type 0
IsGreatest numbers greatest = SomeIndex numbers (λ k. slice_index numbers k ≡ greatest) × EachIndex numbers (λ k. slice_index numbers k ≤ greatest)
