-- Rows of a table: each says what was decided of a range of codes. A code is an ASC and an ASCQ, as 256 times the one and the other, and a
-- decision is its number.
use Rattle.std.specs.Prelude.{◌≡◌, ◌≢◌, ◌<◌, ◌≤◌, ◌+◌, ◌*◌, ◌/◌, ◌%◌, ◌==◌, ◌⊎◌, ℕ, List, [], ◌∷◌, if◌then◌else◌, length, slice_index, slice_index_or}
use Rattle.show_decision.specs.declared.rows.Row.{Row}

-- the code is one of the row
abbrev pub Covers : Row → ℕ → Type 0
Covers row code = (code / 256 ≡ row.asc) × (row.first ≤ code % 256) × (code % 256 ≤ row.last)

-- one of the rows says that this was decided of the code
abbrev pub Says : List Row → (code decision : ℕ) → Type 0
Says [] code decision = ⊥
Says (row ∷ rows) code decision = (Covers row code × (row.decision ≡ decision)) ⊎ Says rows code decision

-- the number of what was decided of a code
abbrev pub number_at : List ℕ → (code usual : ℕ) → ℕ
number_at decisions code usual = slice_index_or decisions code usual

-- how many codes have that decision
abbrev pub counted : (first decision : ℕ) → ℕ
counted first decision = if first == decision then 1 else 0

abbrev pub how_many : (decision : ℕ) → List ℕ → ℕ
how_many decision [] = 0
how_many decision (first ∷ more) = counted first decision + how_many decision more

-- no other decision is that of more codes
abbrev pub IsUsual : List ℕ → ℕ → Type 0
IsUsual decisions usual = (decision : ℕ) → how_many decision decisions ≤ how_many usual decisions

-- they are how many codes each of so many decisions has
pub record AreCounts (decisions : List ℕ) (count : ℕ) (counts : List ℕ) : Type 0 where
  pub count_is : length counts ≡ count
  pub each : (decision : ℕ) → decision < count → slice_index counts decision ≡ how_many decision decisions

-- the first code of a row, the last one, and that of the row that comes first, or of what comes after the rows
abbrev pub first_code : Row → ℕ
first_code row = row.asc * 256 + row.first

abbrev pub last_code : Row → ℕ
last_code row = row.asc * 256 + row.last

abbrev pub next_code : List Row → (after : ℕ) → ℕ
next_code [] after = after
next_code (row ∷ rows) after = first_code row

-- the rows are in the order of their codes, and each code is one of one row at most, below that one
abbrev pub Rise : List Row → (below : ℕ) → Type 0
Rise [] below = Unit {0}
Rise (row ∷ rows) below = (row.first ≤ row.last) × (last_code row < next_code rows below) × Rise rows below

-- The rows say of codes below that one what was decided of them: just of those of which it is not the usual one, in their order.
pub record AreRowsOf (decisions : List ℕ) (usual below : ℕ) (rows : List Row) : Type 0 where
  pub so : (code decision : ℕ) → Says rows code decision → (code < below) × (number_at decisions code usual ≡ decision)
  pub other : (code decision : ℕ) → Says rows code decision → decision ≢ usual
  pub all : (code : ℕ) → code < below → number_at decisions code usual ≢ usual → Says rows code (number_at decisions code usual)
  pub rise : Rise rows below

-- the code comes right after those of the row, and has its decision
pub record GoesOn (row : Row) (code decision : ℕ) : Type 0 where
  pub same : row.decision ≡ decision
  pub asc : row.asc ≡ code / 256
  pub some : row.first ≤ row.last
  pub next : row.last + 1 ≡ code % 256

-- the rows say of one code more what was decided of it
pub record AddsCode (old : List Row) (code decision : ℕ) (new : List Row) : Type 0 where
  pub added : Says new code decision
  pub kept : (k d : ℕ) → Says old k d → Says new k d
  pub no_more : (k d : ℕ) → Says new k d → Says old k d ⊎ ((k ≡ code) × (d ≡ decision))
  pub rise : Rise old code → Rise new (code + 1)
