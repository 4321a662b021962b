-- The links of chains: what one more at the end and one fewer make of them, and where a walk along them leads.
use Rattle.std.specs.Prelude.{ℕ, zero, suc, ◌<◌, List, [], ◌∷◌, length, Option, None, Some, ⊤, slice_index_or, slice_set}
use Rattle.freeze_ledger.specs.declared.chains.Link.{Link}
use Rattle.freeze_ledger.specs.declared.chains.Ends.{Ends}
use Rattle.freeze_ledger.specs.declared.freeze.Freeze.{Freeze}
use Rattle.freeze_ledger.specs.declared.freeze.Holder.{Holder}
use Rattle.freeze_ledger.specs.Entries.{freeze_at}

abbrev pub no_link : Link
no_link = record { earlier = None; later = None }

abbrev pub no_ends : Ends
no_ends = record { first = None; last = None }

abbrev pub link_at : List Link → ℕ → Link
link_at links key = slice_index_or links key no_link

abbrev pub ends_at : List Ends → ℕ → Ends
ends_at ends place = slice_index_or ends place no_ends

-- there is a link under this key, if it is one
abbrev pub IsWithin : List Link → Option ℕ → Type 0
IsWithin links None = ⊤
IsWithin links (Some key) = key < length links

-- one leads on, or back, to another
abbrev pub led_on : List Link → (from to : Option ℕ) → List Link
led_on links None to = links
led_on links (Some key) to = slice_set links key (record (link_at links key) { later = to })

abbrev pub led_back : List Link → (from to : Option ℕ) → List Link
led_back links None to = links
led_back links (Some key) to = slice_set links key (record (link_at links key) { earlier = to })

-- this key comes after the last
abbrev pub appended : List Link → Ends → ℕ → List Link
appended links ends key = led_on (slice_set links key (record { earlier = ends.last; later = None })) ends.last (Some key)

abbrev pub first_with : Option ℕ → Option ℕ → ℕ → Option ℕ
first_with None first key = Some key
first_with (Some last) first key = first

abbrev pub ends_with : Ends → ℕ → Ends
ends_with ends key = record { first = first_with ends.last ends.first key; last = Some key }

-- one with these links is gone
abbrev pub left : List Link → Link → List Link
left links link = led_back (led_on links link.earlier link.later) link.later link.earlier

abbrev pub unless : Option ℕ → (here there : Option ℕ) → Option ℕ
unless None here there = here
unless (Some key) here there = there

abbrev pub ends_without : Ends → Link → Ends
ends_without ends link =
    record { first = unless link.earlier link.later ends.first; last = unless link.later link.earlier ends.last }

abbrev pub told : Option Freeze → List (ℕ × Holder) → List (ℕ × Holder)
told None rest = []
told (Some freeze) rest = (freeze.number, freeze.holder) ∷ rest

-- so many steps along the links, from this key on
abbrev pub walk : ℕ → List (Option Freeze) → List Link → Option ℕ → List (ℕ × Holder)
walk zero slots links at = []
walk (suc steps) slots links None = []
walk (suc steps) slots links (Some key) = told (freeze_at slots key) (walk steps slots links (link_at links key).later)
