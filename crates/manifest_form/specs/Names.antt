-- M5 and M6: how many entries there are, and the names of programs.
use Rattle.std.specs.Prelude.{ℕ, Bool, ◌&&◌, ◌||◌, ◌==◌, nat_le, List, length, map, count_by, bytes_eq}
use Rattle.std.specs.List.{list_all}
use Rattle.manifest_form.specs.Document.{is_among}
use Rattle.manifest_form.specs.Entries.{Plan}

abbrev pub is_between : ℕ → ℕ → ℕ → Bool
is_between low high number = nat_le low number && nat_le number high

-- 1 to 64 queues, 1 to 64 programs, and up to 16 tables
unfoldable pub has_lawful_numbers : Plan → Bool
has_lawful_numbers plan =
    is_between 1 64 (length plan.queues) && is_between 1 64 (length plan.programs) && nat_le (length plan.tables) 16

-- `a` to `z`, `0` to `9`, `_` or `-`
abbrev pub is_of_names : ℕ → Bool
is_of_names code = is_between 97 122 code || is_between 48 57 code || (code == 95) || (code == 45)

-- 1 to 32 of these
unfoldable pub is_name : List ℕ → Bool
is_name name = is_between 1 32 (length name) && list_all is_of_names name

abbrev pub names_of : Plan → List (List ℕ)
names_of plan = map (λ program. program.name) plan.programs

-- the name stands once among these
abbrev pub is_alone : List (List ℕ) → List ℕ → Bool
is_alone names name = count_by (λ other. bytes_eq other name) names == 1

-- Programs have names of the form, no two the same, and each queue names one of them.
unfoldable pub has_lawful_names : Plan → Bool
has_lawful_names plan =
    list_all is_name (names_of plan)
    && list_all (is_alone (names_of plan)) (names_of plan)
    && list_all (λ queue. is_among (names_of plan) queue.program) plan.queues
