-- The first code in records, as far as they were read.
use Rattle.std.proofs.Common.{◌≡◌, ◌<◌, ◌≤◌, ◌+◌, ℕ, List, [], ◌∷◌, None, Some, Option, add-one, ap, arith, drop, drop-cons, get_or, length, sym, subst, ◌∙◌}
use Rattle.std.proofs.lemmas.List.{drop_all}
use Rattle.world_calls.specs.declared.record.Record.{Record}
use Rattle.host_decision.specs.Decided.{code_in, code_told, or_later}

read : (records : List Record) (k : ℕ) (d : Record) → k < length records → code_in records ≡ code_in (drop k records) → code_in records ≡ or_later (code_told (get_or records k d)) (code_in (drop (k + 1) records))
read records k d below so =
    so ∙ (ap code_in (drop-cons records k d below) ∙ ap (λ (n : ℕ). or_later (code_told (get_or records k d)) (code_in (drop n records))) (sym (add-one k)))

pub read_none : (records : List Record) (k : ℕ) (d : Record) → k < length records → code_in records ≡ code_in (drop k records) → code_told (get_or records k d) ≡ None → code_in records ≡ code_in (drop (k + 1) records)
read_none records k d below so none = read records k d below so ∙ ap (λ (o : Option ℕ). or_later o (code_in (drop (k + 1) records))) none

pub read_some : (records : List Record) (k : ℕ) (d : Record) (code : ℕ) → k < length records → code_in records ≡ code_in (drop k records) → code_told (get_or records k d) ≡ Some code → code ≡ code_in records
read_some records k d code below so some = sym (read records k d below so ∙ ap (λ (o : Option ℕ). or_later o (code_in (drop (k + 1) records))) some)

pub read_all : (records : List Record) (k : ℕ) → length records ≤ k → code_in records ≡ code_in (drop k records) → 0 ≡ code_in records
read_all records k all so = sym (so ∙ ap code_in (drop_all k records all))
