-- A history that goes on: it begins with all that it began with, and a caller's records are more by its own or as before.
use Rattle.std.proofs.Common.{◌≡◌, ◌≢◌, ℕ, ◌<◌, ◌≤◌, ◌==◌, if◌then◌else◌, Bool, true, false, List, [], ◌∷◌, ◌++◌, All, refl, sym, ap, ◌∙◌, subst, append_assoc, append-nil, eq-eqb, ne_eqb, arith}
use Rattle.std.proofs.lemmas.List.Elements.{All-nil, All-cons, All-head, All-tail, All-weaker}
use Rattle.world_calls.specs.declared.record.Record.{Record}
use Rattle.monitor.specs.declared.knowledge.Pair.{Pair}
use Rattle.monitor.specs.LegalHistory.{all_by, pair, unshared, records, made_by, StartsWith}

-- the records of a history with those of a caller after it
pub records_more : (history : List Pair) (c : ℕ) (made : List Record) → records (history ++ all_by c made) ≡ records history ++ made
records_more [] c [] = refl
records_more [] c (r ∷ rs) = ap (λ l. r ∷ l) (records_more [] c rs)
records_more (x ∷ xs) c made = ap (λ rs. x.made ∷ rs) (records_more xs c made)

-- what stood there before the engine was shared
pub records_unshared : (before : List Record) → records (unshared before) ≡ before
records_unshared [] = refl
records_unshared (r ∷ rs) = ap (λ l. r ∷ l) (records_unshared rs)

pub unshared_by_none : (before : List Record) → All (λ p. p.caller ≤ 0) (unshared before)
unshared_by_none [] = All-nil (λ (p : Pair). p.caller ≤ 0)
unshared_by_none (r ∷ rs) = All-cons (λ (p : Pair). p.caller ≤ 0) (pair 0 r) (unshared rs) (omega arith) (unshared_by_none rs)

made_by-append : (c : ℕ) (xs ys : List Pair) → made_by c (xs ++ ys) ≡ made_by c xs ++ made_by c ys
made_by-append c [] ys = refl
made_by-append c (p ∷ ps) ys = let rest = made_by-append c ps ys in
    elim (p.caller == c) as (λ b. (if b then p.made ∷ made_by c (ps ++ ys) else made_by c (ps ++ ys)) ≡ (if b then p.made ∷ made_by c ps else made_by c ps) ++ made_by c ys)
    [ true ↦ ap (λ l. p.made ∷ l) rest | false ↦ rest ]

all_own : (c : ℕ) (rs : List Record) → made_by c (all_by c rs) ≡ rs
all_own c [] = refl
all_own c (r ∷ rs) = subst (λ (b : Bool). (if b then r ∷ made_by c (all_by c rs) else made_by c (all_by c rs)) ≡ r ∷ rs) (sym (eq-eqb c c refl)) (ap (λ l. r ∷ l) (all_own c rs))

none_own : (d c : ℕ) (rs : List Record) → d ≢ c → made_by c (all_by d rs) ≡ []
none_own d c [] apart = refl
none_own d c (r ∷ rs) apart = subst (λ (b : Bool). (if b then r ∷ made_by c (all_by d rs) else made_by c (all_by d rs)) ≡ []) (sym (ne_eqb d c apart)) (none_own d c rs apart)

pub own_more : (c : ℕ) (rs : List Record) (log : List Pair) (mine : List Record) → made_by c log ≡ mine → made_by c (log ++ all_by c rs) ≡ mine ++ rs
own_more c rs log mine is = made_by-append c log (all_by c rs) ∙ (λ i. is i ++ all_own c rs i)

pub other_more : (d c : ℕ) (rs : List Record) (log : List Pair) (mine : List Record) → d ≢ c → made_by c log ≡ mine → made_by c (log ++ all_by d rs) ≡ mine
other_more d c rs log mine apart is = made_by-append c log (all_by d rs) ∙ (λ i. is i ++ none_own d c rs apart i) ∙ append-nil mine

-- all of a caller's records are of one that was given out
pub all_given : (c given : ℕ) (rs : List Record) → c ≤ given → All (λ p. p.caller ≤ given) (all_by c rs)
all_given c given [] low = All-nil (λ (p : Pair). p.caller ≤ given)
all_given c given (r ∷ rs) low = All-cons (λ (p : Pair). p.caller ≤ given) (pair c r) (all_by c rs) low (all_given c given rs low)

-- a caller that is still to come has made none
pub none_yet : (n c : ℕ) (log : List Pair) → n < c → All (λ p. p.caller ≤ n) log → made_by c log ≡ []
none_yet n c [] less below = refl
none_yet n c (p ∷ ps) less below =
    let here : p.caller ≤ n = All-head (λ (q : Pair). q.caller ≤ n) p ps below in
    let rest : made_by c ps ≡ [] = none_yet n c ps less (All-tail (λ (q : Pair). q.caller ≤ n) p ps below) in
    subst (λ (b : Bool). (if b then p.made ∷ made_by c ps else made_by c ps) ≡ []) (sym (ne_eqb p.caller c (λ same. omega arith))) rest

pub longer : (log seen more : List Pair) → StartsWith log seen → StartsWith (log ++ more) seen
longer log seen more before = (before.0 ++ more, ap (λ l. l ++ more) before.1 ∙ append_assoc seen before.0 more)

pub itself : (log : List Pair) → StartsWith log log
itself log = ([], sym (append-nil log))

pub from_nothing : (log : List Pair) → StartsWith log []
from_nothing log = (log, refl)

pub all_longer : (log more : List Pair) (told : List (List Pair)) → All (StartsWith log) told → All (StartsWith (log ++ more)) told
all_longer log more told h = All-weaker (StartsWith log) (StartsWith (log ++ more)) (λ seen. longer log seen more) told h

pub none_told : (log : List Pair) → All (StartsWith log) []
none_told log = All-nil (StartsWith log)
