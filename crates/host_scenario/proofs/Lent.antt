-- What holds of both a value and a fault.
use Rattle.std.specs.Prelude.{Result, Ok, Err, IfOk, IfErr, IsOk, MatchResult, OnOk}
use Rattle.std.proofs.Common.{◌≡◌, false, true, subst, sym}

pub either_way : {T E : Type 0} (G : Type 0) (P : T → Type 0) (Q : E → Type 0) (r : Result T E) → ((t : T) → P t → G) → ((e : E) → Q e → G) → IfOk r P → IfErr r Q → G
either_way G P Q (Ok t) f g p q = f t p
either_way G P Q (Err e) f g p q = g e q

-- and of one of the two
pub when_ok : {T E : Type 0} (P Q : T → Type 0) (r : Result T E) → ((t : T) → P t → Q t) → IfOk r P → IfOk r Q
when_ok P Q (Ok t) f p = f t p
when_ok P Q (Err e) f p = p

pub when_err : {T E : Type 0} (P Q : E → Type 0) (r : Result T E) → ((e : E) → P e → Q e) → IfErr r P → IfErr r Q
when_err P Q (Ok t) f p = p
when_err P Q (Err e) f p = f e p

pub both_ok : {T E : Type 0} (P Q : T → Type 0) (r : Result T E) → IfOk r P → IfOk r Q → IfOk r (λ t. P t × Q t)
both_ok P Q (Ok t) p q = (p, q)
both_ok P Q (Err e) p q = p

pub on_success : {T E : Type 0} (P : Type 0) (r : Result T E) → IsOk r → OnOk r P → P
on_success P (Ok t) ok p = p
on_success P (Err e) ok p = absurd (let bad : false ≡ true = ok in cc)

pub of_success : {T E : Type 0} (P : T → Type 0) (Q : E → Type 0) (G : Type 0) (r : Result T E) → IsOk r → ((t : T) → P t → G) → MatchResult r P Q → G
of_success P Q G (Ok t) ok f p = f t p
of_success P Q G (Err e) ok f p = absurd (let bad : false ≡ true = ok in cc)

pub of_failure : {T E : Type 0} (P : T → Type 0) (Q : E → Type 0) (r : Result T E) (e : E) → r ≡ Err e → MatchResult r P Q → Q e
of_failure P Q r e is = subst (λ it. MatchResult it P Q → Q e) (sym is) (λ q. q)

pub if_failure : {T E : Type 0} (Q : E → Type 0) (r : Result T E) (e : E) → r ≡ Err e → IfErr r Q → Q e
if_failure Q r e is = subst (λ it. IfErr it Q → Q e) (sym is) (λ q. q)
