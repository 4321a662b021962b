-- What a try that came to nothing keeps, the next one finds.
use Rattle.std.proofs.Common.{◌∙◌, ℕ, Option, Some, None, List, ◌++◌, sym, ap}
use Rattle.std.specs.Io.KnownBytes.{Appends, Consumes, Keeps}

pub kept_consumes : (a b c : Option (List ℕ)) (bs : List ℕ) → Keeps a b → Consumes b c bs → Consumes a c bs
kept_consumes None b c bs p q = tt
kept_consumes (Some x) None c bs p q = absurd p
kept_consumes (Some x) (Some y) None bs p q = absurd q
kept_consumes (Some x) (Some y) (Some z) bs p q = sym p ∙ q

pub kept_appends : (a b c : Option (List ℕ)) (bs : List ℕ) → Keeps a b → Appends b c bs → Appends a c bs
kept_appends None b c bs p q = tt
kept_appends (Some x) None c bs p q = absurd p
kept_appends (Some x) (Some y) None bs p q = absurd q
kept_appends (Some x) (Some y) (Some z) bs p q = q ∙ ap (λ l. l ++ bs) p
