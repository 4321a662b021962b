-- A write that was interrupted left the writer as it was.
use Rattle.std.proofs.Common.{ℕ, List, Option, Some, None, ◌∙◌, ◌++◌, ap, refl}
use Rattle.std.specs.Io.KnownBytes.{Appends, Keeps}

pub keeps_none : (old : Option (List ℕ)) → Keeps old old
keeps_none None = tt
keeps_none (Some xs) = refl

pub keeps_both : (old between new : Option (List ℕ)) → Keeps old between → Keeps between new → Keeps old new
keeps_both None between new first second = tt
keeps_both (Some xs) None new first second = absurd first
keeps_both (Some xs) (Some ys) None first second = absurd second
keeps_both (Some xs) (Some ys) (Some zs) first second = second ∙ first

pub keeps_appends : (old between new : Option (List ℕ)) (more : List ℕ) → Keeps old between → Appends between new more → Appends old new more
keeps_appends None between new more first second = tt
keeps_appends (Some xs) None new more first second = absurd first
keeps_appends (Some xs) (Some ys) None more first second = absurd second
keeps_appends (Some xs) (Some ys) (Some zs) more first second = second ∙ ap (λ (t : List ℕ). t ++ more) first
