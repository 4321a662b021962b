-- A word that is equal to one of a range, of bits or of a scalar is one of it too.
use Rattle.std.proofs.Common.{◌≡◌, ℕ, sym, subst}
use Rattle.scalar_domain.specs.declared.spans.Span.{Span}
use Rattle.scalar_domain.specs.declared.bits.KnownBits.{KnownBits}
use Rattle.scalar_domain.specs.declared.scalars.Scalar.{Scalar}
use Rattle.scalar_domain.specs.Scalar.{Within, Agrees, Has}

pub moved_within : (s : Span) (v w : ℕ) → w ≡ v → Within s v → Within s w
moved_within s v w e h = subst (Within s) (sym e) h

pub moved_agrees : (s : KnownBits) (v w : ℕ) → w ≡ v → Agrees s v → Agrees s w
moved_agrees s v w e h = subst (Agrees s) (sym e) h

pub moved_has : (s : Scalar) (v w : ℕ) → w ≡ v → Has s v → Has s w
moved_has s v w e h = subst (Has s) (sym e) h
