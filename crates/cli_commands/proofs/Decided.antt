-- Why an engine follows another one or does not, from what was made of its manifest.
use Rattle.std.proofs.Common.{◌≡◌, ℕ, Bool, false, true, Option, Some, None, Result, Ok, Err, List, sym, subst}
use Rattle.std.specs.Prelude.{IfErr, IfOk, IfSome, MatchBool}
use Rattle.base.specs.declared.or_memory.OrMemory.{OrMemory}
use Rattle.base.specs.declared.or_memory.OrMemory.TheVariants.{Fault}
use Rattle.engine_core.specs.ByNumber.{NumberedState}
use Rattle.host_journal.specs.declared.fault.JournalFault.{JournalFault}
use Rattle.host_live.specs.declared.reports.Unfollowed.{Unfollowed}
use Rattle.host_live.specs.declared.request.Succession.{Succession}
use Rattle.cli_commands.specs.Following.{IsDecidedBy, IsFollowing, IsKept, IsManifestFor, IsNextOf, IsNoneBy, IsToldWhy, MayRefuse, not_next}
use Rattle.cli_commands.specs.Readings.{Reading, held}
use Rattle.cli_commands.specs.declared.following.Next.{Next}

module _ {E : Type 0} (MayRead : Reading → Type 0) (number its : ℕ) (own : List ℕ) (how : Succession) (engine : NumberedState) (bytes : List ℕ) (next : Result Next (OrMemory JournalFault)) (same : its ≡ number) (suits : IsManifestFor MayRead own how bytes) where
  -- it was decided that one follows
  pub decided_so : (result : Result (Option Unfollowed) E) (kept : Option Next) → IfOk next (IsNextOf its how engine) → IfOk next (λ n. n.bytes.items ≡ bytes) → IfOk result (λ why. IsDecidedBy why (IsKept next kept)) → IfOk result (λ why. IsDecidedBy why (IsFollowing MayRead number own how engine kept))
  decided_so (Err fault) kept nexts are decided = tt
  decided_so (Ok (Some why)) kept nexts are decided = tt
  decided_so (Ok None) kept nexts are decided =
      let is_next : IsNextOf number how engine decided.0 = subst (λ (n : ℕ). IsNextOf n how engine decided.0) same (subst (λ (r : Result Next (OrMemory JournalFault)). IfOk r (IsNextOf its how engine)) decided.1 nexts) in
      let its_bytes : decided.0.bytes.items ≡ bytes = subst (λ (r : Result Next (OrMemory JournalFault)). IfOk r (λ n. n.bytes.items ≡ bytes)) decided.1 are in
      subst (IsFollowing MayRead number own how engine) (sym decided.2) (is_next, subst (IsManifestFor MayRead own how) (sym its_bytes) suits)

  -- it was refused
  pub refused_so : (result : Result (Option Unfollowed) E) → IfErr next (IsNoneBy its engine bytes) → IfOk result (λ it. IfSome it (IsToldWhy next)) → IfOk result (λ it. IfSome it (MayRefuse MayRead number own how engine))
  refused_so (Err fault) none told = tt
  refused_so (Ok None) none told = tt
  refused_so (Ok (Some why)) none told =
      let is_none : IsNoneBy number engine bytes (Fault told.0) = subst (λ (n : ℕ). IsNoneBy n engine bytes (Fault told.0)) same (subst (λ (r : Result Next (OrMemory JournalFault)). IfErr r (IsNoneBy its engine bytes)) told.1 none) in
      subst (MayRefuse MayRead number own how engine) (sym told.2) (not_next is_none.0 told.0 (subst (IsManifestFor MayRead own how) (sym is_none.1) suits) is_none.2)

-- the manifest in force is one for a rotation
pub suits_own : (MayRead : Reading → Type 0) (own : List ℕ) (how : Succession) (bytes : List ℕ) → how.is_reloaded ≡ false → bytes ≡ own → IsManifestFor MayRead own how bytes
suits_own MayRead own how bytes still same = subst (λ (b : Bool). MatchBool b (MayRead (held bytes)) (bytes ≡ own)) (sym still) same

-- and what was read for a reload
pub suits_read : (MayRead : Reading → Type 0) (own : List ℕ) (how : Succession) (bytes : List ℕ) → how.is_reloaded ≡ true → MayRead (held bytes) → IsManifestFor MayRead own how bytes
suits_read MayRead own how bytes reloaded read = subst (λ (b : Bool). MatchBool b (MayRead (held bytes)) (bytes ≡ own)) (sym reloaded) read
