-- Lines that are taken: they go on from where they began, and few bytes stand before them.
use Rattle.std.proofs.Common.{◌≡◌, ◌≢◌, ◌<◌, ◌≤◌, ◌⊎◌, ℕ, Option, Some, None, List, inl, inr, length, refl, arith}
use Rattle.world_calls.specs.declared.trace.Version.{Version}
use Rattle.world_calls.specs.declared.trace.Version.TheVariants.{One, Three, Two}
use Rattle.trace.specs.TraceText.{header}
use Rattle.host_embedding.specs.declared.call_result.CallResult.{CallResult}
use Rattle.host_embedding.specs.declared.call_result.CallResult.TheVariants.{NoRoom, Taken}
use Rattle.world.specs.World.{Setup, World, version_of}
use Rattle.host_embedding.specs.Lines.{PutsLines, front_of, front_over}

-- nothing was put for want of room, or since the record was taken, or else lines were put
which : (result : CallResult) → (result ≡ NoRoom) ⊎ ((result ≡ Taken) ⊎ ((result ≢ NoRoom) × (result ≢ Taken)))
which NoRoom = inl refl
which Taken = inr (inl refl)
which result = inr (inr ((λ e. cc), (λ e. cc)))

pub goes_within : {T : Type 0} (text : T → Option (List ℕ)) (result : CallResult) (first : List ℕ) (items : List T) (taken from : ℕ) (before place : List ℕ) (written next : ℕ) → PutsLines text result first items taken from before place written next → from < length items → (from ≤ next) × (next ≤ length items)
goes_within text result first items taken from before place written next p some = elim (which result) [
  | inl none ↦ let same = (p.1 none).1 in (omega (arith, same), omega (arith, same, some))
  | inr (inl gone) ↦ let same = (p.5 gone).2 in (omega (arith, same), omega (arith, same, some))
  | inr (inr put) ↦ let lines = p.0 put.0 put.1 in let onwards = lines.0.onwards in let within = lines.1.0 some in (onwards, within)
]

few_first : (version : Version) → length (header version) ≤ 13
few_first One = omega arith
few_first Two = omega arith
few_first Three = omega arith

few_over : (carried : Option World) (version : Version) → length (front_over carried version) ≤ 13
few_over None version = few_first version
few_over (Some world) version = omega arith

-- what stands before record 0
pub few_front : (setup : Setup) → length (front_of setup) ≤ 13
few_front setup = few_over setup.carried (version_of setup)
