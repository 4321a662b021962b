-- What is told of a manifest that was not read.
use Rattle.std.proofs.Common.{◌≡◌, ◌⊎◌, ◌∙◌, ℕ, zero, suc, List, [], ◌∷◌, Some, Vec, get_or, length, arith, inl, inr}
use Rattle.std.specs.Global.{Global}
use Rattle.std.specs.List.{Contains}
use Rattle.std.specs.Prelude.{slice_get}
use Rattle.manifest.specs.declared.fault.ManifestFault.{ManifestFault}
use Rattle.base.specs.declared.or_memory.OrMemory.{OrMemory}
use Rattle.base.specs.declared.or_memory.OrMemory.TheVariants.{OutOfMemory, Fault}
use Rattle.cli_commands.specs.Faults.{fault_of_manifest, status_of}
use Rattle.cli_commands.specs.Told.{IsAcceptedTrace, IsManifest}

-- it has this fault, where it is one
abbrev pub IsTold : (ManifestFault → Type 0) → OrMemory ManifestFault → Type 0
IsTold Has OutOfMemory = Unit {0}
IsTold Has (Fault fault) = Has fault

-- It is refused only where it has a fault: want of memory has another status.
pub refused_for_fault : (Has : ManifestFault → Type 0) (error : OrMemory ManifestFault) → IsTold Has error → status_of (fault_of_manifest error) ≡ 1 → (fault : ManifestFault) × Has fault
refused_for_fault Has OutOfMemory told refused = absurd cc
refused_for_fault Has (Fault fault) told refused = (fault, told)

-- what stands first is what is read there
pub first_is : {X : Type 0} (xs : List X) (x y : X) → x ≡ get_or xs 0 x → slice_get xs 0 ≡ Some y → x ≡ y
first_is [] x y read there = absurd cc
first_is (z ∷ zs) x y read there = cc

pub second_is : {X : Type 0} (xs : List X) (x y : X) → x ≡ get_or xs 1 x → slice_get xs 1 ≡ Some y → x ≡ y
second_is [] x y read there = absurd cc
second_is (z ∷ []) x y read there = absurd cc
second_is (z ∷ w ∷ zs) x y read there = cc

-- what is so of the bytes of the first that is read, is so of the one that stands there
pub of_first : (P : List ℕ → Type 0) (files : List (Vec ℕ Global)) {a : Vec ℕ Global} {one : List ℕ} → a ≡ get_or files 0 a → one ≡ a.items → P one
    → (first : Vec ℕ Global) → slice_get files 0 ≡ Some first → P first.items
of_first P files read same holds first one = rw (← first_is files _ first read one, ← same) holds

-- what is so of the bytes of two that are read, is so of those that stand there
pub of_both : (P : List ℕ → List ℕ → Type 0) (files : List (Vec ℕ Global)) {a b : Vec ℕ Global} {one two : List ℕ} → a ≡ get_or files 0 a → b ≡ get_or files 1 b
    → one ≡ a.items → two ≡ b.items → P one two
    → (first second : Vec ℕ Global) → slice_get files 0 ≡ Some first → slice_get files 1 ≡ Some second → P first.items second.items
of_both P files read too same again holds first second one other = rw (← first_is files _ first read one, ← second_is files _ second too other, ← same, ← again) holds

-- a trace that is accepted is so over a manifest
pub over_manifest : (manifest text : List ℕ) → IsAcceptedTrace manifest text → IsManifest manifest
over_manifest manifest text accepted = (accepted.0, accepted.1, accepted.4)

-- of two that are read each is one
pub one_of_two : {X : Type 0} (xs : List X) (a b y : X) → length xs ≡ 2 → a ≡ get_or xs 0 a → b ≡ get_or xs 1 b → Contains xs y → (a ≡ y) ⊎ (b ≡ y)
one_of_two [] a b y two first second there = absurd (omega (arith, two))
one_of_two (x ∷ []) a b y two first second there = absurd (omega (arith, two))
one_of_two (x ∷ z ∷ []) a b y two first second (zero, lt, is) = inl (first ∙ is)
one_of_two (x ∷ z ∷ []) a b y two first second (suc zero, lt, is) = inr (second ∙ is)
one_of_two (x ∷ z ∷ []) a b y two first second (suc (suc k), lt, is) = absurd (omega (arith, lt))
one_of_two (x ∷ z ∷ w ∷ rest) a b y two first second there = absurd (omega (arith, two))
