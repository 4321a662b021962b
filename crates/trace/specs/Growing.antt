-- A trace that is printed while its history grows: what waits of it, and how a text more goes on.
use Rattle.std.specs.Prelude.{◌≡◌, ℕ, Option, Some, List, ◌++◌, Result, Ok, Err}
use Rattle.std.specs.Io.KnownBytes.{Appends}
use Rattle.world_calls.specs.declared.trace.Version.{Version}
use Rattle.trace.specs.Sinks.{HasFailed}

-- the version, and the bytes that were not yet handed on
pub record GrowingState : Type 0 where
  pub version : Version
  pub waiting : List ℕ

-- the text stands after what waited: a front of both was handed on, and the rest waits
pub record Goes (text : Option (List ℕ)) (before : List ℕ) (old : Option (List ℕ)) (waiting : List ℕ) (new : Option (List ℕ)) : Type 0 where
  pub more : List ℕ
  pub is : text ≡ Some more
  pub handed : List ℕ
  pub whole : before ++ more ≡ handed ++ waiting
  pub told : Appends old new handed

-- a front of the text was handed on
pub record IsFront (text : List ℕ) (old new : Option (List ℕ)) : Type 0 where
  pub handed : List ℕ
  pub rest : List ℕ
  pub whole : text ≡ handed ++ rest
  pub told : Appends old new handed

-- a write failed at this text: a front of what waited and of it is out
pub record StopsIn (text : Option (List ℕ)) (before : List ℕ) (old new : Option (List ℕ)) : Type 0 where
  pub more : List ℕ
  pub is : text ≡ Some more
  pub front : IsFront (before ++ more) old new

-- what is said of a text, of what waits and of a sink: where a write failed, no more than a front of what waited and of the text is out
abbrev pub PrintsOn : {T E : Type 0} → Option (List ℕ) → List ℕ → Option (List ℕ) → Result T E → List ℕ → Option (List ℕ) → Type 0
PrintsOn text before old (Ok done) waiting new = Goes text before old waiting new
PrintsOn text before old (Err fault) waiting new = (more : List ℕ) → text ≡ Some more → IsFront (before ++ more) old new

-- an error is told where a write of the sink failed, and only there
abbrev pub FailsBySink : {T E : Type 0} → ℕ → Result T E → ℕ → Type 0
FailsBySink failed (Ok done) fails = fails ≡ failed
FailsBySink failed (Err fault) fails = HasFailed failed fails
