-- What is printed on a page goes on to a sink: how a text more passes.
use Rattle.std.specs.Prelude.{◌≡◌, ℕ, ◌+◌, Option, Some, List, [], ◌++◌, Result, Ok, Err, length}
use Rattle.std.specs.Io.KnownBytes.{Appends}
use Rattle.trace.specs.declared.fault.PrintFault.{PrintFault}
use Rattle.trace.specs.declared.page.Page.{Page}
use Rattle.trace.specs.Sinks.{HasFailed}

-- The text was printed after what the page held: so many bytes of both were handed on, and the others are on the page.
pub record Passed (text : Option (List ℕ)) (before : Page) (old : Option (List ℕ)) (failed : ℕ) (page : Page) (new : Option (List ℕ)) (fails : ℕ) : Type 0 where
  pub more : List ℕ
  pub is : text ≡ Some more
  pub handed : List ℕ
  pub whole : before.text ++ more ≡ handed ++ page.text
  pub count : page.written ≡ before.written + length handed
  pub told : Appends old new handed
  pub none : fails ≡ failed

-- a text begins with what was handed on, which is so much that so many bytes were in all
pub record BeginsWith (text : List ℕ) (before : ℕ) (old : Option (List ℕ)) (written : ℕ) (new : Option (List ℕ)) : Type 0 where
  pub handed : List ℕ
  pub rest : List ℕ
  pub whole : text ≡ handed ++ rest
  pub count : written ≡ before + length handed
  pub told : Appends old new handed

-- A write failed, before all that the page held and the text, if there is one, was handed on.
pub record IsCut (text : Option (List ℕ)) (before : Page) (old : Option (List ℕ)) (failed : ℕ) (written : ℕ) (new : Option (List ℕ)) (fails : ℕ) : Type 0 where
  pub fault : HasFailed failed fails
  pub front : (more : List ℕ) → text ≡ Some more → BeginsWith (before.text ++ more) before.written old written new

-- nothing more was printed
abbrev pub Flushes : {T : Type 0} → Page → Option (List ℕ) → ℕ → Result T PrintFault → Page → Option (List ℕ) → ℕ → Type 0
Flushes before old failed (Ok done) page new fails = Passed (Some []) before old failed page new fails
Flushes before old failed (Err fault) page new fails = IsCut (Some []) before old failed fault.written new fails
