-- What is done to a folder, a step at a time.
use Rattle.std.specs.Prelude.{◌≡◌, ℕ, Option, None, Some, List, [], ◌∷◌, ◌++◌, ⊤}
use Rattle.cli_io.specs.declared.folder.Look.{Look}
use Rattle.cli_io.specs.declared.folder.Rights.{Rights}

pub data Step : Type 0 where
  -- the path leads to this one, which is no link
  Led : (path out : List ℕ) → Step
  -- that stands there
  Looked : (out : List ℕ) → Look → Step
  -- the number was drawn, which nobody can guess
  Drawn : (number : ℕ) → Step
  -- an empty file of that name is made, where nothing stood, with that mode, and is open
  Made : (name : List ℕ) (mode : ℕ) → Step
  -- what stands there, no regular file of a folder, is open
  Opened : (out : List ℕ) → Step
  -- these bytes are written after those that were written to what is open
  Put : List ℕ → Step
  -- the file that is open has these rights, or narrower ones
  Dressed : Rights → Step
  -- the file that is open outlasts a stop of the machine, with all that was written
  Synced : Step
  -- the file that is open, which stands under the first name, stands under the second, in place of what stood there
  Moved : (name out : List ℕ) → Step
  -- the file that is open, which stands under that name, is removed, if it can be
  Removed : (name : List ℕ) → Step
  -- the name of what stands there outlasts a stop of the machine, if the file system can do that
  Settled : (out : List ℕ) → Step

-- the steps that are known stay as they were
abbrev pub Stays : Option (List Step) → Option (List Step) → Type 0
Stays None new = ⊤
Stays (Some steps) new = new ≡ Some steps

-- the steps that are known are one more
abbrev pub Adds : Option (List Step) → Step → Option (List Step) → Type 0
Adds None step new = ⊤
Adds (Some steps) step new = new ≡ Some (steps ++ step ∷ [])
