-- How a file is written whole, by what was done to its folder.
use Rattle.std.specs.Prelude.{◌≡◌, ◌≢◌, ◌-◌, ◌^◌, ℕ, Bool, true, false, Option, None, Some, List, [], ◌∷◌, ◌++◌, ⊤, Result, Ok, Err, codes}
use Rattle.std.specs.Fmt.{digits, format_spec, padded_integral, take_chars}
use Rattle.std.specs.Option.{unwrap_or}
use Rattle.std.specs.Path.{path_file_name, path_with_file_name}
use Rattle.cli_io.specs.declared.folder.Look.{Look}
use Rattle.cli_io.specs.declared.folder.Look.TheVariants.{Nothing, File, Stream}
use Rattle.cli_io.specs.declared.folder.Rights.{Rights}
use Rattle.cli_io.specs.Folders.{Step, Led, Looked, Drawn, Made, Opened, Put, Dressed, Synced, Moved, Removed, Settled}

-- a new file that is open, which nothing leads to but its own name
pub record Draft : Type 0 where
  pub out : List ℕ
  pub look : Look
  pub name : List ℕ
  pub written : List ℕ
  pub is_dressed : Bool
  pub is_synced : Bool

-- how far it is
pub data Stage : Type 0 where
  Begun : Stage
  -- the path leads there
  AtOut : (out : List ℕ) → Stage
  -- that stands there, and no file of ours; and the number that was drawn last, if one was
  Seen : (out : List ℕ) → Look → (drawn : Option ℕ) → Stage
  -- a file of ours stands beside it
  Drafting : Draft → Stage
  -- that file took its place
  Placed : (out : List ℕ) → Stage
  Done : (out : List ℕ) → Stage
  -- these bytes were written to what stood there, which is no regular file of a folder
  Pouring : (out written : List ℕ) → Stage

-- the mode of a new file: 0600 where it is to take another's place, and else 0666, from which the system takes its mask
abbrev pub first_mode_of : Look → ℕ
first_mode_of Nothing = 438
first_mode_of (File rights) = 384
first_mode_of Stream = 384

-- a new file may take the place of what was seen
abbrev pub MayTakePlace : Look → Type 0
MayTakePlace Nothing = ⊤
MayTakePlace (File rights) = ⊤
MayTakePlace Stream = ⊥

-- the file that takes the place has the rights of the one before
abbrev pub IsDressedFor : Look → Bool → Type 0
IsDressedFor Nothing dressed = ⊤
IsDressedFor (File rights) dressed = dressed ≡ true
IsDressedFor Stream dressed = ⊥

-- a number in 16 hexadecimal digits
abbrev pub sixteen_digits : ℕ → List ℕ
sixteen_digits number = padded_integral (format_spec 32 0 4 16 (2 ^ 64 - 1)) false [] (digits 16 false number)

-- the path of a new file beside another: its name is the first 58 characters of that one's name, `.camr-`, and the number
abbrev pub beside : (out : List ℕ) (number : ℕ) → List ℕ
beside out number = path_with_file_name out (take_chars 58 (unwrap_or (path_file_name out) []) ++ (codes ".camr-" ++ sixteen_digits number))

-- the bytes begin so
abbrev pub IsFrontOf : (front bytes : List ℕ) → Type 0
IsFrontOf front bytes = (rest : List ℕ) × (bytes ≡ front ++ rest)

-- of those bytes these come next to what is open, which is not synced as yet
abbrev pub TakesBytes : (bytes : List ℕ) → Stage → (some : List ℕ) → Type 0
TakesBytes bytes Begun some = ⊥
TakesBytes bytes (AtOut out) some = ⊥
TakesBytes bytes (Seen out look drawn) some = ⊥
TakesBytes bytes (Drafting draft) some = (draft.is_synced ≡ false) × IsFrontOf (draft.written ++ some) bytes
TakesBytes bytes (Placed out) some = ⊥
TakesBytes bytes (Done out) some = ⊥
TakesBytes bytes (Pouring out written) some = IsFrontOf (written ++ some) bytes

-- with so many bytes more
abbrev pub with_more : Stage → List ℕ → Stage
with_more Begun bytes = Begun
with_more (AtOut out) bytes = AtOut out
with_more (Seen out look drawn) bytes = Seen out look drawn
with_more (Drafting draft) bytes = Drafting (record draft { written = draft.written ++ bytes })
with_more (Placed out) bytes = Placed out
with_more (Done out) bytes = Done out
with_more (Pouring out written) bytes = Pouring out (written ++ bytes)

abbrev pub draft_of : List ℕ → Look → List ℕ → List ℕ → Bool → Bool → Draft
draft_of out look name written dressed synced = record { out = out; look = look; name = name; written = written; is_dressed = dressed; is_synced = synced }

abbrev pub new_draft : List ℕ → Look → List ℕ → Draft
new_draft out look name = draft_of out look name [] false false

-- These steps, after the first ones, lead there. The only step that changes what stands where the path leads is that a file takes its place
-- which has all of the bytes, and outlasts a stop of the machine; its rights are widened only once it has them; its name has the number
-- that was drawn last; what is removed is a file of ours; what is opened is none of a folder; and what is written are the bytes from the
-- front.
pub data Reached (path bytes : List ℕ) (before : List Step) : List Step → Stage → Type 0 where
  begins : Reached path bytes before before Begun
  leads : (steps : List Step) (out : List ℕ) → Reached path bytes before steps Begun → Reached path bytes before (steps ++ Led path out ∷ []) (AtOut out)
  looks : (steps : List Step) (out : List ℕ) (look : Look) → Reached path bytes before steps (AtOut out) → Reached path bytes before (steps ++ Looked out look ∷ []) (Seen out look None)
  draws : (steps : List Step) (out : List ℕ) (look : Look) (drawn : Option ℕ) (number : ℕ) → Reached path bytes before steps (Seen out look drawn) → MayTakePlace look
      → Reached path bytes before (steps ++ Drawn number ∷ []) (Seen out look (Some number))
  makes : (steps : List Step) (out : List ℕ) (look : Look) (number : ℕ) → Reached path bytes before steps (Seen out look (Some number)) → MayTakePlace look → beside out number ≢ out
      → Reached path bytes before (steps ++ Made (beside out number) (first_mode_of look) ∷ []) (Drafting (new_draft out look (beside out number)))
  opens : (steps : List Step) (out : List ℕ) → Reached path bytes before steps (Seen out Stream None) → Reached path bytes before (steps ++ Opened out ∷ []) (Pouring out [])
  puts : (steps : List Step) (stage : Stage) (some : List ℕ) → Reached path bytes before steps stage → TakesBytes bytes stage some → Reached path bytes before (steps ++ Put some ∷ []) (with_more stage some)
  dresses : (steps : List Step) (draft : Draft) (rights : Rights) → Reached path bytes before steps (Drafting draft) → draft.written ≡ bytes → draft.look ≡ File rights
      → Reached path bytes before (steps ++ Dressed rights ∷ []) (Drafting (record draft { is_dressed = true; is_synced = false }))
  syncs : (steps : List Step) (draft : Draft) → Reached path bytes before steps (Drafting draft) → Reached path bytes before (steps ++ Synced ∷ []) (Drafting (record draft { is_synced = true }))
  moves : (steps : List Step) (draft : Draft) → Reached path bytes before steps (Drafting draft) → draft.written ≡ bytes → IsDressedFor draft.look draft.is_dressed → draft.is_synced ≡ true
      → Reached path bytes before (steps ++ Moved draft.name draft.out ∷ []) (Placed draft.out)
  settles : (steps : List Step) (out : List ℕ) → Reached path bytes before steps (Placed out) → Reached path bytes before (steps ++ Settled out ∷ []) (Done out)
  removes : (steps : List Step) (draft : Draft) → Reached path bytes before steps (Drafting draft) → Reached path bytes before (steps ++ Removed draft.name ∷ []) (Seen draft.out draft.look None)

-- the steps that are known lead there
abbrev pub At : (path bytes : List ℕ) → Option (List Step) → Option (List Step) → Stage → Type 0
At path bytes None new stage = ⊤
At path bytes (Some before) new stage = (steps : List Step) × (new ≡ Some steps) × Reached path bytes before steps stage

-- all is done
abbrev pub IsWhole : List ℕ → Stage → Type 0
IsWhole bytes Begun = ⊥
IsWhole bytes (AtOut out) = ⊥
IsWhole bytes (Seen out look drawn) = ⊥
IsWhole bytes (Drafting draft) = ⊥
IsWhole bytes (Placed out) = ⊥
IsWhole bytes (Done out) = ⊤
IsWhole bytes (Pouring out written) = written ≡ bytes

-- what stood where the path leads stands there, and no file of ours is left; or a front of the bytes was written to what is no regular
-- file
abbrev pub IsUndone : List ℕ → Stage → Type 0
IsUndone bytes Begun = ⊤
IsUndone bytes (AtOut out) = ⊤
IsUndone bytes (Seen out look drawn) = ⊤
IsUndone bytes (Drafting draft) = ⊥
IsUndone bytes (Placed out) = ⊥
IsUndone bytes (Done out) = ⊥
IsUndone bytes (Pouring out written) = IsFrontOf written bytes

-- what is said of a call that writes a file whole
abbrev pub Replaces : {T E : Type 0} → (path bytes : List ℕ) → Option (List Step) → Result T E → Option (List Step) → Type 0
Replaces path bytes old (Ok done) new = (stage : Stage) × At path bytes old new stage × IsWhole bytes stage
Replaces path bytes old (Err fault) new = (stage : Stage) × At path bytes old new stage × IsUndone bytes stage
