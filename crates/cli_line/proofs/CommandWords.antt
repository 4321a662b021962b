-- What `clap` makes of the lines that begin with the word of a subcommand.
use Rattle.std.proofs.Common.{◌≡◌, ℕ, Bool, false, List, [], ◌∷◌, ◌++◌, Option, Some, refl, ◌∙◌, ap, ap₂, append-nil, append_assoc}
use Rattle.std.specs.Prelude.{find, is_some, fold, option_map, unwrap_or}
use Rattle.std.specs.Option.{option_map_or}
use Rattle.clap.specs.Words.{Rule, Shape, Text, fault_of, subcommand_of}
use Rattle.clap.specs.Walk.{Held, Names, Walk, Waiting, answers_to, finished, idle, nothing_held, rows_after, settled, walk, walk_from, walked}
use Rattle.clap.specs.Simple.{built, entered, label_of, names_of, new_shape, rows_at}
use Rattle.clap.specs.Faults.{check_fault, defaults_fault, entered_fault, level_fault, settle_fault, turn_fault, walk_fault}
use Rattle.clap.specs.Kinds.{Kinds, or_else}
use Rattle.cli_line.specs.RunCommand.{camr_command}

-- the subcommand that answers to a word
abbrev pub answering : Text → Option Shape
answering name = find (λ s. answers_to name (label_of s)) (built camr_command).subs

-- the same, as it is built
abbrev pub shape_of : Text → Shape
shape_of name = unwrap_or (answering name) (new_shape [])

-- a walk that stopped at a subcommand
abbrev pub stopped_at : Held → Waiting → ℕ → Bool → Text → List Text → Walk
stopped_at h waiting position trailing name seen =
    record { held = h; waiting = waiting; position = position; is_trailing = trailing; stopped = Some (name, seen) }

stays_stopped : (c : List Rule) (names : Names) (h : Held) (waiting : Waiting) (position : ℕ) (trailing : Bool) (name : Text) (seen rest : List Text)
    → fold (walked c names) (stopped_at h waiting position trailing name seen) rest ≡ stopped_at h waiting position trailing name (seen ++ rest)
unfolding walked
stays_stopped c names h waiting position trailing name seen [] = rw append-nil refl
stays_stopped c names h waiting position trailing name seen (x ∷ rest) =
    stays_stopped c names h waiting position trailing name (seen ++ x ∷ []) rest
    ∙ ap (stopped_at h waiting position trailing name) (append_assoc seen (x ∷ []) rest)

stopped_faultless : (s : Shape) (names : Names) (h : Held) (waiting : Waiting) (position : ℕ) (trailing : Bool) (name : Text) (seen rest : List Text)
    → walk_fault s names (stopped_at h waiting position trailing name seen) rest ≡ []
unfolding walked walk_fault
stopped_faultless s names h waiting position trailing name seen [] = refl
stopped_faultless s names h waiting position trailing name seen (x ∷ rest) =
    stopped_faultless s names h waiting position trailing name (seen ++ x ∷ []) rest

abbrev pub top : Shape
top = (built camr_command).top

abbrev pub top_names : Names
top_names = names_of (built camr_command)

abbrev top_walk : List Text → Walk
top_walk words = walk top.rules top_names nothing_held words

pub or_else_none : (ks : Kinds) → or_else ks [] ≡ ks
or_else_none [] = refl
or_else_none (k ∷ ks) = refl

-- the faults of the words after the first one
abbrev pub faults_behind : Shape → List Text → Kinds
faults_behind s rest = level_fault s [] nothing_held rest false []

-- the word is that of this subcommand: the walk stops at it
pub record IsWordOf (name : Text) (s : Shape) : Type 0 where
  pub stops : walked top.rules top_names (walk_from nothing_held) name ≡ stopped_at nothing_held idle 1 false name []
  pub faultless : turn_fault top top_names (walk_from nothing_held) name ≡ []
  pub found : answering name ≡ Some s
  pub named : s.name ≡ name

module _ (name : Text) (s : Shape) (is : IsWordOf name s) (rest : List Text) where
  walk_is : top_walk (name ∷ rest) ≡ stopped_at nothing_held idle 1 false name rest
  walk_is = ap (λ (w : Walk). fold (walked top.rules top_names) w rest) is.stops ∙ stays_stopped top.rules top_names nothing_held idle 1 false name [] rest

  -- the words after it are for the subcommand
  pub command_enters : subcommand_of camr_command (name ∷ rest) ≡ Some (name, rows_after s.rules [] rest)
  command_enters = ap (λ (w : Walk). entered (built camr_command) w.stopped) walk_is
      ∙ (ap (option_map (λ (x : Shape). rows_at x rest)) is.found ∙ ap (λ (n : Text). Some (n, rows_after s.rules [] rest)) is.named)

  walk_faultless : walk_fault top top_names (walk_from nothing_held) (name ∷ rest) ≡ []
  unfolding walk_fault
  walk_faultless = ap₂ or_else is.faultless (ap (λ (w : Walk). walk_fault top top_names w rest) is.stops ∙ stopped_faultless top top_names nothing_held idle 1 false name [] rest)

  abbrev whole_fault : Kinds → Walk → Kinds
  whole_fault f w = or_else f (or_else (entered_fault (built camr_command) w.stopped)
      (or_else (settle_fault top.rules top.args_override_self w.held)
      (or_else (defaults_fault (settled top.rules w.held).rows top.rules)
      (check_fault top (finished top.rules w.held) (is_some (entered (built camr_command) w.stopped))))))

  -- the faults, by the subcommand that was found
  abbrev fault_in : Option Shape → Kinds
  fault_in o = or_else (option_map_or (λ (x : Shape). faults_behind x rest) o [])
      (or_else (settle_fault top.rules top.args_override_self nothing_held)
      (or_else (defaults_fault (settled top.rules nothing_held).rows top.rules)
      (check_fault top (finished top.rules nothing_held) (is_some (option_map (λ (x : Shape). rows_at x rest) o)))))

  found_fault : fault_in (Some s) ≡ faults_behind s rest
  unfolding defaults_fault
  found_fault = or_else_none (faults_behind s rest)

  -- the faults of the line are those of the words after it
  pub command_fault : fault_of camr_command (name ∷ rest) ≡ faults_behind s rest
  command_fault = ap₂ whole_fault walk_faultless walk_is ∙ (ap fault_in is.found ∙ found_fault)
