-- The walk over the words after a subcommand's, word by word.
use Rattle.std.proofs.Common.{◌≡◌, ℕ, List, [], ◌∷◌, ◌++◌, Some, false, codes, refl, ◌∙◌, ap, ap₂, subst, sym}
use Rattle.std.specs.Prelude.{fold, unwrap_or}
use Rattle.clap.specs.Words.{Rule, Shape, Text}
use Rattle.clap.specs.Walk.{Held, Walk, arg_by_id, arg_by_index, finished, idle, nothing_held, option, option_word, reacted, rows_after, settled, to_positional, value, walked}
use Rattle.clap.specs.Faults.{check_fault, defaults_fault, react_fault, settle_fault, step_fault, turn_fault, walk_fault}
use Rattle.clap.specs.Kinds.{Kinds, or_else}
use Rattle.cli_line.specs.RunCommand.{workers_rule}
use Rattle.cli_line.specs.RunLine.{IsPlain}
use Rattle.cli_line.proofs.CommandWords.{faults_behind, or_else_none, shape_of}
use Rattle.cli_line.proofs.PlainWords.{turn_path, turn_value, walk_at, walked_path, walked_value}

abbrev pub start : Walk
start = walk_at nothing_held idle 1

-- the walk over the words leads from w to `end`, with these faults
pub record Trace (s : Shape) (w : Walk) (words : List Text) (faults : Kinds) (end : Walk) : Type 0 where
  pub leads : fold (walked s.rules []) w words ≡ end
  pub fails : walk_fault s [] w words ≡ faults

module _ {s : Shape} where
  pub trace_nil : (w : Walk) → Trace s w [] [] w
  unfolding walk_fault
  trace_nil w = record { leads = refl; fails = refl }

  pub trace_more : (w after end : Walk) (word : Text) (rest : List Text) (f g : Kinds) → walked s.rules [] w word ≡ after
      → turn_fault s [] w word ≡ f → Trace s after rest g end → Trace s w (word ∷ rest) (or_else f g) end
  unfolding walk_fault
  trace_more w after end word rest f g step turn more = record {
    leads = ap (λ v. fold (walked s.rules []) v rest) step ∙ more.leads;
    fails = ap₂ or_else turn (ap (λ v. walk_fault s [] v rest) step ∙ more.fails);
  }

module _ (s : Shape) where
  abbrev pub path_walk : Walk → Text → Walk
  path_walk w word = to_positional s.rules (arg_by_index s.rules w.position) word w w.held

  -- ---- the end

  abbrev pub end_fault : Kinds → Walk → Kinds
  end_fault f w = or_else f (or_else (settle_fault s.rules s.args_override_self w.held)
      (or_else (defaults_fault (settled s.rules w.held).rows s.rules)
      (check_fault s (finished s.rules w.held) false)))

  pub traced_fault : (words : List Text) (f : Kinds) (end : Walk) → Trace s start words f end → faults_behind s words ≡ end_fault f end
  traced_fault words f end t = ap₂ end_fault t.fails t.leads

  pub traced_rows : (words : List Text) (f : Kinds) (end : Walk) → Trace s start words f end
      → rows_after s.rules [] words ≡ finished s.rules end.held
  traced_rows words f end t = ap (λ (w : Walk). finished s.rules w.held) t.leads

module _ {s : Shape} where
  -- a path
  pub trace_path : (h : Held) (position : ℕ) (word : Text) (rest : List Text) (g : Kinds) (end : Walk) → IsPlain word
      → Trace s (path_walk s (walk_at h idle position) word) rest g end
      → Trace s (walk_at h idle position) (word ∷ rest) (or_else (step_fault s position h value) g) end
  trace_path h position word rest g end plain more =
      trace_more (walk_at h idle position) _ end word rest _ g (walked_path s.rules h position word plain) (turn_path s h position word plain) more

  -- the last path
  pub trace_last : (h : Held) (position : ℕ) (word : Text) → IsPlain word
      → Trace s (walk_at h idle position) (word ∷ []) (or_else (step_fault s position h value) []) (path_walk s (walk_at h idle position) word)
  trace_last h position word plain = trace_path h position word [] [] _ plain (trace_nil (path_walk s (walk_at h idle position) word))

  -- two paths
  pub trace_both : (h : Held) (a b : Text) → let second = (path_walk s (walk_at h idle 1) a).held in path_walk s (walk_at h idle 1) a ≡ walk_at second idle 2
      → IsPlain a → IsPlain b
      → Trace s (walk_at h idle 1) (a ∷ b ∷ []) (or_else (step_fault s 1 h value) (or_else (step_fault s 2 second value) [])) (path_walk s (walk_at second idle 2) b)
  trace_both h a b first plain_a plain_b =
      let second = (path_walk s (walk_at h idle 1) a).held in
      trace_path h 1 a (b ∷ []) _ _ plain_a
      (subst (λ (w : Walk). Trace s w (b ∷ []) (or_else (step_fault s 2 second value) []) (path_walk s (walk_at second idle 2) b)) (sym first) (trace_last second 2 b plain_b))

-- ---- what follows `run`

abbrev pub run_shape : Shape
run_shape = shape_of (codes "run")

abbrev pub run_rules : List Rule
run_rules = run_shape.rules

-- `--workers` and its number
abbrev pub asks_workers : Held → Held
asks_workers h = record (settled run_rules h) { pending = Some (codes "workers", []) }

abbrev pub number_walk : Held → ℕ → Text → Walk
number_walk h position number = let pair = option_word (arg_by_id run_rules (codes "workers")) (codes "workers") number (asks_workers h) in walk_at pair.0 pair.1 position

workers_walked : (h : Held) (position : ℕ)
    → walked run_rules [] (walk_at h idle position) (codes "--workers") ≡ walk_at (asks_workers h) (option (codes "workers")) position
unfolding walked
workers_walked h position = refl

workers_turn : (h : Held) (position : ℕ)
    → turn_fault run_shape [] (walk_at h idle position) (codes "--workers") ≡ settle_fault run_rules false h
workers_turn h position = or_else_none (settle_fault run_rules false h)

pub trace_workers : (h : Held) (position : ℕ) (number : Text) (rest : List Text) (g : Kinds) (end : Walk) → IsPlain number
    → Trace run_shape (number_walk h position number) rest g end
    → Trace run_shape (walk_at h idle position) (codes "--workers" ∷ number ∷ rest) (or_else (settle_fault run_rules false h) g) end
trace_workers h position number rest g end plain more =
    trace_more (walk_at h idle position) _ end (codes "--workers") (number ∷ rest) _ g (workers_walked h position) (workers_turn h position)
    (trace_more (walk_at (asks_workers h) (option (codes "workers")) position) _ end number rest [] g
    (walked_value run_rules (asks_workers h) (codes "workers") position number plain)
    (turn_value run_shape (asks_workers h) (codes "workers") position number plain) more)

-- the two in one word
abbrev pub built_workers : Rule
built_workers = unwrap_or (arg_by_id run_rules (codes "workers")) workers_rule

joined_walked : (h : Held) (position : ℕ) (number : Text)
    → walked run_rules [] (walk_at h idle position) (codes "--workers=" ++ number) ≡ walk_at (reacted run_rules built_workers (number ∷ []) h) idle position
unfolding walked
joined_walked h position number = refl

joined_turn : (h : Held) (position : ℕ) (number : Text)
    → turn_fault run_shape [] (walk_at h idle position) (codes "--workers=" ++ number) ≡ react_fault run_rules false built_workers (number ∷ []) h
joined_turn h position number = or_else_none (react_fault run_rules false built_workers (number ∷ []) h)

pub trace_joined : (h : Held) (position : ℕ) (number : Text) (rest : List Text) (g : Kinds) (end : Walk)
    → Trace run_shape (walk_at (reacted run_rules built_workers (number ∷ []) h) idle position) rest g end
    → Trace run_shape (walk_at h idle position) ((codes "--workers=" ++ number) ∷ rest) (or_else (react_fault run_rules false built_workers (number ∷ []) h) g) end
trace_joined h position number rest g end more =
    trace_more (walk_at h idle position) _ end (codes "--workers=" ++ number) rest _ g (joined_walked h position number) (joined_turn h position number) more
