-- What `clap`'s walk makes of words that do not begin with a hyphen.
use Rattle.std.proofs.Common.{◌≡◌, ℕ, List, [], ◌∷◌, None, true, false, refl}
use Rattle.clap.specs.Words.{Rule, Text, is_simple}
use Rattle.clap.specs.Walk.{Held, Walk, Waiting, idle, option, walked, to_positional, arg_by_index, option_word, arg_by_id, value}
use Rattle.clap.specs.Simple.{Shape}
use Rattle.clap.specs.Lexer.{short_of, strip_byte}
use Rattle.std.specs.Str.{bytes_eq}
use Rattle.clap.specs.Faults.{is_simple_and_free, turn_fault, step_fault}
use Rattle.clap.proofs.OnLiterals.{clap_on_literals}
use Rattle.cli_line.specs.RunCommand.{camr_command}
use Rattle.cli_line.specs.RunLine.{IsPlain}

pub is_simple_camr : is_simple_and_free camr_command ≡ true
unfolding clap_on_literals
is_simple_camr = refl

pub is_simple_alone : is_simple camr_command ≡ true
unfolding clap_on_literals
is_simple_alone = refl

-- where the walk stands before a word, with this that waits for a value
abbrev pub walk_at : Held → Waiting → ℕ → Walk
walk_at h waiting position = record { held = h; waiting = waiting; position = position; is_trailing = false; stopped = None }

-- no flag can be read from such a word
no_flag : (word : Text) → IsPlain word → (strip_byte 45 word ≡ None) × (bytes_eq word (45 ∷ 45 ∷ []) ≡ false) × (short_of word ≡ None)
no_flag [] plain = (refl, refl, refl)
no_flag (x ∷ rest) plain = (rw plain refl, rw plain refl, rw plain refl)

-- such a word goes to the next positional
pub walked_path : (c : List Rule) (h : Held) (position : ℕ) (word : Text) → IsPlain word
    → walked c [] (walk_at h idle position) word ≡ to_positional c (arg_by_index c position) word (walk_at h idle position) h
unfolding walked
walked_path c h position word plain = let e = no_flag word plain in rw (e.1, e.0, e.2) refl

-- or to the option that waits
pub walked_value : (c : List Rule) (h : Held) (id : Text) (position : ℕ) (word : Text) → IsPlain word
    → walked c [] (walk_at h (option id) position) word
    ≡ walk_at (option_word (arg_by_id c id) id word h).0 (option_word (arg_by_id c id) id word h).1 position
unfolding walked
walked_value c h id position word plain = let e = no_flag word plain in rw (e.1, e.0, e.2) refl

pub turn_path : (s : Shape) (h : Held) (position : ℕ) (word : Text) → IsPlain word
    → turn_fault s [] (walk_at h idle position) word ≡ step_fault s position h value
turn_path s h position word plain = let e = no_flag word plain in rw (e.1, e.0, e.2) refl

pub turn_value : (s : Shape) (h : Held) (id : Text) (position : ℕ) (word : Text) → IsPlain word
    → turn_fault s [] (walk_at h (option id) position) word ≡ []
turn_value s h id position word plain = let e = no_flag word plain in rw (e.1, e.0, e.2) refl
