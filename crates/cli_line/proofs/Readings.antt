-- What `clap` reads from each line that asks for a run.
use Rattle.std.proofs.Common.{◌≡◌, Bool, List, [], ◌∷◌, ◌++◌, Some, true, false, codes, pos, refl, ◌∙◌, ap}
use Rattle.std.specs.Prelude.{if◌then◌else◌}
use Rattle.clap.specs.Words.{Row, Text, first_of, subcommand_of}
use Rattle.clap.specs.ValueTests.{accepts}
use Rattle.clap.specs.Walk.{Walk, idle, nothing_held, reacted, finished, settled, value, walked}
use Rattle.clap.specs.Faults.{check_fault, defaults_fault, fault_of, react_fault, settle_fault, step_fault}
use Rattle.clap.specs.Kinds.{Kinds, or_else}
use Rattle.clap.specs.declared.error.kind.ErrorKind.TheVariants as kind
use Rattle.clap.specs.declared.builder.value_parser.ValueParser.{ValueParser}
use Rattle.clap.specs.declared.builder.value_parser.ValueParser.TheVariants as value_parser
use Rattle.cli_line.specs.RunCommand.{camr_command}
use Rattle.cli_line.specs.RunLine.{IsPlain, RunLine}
use Rattle.cli_line.specs.RunLine.RunLine.{unnumbered, before, between, behind, joined_before, joined_between, joined_behind}
use Rattle.cli_line.proofs.PlainWords.{walk_at}
use Rattle.cli_line.proofs.CommandWords.{IsWordOf, command_enters, command_fault, or_else_none}
use Rattle.cli_line.proofs.Traces.{Trace, built_workers, end_fault as ended, number_walk, path_walk as over_path, run_rules, run_shape, start, trace_joined, trace_nil, trace_path, trace_workers, traced_fault, traced_rows}

abbrev pub one_to_sixteen : ValueParser
one_to_sixteen = value_parser.Signed (pos 1) (pos 16)

-- how `clap` refuses a number
abbrev pub number_kinds : Text → Kinds
number_kinds number = if accepts false one_to_sixteen number then [] else kind.ValueValidation ∷ []

-- what the rows after `run` say
pub record Says (rows : List Row) (number manifest scenario : Text) : Type 0 where
  pub workers : first_of (codes "workers") rows ≡ Some number
  pub watch_is : first_of (codes "watch") rows ≡ Some (codes "never")
  pub strict_is : first_of (codes "strict") rows ≡ Some (codes "false")
  pub manifest_is : first_of (codes "MANIFEST") rows ≡ Some manifest
  pub scenario_is : first_of (codes "SCENARIO") rows ≡ Some scenario

-- what `clap` makes of the line: it refuses the number at most
pub record Reading (words : List Text) (number manifest scenario : Text) : Type 0 where
  pub rows : List Row
  pub enters : subcommand_of camr_command words ≡ Some (codes "run", rows)
  pub faults : fault_of camr_command words ≡ number_kinds number
  pub says : Says rows number manifest scenario

abbrev end_fault : Kinds → Walk → Kinds
end_fault = ended run_shape

abbrev path_walk : Walk → Text → Walk
path_walk = over_path run_shape

run_word : IsWordOf (codes "run") run_shape
unfolding walked
run_word = record { stops = refl; faultless = refl; found = refl; named = refl }

-- a reading of the words after `run`, by their trace
reading : (rest : List Text) (number manifest scenario : Text) (f : Kinds) (end : Walk) → Trace run_shape start rest f end
    → end_fault f end ≡ number_kinds number
    → Says (finished run_rules end.held) number manifest scenario
    → Reading (codes "run" ∷ rest) number manifest scenario
reading rest number manifest scenario f end trace is says = record {
  rows = finished run_rules end.held;
  enters = command_enters (codes "run") run_shape run_word rest ∙ ap (λ (rows : List Row). Some (codes "run", rows)) (traced_rows run_shape rest f end trace);
  faults = command_fault (codes "run") run_shape run_word rest ∙ (traced_fault run_shape rest f end trace ∙ is);
  says = says;
}

-- the number in one word with its option
abbrev joined_walk : Text → Walk → Walk
joined_walk n w = walk_at (reacted run_rules built_workers (n ∷ []) w.held) idle w.position

-- the number in a word after its option
abbrev numbered_walk : Text → Walk → Walk
numbered_walk n w = number_walk w.held w.position n

-- a line whose faults hang on those of its number alone has these
by_number : (n : Text) (among : Kinds → Kinds) (kinds : Kinds) → kinds ≡ number_kinds n → among [] ≡ [] → among (kind.ValueValidation ∷ []) ≡ kind.ValueValidation ∷ []
    → among kinds ≡ number_kinds n
by_number n among kinds is none one = ap among is ∙ go (accepts false one_to_sixteen n)
  where
    go : (b : Bool) → among (if b then [] else kind.ValueValidation ∷ []) ≡ (if b then [] else kind.ValueValidation ∷ [])
    go true = none
    go false = one

-- the number is tested where it is read, in the word of its option, or else before the next word
module _ (n : Text) where
  joined_first : react_fault run_rules false built_workers (n ∷ []) nothing_held ≡ number_kinds n
  joined_first = or_else_none (number_kinds n)

  behind_first : step_fault run_shape 1 (numbered_walk n start).held value ≡ number_kinds n
  behind_first = or_else_none (number_kinds n)

  module _ (m : Text) where
    joined_second : react_fault run_rules false built_workers (n ∷ []) (path_walk start m).held ≡ number_kinds n
    joined_second = or_else_none (number_kinds n)

    behind_second : step_fault run_shape 2 (numbered_walk n (path_walk start m)).held value ≡ number_kinds n
    behind_second = or_else_none (number_kinds n)

    module _ (s : Text) where
      joined_third : react_fault run_rules false built_workers (n ∷ []) (path_walk (path_walk start m) s).held ≡ number_kinds n
      joined_third = or_else_none (number_kinds n)

      behind_third : settle_fault run_rules false (numbered_walk n (path_walk (path_walk start m) s)).held ≡ number_kinds n
      behind_third = or_else_none (number_kinds n)

module _ (n m s : Text) (plain_m : IsPlain m) (plain_s : IsPlain s) where
  read_unnumbered : Reading (codes "run" ∷ m ∷ s ∷ []) (codes "1") m s
  unfolding defaults_fault
  read_unnumbered =
      let w1 = path_walk start m in
      let w2 = path_walk w1 s in
      reading _ (codes "1") m s _ w2
      (trace_path start.held 1 m _ _ w2 plain_m (trace_path w1.held 2 s [] [] w2 plain_s (trace_nil w2)))
      refl
      (record { workers = refl; watch_is = refl; strict_is = refl; manifest_is = refl; scenario_is = refl })

  read_joined_before : Reading (codes "run" ∷ (codes "--workers=" ++ n) ∷ m ∷ s ∷ []) n m s
  unfolding defaults_fault
  read_joined_before =
      let w1 = joined_walk n start in
      let w2 = path_walk w1 m in
      let w3 = path_walk w2 s in
      reading _ n m s _ w3
      (trace_joined start.held 1 n _ _ w3 (trace_path w1.held 1 m _ _ w3 plain_m (trace_path w2.held 2 s [] [] w3 plain_s (trace_nil w3))))
      (by_number n (λ k. end_fault (or_else k (or_else (step_fault run_shape 1 w1.held value) (or_else (step_fault run_shape 2 w2.held value) []))) w3) _ (joined_first n) refl refl)
      (record { workers = refl; watch_is = refl; strict_is = refl; manifest_is = refl; scenario_is = refl })

  read_joined_between : Reading (codes "run" ∷ m ∷ (codes "--workers=" ++ n) ∷ s ∷ []) n m s
  unfolding defaults_fault
  read_joined_between =
      let w1 = path_walk start m in
      let w2 = joined_walk n w1 in
      let w3 = path_walk w2 s in
      reading _ n m s _ w3
      (trace_path start.held 1 m _ _ w3 plain_m (trace_joined w1.held 2 n _ _ w3 (trace_path w2.held 2 s [] [] w3 plain_s (trace_nil w3))))
      (by_number n (λ k. end_fault (or_else (step_fault run_shape 1 start.held value) (or_else k (or_else (step_fault run_shape 2 w2.held value) []))) w3) _ (joined_second n m) refl refl)
      (record { workers = refl; watch_is = refl; strict_is = refl; manifest_is = refl; scenario_is = refl })

  read_joined_behind : Reading (codes "run" ∷ m ∷ s ∷ (codes "--workers=" ++ n) ∷ []) n m s
  unfolding defaults_fault
  read_joined_behind =
      let w1 = path_walk start m in
      let w2 = path_walk w1 s in
      let w3 = joined_walk n w2 in
      reading _ n m s _ w3
      (trace_path start.held 1 m _ _ w3 plain_m (trace_path w1.held 2 s _ _ w3 plain_s (trace_joined w2.held 3 n [] [] w3 (trace_nil w3))))
      (by_number n (λ k. end_fault (or_else (step_fault run_shape 1 start.held value) (or_else (step_fault run_shape 2 w1.held value) (or_else k []))) w3) _ (joined_third n m s) refl refl)
      (record { workers = refl; watch_is = refl; strict_is = refl; manifest_is = refl; scenario_is = refl })

  module _ (plain_n : IsPlain n) where
    read_before : Reading (codes "run" ∷ codes "--workers" ∷ n ∷ m ∷ s ∷ []) n m s
    unfolding defaults_fault
    read_before =
        let w1 = numbered_walk n start in
        let w2 = path_walk w1 m in
        let w3 = path_walk w2 s in
        reading _ n m s _ w3
        (trace_workers start.held 1 n _ _ w3 plain_n (trace_path w1.held 1 m _ _ w3 plain_m (trace_path w2.held 2 s [] [] w3 plain_s (trace_nil w3))))
        (by_number n (λ k. end_fault (or_else (settle_fault run_rules false start.held) (or_else k (or_else (step_fault run_shape 2 w2.held value) []))) w3) _ (behind_first n) refl refl)
        (record { workers = refl; watch_is = refl; strict_is = refl; manifest_is = refl; scenario_is = refl })

    read_between : Reading (codes "run" ∷ m ∷ codes "--workers" ∷ n ∷ s ∷ []) n m s
    unfolding defaults_fault
    read_between =
        let w1 = path_walk start m in
        let w2 = numbered_walk n w1 in
        let w3 = path_walk w2 s in
        reading _ n m s _ w3
        (trace_path start.held 1 m _ _ w3 plain_m (trace_workers w1.held 2 n _ _ w3 plain_n (trace_path w2.held 2 s [] [] w3 plain_s (trace_nil w3))))
        (by_number n (λ k. end_fault (or_else (step_fault run_shape 1 start.held value) (or_else (settle_fault run_rules false w1.held) (or_else k []))) w3) _ (behind_second n m) refl refl)
        (record { workers = refl; watch_is = refl; strict_is = refl; manifest_is = refl; scenario_is = refl })

    read_behind : Reading (codes "run" ∷ m ∷ s ∷ codes "--workers" ∷ n ∷ []) n m s
    unfolding defaults_fault
    read_behind =
        let w1 = path_walk start m in
        let w2 = path_walk w1 s in
        let w3 = numbered_walk n w2 in
        reading _ n m s _ w3
        (trace_path start.held 1 m _ _ w3 plain_m (trace_path w1.held 2 s _ _ w3 plain_s (trace_workers w2.held 3 n [] [] w3 plain_n (trace_nil w3))))
        (by_number n (λ k. or_else k (or_else (defaults_fault (settled run_rules w3.held).rows run_rules) (check_fault run_shape (finished run_rules w3.held) false))) _ (behind_third n m s) refl refl)
        (record { workers = refl; watch_is = refl; strict_is = refl; manifest_is = refl; scenario_is = refl })

pub line_reading : (words : List Text) (number manifest scenario : Text) → RunLine words number manifest scenario
    → IsPlain number → IsPlain manifest → IsPlain scenario → Reading words number manifest scenario
line_reading words number manifest scenario (unnumbered m s) n_is m_is s_is = read_unnumbered (codes "1") m s m_is s_is
line_reading words number manifest scenario (before n m s) n_is m_is s_is = read_before n m s m_is s_is n_is
line_reading words number manifest scenario (between n m s) n_is m_is s_is = read_between n m s m_is s_is n_is
line_reading words number manifest scenario (behind n m s) n_is m_is s_is = read_behind n m s m_is s_is n_is
line_reading words number manifest scenario (joined_before n m s) n_is m_is s_is = read_joined_before n m s m_is s_is
line_reading words number manifest scenario (joined_between n m s) n_is m_is s_is = read_joined_between n m s m_is s_is
line_reading words number manifest scenario (joined_behind n m s) n_is m_is s_is = read_joined_behind n m s m_is s_is
