-- The command of a line: what is read of it is spelled so, and what is spelled so is read.
use Rattle.std.proofs.Common.{◌≡◌, ◌==◌, ◌++◌, subst, if◌then◌else◌, rules, ℕ, Bool, true, false, Option, Some, None, IfSome, List, bytes_eq, codes, get_or, refl, sym, ap, ◌∙◌}
use Rattle.std.specs.Prelude.{Result, Ok, Err, IfOk}
use Rattle.std.specs.declared.alloc.AllocError.{AllocError}
use Rattle.std.specs.Fmt.{option_append}
use Rattle.std.proofs.lemmas.Slice.Eq.{bytes_eq-Decides}
use Rattle.world_calls.specs.declared.call.Call.{Call}
use Rattle.world_calls.specs.declared.trace.Version.{Version}
use Rattle.trace_lines.specs.Calls.{call_of, values_of, word_of, word_text}
use Rattle.trace_lines.specs.Lines.{line_text}
use Rattle.trace_lines.specs.Reading.{ReadsLine}
use Rattle.trace_lines.specs.Written.{Reads}
use Rattle.trace_lines.specs.declared.kind.Slots.{Slots}
use Rattle.trace_lines.specs.declared.value.Value.{Value}
use Rattle.trace_lines.specs.declared.word.Word.{Word}
use Rattle.trace_lines.specs.declared.word.Word.TheVariants as words
use Rattle.trace_lines.proofs.Back.{calls_are_lines}
use Rattle.trace_lines.proofs.Tests.{parts_of, same_text}
use Rattle.scenario.specs.declared.command.Command.{Command}
use Rattle.scenario.specs.declared.command.Command.TheVariants as commands
use Rattle.scenario.specs.Commands.{as_command, command_made, command_text, is_drain, is_said}

not_drain : (line : List ℕ) → Some (codes "drain") ≡ Some line → is_drain line ≡ false → ⊥
not_drain line e other = let is : codes "drain" ≡ line = cc in let same : bytes_eq (codes "drain") (codes "drain") ≡ false = ap (λ (l : List ℕ). bytes_eq l (codes "drain")) is ∙ other in absurd cc

-- a call that a scenario has is spelled as its line
is_line : (said : Bool) (told : Option (List ℕ)) (line : List ℕ) → (if said then told else None) ≡ Some line → (said ≡ true) × (told ≡ Some line)
is_line true told line e = (refl, e)
is_line false told line e = absurd cc

abbrev call_text : Call → Option (List ℕ)
call_text call = line_text (word_of call) (values_of call)

module _ (version : Version) where
  -- ---- what is made of a line

  said_by : (line : List ℕ) (word : Word) (held : Slots Value) (call : Call) → line_text word held ≡ Some line → call_of word held ≡ Some call → (said : Bool) → is_said version call ≡ said
      → IfSome (if said then Some (commands.Call call) else None) (λ command. command_text version command ≡ Some line)
  said_by line word held call e made true so =
      let its = calls_are_lines.1 word held line call e made in
      ap (λ (b : Bool). if b then call_text call else None) so ∙ ((λ i. line_text (its.0 i) (its.1 i)) ∙ e)
  said_by line word held call e made false so = tt

  made_said : (line : List ℕ) (word : Word) (held : Slots Value) → line_text word held ≡ Some line → (call : Option Call) → call_of word held ≡ call
      → IfSome (as_command version call) (λ command. command_text version command ≡ Some line)
  made_said line word held e None is = tt
  made_said line word held e (Some call) is = said_by line word held call e is (is_said version call) refl

  -- the call is made again of its line
  made_again : (call : Call) → is_said version call ≡ true → command_made version (word_of call) (values_of call) ≡ Some (commands.Call call)
  made_again call so = ap (as_command version) (calls_are_lines.0 call) ∙ ap (λ (b : Bool). if b then Some (commands.Call call) else None) so

  made_in : Option (Word × Slots Value) → Option Command
  made_in None = None
  made_in (Some line) = command_made version line.0 line.1

  made_back : (line : List ℕ) (read : Option (Word × Slots Value)) → is_drain line ≡ false → ReadsLine line read → (command : Command) → command_text version command ≡ Some line → made_in read ≡ Some command
  unfolding made_in
  made_back line read other reads (commands.Call call) e =
      let its = is_line (is_said version call) (call_text call) line e in
      ap made_in (reads.back (word_of call) (values_of call) its.1) ∙ made_again call its.0
  made_back line read other reads commands.Drain e = absurd (not_drain line e other)

  pub made_reads : (line : List ℕ) (word : Word) (held : Slots Value) (made : Option Command) → is_drain line ≡ false → ReadsLine line (Some (word, held)) → made ≡ command_made version word held → Reads (command_text version) line made
  unfolding made_in
  made_reads line word held made other reads is =
      subst (Reads (command_text version) line) (sym is) (record {
        said = made_said line word held reads.said (call_of word held) refl;
        back = λ command e. made_back line (Some (word, held)) other reads command e;
      })

  -- unless memory was refused
  pub if_made : (line : List ℕ) (word : Word) (held : Slots Value) (made : Result (Option Command) AllocError) → is_drain line ≡ false → ReadsLine line (Some (word, held)) → IfOk made (λ it. it ≡ command_made version word held) → IfOk made (Reads (command_text version) line)
  if_made line word held (Ok made) other reads is = made_reads line word held made other reads is
  if_made line word held (Err fault) other reads is = tt

  pub not_read : (line : List ℕ) → is_drain line ≡ false → ReadsLine line None → Reads (command_text version) line None
  unfolding made_in
  not_read line other reads = record {
    said = tt;
    back = λ command e. made_back line None other reads command e;
  }

-- ---- a drain

-- a line of a call begins otherwise
begins : (word : Word) (fields : Option (List ℕ)) → option_append (Some (word_text word)) fields ≡ Some (codes "drain") → (rest : List ℕ) × (codes "drain" ≡ word_text word ++ rest)
begins word fields e =
    let parts = parts_of (Some (word_text word)) fields (codes "drain") e in
    (parts.1, parts.4 ∙ ap (λ (t : List ℕ). t ++ parts.1) (sym (same_text (word_text word) parts.0 parts.2)))

no_other : (word : Word) (fields : Option (List ℕ)) → option_append (Some (word_text word)) fields ≡ Some (codes "drain") → ⊥
no_other words.Submit fields e = let letter : true ≡ false = ap (λ (t : List ℕ). get_or t 0 0 == 100) (begins words.Submit fields e).1 in absurd cc
no_other words.Dispatch fields e = let letter : true ≡ false = ap (λ (t : List ℕ). get_or t 1 0 == 114) (begins words.Dispatch fields e).1 in absurd cc
no_other words.Complete fields e = let letter : true ≡ false = ap (λ (t : List ℕ). get_or t 0 0 == 100) (begins words.Complete fields e).1 in absurd cc
no_other words.Withdraw fields e = let letter : true ≡ false = ap (λ (t : List ℕ). get_or t 0 0 == 100) (begins words.Withdraw fields e).1 in absurd cc
no_other words.Advance fields e = let letter : true ≡ false = ap (λ (t : List ℕ). get_or t 0 0 == 100) (begins words.Advance fields e).1 in absurd cc
no_other words.FreezeQueue fields e = let letter : true ≡ false = ap (λ (t : List ℕ). get_or t 0 0 == 100) (begins words.FreezeQueue fields e).1 in absurd cc
no_other words.FreezeController fields e = let letter : true ≡ false = ap (λ (t : List ℕ). get_or t 0 0 == 100) (begins words.FreezeController fields e).1 in absurd cc
no_other words.ReleaseFreeze fields e = let letter : true ≡ false = ap (λ (t : List ℕ). get_or t 0 0 == 100) (begins words.ReleaseFreeze fields e).1 in absurd cc
no_other words.Clock fields e = let letter : true ≡ false = ap (λ (t : List ℕ). get_or t 0 0 == 100) (begins words.Clock fields e).1 in absurd cc
no_other words.Park fields e = let letter : true ≡ false = ap (λ (t : List ℕ). get_or t 0 0 == 100) (begins words.Park fields e).1 in absurd cc
no_other words.Resume fields e = let letter : true ≡ false = ap (λ (t : List ℕ). get_or t 0 0 == 100) (begins words.Resume fields e).1 in absurd cc

is_spelled : (line : List ℕ) → is_drain line ≡ true → line ≡ codes "drain"
is_spelled line is = search (rules, bytes_eq-Decides line (codes "drain"))

module _ (version : Version) where
  -- `drain` alone is spelled so
  only_drain : (command : Command) → command_text version command ≡ Some (codes "drain") → ◌≡◌ {A = Option Command} (Some commands.Drain) (Some command)
  only_drain (commands.Call call) e =
      absurd (no_other (word_of call) _ (is_line (is_said version call) (call_text call) (codes "drain") e).1)
  only_drain commands.Drain e = refl

  pub drain_reads : (line : List ℕ) → is_drain line ≡ true → Reads (command_text version) line (Some commands.Drain)
  drain_reads line is = record {
    said = ap Some (sym (is_spelled line is));
    back = λ command e. only_drain command (e ∙ ap Some (is_spelled line is));
  }

  -- whether a line is a drain, by what it asks for

  pub drain_is : (line : List ℕ) → command_text version commands.Drain ≡ Some line → is_drain line ≡ true
  drain_is line e = let is : codes "drain" ≡ line = cc in ap is_drain (sym is)

  by_test : (call : Call) (line : List ℕ) (test : Bool) → is_drain line ≡ test → command_text version (commands.Call call) ≡ Some line → is_drain line ≡ false
  by_test call line true is e = absurd (let same = only_drain (commands.Call call) (e ∙ ap Some (is_spelled line is)) in cc)
  by_test call line false is e = is

  pub call_is : (call : Call) (line : List ℕ) → command_text version (commands.Call call) ≡ Some line → is_drain line ≡ false
  call_is call line e = by_test call line (is_drain line) refl e
