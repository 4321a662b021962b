-- What `clap` makes of the lines that ask to explain or to show: it refuses nothing of them, and finds what they ask for.
use Rattle.std.proofs.Common.{◌≡◌, ◌∙◌, List, [], ◌∷◌, Option, None, Some, ap, codes, inl, inr, map, refl, subst}
use Rattle.std.specs.Prelude.{unwrap_or}
use Rattle.clap.specs.Words.{Row, Shape, Text, subcommand_of}
use Rattle.clap.specs.Walk.{Held, Walk, arg_by_id, finished, idle, nothing_held, option, option_word, walked, walked_from}
use Rattle.clap.specs.Faults.{defaults_fault}
use Rattle.clap.specs.Kinds.{Kinds}
use Rattle.cli_line.specs.RunCommand.{camr_command}
use Rattle.cli_line.specs.RunLine.{spelled_out}
use Rattle.cli_line.proofs.Clear.{IsClear}
use Rattle.cli_line.proofs.CommandWords.{IsWordOf, command_enters, command_fault, shape_of}
use Rattle.cli_line.proofs.PlainWords.{turn_value, walk_at, walked_value}
use Rattle.cli_line.proofs.Planned.{apart}
use Rattle.cli_line.proofs.SpelledOut.{plain_out}
use Rattle.cli_line.proofs.Traces.{Trace, end_fault, start, trace_both, trace_last, trace_more, traced_fault, traced_rows}
use Rattle.cli_inspect_line.specs.FoundPlan.{HasFilter, HasFound, IsWithin, PlansFound, Suffices}
use Rattle.cli_inspect_line.specs.InspectLines.{ArePlain, Asked, IsAsked, everything, line_of}
use Rattle.cli_inspect_line.specs.InspectLines.Asked.{Explain, ExplainFile, Show, ShowAsJson, Summarise, SummariseAsJson, Draw}
use Rattle.cli_inspect_line.specs.declared.plans.Drawing.TheVariants.{Svg, Perfetto}
use Rattle.cli_inspect_line.proofs.AskedRows.{MeetsAsked, asked_in, found_asked}

-- the word that such a line begins with
abbrev word_of : Asked → Text
word_of (Explain word) = codes "explain"
word_of (ExplainFile manifest file) = codes "explain"
word_of (Show manifest trace) = codes "show"
word_of (ShowAsJson manifest trace) = codes "show"
word_of (Summarise manifest trace) = codes "show"
word_of (SummariseAsJson manifest trace) = codes "show"
word_of (Draw drawing output manifest trace) = codes "show"

abbrev shape : Asked → Shape
shape asked = shape_of (word_of asked)

is_word : (asked : Asked) → IsWordOf (word_of asked) (shape asked)
unfolding walked
is_word (Explain word) = record { stops = refl; faultless = refl; found = refl; named = refl }
is_word (ExplainFile manifest file) = record { stops = refl; faultless = refl; found = refl; named = refl }
is_word (Show manifest trace) = record { stops = refl; faultless = refl; found = refl; named = refl }
is_word (ShowAsJson manifest trace) = record { stops = refl; faultless = refl; found = refl; named = refl }
is_word (Summarise manifest trace) = record { stops = refl; faultless = refl; found = refl; named = refl }
is_word (SummariseAsJson manifest trace) = record { stops = refl; faultless = refl; found = refl; named = refl }
is_word (Draw drawing output manifest trace) = record { stops = refl; faultless = refl; found = refl; named = refl }

-- a line is clear, by its trace
module _ (asked : Asked) (rest : List Text) (f : Kinds) (end : Walk) (trace : Trace (shape asked) start rest f end) where
  abbrev rows : List Row
  rows = finished (shape asked).rules end.held

  enters : subcommand_of camr_command (word_of asked ∷ rest) ≡ Some (word_of asked, rows)
  enters = command_enters (word_of asked) (shape asked) (is_word asked) rest
      ∙ ap (λ (r : List Row). Some (word_of asked, r)) (traced_rows (shape asked) rest f end trace)

  clear : end_fault (shape asked) f end ≡ [] → asked_in (word_of asked) rows ≡ Some asked → HasFilter rows everything → Suffices (word_of asked) rows
      → map spelled_out (word_of asked ∷ rest) ≡ word_of asked ∷ rest
      → IsClear PlansFound (word_of asked ∷ rest) (IsAsked asked)
  clear fails asks all suffices spelled = record {
    out = spelled;
    faultless = command_fault (word_of asked) (shape asked) (is_word asked) rest ∙ (traced_fault (shape asked) rest f end trace ∙ fails);
    plans = λ plan found. subst (λ o. MeetsAsked o plan) asks (found_asked (word_of asked) rows plan all (subst (λ o. HasFound o plan) enters found));
    some = λ none. none (word_of asked) rows enters suffices;
  }

-- a filter that asks for all is one that there can be
all_within : IsWithin everything
all_within = record { ccb = tt; queue = tt; run = tt; freeze = tt; from = tt; to = tt }

-- ---- what is held after options

abbrev show_shape : Shape
show_shape = shape_of (codes "show")

abbrev counted : Held
counted = (walked_from show_shape.rules [] None start (codes "--summary")).held

abbrev as_json : Held
as_json = (walked_from show_shape.rules [] None start (codes "--json")).held

abbrev counted_as_json : Held
counted_as_json = (walked_from show_shape.rules [] None (walk_at counted idle 1) (codes "--json")).held

abbrev drawn : Held
drawn = (walked_from show_shape.rules [] None start (codes "--svg")).held

abbrev drawn_into : Text → Held
drawn_into output = (option_word (arg_by_id show_shape.rules (codes "svg")) (codes "svg") output drawn).0

abbrev traced : Held
traced = (walked_from show_shape.rules [] None start (codes "--perfetto")).held

abbrev traced_into : Text → Held
traced_into output = (option_word (arg_by_id show_shape.rules (codes "perfetto")) (codes "perfetto") output traced).0

summary_walked : walked show_shape.rules [] start (codes "--summary") ≡ walk_at counted idle 1
unfolding walked
summary_walked = refl

json_walked : walked show_shape.rules [] start (codes "--json") ≡ walk_at as_json idle 1
unfolding walked
json_walked = refl

both_walked : walked show_shape.rules [] (walk_at counted idle 1) (codes "--json") ≡ walk_at counted_as_json idle 1
unfolding walked
both_walked = refl

picture_walked : walked show_shape.rules [] start (codes "--svg") ≡ walk_at drawn (option (codes "svg")) 1
unfolding walked
picture_walked = refl

events_walked : walked show_shape.rules [] start (codes "--perfetto") ≡ walk_at traced (option (codes "perfetto")) 1
unfolding walked
events_walked = refl

-- a flag that is not given is not asked for
not_asked : {A : Type 0} → Some (codes "false") ≡ Some (codes "true") → A
not_asked asks = absurd (apart (codes "false") (codes "true") refl (ap (λ (o : Option Text). unwrap_or o []) asks))

-- ---- the lines

pub asked_clear : (asked : Asked) → ArePlain asked → IsClear PlansFound (line_of asked) (IsAsked asked)
unfolding defaults_fault
asked_clear (Explain word) plain = clear (Explain word) _ _ _
    (trace_last nothing_held 1 word plain)
    refl refl (record { ccb = refl; queue = refl; run = refl; freeze = refl; from = refl; to = refl; status = refl; sense = refl; refused = refl })
    ((word, refl), tt) (λ i. codes "explain" ∷ plain_out word plain i ∷ [])
asked_clear (ExplainFile manifest file) plain = clear (ExplainFile manifest file) _ _ _
    (trace_both nothing_held manifest file refl plain.0 plain.1)
    refl refl (record { ccb = refl; queue = refl; run = refl; freeze = refl; from = refl; to = refl; status = refl; sense = refl; refused = refl })
    ((manifest, refl), tt) (λ i. codes "explain" ∷ plain_out manifest plain.0 i ∷ plain_out file plain.1 i ∷ [])
asked_clear (Show manifest trace) plain = clear (Show manifest trace) _ _ _
    (trace_both nothing_held manifest trace refl plain.0 plain.1)
    refl refl (record { ccb = refl; queue = refl; run = refl; freeze = refl; from = refl; to = refl; status = refl; sense = refl; refused = refl }) (
      ((manifest, refl), ((trace, refl), tt)),
      (everything, all_within, record { ccb = refl; queue = refl; run = refl; freeze = refl; from = refl; to = refl; status = refl; sense = refl; refused = refl }, inr (refl, λ asks. (refl, refl), λ asks. (refl, refl), inl refl)),
    )
    (λ i. codes "show" ∷ plain_out manifest plain.0 i ∷ plain_out trace plain.1 i ∷ [])
asked_clear (ShowAsJson manifest trace) plain = clear (ShowAsJson manifest trace) _ _ _
    (trace_more start (walk_at as_json idle 1) _ (codes "--json") _ [] _ json_walked refl
    (trace_both as_json manifest trace refl plain.0 plain.1))
    refl refl (record { ccb = refl; queue = refl; run = refl; freeze = refl; from = refl; to = refl; status = refl; sense = refl; refused = refl }) (
      ((manifest, refl), ((trace, refl), tt)),
      (everything, all_within, record { ccb = refl; queue = refl; run = refl; freeze = refl; from = refl; to = refl; status = refl; sense = refl; refused = refl }, inr (refl, λ asks. (refl, refl), λ asks. (refl, refl), inl refl)),
    )
    (λ i. codes "show" ∷ codes "--json" ∷ plain_out manifest plain.0 i ∷ plain_out trace plain.1 i ∷ [])
asked_clear (Summarise manifest trace) plain = clear (Summarise manifest trace) _ _ _
    (trace_more start (walk_at counted idle 1) _ (codes "--summary") _ [] _ summary_walked refl
    (trace_both counted manifest trace refl plain.0 plain.1))
    refl refl (record { ccb = refl; queue = refl; run = refl; freeze = refl; from = refl; to = refl; status = refl; sense = refl; refused = refl }) (
      ((manifest, refl), ((trace, refl), tt)),
      (everything, all_within, record { ccb = refl; queue = refl; run = refl; freeze = refl; from = refl; to = refl; status = refl; sense = refl; refused = refl }, inr (refl, λ asks. (refl, refl), λ asks. (refl, refl), inl refl)),
    )
    (λ i. codes "show" ∷ codes "--summary" ∷ plain_out manifest plain.0 i ∷ plain_out trace plain.1 i ∷ [])
asked_clear (SummariseAsJson manifest trace) plain = clear (SummariseAsJson manifest trace) _ _ _
    (trace_more start (walk_at counted idle 1) _ (codes "--summary") _ [] _ summary_walked refl
    (trace_more (walk_at counted idle 1) (walk_at counted_as_json idle 1) _ (codes "--json") _ [] _ both_walked refl
    (trace_both counted_as_json manifest trace refl plain.0 plain.1)))
    refl refl (record { ccb = refl; queue = refl; run = refl; freeze = refl; from = refl; to = refl; status = refl; sense = refl; refused = refl }) (
      ((manifest, refl), ((trace, refl), tt)),
      (everything, all_within, record { ccb = refl; queue = refl; run = refl; freeze = refl; from = refl; to = refl; status = refl; sense = refl; refused = refl }, inr (refl, λ asks. (refl, refl), λ asks. (refl, refl), inl refl)),
    )
    (λ i. codes "show" ∷ codes "--summary" ∷ codes "--json" ∷ plain_out manifest plain.0 i ∷ plain_out trace plain.1 i ∷ [])
asked_clear (Draw Svg output manifest trace) plain = clear (Draw Svg output manifest trace) _ _ _
    (trace_more start (walk_at drawn (option (codes "svg")) 1) _ (codes "--svg") _ [] _ picture_walked refl
    (trace_more (walk_at drawn (option (codes "svg")) 1) (walk_at (drawn_into output) idle 1) _ output _ [] _
    (walked_value show_shape.rules drawn (codes "svg") 1 output plain.0) (turn_value show_shape drawn (codes "svg") 1 output plain.0)
    (trace_both (drawn_into output) manifest trace refl plain.1 plain.2)))
    refl refl (record { ccb = refl; queue = refl; run = refl; freeze = refl; from = refl; to = refl; status = refl; sense = refl; refused = refl }) (
      ((manifest, refl), ((trace, refl), tt)),
      (everything, all_within, record { ccb = refl; queue = refl; run = refl; freeze = refl; from = refl; to = refl; status = refl; sense = refl; refused = refl }, inr (refl, λ asks. not_asked asks, λ asks. not_asked asks, inr refl)),
    )
    (λ i. codes "show" ∷ codes "--svg" ∷ plain_out output plain.0 i ∷ plain_out manifest plain.1 i ∷ plain_out trace plain.2 i ∷ [])
asked_clear (Draw Perfetto output manifest trace) plain = clear (Draw Perfetto output manifest trace) _ _ _
    (trace_more start (walk_at traced (option (codes "perfetto")) 1) _ (codes "--perfetto") _ [] _ events_walked refl
    (trace_more (walk_at traced (option (codes "perfetto")) 1) (walk_at (traced_into output) idle 1) _ output _ [] _
    (walked_value show_shape.rules traced (codes "perfetto") 1 output plain.0) (turn_value show_shape traced (codes "perfetto") 1 output plain.0)
    (trace_both (traced_into output) manifest trace refl plain.1 plain.2)))
    refl refl (record { ccb = refl; queue = refl; run = refl; freeze = refl; from = refl; to = refl; status = refl; sense = refl; refused = refl }) (
      ((manifest, refl), ((trace, refl), tt)),
      (everything, all_within, record { ccb = refl; queue = refl; run = refl; freeze = refl; from = refl; to = refl; status = refl; sense = refl; refused = refl }, inr (refl, λ asks. not_asked asks, λ asks. not_asked asks, inl refl)),
    )
    (λ i. codes "show" ∷ codes "--perfetto" ∷ plain_out output plain.0 i ∷ plain_out manifest plain.1 i ∷ plain_out trace plain.2 i ∷ [])
