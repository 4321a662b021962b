-- What the rows after a word ask for, and that the plan which was found after it is that.
use Rattle.std.proofs.Common.{◌≡◌, ◌∙◌, ℕ, Bool, Global, String, true, false, List, [], Option, None, Some, codes, refl, sym, subst, ap, ap₂}
use Rattle.std.specs.Prelude.{if◌then◌else◌, string_bytes, unwrap_or}
use Rattle.std.specs.Str.{bytes_eq}
use Rattle.std.specs.Str.Parse.{digits_value}
use Rattle.clap.specs.Words.{Row, Text, first_of}
use Rattle.cli_line.proofs.AskedRows.{found_word, is_told, told_as, word_at}
use Rattle.base.specs.Hexadecimal.{byte_in}
use Rattle.cli_inspect_line.specs.InspectLines.{Asked, IsAsked, everything}
use Rattle.cli_inspect_line.specs.ReportedWords.{refused_in, sense_in}
use Rattle.cli_inspect_line.specs.InspectLines.Asked.{Explain, ExplainFile, Show, ShowAsJson, Summarise, SummariseAsJson, Draw}
use Rattle.cli_inspect_line.specs.FoundPlan.{AsksDrawing, AsksNoDrawing, Finds, FindsNumber, HasFilter, HasForm, HasFoundBehind}
use Rattle.cli_inspect_line.specs.declared.plans.Drawing.{Drawing}
use Rattle.cli_inspect_line.specs.declared.plans.Drawing.TheVariants.{Svg, Perfetto}
use Rattle.cli_inspect_line.specs.declared.plans.Form.{Form}
use Rattle.cli_inspect_line.specs.declared.plans.Form.TheVariants.{Words, Json}
use Rattle.cli_inspect_line.specs.declared.plans.Plan.{Plan}
use Rattle.cli_inspect_line.specs.declared.plans.Plan.TheVariants as plans
use Rattle.explain_codes.specs.Names.{code_named}
use Rattle.show_events.specs.declared.filter.Filter.{Filter}

abbrev counts_of : Bool → Text → Text → Asked
counts_of true manifest trace = SummariseAsJson manifest trace
counts_of false manifest trace = Summarise manifest trace

abbrev words_of : Bool → Text → Text → Asked
words_of true manifest trace = ShowAsJson manifest trace
words_of false manifest trace = Show manifest trace

-- which drawing is asked for, and the path of its file, if these are found of a picture and of trace events
abbrev drawing_of : Option Text → Option Text → Option (Drawing × Text)
drawing_of None None = None
drawing_of (Some output) perfetto = Some (Svg, output)
drawing_of None (Some output) = Some (Perfetto, output)

abbrev drawing_in : List Row → Option (Drawing × Text)
drawing_in rows = drawing_of (first_of (codes "svg") rows) (first_of (codes "perfetto") rows)

abbrev account_of : Option (Drawing × Text) → Bool → Bool → Text → Text → Asked
account_of drawing true is_json manifest trace = counts_of is_json manifest trace
account_of None false is_json manifest trace = words_of is_json manifest trace
account_of (Some p) false is_json manifest trace = Draw p.0 p.1 manifest trace

abbrev explained_of : Option Text → Text → Asked
explained_of None word = Explain word
explained_of (Some file) word = ExplainFile word file

-- what is asked for, if this is found of another file, of a drawing, of a summary and of JSON
abbrev asked_with : Text → List Row → Option Text → Option (Drawing × Text) → Bool → Bool → Option Asked
asked_with name rows file drawing is_counted is_json =
    if bytes_eq name (codes "explain") then Some (explained_of file (word_at (codes "WORD") rows))
    else (if bytes_eq name (codes "show") then Some (account_of drawing is_counted is_json (word_at (codes "MANIFEST") rows) (word_at (codes "TRACE") rows))
    else None)

abbrev pub asked_in : Text → List Row → Option Asked
asked_in name rows = asked_with name rows (first_of (codes "FILE") rows) (drawing_in rows) (is_told (first_of (codes "summary") rows)) (is_told (first_of (codes "json") rows))

-- the plan is that, if anything is asked for
abbrev pub MeetsAsked : Option Asked → Plan → Type 0
MeetsAsked None plan = Unit {0}
MeetsAsked (Some asked) plan = IsAsked asked plan

-- the number after a name is one alone
same_number : (name : Text) (rows : List Row) (o other : Option ℕ) → FindsNumber name rows o → FindsNumber name rows other → o ≡ other
same_number name rows None None found also = refl
same_number name rows (Some n) None found none = let bad : Some found.0 ≡ None = sym found.1 ∙ none in cc
same_number name rows None (Some n) none found = let bad : Some found.0 ≡ None = sym found.1 ∙ none in cc
same_number name rows (Some n) (Some m) found also =
    let word : found.0 ≡ also.0 = ap (λ (o : Option Text). unwrap_or o []) (sym found.1 ∙ also.1) in
    ap Some (found.2.1 ∙ (ap (digits_value 10) word ∙ sym also.2.1))

-- so is what another word says
same_read : {X : Type 0} (read : Text → Option X) (name : Text) (rows : List Row) (o other : Option X) → Finds read name rows o → Finds read name rows other → o ≡ other
same_read read name rows None None found also = refl
same_read read name rows (Some x) None found none = let bad : Some found.0 ≡ None = sym found.1 ∙ none in cc
same_read read name rows None (Some x) none found = let bad : Some found.0 ≡ None = sym found.1 ∙ none in cc
same_read read name rows (Some x) (Some y) found also =
    let word : found.0 ≡ also.0 = ap (λ (o : Option Text). unwrap_or o []) (sym found.1 ∙ also.1) in
    sym found.2 ∙ (ap read word ∙ also.2)

-- so is the filter
pub same_filter : (rows : List Row) (filter other : Filter) → HasFilter rows filter → HasFilter rows other → filter ≡ other
same_filter rows filter other found also = λ i. record {
  ccb = same_number (codes "ccb") rows filter.ccb other.ccb found.ccb also.ccb i;
  queue = same_number (codes "queue") rows filter.queue other.queue found.queue also.queue i;
  run = same_number (codes "run") rows filter.run other.run found.run also.run i;
  freeze = same_number (codes "freeze") rows filter.freeze other.freeze found.freeze also.freeze i;
  from = same_number (codes "from") rows filter.from other.from found.from also.from i;
  to = same_number (codes "to") rows filter.to other.to found.to also.to i;
  status = same_read byte_in (codes "status") rows filter.status other.status found.status also.status i;
  sense = same_read sense_in (codes "sense") rows filter.sense other.sense found.sense also.sense i;
  refused = same_read refused_in (codes "refused") rows filter.refused other.refused found.refused also.refused i;
}

-- the drawing that is found is that which is asked for
drawing_found : (rows : List Row) (drawing : Drawing) (output : Text) → AsksDrawing rows drawing output → drawing_in rows ≡ Some (drawing, output)
drawing_found rows Svg output found = ap₂ drawing_of found.0 found.1
drawing_found rows Perfetto output found = ap₂ drawing_of found.0 found.1

no_drawing : (rows : List Row) → AsksNoDrawing rows → drawing_in rows ≡ None
no_drawing rows found = ap₂ drawing_of found.0 found.1

-- whether a form is JSON
abbrev is_json_form : Form → Bool
is_json_form Words = false
is_json_form Json = true

form_told : (rows : List Row) (form : Form) → HasForm rows form → is_told (first_of (codes "json") rows) ≡ is_json_form form
form_told rows Words h = sym (told_as (first_of (codes "json") rows) false h)
form_told rows Json h = sym (told_as (first_of (codes "json") rows) true h)

-- the account and the counts in a form are what is asked for in that form
in_words : (form : Form) (filter : Filter) (a b : String Global) (manifest trace : Text) → filter ≡ everything → string_bytes a ≡ manifest → string_bytes b ≡ trace
    → IsAsked (words_of (is_json_form form) manifest trace) (plans.Show form filter a b)
in_words Words filter a b manifest trace all first second = (all, first, second, refl)
in_words Json filter a b manifest trace all first second = (all, first, second, refl)

in_counts : (form : Form) (a b : String Global) (manifest trace : Text) → string_bytes a ≡ manifest → string_bytes b ≡ trace
    → IsAsked (counts_of (is_json_form form) manifest trace) (plans.Summarise form a b)
in_counts Words a b manifest trace first second = (first, second, refl)
in_counts Json a b manifest trace first second = (first, second, refl)

-- by the word, and by what is found of a drawing, of a summary and of JSON
moved : (name other : Text) (rows : List Row) (file : Option Text) (drawing p : Option (Drawing × Text)) (is_counted b is_json j : Bool) (plan : Plan) → name ≡ other → drawing ≡ p → is_counted ≡ b → is_json ≡ j
    → MeetsAsked (asked_with other rows file p b j) plan → MeetsAsked (asked_with name rows file drawing is_counted is_json) plan
moved name other rows file drawing p is_counted b is_json j plan e q r t h =
    subst (λ (n : Text). MeetsAsked (asked_with n rows file drawing is_counted is_json) plan) (sym e)
    (subst (λ (o : Option (Drawing × Text)). MeetsAsked (asked_with other rows file o is_counted is_json) plan) (sym q)
    (subst (λ (c : Bool). MeetsAsked (asked_with other rows file p c is_json) plan) (sym r)
    (subst (λ (c : Bool). MeetsAsked (asked_with other rows file p b c) plan) (sym t) h)))

-- the same of `explain`, by what is found of another file
moved_file : (name : Text) (rows : List Row) (file f : Option Text) (drawing : Option (Drawing × Text)) (is_counted is_json : Bool) (plan : Plan) → name ≡ codes "explain" → file ≡ f
    → MeetsAsked (Some (explained_of f (word_at (codes "WORD") rows))) plan → MeetsAsked (asked_with name rows file drawing is_counted is_json) plan
moved_file name rows file f drawing is_counted is_json plan e q h =
    moved name (codes "explain") rows file drawing drawing is_counted is_counted is_json is_json plan e refl refl refl
    (subst (λ (o : Option Text). MeetsAsked (asked_with (codes "explain") rows o drawing is_counted is_json) plan) (sym q) h)

module _ (name : Text) (rows : List Row) where
  abbrev file : Option Text
  file = first_of (codes "FILE") rows

  abbrev drawing : Option (Drawing × Text)
  drawing = drawing_in rows

  abbrev is_counted : Bool
  is_counted = is_told (first_of (codes "summary") rows)

  abbrev is_json : Bool
  is_json = is_told (first_of (codes "json") rows)

  -- what was found is what is asked for, where no event is asked for alone
  pub found_asked : (plan : Plan) → HasFilter rows everything → HasFoundBehind name rows plan → MeetsAsked (asked_in name rows) plan
  found_asked (plans.ExplainCode code) all found = moved_file name rows file None drawing is_counted is_json (plans.ExplainCode code) found.0 found.2
      (ap code_named (sym (found_word (codes "WORD") rows _ found.1.1)) ∙ found.1.2)
  found_asked (plans.Explain a) all found = moved_file name rows file None drawing is_counted is_json (plans.Explain a) found.0 found.3
      (ap code_named (sym (found_word (codes "WORD") rows _ found.1)) ∙ found.2, found_word (codes "WORD") rows _ found.1)
  found_asked (plans.ExplainFile a b) all found = moved_file name rows file (Some (string_bytes b)) drawing is_counted is_json (plans.ExplainFile a b) found.0 found.2
      (found_word (codes "WORD") rows _ found.1, refl)
  found_asked (plans.Show form filter a b) all found =
      moved name (codes "show") rows file drawing None is_counted false is_json (is_json_form form) (plans.Show form filter a b) found.0 (no_drawing rows found.4)
      (sym (told_as (first_of (codes "summary") rows) false found.3)) (form_told rows form found.6)
      (in_words form filter a b _ _ (same_filter rows filter everything found.2 all) (found_word (codes "MANIFEST") rows _ found.1.0) (found_word (codes "TRACE") rows _ found.1.1))
  found_asked (plans.Summarise form a b) all found =
      moved name (codes "show") rows file drawing drawing is_counted true is_json (is_json_form form) (plans.Summarise form a b) found.0 refl
      (sym (told_as (first_of (codes "summary") rows) true found.3)) (form_told rows form found.5)
      (in_counts form a b _ _ (found_word (codes "MANIFEST") rows _ found.1.0) (found_word (codes "TRACE") rows _ found.1.1))
  found_asked (plans.Draw d a b c) all found =
      moved name (codes "show") rows file drawing (Some (d, string_bytes c)) is_counted false is_json is_json (plans.Draw d a b c) found.0 (drawing_found rows d (string_bytes c) found.4)
      (sym (told_as (first_of (codes "summary") rows) false found.3)) refl
      (found_word (codes "MANIFEST") rows _ found.1.0, found_word (codes "TRACE") rows _ found.1.1, refl, refl)
  found_asked (plans.Decide extent question a) all found =
      moved name (codes "decide") rows file drawing drawing is_counted is_counted is_json is_json (plans.Decide extent question a) found.0 refl refl refl tt
  found_asked (plans.Try seed trace a b) all found =
      moved name (codes "try") rows file drawing drawing is_counted is_counted is_json is_json (plans.Try seed trace a b) found.0 refl refl refl tt
