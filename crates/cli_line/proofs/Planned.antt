-- From the rows that `clap` found after a word to the plan.
use Rattle.std.proofs.Common.{◌≡◌, ◌∙◌, List, [], Option, Some, None, codes, false, refl, sym, subst, ap, ap₂}
use Rattle.std.specs.Str.{bytes_eq}
use Rattle.std.proofs.lemmas.Slice.Eq.{bytes_eq-Decides}
use Rattle.std.proofs.lemmas.Bool.Decides.{not_from_Decides}
use Rattle.std.specs.Prelude.{Box, option_map, unwrap_or}
use Rattle.std.specs.Box.{box_value}
use Rattle.clap.specs.Words.{Row, Text, rows_of, subcommand_name_of, subcommand_rows, subcommand_rows_of, found_of}
use Rattle.clap.specs.declared.parser.matches.ArgMatches.{ArgMatches}
use Rattle.clap.specs.declared.parser.matches.ArgMatches.TheViews.{out-ArgMatches, out-SubCommand}
use Rattle.clap.specs.declared.parser.matches.SubCommand.{SubCommand}
use Rattle.cli_line.specs.FoundPlan.{HasFound, MakesNone, PlansBehind, PlansFound}
use Rattle.cli_line.specs.declared.plans.Plan.{Plan}

abbrev pub rows_in : Option (Text × List Row) → Option (List Row)
rows_in = option_map (λ (p : Text × List Row). p.1)

abbrev pub names_in : Option (Text × List Row) → Option Text
names_in = option_map (λ (p : Text × List Row). p.0)

module _ {Z : Type 0} where
  abbrev name_in : Option (Box SubCommand Z) → Option Text
  name_in = option_map (λ b. (out-SubCommand (box_value b)).name.now)

  both_in : (o : Option (Box SubCommand Z)) (name : Text) (rows : List Row) → Some name ≡ name_in o → Some rows ≡ rows_in (subcommand_rows o)
      → subcommand_rows o ≡ Some (name, rows)
  both_in None name rows n r = cc
  both_in (Some b) name rows n r =
      let same_name : name ≡ (out-SubCommand (box_value b)).name.now = cc in
      let same_rows : rows ≡ rows_of (found_of (out-SubCommand (box_value b)).matches) = cc in
      sym (ap₂ (λ (x : Text) (y : List Row). Some (x, y)) same_name same_rows)

-- the subcommand that the matches have, by its name and by its rows
pub entered_is : (m : ArgMatches) (name : Text) (rows : List Row) → Some name ≡ subcommand_name_of m
    → Some rows ≡ rows_in (subcommand_rows_of m) → subcommand_rows_of m ≡ Some (name, rows)
entered_is m name rows named found = both_in (out-ArgMatches m).subcommand name rows named found

-- words that differ
pub apart : (a b : Text) → bytes_eq a b ≡ false → a ≡ b → ⊥
apart a b differs same = not_from_Decides (bytes_eq a b) (bytes_eq-Decides a b) differs same

-- a flag that is found as another word is not given
pub not_given : {o : Option Text} → o ≡ Some (codes "false") → o ≡ Some (codes "true") → ⊥
not_given {o = o} found given = apart (codes "false") (codes "true") refl (ap (λ (x : Option Text). unwrap_or x []) (sym found ∙ given))

-- what a plan is by the rows that were found, it is by the matches
pub plan_in : (found : Option (Text × List Row)) (name : Text) (rows : List Row) (planned : Option Plan) → found ≡ Some (name, rows)
    → PlansBehind name rows planned → PlansFound found planned
plan_in found name rows (Some plan) is h = (subst (λ f. HasFound f plan) (sym is) h.0, h.1)
plan_in found name rows None is h = λ also other is_other.
    let named : name ≡ also = ap (λ f. unwrap_or (names_in f) []) (sym is ∙ is_other) in
    let same : rows ≡ other = ap (λ f. unwrap_or (rows_in f) rows) (sym is ∙ is_other) in
    subst (λ (n : Text). MakesNone n other) named (subst (λ (r : List Row). MakesNone name r) same h)
