-- What the rules of calls say, by what their helpers ask: a word that a call names is there, and a number is in its range.
use Rattle.std.proofs.Common.{◌≡◌, ℕ, ◌<◌, ◌≤◌, List, [], Option, Some, true, length, ltb, leb, ap, sym, subst, ◌∙◌, arith, slice_index_or}
use Rattle.std.proofs.lemmas.Bool.{and_parts, leb-true, ltb-true}
use Rattle.std.proofs.lemmas.List.{length-map, get_or-map}
use Rattle.helpers.specs.declared.limits.HelperLimits.{HelperLimits}
use Rattle.helpers.specs.declared.columns.ArgKind.{ArgKind}
use Rattle.helpers.specs.declared.columns.ArgKind.TheVariants.{Within, Table, Index}
use Rattle.helpers.specs.declared.request.Request.{Request}
use Rattle.helpers.specs.Table.{asks, is_there, row_of}
use Rattle.bpf_semantics.specs.MachineState.{MachineState}
use Rattle.bpf_semantics.specs.Calls.{meets, meets_need, meets_rule}
use Rattle.table_store.specs.Tables.{HasWord}
use Rattle.world.specs.World.{Setup, World}
use Rattle.world.specs.Limits.{AnswerLimits}

-- what the rule of a call says of the run and of each argument (and, last, that there is the helper)
pub record Obeyed (limits : HelperLimits) (m : MachineState) (request : Request) : Type 0 where
  pub need : meets_need m (row_of request.helper).needs ≡ true
  pub first : meets limits m request.arguments (asks request.helper).first request.arguments.first ≡ true
  pub second : meets limits m request.arguments (asks request.helper).second request.arguments.second ≡ true
  pub third : meets limits m request.arguments (asks request.helper).third request.arguments.third ≡ true
  pub there : is_there limits.helpers request.helper ≡ true

pub rule_parts : (limits : HelperLimits) (m : MachineState) (request : Request) → meets_rule limits m request ≡ true → Obeyed limits m request
rule_parts limits m request rule =
    let all = and_parts (meets_need m (row_of request.helper).needs) _ rule in
    let those = and_parts (meets limits m request.arguments (asks request.helper).first request.arguments.first) _ all.1 in
    let seconds = and_parts (meets limits m request.arguments (asks request.helper).second request.arguments.second) _ those.1 in
    let thirds = and_parts (meets limits m request.arguments (asks request.helper).third request.arguments.third) _ seconds.1 in
    record { need = all.0; first = those.0; second = seconds.0; third = thirds.0; there = thirds.1 }

-- the first argument, and the second, by what is asked of it
pub first_as : (limits : HelperLimits) (m : MachineState) (request : Request) (o : Option ArgKind) → (asks request.helper).first ≡ o → meets_rule limits m request ≡ true → meets limits m request.arguments o request.arguments.first ≡ true
first_as limits m request o is rule =
    subst (λ (x : Option ArgKind). meets limits m request.arguments x request.arguments.first ≡ true) is (rule_parts limits m request rule).first

pub second_as : (limits : HelperLimits) (m : MachineState) (request : Request) (o : Option ArgKind) → (asks request.helper).second ≡ o → meets_rule limits m request ≡ true → meets limits m request.arguments o request.arguments.second ≡ true
second_as limits m request o is rule =
    subst (λ (x : Option ArgKind). meets limits m request.arguments x request.arguments.second ≡ true) is (rule_parts limits m request rule).second

-- tables are as long as the limits say
has_word : (setup : Setup) (world : World) (table index : ℕ) → AnswerLimits setup world → ltb table (length setup.limits.table_lengths) ≡ true → ltb index (slice_index_or setup.limits.table_lengths table 0) ≡ true → HasWord world.runs.tables table index
has_word setup world table index kept first second =
    let many : length setup.limits.table_lengths ≡ length world.runs.tables = sym (ap (λ (ns : List ℕ). length ns) kept.lengths) ∙ length-map world.runs.tables (λ (t : List ℕ). length t) in
    let there : table < length world.runs.tables = omega (arith, ltb-true _ _ first, many) in
    let long : slice_index_or setup.limits.table_lengths table 0 ≡ length (slice_index_or world.runs.tables table []) =
    sym (ap (λ (ns : List ℕ). slice_index_or ns table 0) kept.lengths) ∙ get_or-map (λ (t : List ℕ). length t) world.runs.tables table [] 0 there in
    (there, omega (arith, ltb-true _ _ second, long))

pub word_there : (setup : Setup) (world : World) (m : MachineState) (request : Request) → AnswerLimits setup world → (asks request.helper).first ≡ Some Table → (asks request.helper).second ≡ Some Index → meets_rule setup.limits m request ≡ true → HasWord world.runs.tables request.arguments.first request.arguments.second
word_there setup world m request kept first second rule =
    has_word setup world request.arguments.first request.arguments.second kept
    (first_as setup.limits m request (Some Table) first rule) (second_as setup.limits m request (Some Index) second rule)

pub first_within : (limits : HelperLimits) (m : MachineState) (request : Request) (least most : ℕ) → (asks request.helper).first ≡ Some (Within least most) → meets_rule limits m request ≡ true → (least ≤ request.arguments.first) × (request.arguments.first ≤ most)
first_within limits m request least most first rule =
    let parts = and_parts (leb least request.arguments.first) (leb request.arguments.first most) (first_as limits m request (Some (Within least most)) first rule) in
    (leb-true _ _ parts.0, leb-true _ _ parts.1)
