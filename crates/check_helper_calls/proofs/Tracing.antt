-- The bytes that a call names are there.
use Rattle.std.proofs.Common.{◌≡◌, ℕ, true, false, List, [], Option, Some, None, refl, subst, ◌∙◌}
use Rattle.std.specs.Prelude.{◌&&◌, is_some, nat_le}
use Rattle.std.specs.Option.{option_and_then}
use Rattle.std.proofs.lemmas.Bool.{and_parts, cond-true}
use Rattle.bpf_stack_frame.specs.Frame.{all_written}
use Rattle.helpers.specs.declared.columns.ArgKind.{ArgKind}
use Rattle.helpers.specs.declared.columns.Tells.{Tells}
use Rattle.helpers.specs.declared.columns.Tells.TheVariants as tells
use Rattle.helpers.specs.declared.table.Helper.{Helper}
use Rattle.helpers.specs.declared.limits.HelperLimits.{HelperLimits}
use Rattle.helpers.specs.declared.request.Arguments.{Arguments}
use Rattle.helpers.specs.Table.{asks, row_of}
use Rattle.helpers.proofs.Together.{TellsOf}
use Rattle.bpf_semantics.specs.Calls.{meets, meets_need, named_bytes, obeys}
use Rattle.bpf_semantics.specs.Frames.{frame_bytes}
use Rattle.bpf_semantics.specs.MachineState.{MachineState}

pub some_same : {X : Type 0} (x y : X) → Some x ≡ Some y → x ≡ y
some_same x y e = cc

some_there : {X : Type 0} (o : Option X) → is_some o ≡ true → (x : X) × (o ≡ Some x)
some_there None h = absurd (let bad : false ≡ true = h in cc)
some_there (Some x) h = (x, refl)

-- the bytes that a call names are there, where it meets its rule
pub bytes_there : (limits : HelperLimits) (m : MachineState) (helper : Helper) (arguments : Arguments) (tells : Tells) → TellsOf tells (row_of helper) → obeys limits m helper arguments ≡ true
    → (bytes : List ℕ) × (named_bytes m tells arguments ≡ Some bytes)
bytes_there limits m helper arguments tells.Name of_row rule = ([], refl)
bytes_there limits m helper arguments tells.Code of_row rule = ([], refl)
bytes_there limits m helper arguments tells.Bytes (first, second) rule =
    let parts = and_parts (meets_need m (row_of helper).needs) _ rule in
    let of_first = and_parts (meets limits m arguments (asks helper).first arguments.first) _ parts.1 in
    let of_second = and_parts (meets limits m arguments (asks helper).second arguments.second) _ of_first.1 in
    let written = subst (λ (asked : Option ArgKind). meets limits m arguments asked arguments.first ≡ true) first of_first.0 in
    let few = subst (λ (asked : Option ArgKind). meets limits m arguments asked arguments.second ≡ true) second of_second.0 in
    let there = some_there (option_and_then all_written (frame_bytes 0 m.frames arguments.first arguments.second)) written in
    (there.0, cond-true (nat_le 1 arguments.second && nat_le arguments.second 64) _ _ few ∙ there.1)
