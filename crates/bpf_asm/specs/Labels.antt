-- What the map of a text's labels knows.
use Rattle.std.specs.Prelude.{ℕ, List, Option, Some, None, bytes_eq, if◌then◌else◌}
use Rattle.std.specs.BTreeMap.{BTreeMap, get_by}
use Rattle.std.specs.Cmp.Lexicographic.{slice_cmp}
use Rattle.std.specs.Ordering.{nat_cmp}
use denote.Ref.{Bor}
use Rattle.bpf_asm.specs.declared.labels.Label.{Label}

-- where the label of a name is defined
unfoldable pub label_at : BTreeMap (Bor (List ℕ)) Label → List ℕ → Option Label
label_at labels name = get_by (λ key. slice_cmp nat_cmp name key.now) labels

-- where a label is first: here, or else there
abbrev pub first_of : Option Label → Option Label → Option Label
first_of (Some label) later = Some label
first_of None later = later

-- what one definition says of each name
abbrev pub defined_as : List ℕ → Label → List ℕ → Option Label
defined_as defined label name = if bytes_eq name defined then Some label else None
