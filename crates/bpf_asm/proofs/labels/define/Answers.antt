use Rattle.std.proofs.Common.{◌≡◌, ℕ, List, ap, sym, ◌∙◌, refl, false, bytes_eq, inl, inr, Option, Some, None, is_some}
use Rattle.std.specs.Map.{update}
use Rattle.std.specs.Cmp.Lexicographic.{bytes_decides, nat_list_eq_equiv}
use Rattle.std.proofs.lemmas.Map.Text.{btree_map_updates_str}
use Rattle.bpf_asm.specs.declared.labels.Label.{Label}
use Rattle.bpf_asm.specs.Labels.{label_at, first_of, defined_as}
use Rattle.bpf_asm.proofs.Scanning.{tested}
use Rattle.bpf_asm.proofs.labels.define.Goals as goal

first_of_none : (found : Option Label) → found ≡ first_of found None
first_of_none None = refl
first_of_none (Some label) = refl

nothing : (found : Option Label) → is_some found ≡ false → found ≡ None
nothing None h = refl
nothing (Some label) h = absurd cc

-- a name that was not defined is, and the others are as they were
updated : (labels : List ℕ → Option Label) (name other : List ℕ) (label : Label) → labels name ≡ None → update bytes_eq labels name (Some label) other ≡ first_of (labels other) (defined_as name label other)
updated labels name other label none =
    elim (tested (bytes_eq name other)) [
      | inl e ↦ let same : name ≡ other = (bytes_decides name other).0 e in let here : labels other ≡ None = sym (ap labels same) ∙ none in rw (nat_list_eq_equiv.symm other name, e, here) refl
      | inr e ↦ rw (nat_list_eq_equiv.symm other name, e) (first_of_none (labels other))
    ]

pub returns-in_ok-insert : goal.returns-in_ok-insert
unfolding label_at
returns-in_ok-insert c = λ other.
    let changed = btree_map_updates_str c.args.name.now c.args.labels.now c.insert.new.self _ c.in_ok-insert.ensures.updates other in
    changed ∙ updated (label_at c.args.labels.now) c.args.name.now other c.args.label (nothing _ (sym c.contains_key.ensures ∙ c.if-not-contains_key.true))
