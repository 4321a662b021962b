-- The last line is read as it is printed.
use Rattle.std.proofs.Common.{◌≡◌, ◌==◌, ℕ, true, Some, None, List, ◌++◌, get_or, refl, sym, ap, ◌∙◌, codes}
use Rattle.std.specs.List.{list_all}
use Rattle.std.specs.Fmt.{option_append}
use Rattle.world_calls.specs.declared.totals.Totals.{Totals}
use Rattle.trace_lines.specs.Lines.{fields_text}
use Rattle.trace_lines.specs.Reading.{ReadsFields}
use Rattle.trace_lines.specs.Written.{Reads}
use Rattle.trace_lines.specs.declared.kind.Slots.{Slots}
use Rattle.trace_lines.specs.declared.value.Value.{Value}
use Rattle.trace_lines.specs.declared.value.Value.TheVariants as values
use Rattle.trace_lines.proofs.Held.{slots_of, holds_number, holds_long_number, as_four}
use Rattle.trace_lines.proofs.Plain.{plain_fields}
use Rattle.trace_lines.proofs.Tests.{parts_of, same_text}
use Rattle.trace.specs.declared.sums.TheConstants.{SUMS}
use Rattle.trace.specs.Reading.{sums_of}
use Rattle.trace.specs.TraceText.{values_of_sums, sums_text}
use Rattle.trace.proofs.Cuts.{is_in_line, IsOneLine, line_of_plain, line_both}

record Fields (totals : Totals) (line : List ℕ) : Type 0 where
  told : List ℕ
  is : fields_text SUMS (values_of_sums totals) ≡ Some told
  whole : line ≡ codes "end" ++ told

fields : (totals : Totals) (line : List ℕ) → sums_text totals ≡ Some line → Fields totals line
fields totals line e =
    let parts = parts_of (Some (codes "end")) (fields_text SUMS (values_of_sums totals)) line e in
    record { told = parts.1; is = parts.3; whole = parts.4 ∙ ap (λ (t : List ℕ). t ++ parts.1) (sym (same_text (codes "end") parts.0 parts.2)) }

-- the last line is one line
pub one_last_line : (totals : Totals) (line : List ℕ) → sums_text totals ≡ Some line → IsOneLine line
one_last_line totals line e =
    let its = fields totals line e in
    let told = line_of_plain its.told (plain_fields SUMS (values_of_sums totals) its.told its.is) in
    ap (list_all is_in_line) its.whole ∙ line_both (codes "end") its.told refl told

-- it begins with an `e`
pub last_letter : (totals : Totals) (line : List ℕ) → sums_text totals ≡ Some line → (get_or line 0 0 == 101) ≡ true
last_letter totals line e = ap (λ (t : List ℕ). get_or t 0 0 == 101) (fields totals line e).whole

pub no_end : (line : List ℕ) → ((rest : List ℕ) → ¬ (line ≡ codes "end" ++ rest)) → Reads sums_text line None
no_end line apart = record { said = tt; back = λ totals e. let its = fields totals line e in absurd (apart its.told its.whole) }

module _ (line rest : List ℕ) (front : line ≡ codes "end" ++ rest) where
  behind : (totals : Totals) → sums_text totals ≡ Some line → fields_text SUMS (values_of_sums totals) ≡ Some rest
  behind totals e =
      let its = fields totals line e in
      let both : codes "end" ++ its.told ≡ codes "end" ++ rest = sym its.whole ∙ front in
      let same : its.told ≡ rest = cc in
      its.is ∙ ap Some same

  pub no_fields : ReadsFields SUMS rest None → Reads sums_text line None
  no_fields none = record { said = tt; back = λ totals e. let there = none.back refl (values_of_sums totals) (behind totals e) in absurd cc }

  module _ (held : Slots Value) (reads : ReadsFields SUMS rest (Some held)) where
    held_again : values_of_sums (sums_of held) ≡ held
    held_again =
        let s = slots_of SUMS held rest reads.said in
        let a = holds_long_number held.first s.one s.first in
        let b = holds_number held.second s.two s.second in
        let d = holds_number held.third s.three s.third in
        let f = holds_number held.fourth s.four s.fourth in
        let is = as_four held (values.LongNumber a.0) (values.Number b.0) (values.Number d.0) (values.Number f.0) a.1 b.1 d.1 f.1 in
        ap (λ (h : Slots Value). values_of_sums (sums_of h)) is ∙ sym is

    pub sums_reads : Reads sums_text line (Some (sums_of held))
    sums_reads = record {
      said = ap (option_append (Some (codes "end"))) (ap (fields_text SUMS) held_again ∙ reads.said) ∙ ap Some (sym front);
      back = λ totals e.
          let there = reads.back refl (values_of_sums totals) (behind totals e) in
          let same : held ≡ values_of_sums totals = cc in
          ap Some (ap sums_of same);
    }
