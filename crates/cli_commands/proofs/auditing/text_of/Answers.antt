use Rattle.std.proofs.Common.{◌≡◌, ◌∙◌, ℕ, Bool, List, [], ◌∷◌, ◌++◌, ap, append-nil, sym}
use Rattle.std.specs.Prelude.{codes, decimal, if◌then◌else◌}
use Rattle.cli_commands.proofs.Accepted.{put_long}
use Rattle.cli_commands.proofs.auditing.text_of.Goals as goal
use Rattle.cli_commands.proofs.auditing.text_of.Goals.{else-audit, then-audit}

pub returns : goal.returns
returns c =
    let audit = c.args.audit.now in
    let first : c.print_long_number.new.text ≡ decimal audit.segments = put_long audit.segments c.none-text.result c.print_long_number.new.text c.print_long_number.ensures.text ∙ ap (λ (t : List ℕ). t ++ decimal audit.segments) c.none-text.ensures in
    let second : c.put.new.self ≡ decimal audit.segments ++ codes " segments, " = c.put.ensures ∙ ap (λ (t : List ℕ). t ++ codes " segments, ") first in
    let third : c.print_long_number-2.new.text ≡ (decimal audit.segments ++ codes " segments, ") ++ decimal audit.records =
    put_long audit.records c.put.new.self c.print_long_number-2.new.text c.print_long_number-2.ensures.text ∙ ap (λ (t : List ℕ). t ++ decimal audit.records) second in
    let fourth : c.put-2.new.self ≡ ((decimal audit.segments ++ codes " segments, ") ++ decimal audit.records) ++ codes " records, accepted" = c.put-2.ensures ∙ ap (λ (t : List ℕ). t ++ codes " records, accepted") third in
    let fifth : c.if-audit.text ≡ (((decimal audit.segments ++ codes " segments, ") ++ decimal audit.records) ++ codes " records, accepted") ++ (if audit.is_open then codes ", open" else []) =
    elim c.if-audit.branch [
      | then-audit w ↦ w.text-is ∙ (w.put-then-audit.ensures ∙ (ap (λ (t : List ℕ). t ++ codes ", open") fourth ∙ ap (λ (b : Bool). (((decimal audit.segments ++ codes " segments, ") ++ decimal audit.records) ++ codes " records, accepted") ++ (if b then codes ", open" else [])) (sym w.if-audit.true)))
      | else-audit w ↦ w.text-is ∙ (fourth ∙ (sym (append-nil (((decimal audit.segments ++ codes " segments, ") ++ decimal audit.records) ++ codes " records, accepted")) ∙ ap (λ (b : Bool). (((decimal audit.segments ++ codes " segments, ") ++ decimal audit.records) ++ codes " records, accepted") ++ (if b then codes ", open" else [])) (sym w.if-audit.false)))
    ] in
    c.push.ensures ∙ ap (λ (t : List ℕ). t ++ 10 ∷ []) fifth
