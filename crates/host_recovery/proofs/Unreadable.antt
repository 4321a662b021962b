-- What is no text is no line of a trace, and no carried one.
use Rattle.std.proofs.Common.{◌≡◌, ◌<◌, ℕ, true, None, List, [], ◌∷◌, arith}
use Rattle.std.specs.List.{list_all}
use Rattle.std.specs.Str.{IsAscii, IsUtf8}
use Rattle.std.proofs.lemmas.Bool.Decides.{nat_tests}
use Rattle.std.proofs.lemmas.Str.{IsUtf8-from_ascii}
use Rattle.std.proofs.lemmas.Str.Ascii.{IsAscii-nil, IsAscii-cons}
use Rattle.world_calls.specs.declared.trace.Version.{Version}
use Rattle.trace_lines.specs.Written.{Reads}
use Rattle.trace_lines.proofs.Tests.{both}
use Rattle.trace.specs.ShortLines.{IsShort, is_shown}
use Rattle.trace.specs.TraceText.{entry_text, sums_text}
use Rattle.trace.proofs.Shown.{lines_are_short}
use Rattle.carried_lines.specs.CarriedText.{carried_text}
use Rattle.host_recovery.proofs.ShortCarried.{carried_is_short}

low : (byte : ℕ) → is_shown byte ≡ true → byte < 128
low byte h = grind (arith, nat_tests)

ascii : (line : List ℕ) → list_all is_shown line ≡ true → IsAscii line
ascii [] h = IsAscii-nil
ascii (b ∷ line) h =
    let parts = both (is_shown b) (list_all is_shown line) h in
    IsAscii-cons b line (low b parts.0) (ascii line parts.1)

text : (line : List ℕ) → IsShort line → IsUtf8 line
text line short = IsUtf8-from_ascii line (ascii line short.shown)

pub no_record : (version : Version) (line : List ℕ) → (IsUtf8 line → ⊥) → Reads (entry_text version) line None
no_record version line none = record { said = tt; back = λ entry e. absurd (none (text line (lines_are_short.0 version entry line e))) }

pub no_end : (line : List ℕ) → (IsUtf8 line → ⊥) → Reads sums_text line None
no_end line none = record { said = tt; back = λ totals e. absurd (none (text line (lines_are_short.1 totals line e))) }

pub no_carried : (version : Version) (line : List ℕ) → (IsUtf8 line → ⊥) → Reads (carried_text version) line None
no_carried version line none = record { said = tt; back = λ carried e. absurd (none (text line (carried_is_short version carried line e))) }
