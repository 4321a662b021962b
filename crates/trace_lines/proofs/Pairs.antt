-- Bytes and their pairs of digits.
use Rattle.std.proofs.Common.{◌≡◌, ◌<◌, ◌≤◌, ◌+◌, ◌-◌, ◌/◌, ◌%◌, ◌==◌, ◌&&◌, ◌||◌, ℕ, Bool, true, false, Option, Some, None, IfSome, List, [], ◌∷◌, refl, sym, ap, ◌∙◌, arith, nat_lt, subst, lit<}
use Rattle.std.specs.Prelude.{if◌then◌else◌}
use Rattle.std.specs.Fmt.{digit_glyph}
use Rattle.std.proofs.lemmas.Bool.{ltb-true, lt-ltb}
use Rattle.std.proofs.lemmas.Bool.Decides.{nat_tests}
use Rattle.ccb.specs.declared.cam_status.CamStatus.{CamStatus}
use Rattle.ccb.specs.declared.cam_status.CamStatus.TheVariants.{RequestInProgress, RequestCompleted, RequestAborted, Busy, SelectionTimeout, CommandTimeout, ScsiStatusError, ScsiBusReset, BusDeviceResetSent, RequeueRequest}
use Rattle.ccb.specs.Status.{code_of, IsDecodedFrom}
use Rattle.base.specs.Hexadecimal.{is_decimal, is_letter, is_digit, digit_value, pair_value, byte_in}
use Rattle.trace_lines.specs.Texts.{where_true, pair_text, is_byte, byte_text, status_text}
use Rattle.trace_lines.specs.Written.{Reads}
use Rattle.trace_lines.proofs.Tests.{passed, both}

-- ---- one digit

-- a digit is the glyph of its value
decimal_digit : (code : ℕ) → is_decimal code ≡ true → (digit_value code < 16) × (digit_glyph false (digit_value code) ≡ code)
decimal_digit code h =
    let value : digit_value code ≡ code - 48 = rw h refl in
    let low : 48 ≤ code = grind (arith, nat_tests) in
    let high : code ≤ 57 = grind (arith, nat_tests) in
    let small : nat_lt (code - 48) 10 ≡ true = lt-ltb (code - 48) 10 (omega arith) in
    rw value (omega arith, rw small (omega arith))

letter_digit : (code : ℕ) → is_decimal code ≡ false → is_letter code ≡ true → (digit_value code < 16) × (digit_glyph false (digit_value code) ≡ code)
letter_digit code other h =
    let value : digit_value code ≡ code - 97 + 10 = rw (other, h) refl in
    let low : 97 ≤ code = grind (arith, nat_tests) in
    let high : code ≤ 102 = grind (arith, nat_tests) in
    let large : nat_lt (code - 97 + 10) 10 ≡ false = grind (arith, nat_tests) in
    rw value (omega arith, rw large (omega arith))

by_cases : (code : ℕ) (a b : Bool) → is_decimal code ≡ a → is_letter code ≡ b → (a || b) ≡ true → (digit_value code < 16) × (digit_glyph false (digit_value code) ≡ code)
by_cases code true b dec other h = decimal_digit code dec
by_cases code false true other letter h = letter_digit code other letter
by_cases code false false other neither h = absurd cc

pub glyph_of_value : (code : ℕ) → is_digit code ≡ true → (digit_value code < 16) × (digit_glyph false (digit_value code) ≡ code)
glyph_of_value code h = by_cases code (is_decimal code) (is_letter code) refl refl h

by_digit : (digit : ℕ) (small : Bool) → nat_lt digit 10 ≡ small → digit < 16 → (is_digit (digit_glyph false digit) ≡ true) × (digit_value (digit_glyph false digit) ≡ digit)
by_digit digit true e h =
    let below : digit < 10 = ltb-true digit 10 e in
    let decimal : is_decimal (48 + digit) ≡ true = grind (arith, nat_tests) in
    rw (e, decimal) (refl, omega arith)
by_digit digit false e h =
    let above : 10 ≤ digit = grind (arith, nat_tests) in
    let other : is_decimal (87 + digit) ≡ false = grind (arith, nat_tests) in
    let letter : is_letter (87 + digit) ≡ true = grind (arith, nat_tests) in
    rw (e, other, letter) (refl, omega arith)

-- and a glyph a digit of that value
pub value_of_glyph : (digit : ℕ) → digit < 16 → (is_digit (digit_glyph false digit) ≡ true) × (digit_value (digit_glyph false digit) ≡ digit)
value_of_glyph digit h = by_digit digit (nat_lt digit 10) refl h

-- ---- a pair

-- the byte of a pair is that byte
pub byte_of_pair : (byte : ℕ) → byte < 256 → (is_digit (digit_glyph false (byte / 16)) ≡ true) × (is_digit (digit_glyph false (byte % 16)) ≡ true)
    × (pair_value (digit_glyph false (byte / 16)) (digit_glyph false (byte % 16)) ≡ byte)
byte_of_pair byte fits =
    let high = value_of_glyph (byte / 16) (omega arith) in
    let low = value_of_glyph (byte % 16) (omega arith) in
    (high.0, low.0, rw (high.1, low.1) (omega arith))

-- and a pair of digits is the pair of its byte
pub pair_of_byte : (high low : ℕ) → is_digit high ≡ true → is_digit low ≡ true → (pair_value high low < 256) × (pair_text (pair_value high low) ≡ high ∷ low ∷ [])
pair_of_byte high low h l =
    let hs = glyph_of_value high h in
    let ls = glyph_of_value low l in
    let top : pair_value high low / 16 ≡ digit_value high = omega (arith, hs.0, ls.0) in
    let bottom : pair_value high low % 16 ≡ digit_value low = omega (arith, hs.0, ls.0) in
    (omega (arith, hs.0, ls.0), rw (top, bottom, hs.1, ls.1) refl)

-- ---- a word of two digits

in_pair : (high low byte : ℕ) (test : Bool) → (is_digit high && is_digit low) ≡ test → (if test then Some (pair_value high low) else None) ≡ Some byte
    → (byte < 256) × (pair_text byte ≡ high ∷ low ∷ [])
in_pair high low byte true test e =
    let digits = both (is_digit high) (is_digit low) test in
    let is : pair_value high low ≡ byte = cc in
    let found = pair_of_byte high low digits.0 digits.1 in
    (subst (λ n. n < 256) is found.0, ap pair_text (sym is) ∙ found.1)
in_pair high low byte false test e = absurd cc

pub spelled_byte : (word : List ℕ) (byte : ℕ) → byte_in word ≡ Some byte → (byte < 256) × (pair_text byte ≡ word)
spelled_byte [] byte e = absurd cc
spelled_byte (high ∷ []) byte e = absurd cc
spelled_byte (high ∷ low ∷ []) byte e = in_pair high low byte (is_digit high && is_digit low) refl e
spelled_byte (high ∷ low ∷ next ∷ rest) byte e = absurd cc

pub byte_again : (word : List ℕ) (byte : ℕ) → byte < 256 → pair_text byte ≡ word → byte_in word ≡ Some byte
byte_again word byte fits e =
    let found = byte_of_pair byte fits in
    let here : byte_in (pair_text byte) ≡ Some byte = rw (found.0, found.1) (ap Some found.2) in
    ap byte_in (sym e) ∙ here

said_byte : (word : List ℕ) (read : Option ℕ) → byte_in word ≡ read → IfSome read (λ byte. byte_text byte ≡ Some word)
said_byte word None e = tt
said_byte word (Some byte) e =
    let spelled = spelled_byte word byte e in
    ap (λ (b : Bool). where_true b (pair_text byte)) (lt-ltb byte 256 spelled.0) ∙ ap Some spelled.1

pub reads_byte : (word : List ℕ) (read : Option ℕ) → read ≡ byte_in word → Reads byte_text word read
reads_byte word read e = record {
  said = said_byte word read (sym e);
  back = λ byte is.
      let told = passed (is_byte byte) (pair_text byte) word is in
      e ∙ byte_again word byte (ltb-true byte 256 told.0) told.1;
}

-- ---- a status

status_in : ℕ → CamStatus
status_in code = if code == 0 then RequestInProgress else if code == 1 then RequestCompleted else if code == 2 then RequestAborted else if code == 5 then Busy
    else if code == 10 then SelectionTimeout else if code == 11 then CommandTimeout else if code == 12 then ScsiStatusError else if code == 14 then ScsiBusReset
    else if code == 23 then BusDeviceResetSent else RequeueRequest

decoded : (status : CamStatus) → status_in (code_of status) ≡ status
unfolding status_in
decoded RequestInProgress = refl
decoded RequestCompleted = refl
decoded RequestAborted = refl
decoded Busy = refl
decoded SelectionTimeout = refl
decoded CommandTimeout = refl
decoded ScsiStatusError = refl
decoded ScsiBusReset = refl
decoded BusDeviceResetSent = refl
decoded RequeueRequest = refl

same_status : (a b : CamStatus) → code_of a ≡ code_of b → a ≡ b
same_status a b e = sym (decoded a) ∙ ap status_in e ∙ decoded b

code_fits : (status : CamStatus) → code_of status < 256
code_fits RequestInProgress = lit< tt
code_fits RequestCompleted = lit< tt
code_fits RequestAborted = lit< tt
code_fits Busy = lit< tt
code_fits SelectionTimeout = lit< tt
code_fits CommandTimeout = lit< tt
code_fits ScsiStatusError = lit< tt
code_fits ScsiBusReset = lit< tt
code_fits BusDeviceResetSent = lit< tt
code_fits RequeueRequest = lit< tt

status_again : (code : ℕ) (status : CamStatus) (read : Option CamStatus) → IsDecodedFrom code read → code_of status ≡ code → read ≡ Some status
status_again code status None none e = absurd (none status e)
status_again code status (Some other) is e = ap Some (same_status other status (is ∙ sym e))

said_status : (word : List ℕ) (code : ℕ) (read : Option CamStatus) → 0 < code → pair_text code ≡ word → IsDecodedFrom code read
    → IfSome read (λ status. status_text status ≡ Some word)
said_status word code None some is decodes = tt
said_status word code (Some status) some is decodes =
    let test : nat_lt 0 (code_of status) ≡ true = lt-ltb 0 (code_of status) (subst (λ n. 0 < n) (sym decodes) some) in
    ap (λ (b : Bool). where_true b (pair_text (code_of status))) test ∙ ap Some (ap pair_text decodes ∙ is)

pub reads_status : (word : List ℕ) (code : ℕ) (read : Option CamStatus) → byte_in word ≡ Some code → 0 < code → IsDecodedFrom code read → Reads status_text word read
reads_status word code read e some decodes =
    let spelled = spelled_byte word code e in
    record {
      said = said_status word code read some spelled.1 decodes;
      back = λ status is.
          let told = passed (nat_lt 0 (code_of status)) (pair_text (code_of status)) word is in
          let again = byte_again word (code_of status) (code_fits status) told.1 in
          status_again code status read decodes cc;
    }
