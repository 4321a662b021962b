-- What is put out of a journal that is accepted.
use Rattle.std.proofs.Common.{◌≡◌, ◌^◌, ℕ, Bool, true, false, List, ◌++◌, nat_lt}
use Rattle.std.specs.Prelude.{decimal}
use Rattle.trace_lines.specs.Texts.{long_number_text, where_true}
use Rattle.trace_lines.specs.Written.{IsPut}

put_where : (test : Bool) (text old new : List ℕ) → IsPut (where_true test text) old new → new ≡ old ++ text
put_where true text old new is = cc
put_where false text old new is = cc

pub put_long : (number : ℕ) (old new : List ℕ) → IsPut (long_number_text number) old new → new ≡ old ++ decimal number
put_long number old new is = put_where (nat_lt number (2 ^ 64)) (decimal number) old new is
