-- A code is two characters of a byte each.
use Rattle.std.proofs.Common.{◌≡◌, ◌++◌, rules}
use Rattle.std.specs.Prelude.{encode_utf8}
use Rattle.ccb.specs.declared.call_refusal.CallRefusal.{CallRefusal}
use Rattle.ccb.specs.CallRefusalText.{call_refusal_text, row_of}

pub code_is : (name : CallRefusal) → encode_utf8 (row_of name).letter ++ encode_utf8 (row_of name).digit ≡ call_refusal_text name
unfolding row_of lib.Utf8.encode
code_is name = search rules
