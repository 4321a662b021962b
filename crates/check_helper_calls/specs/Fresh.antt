-- Of which freezes no function that waits has a copy.
use Rattle.std.specs.Prelude.{◌≡◌, Bool, false, List}
use Rattle.std.specs.List.{list_any}
use Rattle.check_register_kinds.specs.declared.freeze_name.FreezeName.{FreezeName}
use Rattle.check_register_kinds.specs.declared.kind.Kind.{Kind}
use Rattle.check_register_kinds.specs.declared.kind.Kind.TheVariants.{Unwritten, Number, Address, Freeze}
use Rattle.check_description.specs.declared.saved.SavedRegister.{SavedRegister}
use Rattle.check_description.specs.declared.saved.SavedRegisters.{SavedRegisters}
use Rattle.check_register_kinds.specs.Freezes.{is_name}

-- the register was a copy of the freeze of that name
abbrev pub is_copy_of : FreezeName → Kind → Bool
is_copy_of name Unwritten = false
is_copy_of name (Number scalar) = false
is_copy_of name (Address region offsets) = false
is_copy_of name (Freeze other) = is_name other name

abbrev pub is_copy : FreezeName → SavedRegister → Bool
is_copy name register = is_copy_of name register.kind

-- one of the function's registers was
abbrev pub saves : FreezeName → SavedRegisters → Bool
saves name saved = list_any (is_copy name) saved.registers

-- no function that waits has a copy of the freeze of that name
abbrev pub IsFresh : FreezeName → List SavedRegisters → Type 0
IsFresh name callers = list_any (saves name) callers ≡ false
