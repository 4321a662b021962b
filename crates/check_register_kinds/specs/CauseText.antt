-- How a cause is printed: its code.
use Rattle.std.specs.Prelude.{ℕ, List, codes}
use Rattle.check_register_kinds.specs.declared.cause.Cause.{Cause}
use Rattle.check_register_kinds.specs.declared.cause.Cause.TheVariants.{UnwrittenRegister, UnwrittenByte, AccessOutside, StoreToContext, AddressAsNumber, UnknownHelper, ArgumentAgainstRule, FreezeHeld, NotDisposed, DisposedTwice, PathsDisagree, TooManyFreezes, AddressStored, NoResult}

abbrev pub cause_text : Cause → List ℕ
cause_text UnwrittenRegister = codes "V1"
cause_text UnwrittenByte = codes "V2"
cause_text AccessOutside = codes "V3"
cause_text StoreToContext = codes "V4"
cause_text AddressAsNumber = codes "V5"
cause_text UnknownHelper = codes "V6"
cause_text ArgumentAgainstRule = codes "V7"
cause_text FreezeHeld = codes "V8"
cause_text NotDisposed = codes "V9"
cause_text DisposedTwice = codes "V10"
cause_text PathsDisagree = codes "V11"
cause_text TooManyFreezes = codes "V12"
cause_text AddressStored = codes "V13"
cause_text NoResult = codes "V14"
