use Rattle.std.proofs.Common.{◌≡◌, take}
use Rattle.base.proofs.padded_list.PaddedList.is_same.Given as goal

-- the values before this place are the same
abbrev pub invariant-loop-place : goal.invariant-loop-place
invariant-loop-place g l = take l.place l.self-inside.places ≡ take l.place l.other-inside.places
