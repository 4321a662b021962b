use Rattle.std.proofs.Common.{◌≡◌, ◌≤◌, ◌<◌, ℕ, length}
use Rattle.std.specs.Prelude.{slice_index_or}
use Rattle.base.proofs.padded_list.PaddedList.copy_from.Given as goal

-- the places before this one are the other's, and the others are as they were
abbrev pub invariant-loop-place : goal.invariant-loop-place
invariant-loop-place g l = record {
  whole : length l.self-inside.places ≡ g.row.N;
  copied : (j : ℕ) → j < l.place → slice_index_or l.self-inside.places j g.T.Blank.blank ≡ slice_index_or l.other-inside.places j g.T.Blank.blank;
  left : (j : ℕ) → l.place ≤ j → slice_index_or l.self-inside.places j g.T.Blank.blank ≡ slice_index_or l.initial.self-inside.places j g.T.Blank.blank;
}
