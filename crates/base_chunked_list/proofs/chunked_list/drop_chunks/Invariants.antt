-- what is left of the chunks, by what was there
use Rattle.std.proofs.Common.{◌≡◌, ◌+◌, ◌*◌, ◌≤◌, List, ◌++◌, drop, length, vec_capacity}
use Rattle.base_chunked_list.specs.Chunks.{items_of}
use Rattle.base_chunked_list.specs.Invariant.{AreFull}
use Rattle.base_chunked_list.proofs.chunked_list.drop_chunks.Given as goal

abbrev pub invariant-loop-gone : goal.invariant-loop-gone
invariant-loop-gone g l = record {
  full : AreFull l.full.items;
  items : (last : List g.row.T.Denot) → drop l.gone (items_of l.full.items ++ last) ≡ drop l.fn.gone (items_of l.fn.full.items ++ last);
  count : length l.full.items * 1024 + l.fn.gone ≡ length l.fn.full.items * 1024 + l.gone;
  fewer : l.gone ≤ l.fn.gone;
  capacity : vec_capacity l.full ≡ vec_capacity l.fn.full;
}

abbrev pub decreases-loop-gone : goal.decreases-loop-gone
decreases-loop-gone g l = l.gone
