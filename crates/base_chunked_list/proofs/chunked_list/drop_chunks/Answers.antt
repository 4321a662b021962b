use Rattle.std.proofs.Common.{◌≡◌, ◌∙◌, ◌-◌, ◌<◌, ◌++◌, List, drop, length, arith, ap, subst, sym}
use Rattle.std.specs.List.{remove}
use Rattle.std.specs.declared.vec.Vec.{Vec}
use Rattle.std.specs.declared.alloc.Global.{Global}
use Rattle.base_chunked_list.specs.Chunks.{items_of}
use Rattle.base_chunked_list.specs.Invariant.{AreFull}
use Rattle.base_chunked_list.proofs.Chunks.{first_gone, others_full}
use Rattle.base_chunked_list.proofs.chunked_list.drop_chunks.Goals as goal

pub loop-gone-preserved : goal.loop-gone-preserved
loop-gone-preserved g c =
    let there : 0 < length c.loop-gone.full.items = omega arith in
    let left : c.remove.new.self.items ≡ remove c.loop-gone.full.items 0 = c.remove.ensures.items in
    record {
      full = subst (λ (l : List (Vec g.row.T.Denot Global)). AreFull l) (sym left) (others_full c.loop-gone.full.items c.loop-gone.invariant.full);
      items = λ last. ap (λ (l : List (Vec g.row.T.Denot Global)). drop (c.loop-gone.gone - 1024) (items_of l ++ last)) left
          ∙ first_gone c.loop-gone.gone c.loop-gone.full.items last c.loop-gone.invariant.full there (omega arith)
          ∙ c.loop-gone.invariant.items last;
      count = omega arith;
      fewer = omega (arith, c.loop-gone.invariant.fewer);
      capacity = c.remove.ensures.capacity ∙ c.loop-gone.invariant.capacity;
    }
