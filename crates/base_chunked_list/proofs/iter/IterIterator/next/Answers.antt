use Rattle.base_chunked_list.proofs.Chunks.{others_not_empty}
use Rattle.base_chunked_list.proofs.iter.IterIterator.next.Goals as goal
use Rattle.base_chunked_list.proofs.iter.IterIterator.next.Goals.{then-is_empty+in-Some, then-is_empty+in-None, else-is_empty}

pub invariant_of-self-2 : goal.invariant_of-self-2
invariant_of-self-2 g c = elim c.if-is_empty.branch [
  | then-is_empty+in-Some w ↦ rw w.self-inside-is (others_not_empty c.self.inside.behind.now _ _ c.self.invariant w.in-Some.ensures.cases.0)
  | then-is_empty+in-None w ↦ rw w.self-inside-is (c.self.invariant)
  | else-is_empty w ↦ rw w.self-inside-is (c.self.invariant)
]
