use Rattle.std.proofs.Common.{ltb, ltb-true, ltb-false, rules}
use Rattle.std.proofs.lemmas.List.Sorted.{IsPartitionPoint-from_clause, IsPartitionedBy-ltb}
use Rattle.cam_numbered_slots.proofs.search.place_for.Goals as goal

pub returns : goal.returns
returns g c =
    let parted = IsPartitionedBy-ltb (λ it. g.T.Numbered.number_of it) _ c.args.number c.requires in
    let point = IsPartitionPoint-from_clause (λ it. ltb (g.T.Numbered.number_of it) c.args.number) _ _ c.partition_point.ensures.partitioned parted (λ a r q k. search rules) in
    record {
      within = c.partition_point.ensures.bound;
      lower = λ k d low high. ltb-true _ _ (point.0 k d low high);
      others = λ k d low high. ltb-false _ _ (point.1 k d low high);
    }
