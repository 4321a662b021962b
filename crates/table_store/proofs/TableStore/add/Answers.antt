-- The tables change as their rows do.
use Rattle.std.proofs.Common.{refl}
use Rattle.table_store.proofs.OneWord.{one_word, same_lengths}
use Rattle.table_store.proofs.TableStore.add.Goals as goal

pub returns-clause-tables : goal.returns-clause-tables
returns-clause-tables c =
    one_word (λ table. table.items) _ _ _ _ _ _ _ c.self.view_is c.requires.0 c.index_mut.ensures.value refl

pub returns-clause-lengths : goal.returns-clause-lengths
returns-clause-lengths c =
    same_lengths _ _ _ _ _
    (one_word (λ table. table.items) _ _ _ _ _ _ _ c.self.view_is c.requires.0 c.index_mut.ensures.value refl)
