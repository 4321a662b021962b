use Rattle.std.proofs.Common.{◌≡◌, ◌⊎◌, ◌∙◌, inl, inr, subst, sym}
use Rattle.clap.specs.Words.{HasKind, IsAmong, Kinds, kind_of}
use Rattle.clap.specs.declared.error.Error.{Error}
use Rattle.clap.specs.declared.error.kind.ErrorKind.{ErrorKind}
use Rattle.clap.specs.declared.error.kind.ErrorKind.TheVariants as kind
use Rattle.cli_line.proofs.words.matches.Goals as goal

-- a fault of the same kind is told
told_so : (kinds : Kinds) (fault told : Error) (k : ErrorKind) → k ≡ kind_of fault → (kind_of told ≡ k) ⊎ (kind_of told ≡ kind.OutOfMemory)
    → HasKind kinds fault → HasKind kinds told
told_so kinds fault told k is (inl same) (inl memory) = inl (same ∙ is ∙ memory)
told_so kinds fault told k is (inl same) (inr among) = inr (subst (λ x. IsAmong x kinds) (sym (same ∙ is)) among)
told_so kinds fault told k is (inr memory) has = inl memory

pub returns-in-Err-clause-faults : goal.returns-in-Err-clause-faults
returns-in-Err-clause-faults c = told_so _ c.in-Err.fault c.retold.result c.kind.result c.kind.ensures c.retold.ensures c.in-Err.ensures.faults
