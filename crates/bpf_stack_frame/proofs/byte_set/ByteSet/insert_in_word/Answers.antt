use Rattle.std.proofs.Common.{ℕ, List, Bool, ap, sym, subst, ◌∙◌, ◌/◌, set}
use Rattle.std.specs.Prelude.{bit_or, slice_index}
use Rattle.bpf_stack_frame.specs.ByteSet.{with_all}
use Rattle.bpf_stack_frame.specs.SetWords.{set_of, AreWords}
use Rattle.bpf_stack_frame.proofs.Words.{added_kept, set_of-added}
use Rattle.bpf_stack_frame.proofs.byte_set.ByteSet.insert_in_word.Goals as goal

-- the words after the or with a mask
words_with : List ℕ → ℕ → ℕ → List ℕ
words_with words offset ones = set words (offset / 64) (bit_or (slice_index words (offset / 64)) ones)

pub invariant_of-self : goal.invariant_of-self
unfolding words_with
invariant_of-self c =
    subst (λ (ones : ℕ). AreWords (words_with c.self.inside.words c.args.offset ones)) (sym c.ones.ensures)
    (added_kept c.self.inside.words c.args.offset c.args.count c.self.invariant c.requires.inside c.requires.in_word)

pub returns : goal.returns
unfolding words_with
returns c =
    ap (λ (ones : ℕ). set_of (words_with c.self.inside.words c.args.offset ones)) c.ones.ensures
    ∙ set_of-added c.self.inside.words c.args.offset c.args.count c.self.invariant.count c.requires.inside c.requires.in_word
    ∙ ap (λ (bytes : List Bool). with_all bytes c.args.offset c.args.count) c.self.view_is
