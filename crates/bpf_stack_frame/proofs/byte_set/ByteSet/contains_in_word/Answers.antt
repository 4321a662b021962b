use Rattle.std.proofs.Common.{ℕ, ◌≡◌, ◌/◌, Bool, List, sym, subst}
use Rattle.std.specs.Prelude.{bit_and, slice_index}
use Rattle.std.proofs.lemmas.Bool.{eqb-true, eq-eqb}
use Rattle.bpf_stack_frame.specs.ByteSet.{HasAll}
use Rattle.bpf_stack_frame.proofs.Words.{has_all, all_whole}
use Rattle.bpf_stack_frame.proofs.byte_set.ByteSet.contains_in_word.Goals as goal

pub returns : goal.returns
returns c =
    let words = c.self.inside.words in
    let offset = c.args.offset in
    let word = slice_index words (offset / 64) in
    let Whole : ℕ → Type 0 = λ n. bit_and word n ≡ n in
    let All : List Bool → Type 0 = λ bytes. HasAll bytes offset c.args.count in (
      λ whole. subst All c.self.view_is (has_all words offset c.args.count c.requires.inside c.requires.in_word
          (subst Whole c.ones-mask.ensures (eqb-true (bit_and word c.ones-mask.result) c.ones-mask.result whole))),
      λ all. eq-eqb (bit_and word c.ones-mask.result) c.ones-mask.result
          (subst Whole (sym c.ones-mask.ensures) (all_whole words offset c.args.count c.requires.inside c.requires.in_word (subst All (sym c.self.view_is) all))),
    )
