-- A text begins with one first line, and what is read after it is the whole.
use Rattle.std.proofs.Common.{◌≡◌, ◌≢◌, ◌==◌, ℕ, true, false, Option, Some, None, Result, Ok, Err, List, [], ◌∷◌, ◌++◌, get_or, inl, inr, refl, sym, ap, subst, ◌∙◌}
use Rattle.std.specs.Fmt.{option_append}
use Rattle.base.specs.declared.or_memory.OrMemory.{OrMemory}
use Rattle.base.specs.declared.or_memory.OrMemory.TheVariants.{OutOfMemory, Fault}
use Rattle.world_calls.specs.declared.carried_line.CarriedLine.{CarriedLine}
use Rattle.world_calls.specs.declared.trace.Trace.{Trace}
use Rattle.world_calls.specs.declared.trace.Version.{Version}
use Rattle.world_calls.specs.declared.trace.Version.TheVariants.{One, Three, Two}
use Rattle.trace_lines.proofs.Tests.{parts_of, same_text}
use Rattle.trace.specs.declared.fault.TraceFault.{TraceFault}
use Rattle.trace.specs.declared.fault.TraceFault.TheVariants.{Header, Line}
use Rattle.trace.specs.TraceText.{header}
use Rattle.trace.proofs.SoFar.{behind_header}
use Rattle.carried_lines.specs.FirstLine.{continued_header}
use Rattle.whole_trace.specs.Continued.{IsReadContinued, IsReadSo, SaysContinued, after_header}
use Rattle.whole_trace.specs.WholeText.{AreOrdered, IsReadAgain, IsReadPlain, SaysPlain, SaysWhole, whole_text}
use Rattle.whole_trace.specs.declared.reader.WholeTrace.{WholeTrace}

cancel : (front a b : List ℕ) → front ++ a ≡ front ++ b → a ≡ b
cancel [] a b e = e
cancel (x ∷ front) a b e = cancel front a b (let tails : front ++ a ≡ front ++ b = cc in tails)

-- the digit of the version, and what stands after it: a line feed, or a blank (32)
digit : List ℕ → ℕ
digit text = get_or text 11 0

mark : List ℕ → ℕ
mark text = get_or text 12 0

one_continued : (a b : Version) (xs ys : List ℕ) → continued_header a ++ xs ≡ continued_header b ++ ys → (a ≡ b) × (xs ≡ ys)
unfolding digit
one_continued One One xs ys e = (refl, cancel (continued_header One) xs ys e)
one_continued Two Two xs ys e = (refl, cancel (continued_header Two) xs ys e)
one_continued Three Three xs ys e = (refl, cancel (continued_header Three) xs ys e)
one_continued One Two xs ys e = let clash : true ≡ false = ap (λ (t : List ℕ). digit t == 49) e in absurd cc
one_continued One Three xs ys e = let clash : true ≡ false = ap (λ (t : List ℕ). digit t == 49) e in absurd cc
one_continued Two One xs ys e = let clash : true ≡ false = ap (λ (t : List ℕ). digit t == 50) e in absurd cc
one_continued Two Three xs ys e = let clash : true ≡ false = ap (λ (t : List ℕ). digit t == 50) e in absurd cc
one_continued Three One xs ys e = let clash : true ≡ false = ap (λ (t : List ℕ). digit t == 51) e in absurd cc
one_continued Three Two xs ys e = let clash : true ≡ false = ap (λ (t : List ℕ). digit t == 51) e in absurd cc

marked : (version : Version) (xs : List ℕ) → mark (continued_header version ++ xs) ≡ 32
unfolding mark
marked One xs = refl
marked Two xs = refl
marked Three xs = refl

unmarked : (version : Version) (xs : List ℕ) → mark (header version ++ xs) ≡ 10
unfolding mark
unmarked One xs = refl
unmarked Two xs = refl
unmarked Three xs = refl

-- no text begins with first lines of both kinds
pub apart : (a b : Version) (text xs ys : List ℕ) → text ≡ continued_header a ++ xs → text ≡ header b ++ ys → ⊥
apart a b text xs ys e f =
    let clash : 32 ≡ 10 = sym (marked a xs) ∙ ap mark (sym e ∙ f) ∙ unmarked b ys in
    let differ : true ≡ false = ap (λ (n : ℕ). n == 32) clash in
    absurd cc

-- no version's stands there
pub none_of : (text : List ℕ) → ((rest : List ℕ) → text ≢ continued_header One ++ rest) → ((rest : List ℕ) → text ≢ continued_header Two ++ rest) → ((rest : List ℕ) → text ≢ continued_header Three ++ rest)
    → (version : Version) (rest : List ℕ) → text ≢ continued_header version ++ rest
none_of text one two three One = one
none_of text one two three Two = two
none_of text one two three Three = three

-- ---- a continued trace

module _ (version : Version) (text rest : List ℕ) (is : text ≡ continued_header version ++ rest) where
  pub said : (read : Result WholeTrace (OrMemory TraceFault)) → SaysContinued version rest read → SaysWhole text read
  said (Ok whole) its = (
    ap (λ (carried : Option (List CarriedLine)). whole_text carried whole.trace) its.carried
        ∙ ap (λ (v : Version). option_append (Some (continued_header v)) (after_header v its.lines whole.trace.records.items whole.trace.totals)) its.version_is
        ∙ ap (option_append (Some (continued_header version))) its.is
        ∙ ap Some (sym is),
    subst AreOrdered (sym its.carried) its.in_order,
  )
  said (Err OutOfMemory) its = tt
  said (Err (Fault Header)) its = absurd its
  said (Err (Fault (Line number))) its = inr (record { version = version; rest = rest; whole = is; is = its })

  again : (read : Result WholeTrace (OrMemory TraceFault)) → IsReadContinued version rest read → (carried : Option (List CarriedLine)) (trace : Trace) → AreOrdered carried
      → whole_text carried trace ≡ Some text → IsReadSo carried trace.version trace.records.items trace.totals read
  again read back None trace ordered e = let its = behind_header text trace e in absurd (apart version trace.version text rest its.0 is its.2)
  again read back (Some lines) trace ordered e =
      let parts = parts_of (Some (continued_header trace.version)) (after_header trace.version lines trace.records.items trace.totals) text e in
      let whole : text ≡ continued_header trace.version ++ parts.1 = parts.4 ∙ ap (λ (t : List ℕ). t ++ parts.1) (sym (same_text (continued_header trace.version) parts.0 parts.2)) in
      let same = one_continued trace.version version parts.1 rest (sym whole ∙ is) in
      let here : after_header version lines trace.records.items trace.totals ≡ Some rest =
      ap (λ (v : Version). after_header v lines trace.records.items trace.totals) (sym same.0) ∙ parts.3 ∙ ap Some same.1 in
      subst (λ (v : Version). IsReadSo (Some lines) v trace.records.items trace.totals read) (sym same.0) (back lines trace.records.items trace.totals ordered here)

  pub back : (read : Result WholeTrace (OrMemory TraceFault)) → IsReadContinued version rest read → IsReadAgain text read
  back read its = again read its

-- ---- a trace of an engine that took over nothing

module _ (text : List ℕ) (none : (version : Version) (rest : List ℕ) → text ≢ continued_header version ++ rest) where
  pub plain_said : (read : Result WholeTrace (OrMemory TraceFault)) → SaysPlain text read → SaysWhole text read
  plain_said (Ok whole) its = (ap (λ (carried : Option (List CarriedLine)). whole_text carried whole.trace) its.1 ∙ its.0, subst AreOrdered (sym its.1) tt)
  plain_said (Err OutOfMemory) its = tt
  plain_said (Err (Fault Header)) its = record { plain = its; continued = none }
  plain_said (Err (Fault (Line number))) its = inl its

  plain_again : (read : Result WholeTrace (OrMemory TraceFault)) → IsReadPlain text read → (carried : Option (List CarriedLine)) (trace : Trace) → AreOrdered carried
      → whole_text carried trace ≡ Some text → IsReadSo carried trace.version trace.records.items trace.totals read
  plain_again read back None trace ordered e = back trace e
  plain_again read back (Some lines) trace ordered e =
      let parts = parts_of (Some (continued_header trace.version)) (after_header trace.version lines trace.records.items trace.totals) text e in
      let whole : text ≡ continued_header trace.version ++ parts.1 = parts.4 ∙ ap (λ (t : List ℕ). t ++ parts.1) (sym (same_text (continued_header trace.version) parts.0 parts.2)) in
      absurd (none trace.version parts.1 whole)

  pub plain_back : (read : Result WholeTrace (OrMemory TraceFault)) → IsReadPlain text read → IsReadAgain text read
  plain_back read its = plain_again read its
