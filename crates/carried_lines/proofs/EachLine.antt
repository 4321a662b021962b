-- Lines of each kind, there and back: what is read of fields are those of the line, and the fields of the line are read as it.
use Rattle.std.proofs.Common.{◌≡◌, ◌++◌, ◌==◌, ℕ, Bool, true, false, cond, arith, Option, Some, None, List, [], ◌∷◌, refl, sym, ap, ◌∙◌, codes, bytes_eq, inl, inr}
use Rattle.std.specs.Prelude.{◌⊎◌, if◌then◌else◌}
use Rattle.std.proofs.lemmas.Bool.Decides.{nat_tests}
use Rattle.world_calls.specs.declared.carried_line.CarriedCcb.{CarriedCcb}
use Rattle.world_calls.specs.declared.carried_line.CarriedLine.{CarriedLine}
use Rattle.world_calls.specs.declared.carried_line.CarriedLine.TheVariants as lines
use Rattle.world_calls.specs.declared.trace.Version.{Version}
use Rattle.trace_lines.specs.Versions.{has_classes}
use Rattle.trace_lines.specs.Texts.{number_text, long_number_text}
use Rattle.std.specs.List.{list_all}
use Rattle.trace_lines.specs.Reading.{is_black}
use Rattle.trace_lines.proofs.Tests.{both, same_bytes, same_text}
use Rattle.carried_lines.specs.declared.kind.Kind.{Kind}
use Rattle.carried_lines.specs.declared.kind.Kind.TheVariants as kinds
use Rattle.carried_lines.specs.CarriedText.{after_blanks, ccb_fields, class_fields, fields_of, has_neither, kind_of, state_word}
use Rattle.carried_lines.specs.FieldReading.{field_in, long_number_in, number_in}
use Rattle.carried_lines.specs.LineReading.{ReadsFields, ccb_in, class_in, clock_in, numbers_in, openings_in, state_in, state_of, word_in}
use Rattle.carried_lines.proofs.Fronts.{then_some, word_said, word_back, long_said, long_back, short_said, short_back, end_said, end_back}

-- a line of this kind with these fields
pub record Says (version : Version) (kind : Kind) (text : List ℕ) (line : CarriedLine) : Type 0 where
  pub kind_is : kind_of line ≡ kind
  pub fields : after_blanks (fields_of version line) ≡ Some text

pub same_line : (one other : CarriedLine) → Some one ≡ Some other → one ≡ other
same_line one other e = cc

-- which way a test went
pub chosen : {T : Type 0} (test : Bool) (x y : Option T) (z : T) → cond test x y ≡ Some z → ((test ≡ true) × (x ≡ Some z)) ⊎ ((test ≡ false) × (y ≡ Some z))
chosen true x y z e = inl (refl, e)
chosen false x y z e = inr (refl, e)

-- ---- a CCB

state_named : (word : List ℕ) (is_active : Bool) → state_of word ≡ Some is_active → state_word is_active ≡ word
state_named word is_active e =
    elim (chosen (bytes_eq word (codes "active")) (Some true) _ is_active e) [
      | inl it ↦ let is : true ≡ is_active = cc in ap state_word (sym is) ∙ sym (same_bytes word (codes "active") it.0)
      | inr other ↦
          elim (chosen (bytes_eq word (codes "waiting")) (Some false) None is_active other.1) [
            | inl it ↦ let is : false ≡ is_active = cc in ap state_word (sym is) ∙ sym (same_bytes word (codes "waiting") it.0)
            | inr none ↦ absurd (let bad = none.1 in cc)
          ]
    ]

state_again : (is_active : Bool) → state_of (state_word is_active) ≡ Some is_active
state_again true = refl
state_again false = refl

state_black : (is_active : Bool) (word : List ℕ) → Some (state_word is_active) ≡ Some word → list_all is_black word ≡ true
state_black true word e = let is : codes "active" ≡ word = same_text (codes "active") word e in ap (list_all is_black) (sym is)
state_black false word e = let is : codes "waiting" ≡ word = same_text (codes "waiting") word e in ap (list_all is_black) (sym is)

state_said : (text : List ℕ) (is_active : Bool) → state_in text ≡ Some is_active → after_blanks (Some (state_word is_active) ∷ []) ≡ Some text
unfolding state_in
state_said text is_active e =
    let field = then_some (field_in text) _ is_active e in
    let named = then_some (state_of field.0.0) _ is_active field.2 in
    let last = end_said named.0 field.0.1 is_active named.2 in
    let word : state_word is_active ≡ field.0.0 = state_named field.0.0 is_active (named.1 ∙ ap Some last.1) in
    ap (λ (w : List ℕ). after_blanks (Some w ∷ [])) word ∙ word_said text field.0 [] field.1 last.0

state_back : (is_active : Bool) (text : List ℕ) → after_blanks (Some (state_word is_active) ∷ []) ≡ Some text → state_in text ≡ Some is_active
unfolding state_in
state_back is_active text e =
    let its = word_back (Some (state_word is_active)) [] text (state_black is_active) e in
    let named : state_of its.0 ≡ Some is_active = ap state_of (sym (same_text (state_word is_active) its.0 its.2)) ∙ state_again is_active in
    rw (its.4, named) (end_back is_active its.1 its.3)

-- ---- its class and its advice

class_said : (there : Bool) (text : List ℕ) (found : (ℕ × ℕ) × List ℕ) (fields : List (Option (List ℕ))) → class_in there text ≡ Some found → after_blanks fields ≡ Some found.1
    → after_blanks (class_fields there found.0.0 found.0.1 ++ fields) ≡ Some text
unfolding class_in
class_said true text found fields e fs =
    let class = then_some (number_in text) _ found e in
    let advice = then_some (number_in class.0.1) _ found class.2 in
    let is : ((class.0.0, advice.0.0), advice.0.1) ≡ found = cc in
    let rest : after_blanks fields ≡ Some advice.0.1 = fs ∙ ap (λ (p : (ℕ × ℕ) × List ℕ). Some p.1) (sym is) in
    ap (λ (p : (ℕ × ℕ) × List ℕ). after_blanks (number_text p.0.0 ∷ number_text p.0.1 ∷ fields)) (sym is)
    ∙ short_said text class.0 (number_text advice.0.0 ∷ fields) class.1 (short_said class.0.1 advice.0 fields advice.1 rest)
class_said false text found fields e fs =
    let is : ((0, 0), text) ≡ found = cc in
    ap (λ (p : (ℕ × ℕ) × List ℕ). after_blanks (class_fields false p.0.0 p.0.1 ++ fields)) (sym is) ∙ (fs ∙ ap (λ (p : (ℕ × ℕ) × List ℕ). Some p.1) (sym is))

-- what was read of the class and the advice, and what is after them
record Classed (there : Bool) (class advice : ℕ) (fields : List (Option (List ℕ))) (text : List ℕ) : Type 0 where
  rest : List ℕ
  read : class_in there text ≡ Some ((class, advice), rest)
  behind : after_blanks fields ≡ Some rest

is_nothing : (n : ℕ) → (n == 0) ≡ true → n ≡ 0
is_nothing n h = grind (arith, nat_tests)

neither_back : (class advice : ℕ) (fields : List (Option (List ℕ))) (text : List ℕ) (test : Bool) → has_neither class advice ≡ test → after_blanks ((if test then [] else None ∷ []) ++ fields) ≡ Some text
    → Classed false class advice fields text
unfolding class_in
neither_back class advice fields text true is e =
    let tests = both (class == 0) (advice == 0) is in
    let p = is_nothing class tests.0 in
    let q = is_nothing advice tests.1 in
    record { rest = text; read = λ i. Some ((sym p i, sym q i), text); behind = e }
neither_back class advice fields text false is e = absurd cc

class_back : (there : Bool) (class advice : ℕ) (fields : List (Option (List ℕ))) (text : List ℕ) → after_blanks (class_fields there class advice ++ fields) ≡ Some text → Classed there class advice fields text
unfolding class_in
class_back true class advice fields text e =
    let a = short_back class (number_text advice ∷ fields) text e in
    let b = short_back advice fields a.0 a.2 in
    record { rest = b.0; read = rw (a.1, b.1) refl; behind = b.2 }
class_back false class advice fields text e = neither_back class advice fields text (has_neither class advice) refl e

module _ (version : Version) where
  -- ---- the greatest numbers, the clock, openings and words

  pub numbers_said : (text : List ℕ) (line : CarriedLine) → numbers_in text ≡ Some line → Says version kinds.Numbers text line
  unfolding numbers_in
  numbers_said text line e =
      let a = then_some (number_in text) _ line e in
      let b = then_some (number_in a.0.1) _ line a.2 in
      let d = then_some (number_in b.0.1) _ line b.2 in
      let last = end_said (lines.Numbers a.0.0 b.0.0 d.0.0) d.0.1 line d.2 in
      record {
        kind_is = ap kind_of (sym last.1);
        fields = ap (λ (l : CarriedLine). after_blanks (fields_of version l)) (sym last.1)
            ∙ short_said text a.0 (number_text b.0.0 ∷ number_text d.0.0 ∷ []) a.1 (short_said a.0.1 b.0 (number_text d.0.0 ∷ []) b.1 (short_said b.0.1 d.0 [] d.1 last.0));
      }

  pub numbers_back : (ccb freeze run : ℕ) (text : List ℕ) → after_blanks (fields_of version (lines.Numbers ccb freeze run)) ≡ Some text → numbers_in text ≡ Some (lines.Numbers ccb freeze run)
  unfolding numbers_in
  numbers_back ccb freeze run text e =
      let a = short_back ccb (number_text freeze ∷ number_text run ∷ []) text e in
      let b = short_back freeze (number_text run ∷ []) a.0 a.2 in
      let d = short_back run [] b.0 b.2 in
      rw (a.1, b.1, d.1) (end_back (lines.Numbers ccb freeze run) d.0 d.2)

  pub clock_said : (text : List ℕ) (line : CarriedLine) → clock_in text ≡ Some line → Says version kinds.Clock text line
  unfolding clock_in
  clock_said text line e =
      let a = then_some (long_number_in text) _ line e in
      let last = end_said (lines.Clock a.0.0) a.0.1 line a.2 in
      record {
        kind_is = ap kind_of (sym last.1);
        fields = ap (λ (l : CarriedLine). after_blanks (fields_of version l)) (sym last.1) ∙ long_said text a.0 [] a.1 last.0;
      }

  pub clock_back : (reading : ℕ) (text : List ℕ) → after_blanks (fields_of version (lines.Clock reading)) ≡ Some text → clock_in text ≡ Some (lines.Clock reading)
  unfolding clock_in
  clock_back reading text e =
      let a = long_back reading [] text e in
      rw a.1 (end_back (lines.Clock reading) a.0 a.2)

  pub openings_said : (text : List ℕ) (line : CarriedLine) → openings_in text ≡ Some line → Says version kinds.Openings text line
  unfolding openings_in
  openings_said text line e =
      let a = then_some (number_in text) _ line e in
      let b = then_some (number_in a.0.1) _ line a.2 in
      let last = end_said (lines.Openings a.0.0 b.0.0) b.0.1 line b.2 in
      record {
        kind_is = ap kind_of (sym last.1);
        fields = ap (λ (l : CarriedLine). after_blanks (fields_of version l)) (sym last.1) ∙ short_said text a.0 (number_text b.0.0 ∷ []) a.1 (short_said a.0.1 b.0 [] b.1 last.0);
      }

  pub openings_back : (queue openings : ℕ) (text : List ℕ) → after_blanks (fields_of version (lines.Openings queue openings)) ≡ Some text → openings_in text ≡ Some (lines.Openings queue openings)
  unfolding openings_in
  openings_back queue openings text e =
      let a = short_back queue (number_text openings ∷ []) text e in
      let b = short_back openings [] a.0 a.2 in
      rw (a.1, b.1) (end_back (lines.Openings queue openings) b.0 b.2)

  pub word_line_said : (text : List ℕ) (line : CarriedLine) → word_in text ≡ Some line → Says version kinds.Word text line
  unfolding word_in
  word_line_said text line e =
      let a = then_some (number_in text) _ line e in
      let b = then_some (number_in a.0.1) _ line a.2 in
      let d = then_some (long_number_in b.0.1) _ line b.2 in
      let last = end_said (lines.Word a.0.0 b.0.0 d.0.0) d.0.1 line d.2 in
      record {
        kind_is = ap kind_of (sym last.1);
        fields = ap (λ (l : CarriedLine). after_blanks (fields_of version l)) (sym last.1)
            ∙ short_said text a.0 (number_text b.0.0 ∷ long_number_text d.0.0 ∷ []) a.1 (short_said a.0.1 b.0 (long_number_text d.0.0 ∷ []) b.1 (long_said b.0.1 d.0 [] d.1 last.0));
      }

  pub word_line_back : (table index word : ℕ) (text : List ℕ) → after_blanks (fields_of version (lines.Word table index word)) ≡ Some text → word_in text ≡ Some (lines.Word table index word)
  unfolding word_in
  word_line_back table index word text e =
      let a = short_back table (number_text index ∷ long_number_text word ∷ []) text e in
      let b = short_back index (long_number_text word ∷ []) a.0 a.2 in
      let d = long_back word [] b.0 b.2 in
      rw (a.1, b.1, d.1) (end_back (lines.Word table index word) d.0 d.2)

  pub ccb_said : (text : List ℕ) (line : CarriedLine) → ccb_in version text ≡ Some line → Says version kinds.Ccb text line
  unfolding ccb_in
  ccb_said text line e =
      let a = then_some (number_in text) _ line e in
      let b = then_some (number_in a.0.1) _ line a.2 in
      let d = then_some (number_in b.0.1) _ line b.2 in
      let f = then_some (number_in d.0.1) _ line d.2 in
      let g = then_some (number_in f.0.1) _ line f.2 in
      let k = then_some (class_in (has_classes version) g.0.1) _ line g.2 in
      let h = then_some (state_in k.0.1) _ line k.2 in
      let ccb : CarriedCcb = record {
        number = record { 0 = a.0.0 };
        queue = record { 0 = b.0.0 };
        priority = d.0.0;
        retries = f.0.0;
        class = k.0.0.0;
        attempts = g.0.0;
        advice = k.0.0.1;
        is_active = h.0;
      } in
      let is : lines.Ccb ccb ≡ line = same_line (lines.Ccb ccb) line h.2 in
      let state = Some (state_word h.0) ∷ [] in
      let class = class_fields (has_classes version) k.0.0.0 k.0.0.1 ++ state in
      let attempts = number_text g.0.0 ∷ class in
      let retries = number_text f.0.0 ∷ attempts in
      let priority = number_text d.0.0 ∷ retries in
      let queue = number_text b.0.0 ∷ priority in
      let counts = short_said b.0.1 d.0 retries d.1 (short_said d.0.1 f.0 attempts f.1 (short_said f.0.1 g.0 class g.1 (class_said (has_classes version) g.0.1 k.0 state k.1 (state_said k.0.1 h.0 h.1)))) in
      let all = short_said text a.0 queue a.1 (short_said a.0.1 b.0 priority b.1 counts) in
      record { kind_is = ap kind_of (sym is); fields = ap (λ (l : CarriedLine). after_blanks (fields_of version l)) (sym is) ∙ all }

  pub ccb_back : (ccb : CarriedCcb) (text : List ℕ) → after_blanks (ccb_fields version ccb) ≡ Some text → ccb_in version text ≡ Some (lines.Ccb ccb)
  unfolding ccb_in
  ccb_back ccb text e =
      let state = Some (state_word ccb.is_active) ∷ [] in
      let class = class_fields (has_classes version) ccb.class ccb.advice ++ state in
      let attempts = number_text ccb.attempts ∷ class in
      let retries = number_text ccb.retries ∷ attempts in
      let priority = number_text ccb.priority ∷ retries in
      let queue = number_text ccb.queue.0 ∷ priority in
      let a = short_back ccb.number.0 queue text e in
      let b = short_back ccb.queue.0 priority a.0 a.2 in
      let d = short_back ccb.priority retries b.0 b.2 in
      let f = short_back ccb.retries attempts d.0 d.2 in
      let g = short_back ccb.attempts class f.0 f.2 in
      let k = class_back (has_classes version) ccb.class ccb.advice state g.0 g.2 in
      rw (a.1, b.1, d.1, f.1, g.1, k.read, state_back ccb.is_active k.rest k.behind) refl

  -- ---- each kind

  -- what was read is what the fields of the lines of a kind are read as
  reads_as : (kind : Kind) (text : List ℕ) (read : Option CarriedLine) → ((line : CarriedLine) → read ≡ Some line → Says version kind text line) → ((line : CarriedLine) → kind_of line ≡ kind → after_blanks (fields_of version line) ≡ Some text → read ≡ Some line)
      → ReadsFields version kind text read
  reads_as kind text None says back = record { said = tt; back = back }
  reads_as kind text (Some line) says back = let it = says line refl in record { said = (it.kind_is, it.fields); back = back }

  pub numbers_each : (text : List ℕ) (line : CarriedLine) → kind_of line ≡ kinds.Numbers → after_blanks (fields_of version line) ≡ Some text → numbers_in text ≡ Some line
  numbers_each text (lines.Numbers ccb freeze run) k e = numbers_back ccb freeze run text e
  numbers_each text line k e = absurd cc

  pub clock_each : (text : List ℕ) (line : CarriedLine) → kind_of line ≡ kinds.Clock → after_blanks (fields_of version line) ≡ Some text → clock_in text ≡ Some line
  clock_each text (lines.Clock reading) k e = clock_back reading text e
  clock_each text line k e = absurd cc

  pub openings_each : (text : List ℕ) (line : CarriedLine) → kind_of line ≡ kinds.Openings → after_blanks (fields_of version line) ≡ Some text → openings_in text ≡ Some line
  openings_each text (lines.Openings queue openings) k e = openings_back queue openings text e
  openings_each text line k e = absurd cc

  pub word_each : (text : List ℕ) (line : CarriedLine) → kind_of line ≡ kinds.Word → after_blanks (fields_of version line) ≡ Some text → word_in text ≡ Some line
  word_each text (lines.Word table index word) k e = word_line_back table index word text e
  word_each text line k e = absurd cc

  pub ccb_each : (text : List ℕ) (line : CarriedLine) → kind_of line ≡ kinds.Ccb → after_blanks (fields_of version line) ≡ Some text → ccb_in version text ≡ Some line
  ccb_each text (lines.Ccb ccb) k e = ccb_back ccb text e
  ccb_each text line k e = absurd cc

  module _ (text : List ℕ) (read : Option CarriedLine) where
    pub numbers_reads : read ≡ numbers_in text → ReadsFields version kinds.Numbers text read
    numbers_reads e = reads_as kinds.Numbers text read (λ line f. numbers_said text line (sym e ∙ f)) (λ line k f. e ∙ numbers_each text line k f)

    pub clock_reads : read ≡ clock_in text → ReadsFields version kinds.Clock text read
    clock_reads e = reads_as kinds.Clock text read (λ line f. clock_said text line (sym e ∙ f)) (λ line k f. e ∙ clock_each text line k f)

    pub openings_reads : read ≡ openings_in text → ReadsFields version kinds.Openings text read
    openings_reads e = reads_as kinds.Openings text read (λ line f. openings_said text line (sym e ∙ f)) (λ line k f. e ∙ openings_each text line k f)

    pub word_reads : read ≡ word_in text → ReadsFields version kinds.Word text read
    word_reads e = reads_as kinds.Word text read (λ line f. word_line_said text line (sym e ∙ f)) (λ line k f. e ∙ word_each text line k f)

    pub ccb_reads : read ≡ ccb_in version text → ReadsFields version kinds.Ccb text read
    ccb_reads e = reads_as kinds.Ccb text read (λ line f. ccb_said text line (sym e ∙ f)) (λ line k f. e ∙ ccb_each text line k f)
