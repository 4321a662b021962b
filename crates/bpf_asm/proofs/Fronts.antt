-- What the lines so far gave, and what the others give: one line more.
use Rattle.std.proofs.Common.{◌≡◌, ℕ, suc, ◌+◌, true, false, List, [], ◌∷◌, ◌++◌, length, Option, Some, None, Result, Ok, Err, refl, sym, ap, inl, inr, bytes_eq, ◌∙◌, arith, add-one, append_assoc, append-nil, subst}
use Rattle.std.specs.Prelude.{option_to_list}
use Rattle.std.specs.List.{list_all}
use Rattle.bpf_insn.specs.declared.insn.Insn.{Insn}
use Rattle.base.specs.declared.or_memory.OrMemory.{OrMemory}
use Rattle.base.specs.declared.or_memory.OrMemory.TheVariants.{OutOfMemory, Fault}
use Rattle.bpf_asm.specs.declared.fault.LineFault.{LineFault}
use Rattle.bpf_asm.specs.declared.fault.LineFault.TheVariants.{NoToken}
use Rattle.bpf_asm.specs.declared.fault.AsmFault.{AsmFault}
use Rattle.bpf_asm.specs.declared.fault.AsmFault.TheVariants.{At, NoProgram}
use Rattle.bpf_asm.specs.declared.labels.Label.{Label}
use Rattle.bpf_asm.specs.declared.token.Token.{Token}
use Rattle.std.proofs.lemmas.List.Folds.{list_any-append}
use Rattle.bpf_insn.specs.Program.{SparesFramePointer, IsProgramLength, layout}
use Rattle.bpf_insn.specs.declared.program.Slot.{Slot}
use Rattle.bpf_asm.specs.Labels.{first_of, defined_as}
use Rattle.bpf_asm.specs.Lexemes.{lines, lexemes, spans}
use Rattle.bpf_asm.specs.Numbers.{is_token}
use Rattle.bpf_asm.specs.Reading.{unless_faulty}
use Rattle.bpf_asm.proofs.Scanning.{tested}
use Rattle.bpf_asm.specs.Assembly.{said_in, said_by, slots_in, at_line, said, Says, HasFault, defined_in, label_in, is_named}
use Rattle.bpf_asm.specs.Given.{Fails, IfFault, SparesSaid}
use Rattle.bpf_asm.specs.Tokens.{tokens_in}

-- what was given before, in front of what is given
abbrev pub with_front : {X : Type 0} → List X → Result (List X) AsmFault → Result (List X) AsmFault
with_front front (Ok xs) = Ok (front ++ xs)
with_front front (Err fault) = Err fault

pub front_nil : {X : Type 0} (given : Result (List X) AsmFault) → with_front [] given ≡ given
front_nil (Ok xs) = refl
front_nil (Err fault) = refl

regrouped : {X : Type 0} (front first : List X) (given : Result (List X) AsmFault) → with_front front (unless_faulty given (λ xs. Ok (first ++ xs))) ≡ with_front (front ++ first) given
regrouped front first (Ok xs) = ap (λ ys. Ok ys) (sym (append_assoc front first xs))
regrouped front first (Err fault) = refl

-- a line's tokens
pub tokens_step : (front : List Token) (line place : ℕ) (text : List ℕ) (texts : List (List ℕ)) → list_all is_token (lexemes text) ≡ true → with_front front (tokens_in line place (text ∷ texts)) ≡ with_front (front ++ spans place text) (tokens_in (suc line) (place + suc (length text)) texts)
unfolding tokens_in
tokens_step front line place text texts e = rw e (regrouped front (spans place text) (tokens_in (suc line) (place + suc (length text)) texts))

pub tokens_fault : (front : List Token) (line place : ℕ) (text : List ℕ) (texts : List (List ℕ)) → list_all is_token (lexemes text) ≡ false → with_front front (tokens_in line place (text ∷ texts)) ≡ Err (At line NoToken)
unfolding tokens_in
tokens_fault front line place text texts e = rw e refl

-- a line's instruction
pub said_step : (labels : List ℕ → Option Label) (front : List Insn) (line slot : ℕ) (text : List ℕ) (texts : List (List ℕ)) (insn : Option Insn) → said_by labels line slot (lexemes text) ≡ Ok insn → with_front front (said_in labels line slot (text ∷ texts)) ≡ with_front (front ++ option_to_list insn) (said_in labels (suc line) (slot + slots_in (lexemes text)) texts)
unfolding said_in
said_step labels front line slot text texts insn e = rw e (regrouped front (option_to_list insn) (said_in labels (suc line) (slot + slots_in (lexemes text)) texts))

pub said_fault : (labels : List ℕ → Option Label) (front : List Insn) (line slot : ℕ) (text : List ℕ) (texts : List (List ℕ)) (fault : LineFault) → said_by labels line slot (lexemes text) ≡ Err fault → with_front front (said_in labels line slot (text ∷ texts)) ≡ Err (At line fault)
unfolding said_in
said_fault labels front line slot text texts fault e = rw e refl

pub lines_nil : (text : List ℕ) → length text ≡ 0 → lines text ≡ []
unfolding lines
lines_nil [] h = refl
lines_nil (b ∷ bytes) h = absurd (omega (arith, h))

pub tokens_end : (front : List Token) (line place : ℕ) (text : List ℕ) → length text ≡ 0 → with_front front (tokens_in line place (lines text)) ≡ Ok front
unfolding tokens_in
tokens_end front line place text h = rw (lines_nil text h) (ap (λ xs. Ok xs) (append-nil front))

pub said_end : (labels : List ℕ → Option Label) (front : List Insn) (line slot : ℕ) (text : List ℕ) → length text ≡ 0 → with_front front (said_in labels line slot (lines text)) ≡ Ok front
unfolding said_in
said_end labels front line slot text h = rw (lines_nil text h) (ap (λ xs. Ok xs) (append-nil front))

-- an error at a line is the error of the whole
pub tokens_fails : (error : OrMemory AsmFault) (front : List Token) (line place : ℕ) (rest text behind : List ℕ) (whole : Result (List Token) AsmFault) → lines rest ≡ text ∷ lines behind → IfFault (λ fault. (fault ≡ At line NoToken) × (list_all is_token (lexemes text) ≡ false)) error → with_front front (tokens_in line place (lines rest)) ≡ whole → Fails error whole
tokens_fails OutOfMemory front line place rest text behind whole parted is so_far = tt
tokens_fails (Fault fault) front line place rest text behind whole parted is so_far =
    sym so_far ∙ ap (λ texts. with_front front (tokens_in line place texts)) parted ∙ tokens_fault front line place text (lines behind) is.1 ∙ ap (λ f. Err f) (sym is.0)

pub tokens_go_on : (front more : List Token) (line place : ℕ) (rest text behind : List ℕ) (whole : Result (List Token) AsmFault) → lines rest ≡ text ∷ lines behind → list_all is_token (lexemes text) ≡ true → more ≡ front ++ spans place text → with_front front (tokens_in line place (lines rest)) ≡ whole → with_front more (tokens_in (line + 1) (place + (length text + 1)) (lines behind)) ≡ whole
tokens_go_on front more line place rest text behind whole parted are added so_far =
    rw (added, add-one, add-one) (sym (tokens_step front line place text (lines behind) are) ∙ sym (ap (λ texts. with_front front (tokens_in line place texts)) parted) ∙ so_far)

pub said_fails : (labels : List ℕ → Option Label) (fault : LineFault) (front : List Insn) (line slot : ℕ) (rest text behind : List ℕ) (whole : Result (List Insn) AsmFault) → lines rest ≡ text ∷ lines behind → said_by labels line slot (lexemes text) ≡ Err fault → with_front front (said_in labels line slot (lines rest)) ≡ whole → whole ≡ Err (At line fault)
said_fails labels fault front line slot rest text behind whole parted is so_far =
    sym so_far ∙ ap (λ texts. with_front front (said_in labels line slot texts)) parted ∙ said_fault labels front line slot text (lines behind) fault is

pub said_go_on : (labels : List ℕ → Option Label) (insn : Option Insn) (front more : List Insn) (line slot slots : ℕ) (rest text behind : List ℕ) (whole : Result (List Insn) AsmFault) → lines rest ≡ text ∷ lines behind → said_by labels line slot (lexemes text) ≡ Ok insn → slots ≡ slots_in (lexemes text) → more ≡ front ++ option_to_list insn → with_front front (said_in labels line slot (lines rest)) ≡ whole → with_front more (said_in labels (line + 1) (slot + slots) (lines behind)) ≡ whole
said_go_on labels insn front more line slot slots rest text behind whole parted is takes added so_far =
    rw (added, add-one, takes) (sym (said_step labels front line slot text (lines behind) insn is) ∙ sym (ap (λ texts. with_front front (said_in labels line slot texts)) parted) ∙ so_far)

-- ---- labels

abbrev label : ℕ → ℕ → Label
label line slot = record { line = line; slot = slot }

pub defined_step : (line slot : ℕ) (text : List ℕ) (texts : List (List ℕ)) (name : List ℕ) → is_named name (label_in (lexemes text)) ≡ false → defined_in line slot (text ∷ texts) name ≡ defined_in (suc line) (slot + slots_in (lexemes text)) texts name
unfolding defined_in
defined_step line slot text texts name e = rw e refl

pub defined_here : (line slot : ℕ) (text : List ℕ) (texts : List (List ℕ)) (name : List ℕ) → is_named name (label_in (lexemes text)) ≡ true → defined_in line slot (text ∷ texts) name ≡ Some (label line slot)
unfolding defined_in
defined_here line slot text texts name e = rw e refl

pub defined_end : (line slot : ℕ) (text : List ℕ) (name : List ℕ) → length text ≡ 0 → defined_in line slot (lines text) name ≡ None
unfolding defined_in
defined_end line slot text name h = rw (lines_nil text h) refl

first_of_none : (found : Option Label) → first_of found None ≡ found
first_of_none None = refl
first_of_none (Some l) = refl

pub defined_whole : (found whole : Option Label) (line slot : ℕ) (text : List ℕ) (name : List ℕ) → length text ≡ 0 → first_of found (defined_in line slot (lines text) name) ≡ whole → found ≡ whole
defined_whole found whole line slot text name h so_far = sym (first_of_none found) ∙ ap (first_of found) (sym (defined_end line slot text name h)) ∙ so_far

-- a line that defines a label
pub labels_go_on : (old new whole : Option Label) (line slot slots : ℕ) (rest text behind name defined : List ℕ) → lines rest ≡ text ∷ lines behind → label_in (lexemes text) ≡ Some defined → slots ≡ slots_in (lexemes text) → new ≡ first_of old (defined_as defined (label line slot) name) → first_of old (defined_in line slot (lines rest) name) ≡ whole → first_of new (defined_in (line + 1) (slot + slots) (lines behind) name) ≡ whole
labels_go_on (Some found) new whole line slot slots rest text behind name defined parted is takes made so_far = rw made so_far
labels_go_on None new whole line slot slots rest text behind name defined parted is takes made so_far =
    let next : defined_in line slot (lines rest) name ≡ defined_in line slot (text ∷ lines behind) name = ap (λ texts. defined_in line slot texts name) parted in
    elim (tested (bytes_eq name defined)) [
      | inl e ↦
          let here = defined_here line slot text (lines behind) name (rw is e) in
          rw (made, e) (sym (next ∙ here) ∙ so_far)
      | inr e ↦
          let step = defined_step line slot text (lines behind) name (rw is e) in
          rw (made, e, add-one, takes) (sym (next ∙ step) ∙ so_far)
    ]

-- a line that defines none
pub labels_stay : (found whole : Option Label) (line slot slots : ℕ) (rest text behind name : List ℕ) → lines rest ≡ text ∷ lines behind → label_in (lexemes text) ≡ None → slots ≡ slots_in (lexemes text) → first_of found (defined_in line slot (lines rest) name) ≡ whole → first_of found (defined_in (line + 1) (slot + slots) (lines behind) name) ≡ whole
labels_stay found whole line slot slots rest text behind name parted is takes so_far =
    let next : defined_in line slot (lines rest) name ≡ defined_in line slot (text ∷ lines behind) name = ap (λ texts. defined_in line slot texts name) parted in
    let step = defined_step line slot text (lines behind) name (rw is refl) in
    rw (add-one, takes) (sym (ap (first_of found) (next ∙ step)) ∙ so_far)

-- ---- what the assembler needs at its end

-- no instruction so far writes R10, and none more does
pub spares_go_on : (front : List Insn) (insn : Option Insn) → SparesFramePointer front → SparesSaid (Ok insn) → SparesFramePointer (front ++ option_to_list insn)
spares_go_on front None h here = rw append-nil h
spares_go_on front (Some insn) h here = rw (list_any-append, h, here) refl

no_program_step : (line : ℕ) (here : Result (Option Insn) LineFault) (later : Result (List Insn) AsmFault) → (later ≡ Err NoProgram → ⊥) → unless_faulty (at_line line here) (λ insn. unless_faulty later (λ insns. Ok (option_to_list insn ++ insns))) ≡ Err NoProgram → ⊥
no_program_step line (Ok insn) (Ok insns) h e = absurd cc
no_program_step line (Ok insn) (Err fault) h e = h cc
no_program_step line (Err fault) later h e = absurd cc

-- a faulty line has a fault of its own
no_program_in : (labels : List ℕ → Option Label) (line slot : ℕ) (texts : List (List ℕ)) → said_in labels line slot texts ≡ Err NoProgram → ⊥
unfolding said_in
no_program_in labels line slot [] e = absurd cc
no_program_in labels line slot (text ∷ texts) e = no_program_step line (said_by labels line slot (lexemes text)) (said_in labels (suc line) (slot + slots_in (lexemes text)) texts) (no_program_in labels (suc line) (slot + slots_in (lexemes text)) texts) e

fault_is : (text : List ℕ) (fault : AsmFault) → said text ≡ Err fault → HasFault text fault
unfolding said
fault_is text (At line fault) e = e
fault_is text NoProgram e = absurd (no_program_in (defined_in 1 0 (lines text)) 1 0 (lines text) e)

pub fails_is : (text : List ℕ) (error : OrMemory AsmFault) → Fails error (said text) → IfFault (HasFault text) error
fails_is text OutOfMemory h = tt
fails_is text (Fault fault) h = fault_is text fault h

-- ---- laws of what is said

abbrev ok : {X : Type 0} → X → Result X AsmFault
ok x = Ok x

ok_is : {X : Type 0} (x y : X) → ok x ≡ ok y → x ≡ y
ok_is x y e = cc

abbrev both_said : (text : List ℕ) (a b : List Insn) → said text ≡ Ok a → said text ≡ Ok b → a ≡ b
both_said text a b h k = ok_is a b (sym h ∙ k)

pub one_program_said : (text : List ℕ) (p q : List Slot) → Says text p → Says text q → p ≡ q
one_program_said text p q h k =
    let same = both_said text h.0 k.0 h.1 k.1 in
    h.2.0.laid_out ∙ ap layout (h.2.1 ∙ same ∙ sym k.2.1) ∙ sym k.2.0.laid_out

pub no_fault_said : (text : List ℕ) (program : List Slot) (fault : AsmFault) → Says text program → ¬ HasFault text fault
no_fault_said text program (At line fault) h k = let wrong : ok h.0 ≡ Err (At line fault) = sym h.1 ∙ k in absurd cc
no_fault_said text program NoProgram h k =
    let same = both_said text h.0 k.0 h.1 k.1 in
    let slots : layout k.0 ≡ program = ap layout (sym same ∙ sym h.2.1) ∙ sym h.2.0.laid_out in
    k.2 (subst IsProgramLength (sym slots) h.2.0.in_range)
