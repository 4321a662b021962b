-- The 8 bytes of a slot are those of its fields.
use Rattle.std.proofs.Common.{◌≡◌, ◌≤◌, ◌<◌, ℕ, suc, subst, ◌+◌, ◌*◌, ◌^◌, ◌%◌, ◌/◌, List, [], ◌∷◌, ◌++◌, length, get_or, take, drop, refl, sym, ap, ap₂, ◌∙◌, arith}
use Rattle.std.proofs.lemmas.List.{take-append-drop, get_or-drop, drop-drop}
use Rattle.std.proofs.lemmas.Int.{of_z-to_z}
use Rattle.std.specs.Int.{Width, w16, w32, cast_signed, cast_unsigned}
use mir.Val.{bits}
use Rattle.bpf_insn.specs.declared.insn.Insn.{Insn}
use Rattle.bpf_decode.specs.declared.fields.Fields.{Fields}
use Rattle.bpf_decode.specs.Fields.{fields_of}
use Rattle.bpf_insn.specs.Program.{slots_of}
use Rattle.bpf_decode.specs.Spells.{rows, BeginsWith, SpellsThen, behind_insn, AreBytes}
use Rattle.bpf_decode.proofs.Texts.{length-rows}

-- the first 8 of at least 8 elements, one by one
front_of : (a : List ℕ) → 8 ≤ length a → take 8 a ≡ get_or a 0 0 ∷ get_or a 1 0 ∷ get_or a 2 0 ∷ get_or a 3 0 ∷ get_or a 4 0 ∷ get_or a 5 0 ∷ get_or a 6 0 ∷ get_or a 7 0 ∷ []
front_of [] long = absurd (omega arith)
front_of (_ ∷ []) long = absurd (omega arith)
front_of (_ ∷ _ ∷ []) long = absurd (omega arith)
front_of (_ ∷ _ ∷ _ ∷ []) long = absurd (omega arith)
front_of (_ ∷ _ ∷ _ ∷ _ ∷ []) long = absurd (omega arith)
front_of (_ ∷ _ ∷ _ ∷ _ ∷ _ ∷ []) long = absurd (omega arith)
front_of (_ ∷ _ ∷ _ ∷ _ ∷ _ ∷ _ ∷ []) long = absurd (omega arith)
front_of (_ ∷ _ ∷ _ ∷ _ ∷ _ ∷ _ ∷ _ ∷ []) long = absurd (omega arith)
front_of (_ ∷ _ ∷ _ ∷ _ ∷ _ ∷ _ ∷ _ ∷ _ ∷ rest) long = refl

-- Numbers of bytes are the same only where the bytes are.
same_number : (w : Width) (m n : ℕ) → m < 2 ^ bits w → n < 2 ^ bits w → cast_signed w m ≡ cast_signed w n → m ≡ n
same_number w m n p q e = sym (of_z-to_z w m p) ∙ ap (cast_unsigned w) e ∙ of_z-to_z w n q

digits_2 : (a b c d : ℕ) → a < 256 → b < 256 → c < 256 → d < 256
    → cast_signed w16 (a + 256 * (b + 256 * 0)) ≡ cast_signed w16 (c + 256 * (d + 256 * 0)) → (a ≡ c) × (b ≡ d)
digits_2 a b c d pa pb pc pd e =
    let same = same_number w16 (a + 256 * (b + 256 * 0)) (c + 256 * (d + 256 * 0)) (omega arith) (omega arith) e in
    (omega arith, omega arith)

digits_4 : (a b c d p q r s : ℕ) → a < 256 → b < 256 → c < 256 → d < 256 → p < 256 → q < 256 → r < 256 → s < 256
    → cast_signed w32 (a + 256 * (b + 256 * (c + 256 * (d + 256 * 0)))) ≡ cast_signed w32 (p + 256 * (q + 256 * (r + 256 * (s + 256 * 0))))
    → (a ≡ p) × (b ≡ q) × (c ≡ r) × (d ≡ s)
digits_4 a b c d p q r s pa pb pc pd pp pq pr ps e =
    let same = same_number w32 (a + 256 * (b + 256 * (c + 256 * (d + 256 * 0)))) (p + 256 * (q + 256 * (r + 256 * (s + 256 * 0)))) (omega arith) (omega arith) e in
    (omega arith, omega arith, omega arith, omega arith)

-- the same fields are the same 8 bytes
same_front : (a b : List ℕ) → AreBytes a → AreBytes b → 8 ≤ length a → 8 ≤ length b → fields_of a ≡ fields_of b → take 8 a ≡ take 8 b
same_front a b bytes_a bytes_b long_a long_b same =
    let opcode : get_or a 0 0 ≡ get_or b 0 0 = ap (λ (f : Fields). f.opcode) same in
    let dst : get_or a 1 0 % 16 ≡ get_or b 1 0 % 16 = ap (λ (f : Fields). f.dst) same in
    let src : get_or a 1 0 / 16 ≡ get_or b 1 0 / 16 = ap (λ (f : Fields). f.src) same in
    let registers : get_or a 1 0 ≡ get_or b 1 0 = omega (arith, dst, src) in
    let offset = digits_2 _ _ _ _ (bytes_a 2) (bytes_a 3) (bytes_b 2) (bytes_b 3) (ap (λ (f : Fields). f.offset) same) in
    let imm = digits_4 _ _ _ _ _ _ _ _ (bytes_a 4) (bytes_a 5) (bytes_a 6) (bytes_a 7) (bytes_b 4) (bytes_b 5) (bytes_b 6) (bytes_b 7) (ap (λ (f : Fields). f.imm) same) in
    front_of a long_a ∙ rw (opcode, registers, offset.0, offset.1, imm.0, imm.1, imm.2, imm.3) (sym (front_of b long_b))

AreBytes-drop : (n : ℕ) (bytes : List ℕ) → AreBytes bytes → AreBytes (drop n bytes)
AreBytes-drop n bytes h i = rw get_or-drop (h (n + i))

drop-suc : (n : ℕ) (bytes : List ℕ) → drop (8 * n) (drop 8 bytes) ≡ drop (8 * suc n) bytes
drop-suc n bytes = drop-drop (8 * n) 8 bytes ∙ ap (λ (m : ℕ). drop m bytes) (omega arith)

-- slots of the same fields are the same bytes
one_text_of_slots : (a b : List ℕ) (slots : List Fields) → AreBytes a → AreBytes b → BeginsWith a slots → BeginsWith b slots
    → drop (8 * length slots) a ≡ drop (8 * length slots) b → a ≡ b
one_text_of_slots a b [] bytes_a bytes_b h k behind = behind
one_text_of_slots a b (first ∷ slots) bytes_a bytes_b h k behind =
    let front = same_front a b bytes_a bytes_b h.0 k.0 (h.1 ∙ sym k.1) in
    let rest = one_text_of_slots (drop 8 a) (drop 8 b) slots (AreBytes-drop 8 a bytes_a) (AreBytes-drop 8 b bytes_b) h.2 k.2
    (drop-suc (length slots) a ∙ behind ∙ sym (drop-suc (length slots) b)) in
    sym (take-append-drop 8 a) ∙ ap₂ (λ (x y : List ℕ). x ++ y) front rest ∙ take-append-drop 8 b

-- instructions have one row of bytes
pub one_text_of_insns : (a b : List ℕ) (insns : List Insn) → AreBytes a → AreBytes b → SpellsThen a insns [] → SpellsThen b insns [] → a ≡ b
one_text_of_insns a b [] bytes_a bytes_b h k = h ∙ sym k
one_text_of_insns a b (insn ∷ insns) bytes_a bytes_b h k =
    let slots : 8 * length (slots_of insn) ≡ 8 * length (rows insn) = omega (arith, length-rows insn) in
    let behind = one_text_of_insns (behind_insn a insn) (behind_insn b insn) insns
    (AreBytes-drop (8 * length (slots_of insn)) a bytes_a) (AreBytes-drop (8 * length (slots_of insn)) b bytes_b) h.1 k.1 in
    one_text_of_slots a b (rows insn) bytes_a bytes_b h.0.0 k.0.0 (subst (λ (n : ℕ). drop n a ≡ drop n b) slots behind)
