-- Bytes that come piece by piece: what is UTF-8 of them.
use Rattle.std.proofs.Common.{◌≡◌, ◌∙◌, ◌≢◌, ◌<◌, ◌≤◌, ◌+◌, ◌-◌, ◌==◌, ℕ, Bool, true, false, Option, Some, None, Ok, List, [], ◌∷◌, ◌++◌, length, take, drop, refl, sym, ap, subst, append_assoc, append-nil, arith, IsUtf8, length-append, length-drop}
use Rattle.std.specs.Char.{IsScalar}
use Rattle.std.specs.Str.{IsValidUpTo}
use Rattle.std.proofs.lemmas.List.{take-append-drop, take-append-le, take_all}
use Rattle.std.proofs.lemmas.Str.{IsCharBoundary-from_take, IsUtf8-append, IsUtf8-drop, IsUtf8-encode, IsUtf8-nil, len_utf8_bounds, length-encode}
use Rattle.std.proofs.Math.Seq.{drop-append_seam, take-add, take-append_seam}
use Rattle.std.proofs.Math.Utf8.{encode, encodes, scalar as scalar_of, scalars}
use Rattle.std.specs.Io.KnownBytes.{Consumes, IsAtEnd}
use Rattle.std.proofs.KnownBytes.{Consumes-nil, Consumes-trans}
use Rattle.std.proofs.lemmas.Bool.{eqb-false, eqb-true}
use Rattle.host_journal.proofs.Numbers.{both}
use Rattle.host_recovery.specs.declared.recovering.TheConstants.{MOST_WHOLE}
use Rattle.host_journal.specs.Texts.{AreTooMany, IsBad, IsCutAt, Says, Tells}
use Rattle.host_journal.proofs.LastLine.{too_many}

-- what is UTF-8 after UTF-8
pub behind : (front rest : List ℕ) → IsUtf8 front → IsUtf8 (front ++ rest) → IsUtf8 rest
behind front rest first both =
    let cut : take (length front) (front ++ rest) ≡ front = take-append_seam front rest in
    let boundary = IsCharBoundary-from_take (front ++ rest) (length front) both (omega (arith, length-append front rest)) (subst (λ (t : List ℕ). IsUtf8 t) (sym cut) first) in
    subst (λ (t : List ℕ). IsUtf8 t) (drop-append_seam front rest) (IsUtf8-drop (front ++ rest) (length front) both boundary)

-- ---- four bytes or more that no character begins

-- the first character
begins_so : (rest more : List ℕ) (c : ℕ) (others : List ℕ) → encode c ++ encodes others ≡ rest ++ more → 4 ≤ length rest → take (length (encode c)) rest ≡ encode c
begins_so rest more c others is enough =
    let few : length (encode c) ≤ length rest = omega (arith, length-encode c, len_utf8_bounds c) in
    let joined : take (length (encode c)) (rest ++ more) ≡ encode c = ap (take (length (encode c))) (sym is) ∙ take-append_seam (encode c) (encodes others) in
    sym (take-append-le (length (encode c)) rest more few) ∙ joined

no_character : (bytes : List ℕ) (whole : ℕ) → IsValidUpTo bytes whole → (c : ℕ) → IsScalar c → take (length (encode c)) (drop whole bytes) ≡ encode c → ⊥
no_character bytes whole valid c scalar is =
    let longer : take (whole + length (encode c)) bytes ≡ take whole bytes ++ encode c = take-add whole (length (encode c)) bytes ∙ ap (λ (t : List ℕ). take whole bytes ++ t) is in
    let further : whole < whole + length (encode c) = omega (arith, length-encode c, len_utf8_bounds c) in
    valid.longest (whole + length (encode c)) further (subst (λ (t : List ℕ). IsUtf8 t) (sym longer) (IsUtf8-append (take whole bytes) (encode c) valid.front (IsUtf8-encode c scalar)))

bad_by : (bytes more : List ℕ) (whole : ℕ) (characters : List ℕ) → IsValidUpTo bytes whole → whole + 4 ≤ length bytes → scalars characters ≡ true → encodes characters ≡ drop whole bytes ++ more → ⊥
bad_by bytes more whole [] valid enough scalar is =
    let none : 0 ≡ length (drop whole bytes ++ more) = ap length is in
    let some : ⊥ = omega (arith, none, length-append (drop whole bytes) more, length-drop whole bytes, enough) in
    some
bad_by bytes more whole (c ∷ others) valid enough scalar is =
    let parts = both (scalar_of c) (scalars others) scalar in
    no_character bytes whole valid c parts.0 (begins_so (drop whole bytes) more c others is (omega (arith, length-drop whole bytes, enough)))

pub is_bad : (bytes : List ℕ) (whole : ℕ) → IsValidUpTo bytes whole → whole + 4 ≤ length bytes → IsBad bytes
is_bad bytes whole valid enough = λ more utf8.
    let split : bytes ++ more ≡ take whole bytes ++ (drop whole bytes ++ more) = ap (λ (t : List ℕ). t ++ more) (sym (take-append-drop whole bytes)) ∙ append_assoc (take whole bytes) (drop whole bytes) more in
    let its = behind (take whole bytes) (drop whole bytes ++ more) valid.front (subst (λ (t : List ℕ). IsUtf8 t) split utf8) in
    bad_by bytes more whole its.0 valid enough its.1.0 its.1.1

pub cut_all : (bytes : List ℕ) → IsUtf8 bytes → IsCutAt bytes (length bytes)
cut_all bytes utf8 = record {
  within = omega arith;
  few = omega arith;
  front = subst (λ (t : List ℕ). IsUtf8 t) (sym (take_all (length bytes) bytes (omega arith))) utf8;
  rest = λ short rest. omega arith;
}

pub cut_there : (bytes : List ℕ) (whole : ℕ) → IsValidUpTo bytes whole → length bytes - whole < 4 → IsCutAt bytes whole
cut_there bytes whole valid few = record {
  within = omega (arith, valid.short);
  few = omega (arith, valid.short, few);
  front = valid.front;
  rest = λ short rest.
      let all : IsUtf8 (take whole bytes ++ drop whole bytes) = IsUtf8-append (take whole bytes) (drop whole bytes) valid.front rest in
      let same : take (length bytes) bytes ≡ take whole bytes ++ drop whole bytes = take_all (length bytes) bytes (omega arith) ∙ sym (take-append-drop whole bytes) in
      valid.longest (length bytes) valid.short (subst (λ (t : List ℕ). IsUtf8 t) (sym same) all);
}

-- ---- piece by piece

-- So many bytes were read, which are UTF-8, and then the few bytes that wait, which are not, if there are any.
pub record IsReadSo (from now : Option (List ℕ)) (waiting : List ℕ) (count : ℕ) : Type 0 where
  pub done : List ℕ
  pub utf8 : IsUtf8 done
  pub read : Consumes from now (done ++ waiting)
  pub counted : count ≡ length (done ++ waiting)
  pub rest : 0 < length waiting → IsUtf8 waiting → ⊥

pub read_nothing : (from : Option (List ℕ)) → IsReadSo from from [] 0
read_nothing from = record { done = []; utf8 = IsUtf8-nil; read = Consumes-nil from; counted = refl; rest = λ some. absurd (omega arith) }

joined : (done waiting piece : List ℕ) (whole : ℕ) → (done ++ waiting) ++ piece ≡ (done ++ take whole (waiting ++ piece)) ++ drop whole (waiting ++ piece)
joined done waiting piece whole =
    append_assoc done waiting piece ∙ ap (λ (t : List ℕ). done ++ t) (sym (take-append-drop whole (waiting ++ piece))) ∙ sym (append_assoc done (take whole (waiting ++ piece)) (drop whole (waiting ++ piece)))

pub read_more : (from between now : Option (List ℕ)) (waiting piece : List ℕ) (whole count more : ℕ) → IsReadSo from between waiting count → Consumes between now piece → more ≡ length piece → IsCutAt (waiting ++ piece) whole
    → IsReadSo from now (drop whole (waiting ++ piece)) (count + more)
read_more from between now waiting piece whole count more so given same cut = record {
  done = so.done ++ take whole (waiting ++ piece);
  utf8 = IsUtf8-append so.done (take whole (waiting ++ piece)) so.utf8 cut.front;
  read = subst (λ (t : List ℕ). Consumes from now t) (joined so.done waiting piece whole) (Consumes-trans from between now (so.done ++ waiting) piece so.read given);
  counted = omega (arith, so.counted, same, length-append (so.done ++ waiting) piece, ap (length {A = ℕ}) (joined so.done waiting piece whole));
  rest = λ some utf8. cut.rest (omega (arith, length-drop whole (waiting ++ piece), some)) utf8;
}

empty_of : (xs : List ℕ) → length xs ≡ 0 → xs ≡ []
empty_of [] e = refl
empty_of (x ∷ xs) e = absurd (omega (arith, e))

end_of : (text done waiting : List ℕ) (said : Bool) → text ≡ done ++ waiting → IsUtf8 done → (0 < length waiting → IsUtf8 waiting → ⊥) → said ≡ (length waiting == 0) → Tells IsUtf8 text said
end_of text done waiting true all utf8 rest is =
    let none : waiting ≡ [] = empty_of waiting (eqb-true (length waiting) 0 (sym is)) in
    subst (λ (t : List ℕ). IsUtf8 t) (sym (all ∙ ap (λ (t : List ℕ). done ++ t) none ∙ append-nil done)) utf8
end_of text done waiting false all utf8 rest is = λ whole.
    let some : length waiting ≢ 0 = eqb-false (length waiting) 0 (sym is) in
    rest (omega (arith, some)) (behind done waiting utf8 (subst (λ (t : List ℕ). IsUtf8 t) all whole))

-- at the end
pub said_end : (E : Type 0) (from now : Option (List ℕ)) (waiting : List ℕ) (count : ℕ) (said : Bool) → IsReadSo from now waiting count → IsAtEnd now → said ≡ (length waiting == 0) → Says {E = E} IsUtf8 from (Ok said)
said_end E None now waiting count said so at_end is = tt
said_end E (Some text) None waiting count said so at_end is = absurd so.read
said_end E (Some text) (Some left) waiting count said so at_end is =
    end_of text so.done waiting said (so.read ∙ ap (λ (t : List ℕ). (so.done ++ waiting) ++ t) at_end ∙ append-nil (so.done ++ waiting)) so.utf8 so.rest is

pub read_none : (from between now : Option (List ℕ)) (waiting : List ℕ) (count : ℕ) → IsReadSo from between waiting count → Consumes between now [] → IsReadSo from now waiting count
read_none from between now waiting count so given = record {
  done = so.done;
  utf8 = so.utf8;
  counted = so.counted;
  read = subst (λ (t : List ℕ). Consumes from now t) (append-nil (so.done ++ waiting)) (Consumes-trans from between now (so.done ++ waiting) [] so.read given);
  rest = so.rest;
}

-- where no character can go on
pub said_bad : (E : Type 0) (from between now : Option (List ℕ)) (waiting piece : List ℕ) (count : ℕ) → IsReadSo from between waiting count → Consumes between now piece → IsBad (waiting ++ piece) → Says {E = E} IsUtf8 from (Ok false)
said_bad E None between now waiting piece count so given bad = tt
said_bad E (Some text) None now waiting piece count so given bad = absurd so.read
said_bad E (Some text) (Some left) None waiting piece count so given bad = absurd given
said_bad E (Some text) (Some left) (Some after) waiting piece count so given bad = λ whole.
    let all : text ≡ so.done ++ ((waiting ++ piece) ++ after) =
    so.read ∙ ap (λ (t : List ℕ). (so.done ++ waiting) ++ t) given ∙ append_assoc so.done waiting (piece ++ after) ∙ ap (λ (t : List ℕ). so.done ++ t) (sym (append_assoc waiting piece after)) in
    bad after (behind so.done ((waiting ++ piece) ++ after) so.utf8 (subst (λ (t : List ℕ). IsUtf8 t) all whole))

-- where more came than is read
pub read_too_far : (from now : Option (List ℕ)) (waiting : List ℕ) (count : ℕ) → IsReadSo from now waiting count → MOST_WHOLE ≤ count → AreTooMany from
read_too_far from now waiting count so many = too_many from now (so.done ++ waiting) so.read (omega (arith, so.counted, many))
