-- What is told of a call tells it apart from others, and what is told of a queue is 16 bytes.
use Rattle.std.proofs.Common.{◌≡◌, ℕ, ◌<◌, ◌%◌, List, [], ◌∷◌, ◌++◌, true, false, eqb, refl, ap, arith}
use Rattle.std.specs.List.{All}
use Rattle.std.specs.Cmp.Lexicographic.{bytes_decides}
use Rattle.std.specs.Prelude.{bytes_eq}
use Rattle.std.proofs.lemmas.Bool.{and_from, and_parts, eq-eqb, eqb-true}
use Rattle.std.proofs.lemmas.List.Elements.{All-nil, All-cons}
use Rattle.std.specs.Int.{byte_at}
use Rattle.byteorder.specs.Endian.{little_bytes}
use Rattle.helpers.specs.declared.columns.Tells.{Tells}
use Rattle.helpers.specs.declared.columns.Tells.TheVariants as tells
use Rattle.helpers.specs.declared.request.Request.{Request}
use Rattle.helpers.specs.Table.{number_of, is_helper, row_of}
use Rattle.helpers.proofs.Numbers.{same_helper}
use Rattle.bpf_semantics.specs.Step.{Wrote}
use Rattle.world.specs.declared.queue_info.QueueInfo.{QueueInfo}
use Rattle.world.specs.QueueInfo.{info_bytes}
use Rattle.world.specs.Told.{Told, plain, traces, finishes, told_by, told_of, helper_in, is_told}

pub same_told : (a b : Told) → is_told a b ≡ true → a ≡ b
same_told (plain a) (plain b) e = ap plain (same_helper a b e)
same_told (plain a) (traces b those) e = absurd (let bad : false ≡ true = e in cc)
same_told (plain a) (finishes b that) e = absurd (let bad : false ≡ true = e in cc)
same_told (traces a these) (plain b) e = absurd (let bad : false ≡ true = e in cc)
same_told (traces a these) (traces b those) e =
    let parts = and_parts (is_helper a b) (bytes_eq these those) e in
    λ i. traces (same_helper a b parts.0 i) ((bytes_decides these those).0 parts.1 i)
same_told (traces a these) (finishes b that) e = absurd (let bad : false ≡ true = e in cc)
same_told (finishes a this) (plain b) e = absurd (let bad : false ≡ true = e in cc)
same_told (finishes a this) (traces b those) e = absurd (let bad : false ≡ true = e in cc)
same_told (finishes a this) (finishes b that) e =
    let parts = and_parts (is_helper a b) (eqb this that) e in
    λ i. finishes (same_helper a b parts.0 i) (eqb-true this that parts.1 i)

pub told_itself : (a : Told) → is_told a a ≡ true
told_itself (plain a) = eq-eqb (number_of a) (number_of a) refl
told_itself (traces a these) = and_from (is_helper a a) (bytes_eq these these) (eq-eqb (number_of a) (number_of a) refl) ((bytes_decides these these).1 refl)
told_itself (finishes a this) = and_from (is_helper a a) (eqb this this) (eq-eqb (number_of a) (number_of a) refl) (eq-eqb this this refl)

-- what is told of a call says which helper it calls
told_helper : (t : Tells) (request : Request) → helper_in (told_by t request) ≡ request.helper
told_helper tells.Name request = refl
told_helper tells.Bytes request = refl
told_helper tells.Code request = refl

pub helper_told : (request : Request) → helper_in (told_of request) ≡ request.helper
helper_told request = told_helper (row_of request.helper).tells request

low : (n : ℕ) → n % 256 < 256
low n = omega arith

-- four bytes of a word in front of others
word_first : (w : ℕ) (rest : List ℕ) → All (λ byte. byte < 256) rest → All (λ byte. byte < 256) (little_bytes 4 w ++ rest)
word_first w rest all =
    All-cons (λ (x : ℕ). x < 256) (byte_at 0 w) (byte_at 1 w ∷ byte_at 2 w ∷ byte_at 3 w ∷ rest) (low _)
    (All-cons (λ (x : ℕ). x < 256) (byte_at 1 w) (byte_at 2 w ∷ byte_at 3 w ∷ rest) (low _)
    (All-cons (λ (x : ℕ). x < 256) (byte_at 2 w) (byte_at 3 w ∷ rest) (low _)
    (All-cons (λ (x : ℕ). x < 256) (byte_at 3 w) rest (low _) all)))

info_bytes_all : (info : QueueInfo) → All (λ byte. byte < 256) (info_bytes info)
info_bytes_all info =
    let openings : List ℕ = little_bytes 4 info.openings ++ [] in
    let waiting : List ℕ = little_bytes 4 info.waiting ++ openings in
    let active : List ℕ = little_bytes 4 info.active ++ waiting in
    word_first info.frozen active
    (word_first info.active waiting
    (word_first info.waiting openings
    (word_first info.openings [] (All-nil (λ (x : ℕ). x < 256)))))

-- it is what a call that asks for it may get
pub info_wrote : (address : ℕ) (info : QueueInfo) → Wrote address 16 (record { address = address; bytes = info_bytes info })
info_wrote address info = record { place = refl; size = refl; bytes = info_bytes_all info }
