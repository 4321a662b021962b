-- Programs that are read, or accepted, one after another, up to the first that is not.
use Rattle.std.proofs.Common.{arith, Result, Ok, Err, IfOk, IfErr, ◌≡◌, inl, inr, ℕ, zero, suc, ◌+◌, ◌<◌, ◌≤◌, List, [], ◌∷◌, ◌++◌, length, get_or, take, map, ◌∙◌, sym, subst, string_bytes}
use Rattle.std.specs.List.{AllZip, AllByRecursion}
use Rattle.std.proofs.lemmas.List.{take_more, take_all, map-append}
use Rattle.bpf_insn.specs.declared.program.Slot.{Slot}
use Rattle.bpf_accepted.specs.Verdict.{Verdict}
use Rattle.verifier.specs.Verdict.{IsVerdictOn}
use Rattle.verifier.specs.declared.refusal.Refusal.{Refusal}
use Rattle.base.specs.declared.or_memory.OrMemory.{OrMemory}
use Rattle.base.specs.declared.or_memory.OrMemory.TheVariants.{OutOfMemory, Fault}
use Rattle.helpers.specs.declared.limits.HelperLimits.{HelperLimits}
use Rattle.manifest.specs.declared.fault.ManifestFault.{ManifestFault}
use Rattle.manifest.specs.declared.fault.ManifestFault.TheVariants.{Text, Key, Form, Range, Number, Name, Undecoded, Unassembled, Unaccepted, Migrated}
use Rattle.manifest_form.specs.Entries.{ProgramLine}
use Rattle.manifest.specs.Meaning.{FirstIs, IsReadable, IsUnread, IsUnaccepted, IsAccepted, IsAcceptable, Named, IsRefused, IsReadAs}
use Rattle.manifest_form.specs.Seen.{IfFault}
use Rattle.manifest.specs.Seen.{ReadLine, IsReadLine, IsUnreadLine, IsAcceptedLine, IsUnacceptedAmong, IsRefusedLine}

zip_push : {X Y : Type 0} (R : X → Y → Type 0) (xs : List X) (ys : List Y) (x : X) (y : Y) → AllZip R xs ys → R x y → AllZip R (xs ++ x ∷ []) (ys ++ y ∷ [])
zip_push R [] [] x y h here = (here, h)
zip_push R [] (b ∷ ys) x y h here = absurd h
zip_push R (a ∷ xs) [] x y h here = absurd h
zip_push R (a ∷ xs) (b ∷ ys) x y h here = (h.0, zip_push R xs ys x y h.1 here)

-- one more
pub one_more : {E F X Y : Type 0} (R : X → Y → Type 0) (f : E → X) (g : F → Y) (entries : List E) (i : ℕ) (entry : E) (items new : List F) (y : F)
    → i < length entries → entry ≡ get_or entries i entry → new ≡ items ++ y ∷ [] → R (f entry) (g y)
    → AllZip R (map f (take i entries)) (map g items) → AllZip R (map f (take (i + 1) entries)) (map g new)
one_more R f g entries i entry items new y within is longer here before =
    rw (longer, map-append, take_more entries i entry within, ← is, map-append) (zip_push R _ _ (f entry) (g y) before here)

-- all of them
pub all_done : {E F X Y : Type 0} (R : X → Y → Type 0) (f : E → X) (g : F → Y) (entries : List E) (i : ℕ) (items : List F)
    → length entries ≤ i → AllZip R (map f (take i entries)) (map g items) → AllZip R (map f entries) (map g items)
all_done {E = E} R f g entries i items past before = subst (λ (done : List E). AllZip R (map f done) (map g items)) (take_all i entries past) before

-- the first that is bad
pub first_bad : {E F X Y : Type 0} (R : X → Y → Type 0) (Bad : X → Type 0) (f : E → X) (g : F → Y) (entries : List E) (i : ℕ) (entry : E) (items : List F)
    → i < length entries → entry ≡ get_or entries i entry → AllZip R (map f (take i entries)) (map g items) → Bad (f entry)
    → FirstIs (λ x. (y : Y) × R x y) Bad (map f entries)
first_bad R Bad f g [] i entry items within is before bad = absurd (omega arith)
first_bad {E = E} R Bad f g (e ∷ es) zero entry [] within is before bad = inl (subst (λ (x : E). Bad (f x)) is bad)
first_bad R Bad f g (e ∷ es) zero entry (y ∷ ys) within is before bad = absurd before
first_bad R Bad f g (e ∷ es) (suc i) entry [] within is before bad = absurd before
first_bad R Bad f g (e ∷ es) (suc i) entry (y ∷ ys) within is before bad = inr ((g y, before.0), first_bad R Bad f g es i entry ys (omega arith) is before.1 bad)

first_weaker : {X : Type 0} (P Q B : X → Type 0) → ((x : X) → P x → Q x) → (xs : List X) → FirstIs P B xs → FirstIs Q B xs
first_weaker P Q B weaker [] h = absurd h
first_weaker P Q B weaker (x ∷ xs) (inl bad) = inl bad
first_weaker P Q B weaker (x ∷ xs) (inr rest) = inr (weaker x rest.0, first_weaker P Q B weaker xs rest.1)

none_first : {X : Type 0} (P : X → Type 0) (xs : List X) → FirstIs P (λ _. ⊥) xs → ⊥
none_first P [] h = h
none_first P (x ∷ xs) (inl bad) = bad
none_first P (x ∷ xs) (inr rest) = none_first P xs rest.1

is_readable : (line : ProgramLine) → (read : ReadLine) × IsReadLine line read → IsReadable line
is_readable line (read, h) = (read.program, h.program)

abbrev Readables : ProgramLine → Type 0
Readables line = (read : ReadLine) × IsReadLine line read

pub unread_first : (lines : List ProgramLine) (fault : ManifestFault) → FirstIs Readables (λ line. IsUnreadLine line fault) lines → IsUnread lines fault
unread_first lines (Undecoded name fault) h = first_weaker Readables IsReadable (λ line. IsUnreadLine line (Undecoded name fault)) is_readable lines h
unread_first lines (Unassembled name fault) h = first_weaker Readables IsReadable (λ line. IsUnreadLine line (Unassembled name fault)) is_readable lines h
unread_first lines (Unaccepted name refusal) h = none_first Readables lines h
unread_first lines Text h = none_first Readables lines h
unread_first lines Key h = none_first Readables lines h
unread_first lines Form h = none_first Readables lines h
unread_first lines Range h = none_first Readables lines h
unread_first lines Number h = none_first Readables lines h
unread_first lines Name h = none_first Readables lines h
unread_first lines Migrated h = none_first Readables lines h

pub if_fault : {F : Type 0} (P Q : F → Type 0) → ((fault : F) → P fault → Q fault) → (error : OrMemory F) → IfFault P error → IfFault Q error
if_fault P Q weaker OutOfMemory h = h
if_fault P Q weaker (Fault fault) h = weaker fault h

verdict_on : (limits : HelperLimits) (program : List Slot) (verdict : Verdict) → IsVerdictOn program limits verdict → IsVerdictOn verdict.program limits verdict
verdict_on limits program verdict h = subst (λ (p : List Slot). IsVerdictOn p limits verdict) (sym h.program_is) h

accepted_line : (limits : HelperLimits) (line : ProgramLine) (read : ReadLine) (named : Named) → IsReadLine line read → IsAcceptedLine limits read named → IsAccepted limits line named
accepted_line limits line read named h v = record {
  name = v.name ∙ h.name;
  program = subst (λ (p : List Slot). IsReadAs line.source p) (sym v.verdict.program_is) h.program;
  verdict = verdict_on limits read.program named.1 v.verdict;
}

-- what is read and then accepted
pub accepted_lines : (limits : HelperLimits) (lines : List ProgramLine) (reads : List ReadLine) (programs : List Named)
    → AllZip IsReadLine lines reads → AllZip (IsAcceptedLine limits) reads programs → AllZip (IsAccepted limits) lines programs
accepted_lines limits [] [] [] a b = tt
accepted_lines limits [] [] (n ∷ ns) a b = absurd b
accepted_lines limits [] (r ∷ rs) ns a b = absurd a
accepted_lines limits (l ∷ ls) [] ns a b = absurd a
accepted_lines limits (l ∷ ls) (r ∷ rs) [] a b = absurd b
accepted_lines limits (l ∷ ls) (r ∷ rs) (n ∷ ns) a b = (accepted_line limits l r n a.0 b.0, accepted_lines limits ls rs ns a.1 b.1)

readable_lines : (lines : List ProgramLine) (reads : List ReadLine) → AllZip IsReadLine lines reads → AllByRecursion IsReadable lines
readable_lines [] reads h = tt
readable_lines (l ∷ ls) [] h = absurd h
readable_lines (l ∷ ls) (r ∷ rs) h = ((r.program, h.0.program), readable_lines ls rs h.1)

refused_line : (name : List ℕ) (refusal : Refusal) (line : ProgramLine) (read : ReadLine) → IsReadLine line read → IsRefusedLine name refusal read → (line.name ≡ name) × IsRefused refusal line
refused_line name refusal line read h bad = (sym h.name ∙ bad.named, record { program = read.program; read = h.program; told = bad.told; checked = bad.checked; not_plain = bad.not_plain })

refused_first : (limits : HelperLimits) (name : List ℕ) (refusal : Refusal) (lines : List ProgramLine) (reads : List ReadLine) → AllZip IsReadLine lines reads
    → FirstIs (λ read. (named : Named) × IsAcceptedLine limits read named) (IsRefusedLine name refusal) reads
    → FirstIs (IsAcceptable limits) (λ line. (line.name ≡ name) × IsRefused refusal line) lines
refused_first limits name refusal [] [] a h = absurd h
refused_first limits name refusal [] (r ∷ rs) a h = absurd a
refused_first limits name refusal (l ∷ ls) [] a h = absurd h
refused_first limits name refusal (l ∷ ls) (r ∷ rs) a (inl bad) = inl (refused_line name refusal l r a.0 bad)
refused_first limits name refusal (l ∷ ls) (r ∷ rs) a (inr rest) = inr ((rest.0.0, accepted_line limits l r rest.0.0 a.0 rest.0.1), refused_first limits name refusal ls rs a.1 rest.1)

abbrev Acceptables : HelperLimits → ReadLine → Type 0
Acceptables limits read = (named : Named) × IsAcceptedLine limits read named

-- the first that is read and not accepted
pub unaccepted_first : (limits : HelperLimits) (lines : List ProgramLine) (reads : List ReadLine) (fault : ManifestFault) → AllZip IsReadLine lines reads
    → IsUnacceptedAmong limits reads fault → IsUnaccepted limits lines fault
unaccepted_first limits lines reads (Unaccepted name refusal) a h = (readable_lines lines reads a, refused_first limits (string_bytes name) refusal lines reads a h)
unaccepted_first limits lines reads (Undecoded name fault) a h = none_first (Acceptables limits) reads h
unaccepted_first limits lines reads (Unassembled name fault) a h = none_first (Acceptables limits) reads h
unaccepted_first limits lines reads Text a h = none_first (Acceptables limits) reads h
unaccepted_first limits lines reads Key a h = none_first (Acceptables limits) reads h
unaccepted_first limits lines reads Form a h = none_first (Acceptables limits) reads h
unaccepted_first limits lines reads Range a h = none_first (Acceptables limits) reads h
unaccepted_first limits lines reads Number a h = none_first (Acceptables limits) reads h
unaccepted_first limits lines reads Name a h = none_first (Acceptables limits) reads h
unaccepted_first limits lines reads Migrated a h = none_first (Acceptables limits) reads h

pub if_ok : {X E : Type 0} (P Q : X → Type 0) → ((x : X) → P x → Q x) → (r : Result X E) → IfOk r P → IfOk r Q
if_ok P Q weaker (Ok x) h = weaker x h
if_ok P Q weaker (Err e) h = h

pub if_err : {X E : Type 0} (P Q : E → Type 0) → ((e : E) → P e → Q e) → (r : Result X E) → IfErr r P → IfErr r Q
if_err P Q weaker (Ok x) h = h
if_err P Q weaker (Err e) h = weaker e h
