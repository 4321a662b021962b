-- The lowest fault of many, and what is read one entry after another.
use Rattle.std.proofs.Common.{◌≡◌, ℕ, Bool, true, false, ◌&&◌, List, [], ◌∷◌, Option, refl, ap, ◌∙◌, sym, codes}
use Rattle.std.specs.List.{list_all}
use Rattle.toml.specs.Data.{Data}
use Rattle.manifest_form.specs.declared.form_fault.FormFault.{FormFault}
use Rattle.manifest_form.specs.Document.{elements_at}
use Rattle.world_calls.specs.declared.trace.Version.{Version}
use Rattle.manifest_form.specs.Entries.{controllers_of, version_of}
use Rattle.manifest_form.specs.Faults.{lower, lowest_of, lowest_among, document_fault, queue_fault, table_fault, program_fault, form_fault, document_has_keys, document_has_form, document_has_ranges, queue_has_keys, queue_has_form, queue_has_ranges, table_has_keys, table_has_form, table_has_ranges, program_has_keys, program_has_form}

-- the lowest of two parts is that of both together
pub merged : (a b c d e f : Bool) → lower (lowest_of a b c) (lowest_of d e f) ≡ lowest_of (a && d) (b && e) (c && f)
merged false b c d e f = refl
merged true false c false e f = refl
merged true false c true false f = refl
merged true false c true true false = refl
merged true false c true true true = refl
merged true true false false e f = refl
merged true true false true false f = refl
merged true true false true true false = refl
merged true true false true true true = refl
merged true true true d e f = refl

pub among : (keys form ranges : Data → Bool) (entries : List Data) → lowest_among (λ entry. lowest_of (keys entry) (form entry) (ranges entry)) entries ≡ lowest_of (list_all keys entries) (list_all form entries) (list_all ranges entries)
among keys form ranges [] = refl
among keys form ranges (entry ∷ entries) =
    ap (lower (lowest_of (keys entry) (form entry) (ranges entry))) (among keys form ranges entries)
    ∙ merged (keys entry) (form entry) (ranges entry) (list_all keys entries) (list_all form entries) (list_all ranges entries)

all_true : (entries : List Data) → list_all (λ _. true) entries ≡ true
all_true [] = refl
all_true (entry ∷ entries) = all_true entries

pub among_programs : (entries : List Data) → lowest_among program_fault entries ≡ lowest_of (list_all program_has_keys entries) (list_all program_has_form entries) true
among_programs entries = among program_has_keys program_has_form (λ _. true) entries
    ∙ ap (lowest_of (list_all program_has_keys entries) (list_all program_has_form entries)) (all_true entries)

and_true : (a : Bool) → (a && true) ≡ a
and_true true = refl
and_true false = refl

whole_by : (dk df dr qk qf qr tk tf tr pk pf : Bool) (q t p : Option FormFault) → q ≡ lowest_of qk qf qr → t ≡ lowest_of tk tf tr → p ≡ lowest_of pk pf true
    → lower (lower (lower (lowest_of dk df dr) q) t) p ≡ lowest_of (dk && qk && tk && pk) (df && qf && tf && pf) (dr && qr && tr)
whole_by dk df dr qk qf qr tk tf tr pk pf q t p q_is t_is p_is =
    rw (q_is, t_is, p_is, merged dk df dr qk qf qr, merged (dk && qk) (df && qf) (dr && qr) tk tf tr, merged (dk && qk && tk) (df && qf && tf) (dr && qr && tr) pk pf true, and_true (dr && qr && tr))

-- the lowest of all parts of a manifest
pub whole_form : (manifest : Data) →
    lower (lower (lower (document_fault manifest) (lowest_among (queue_fault (controllers_of manifest)) (elements_at (codes "queue") manifest))) (lowest_among (table_fault (version_of manifest)) (elements_at (codes "table") manifest))) (lowest_among program_fault (elements_at (codes "program") manifest))
    ≡ form_fault manifest
whole_form manifest =
    let v = version_of manifest in
    let cs = controllers_of manifest in
    let qs = elements_at (codes "queue") manifest in
    let ts = elements_at (codes "table") manifest in
    let ps = elements_at (codes "program") manifest in
    whole_by (document_has_keys manifest) (document_has_form manifest) (document_has_ranges manifest)
    (list_all (queue_has_keys cs) qs) (list_all (queue_has_form cs) qs) (list_all (queue_has_ranges cs) qs)
    (list_all (table_has_keys v) ts) (list_all (table_has_form v) ts) (list_all (table_has_ranges v) ts)
    (list_all program_has_keys ps) (list_all program_has_form ps)
    _ _ _ (among (queue_has_keys cs) (queue_has_form cs) (queue_has_ranges cs) qs) (among (table_has_keys v) (table_has_form v) (table_has_ranges v) ts) (among_programs ps)

-- what was noted part by part is the lowest of all
pub noted_whole : (manifest : Data) (first second third last : Option FormFault) (version : Version) (controllers : Option ℕ) (queues tables programs : List Data)
    → first ≡ document_fault manifest → version ≡ version_of manifest → controllers ≡ controllers_of manifest → queues ≡ elements_at (codes "queue") manifest → tables ≡ elements_at (codes "table") manifest → programs ≡ elements_at (codes "program") manifest
    → second ≡ lower first (lowest_among (queue_fault controllers) queues) → third ≡ lower second (lowest_among (table_fault version) tables) → last ≡ lower third (lowest_among program_fault programs)
    → form_fault manifest ≡ last
noted_whole manifest first second third last version controllers queues tables programs a v k b c d e f g =
    sym (rw (g, f, e, a, v, k, b, c, d) (whole_form manifest))
