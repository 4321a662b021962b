use Rattle.std.proofs.Common.{◌≡◌, ◌∙◌, Bool, Bor, ℕ, List, Option, false, subst, sym, true}
use Rattle.std.specs.Option.{option_map}
use Rattle.std.specs.Prelude.{IfSome}
use Rattle.host_journal.specs.Disks.{Held, IsText}
use Rattle.host_journal.specs.Journals.{IsConfigured}
use Rattle.host_journal.specs.Starts.{IsGivenOther, IsNewest}
use Rattle.host_journal.proofs.Causes.{at_known, its_manifest, other_manifest, own_refused}
use Rattle.host_journal.proofs.beginning.go_on.Goals as goal

pub returns-in-Ok-true-clause-refused : goal.returns-in-Ok-true-clause-refused
returns-in-Ok-true-clause-refused g c =
    let given : Option (List ℕ) = option_map (λ (bytes : Bor (List ℕ)). bytes.now) c.args.manifest in
    let same : g.D.Disk.held c.is_others.new.disk ≡ g.D.Disk.held c.args.disk.now = c.is_others.ensures.held ∙ c.read_manifest.ensures.held in
    other_manifest (g.D.Disk.held c.is_others.new.disk) c.args.number given c.as_slice.result.now
    (subst (λ (held : Held). IfSome held.names (λ names. IsNewest names c.args.number)) (sym same) c.requires)
    (subst (λ (held : Held). IsText (held.manifests c.args.number) c.as_slice.result.now) (sym same)
    (subst (λ (bytes : List ℕ). IsText ((g.D.Disk.held c.args.disk.now).manifests c.args.number) bytes) (sym c.as_slice.ensures.value) c.in-Ok.ensures.bytes))
    (subst (λ (held : Held). IsGivenOther (held.segments c.args.number) given c.as_slice.result.now true) (sym c.is_others.ensures.held)
    (subst (λ (b : Bool). IsGivenOther ((g.D.Disk.held c.read_manifest.new.self).segments c.args.number) given c.as_slice.result.now b) c.in-Ok-true.field-0-test c.in-Ok-true.ensures.other))

pub returns-in-Ok-own-clause-found : goal.returns-in-Ok-own-clause-found
returns-in-Ok-own-clause-found g c =
    let given : Option (List ℕ) = option_map (λ (bytes : Bor (List ℕ)). bytes.now) c.args.manifest in
    let now : Held = g.D.Disk.held c.is_others.new.disk in
    let same : now ≡ g.D.Disk.held c.args.disk.now = c.is_others.ensures.held ∙ c.read_manifest.ensures.held in
    let text : IsText (now.manifests c.args.number) c.in-Ok.bytes.items = subst (λ (held : Held). IsText (held.manifests c.args.number) c.in-Ok.bytes.items) (sym same) c.in-Ok.ensures.bytes in
    let newest : IfSome now.names (λ names. IsNewest names c.args.number) = subst (λ (held : Held). IfSome held.names (λ names. IsNewest names c.args.number)) (sym same) c.requires in
    let configured : IsConfigured c.in-Ok.bytes.items c.in-Ok-own.config = subst (λ (bytes : List ℕ). IsConfigured bytes c.in-Ok-own.config) c.as_slice-2.ensures.value c.in-Ok-own.ensures.read in
    let own : IsText (now.manifests c.args.number) c.as_slice.result.now = subst (λ (bytes : List ℕ). IsText (now.manifests c.args.number) bytes) (sym c.as_slice.ensures.value) text in
    let other : IsGivenOther (now.segments c.args.number) given c.as_slice.result.now false =
    subst (λ (held : Held). IsGivenOther (held.segments c.args.number) given c.as_slice.result.now false) (sym c.is_others.ensures.held)
    (subst (λ (b : Bool). IsGivenOther ((g.D.Disk.held c.read_manifest.new.self).segments c.args.number) given c.as_slice.result.now b) c.in-Ok-false.field-0-test c.in-Ok-false.ensures.other) in
    (newest, at_known (λ (bytes : List ℕ). IsConfigured bytes c.in-Ok-own.config) (now.manifests c.args.number) c.in-Ok.bytes.items text configured, its_manifest now c.args.number given c.as_slice.result.now own other)

pub returns-clause-refused : goal.returns-clause-refused
returns-clause-refused g c =
    let given : Option (List ℕ) = option_map (λ (bytes : Bor (List ℕ)). bytes.now) c.args.manifest in
    let now : Held = g.D.Disk.held c.is_others.new.disk in
    let same : now ≡ g.D.Disk.held c.args.disk.now = c.is_others.ensures.held ∙ c.read_manifest.ensures.held in
    let text : IsText (now.manifests c.args.number) c.in-Ok.bytes.items = subst (λ (held : Held). IsText (held.manifests c.args.number) c.in-Ok.bytes.items) (sym same) c.in-Ok.ensures.bytes in
    let newest : IfSome now.names (λ names. IsNewest names c.args.number) = subst (λ (held : Held). IfSome held.names (λ names. IsNewest names c.args.number)) (sym same) c.requires in
    own_refused now c.args.number given c.as_slice-2.result.now (g.D.Disk.steps c.args.disk.now) (g.D.Disk.steps c.is_others.new.disk) c.in-Err-own.error newest
    (subst (λ (bytes : List ℕ). IsText (now.manifests c.args.number) bytes) (sym c.as_slice-2.ensures.value) text) c.in-Err-own.ensures.fault
