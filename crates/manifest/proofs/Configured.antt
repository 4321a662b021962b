-- A configuration of what a manifest says: it is lawful, and its queues are those that are written.
use Rattle.std.proofs.Common.{arith, ◌⊎◌, inl, inr, string_bytes, ◌≡◌, ℕ, ℤ, pos, negsuc, zero, suc, ◌<◌, ◌≤◌, Bool, true, false, ◌&&◌, ◌||◌, cond, List, [], ◌∷◌, length, get_or, map, find, filter_map, Option, Some, None, IsSome, is_some, option_map, refl, ap, ◌∙◌, sym, subst, bytes_eq, codes, unwrap_or, nat_le, nat_lt, if◌then◌else◌, slice_index, slice_index_or}
use Rattle.std.specs.List.{AllZip, AllByRecursion, All, list_all, cons_option}
use Rattle.std.proofs.lemmas.Bool.{and_parts, leb-true, ltb-true, cases_Bool}
use Rattle.std.proofs.lemmas.List.Elements.{All-nil, All-cons}
use Rattle.toml.specs.Data.{Data, table, Members}
use Rattle.toml.specs.Parse.{parse_document}
use Rattle.helpers.specs.declared.limits.HelperLimits.{HelperLimits}
use Rattle.helpers.specs.declared.limits.HelperSet.{HelperSet}
use Rattle.table_store.specs.Tables.{tables_with}
use Rattle.world_calls.specs.declared.trace.Version.{Version}
use Rattle.world_calls.specs.declared.trace.Version.TheVariants.{One, Three, Two}
use Rattle.manifest_form.specs.declared.entries.TableEntry.{TableEntry}
use Rattle.engine_config.specs.Configured.{Given, HaveRoom, IsConfigured, IsGivenUnder, queue_of as queue_given}
use Rattle.bpf_accepted.specs.Verdict.{Verdict}
use Rattle.world.specs.World.{QueueSetup}
use Rattle.world.specs.Lawful.{AreUnder}
use Rattle.manifest_form.specs.Document.{elements_at, integer_at, text_at, is_among}
use Rattle.manifest_form.specs.Entries.{QueueLine, ProgramLine, Plan, TableLine, up_to, below, is_first, is_integer, is_second, number_of_controllers, controllers_of, controller_written, controller_at, openings_at, queue_by, queue_of, length_of, plan_of, table_by, table_of, version_by, version_of, words_written}
use Rattle.manifest_form.specs.Faults.{has_lawful_keys, has_lawful_form, has_lawful_ranges, document_has_ranges, is_later, queue_has_ranges, table_has_ranges}
use Rattle.manifest_form.specs.Names.{has_lawful_numbers, has_lawful_names, names_of, is_name, is_alone, is_between}
use Rattle.manifest.specs.Meaning.{lowest, lowest_fault, helpers_with, limits_of, Named, is_named, setup_of, setup_with, IsAccepted, IsUnread, IsUnaccepted, HasProgramFault, Writes}
use Rattle.manifest.specs.declared.programs.NamedProgram.{NamedProgram}
use Rattle.manifest_form.specs.declared.form.Plan.{Plan as Entries}
use Rattle.manifest_form.specs.declared.entries.QueueEntry.{QueueEntry}
use Rattle.manifest.specs.declared.fault.ManifestFault.{ManifestFault}
use Rattle.std.proofs.lemmas.List.{length-map}
use Rattle.manifest_form.specs.Seen.{queue_seen, plan_seen, table_seen}
use Rattle.manifest.specs.Seen.{AreWrittenUnder, HasControllers, IsGivenFor, IsReady, IsLawfulPlan, IsTableOf, named_seen}

pub all_at : {E X : Type 0} (P : X → Type 0) (f : E → X) (entries : List E) (i : ℕ) (entry : E) → i < length entries → entry ≡ get_or entries i entry → AllByRecursion P (map f entries) → P (f entry)
all_at P f [] i entry within is all = absurd (omega arith)
all_at {E = E} P f (e ∷ es) zero entry within is all = subst (λ (x : E). P (f x)) (sym is) all.0
all_at P f (e ∷ es) (suc i) entry within is all = all_at P f es i entry (omega arith) is all.1

some_is : {X : Type 0} (a b : X) → Some a ≡ Some b → a ≡ b
some_is a b is = cc

setup_is : (programs : List Named) (queue : QueueLine) (given : Given) → IsGivenFor programs queue given → setup_of programs queue ≡ Some (queue_given given)
setup_is programs queue given h =
    let named : setup_with queue h.verdict.program ≡ queue_given given =
    λ i. record { openings = sym h.openings i; controller = sym h.controller i; program = (h.verdict.is i).program; budget = (h.verdict.is i).budget } in
    ap (option_map (setup_with queue)) h.verdict.found ∙ ap Some named

-- the setup of each queue
pub setups : (programs : List Named) (queues : List QueueLine) (given : List Given) → AllZip (IsGivenFor programs) queues given → map (setup_of programs) queues ≡ map Some (map queue_given given)
setups programs [] [] h = refl
setups programs [] (g ∷ gs) h = absurd h
setups programs (q ∷ qs) [] h = absurd h
setups programs (q ∷ qs) (g ∷ gs) h =
    let first : setup_of programs q ≡ Some (queue_given g) = setup_is programs q g h.0 in
    λ i. first i ∷ setups programs qs gs h.1 i

pub as_many : {X Y : Type 0} (R : X → Y → Type 0) (xs : List X) (ys : List Y) → AllZip R xs ys → length xs ≡ length ys
as_many R [] [] h = refl
as_many R [] (y ∷ ys) h = absurd h
as_many R (x ∷ xs) [] h = absurd h
as_many R (x ∷ xs) (y ∷ ys) h = ap suc (as_many R xs ys h.1)

found_has : (P : Named → Type 0) (test : Named → Bool) (programs : List Named) (found : Named) → AllByRecursion P programs → find test programs ≡ Some found → P found
found_has P test [] found all is = cc
found_has P test (n ∷ ns) found all is =
    elim (cases_Bool (test n)) [
      | inl passes ↦ subst P (some_is n found (sym (rw passes) ∙ is)) all.0
      | inr fails ↦ found_has P test ns found all.1 (sym (rw fails) ∙ is)
    ]

-- each queue is given under the limits
pub all_given : (limits : HelperLimits) (programs : List Named) (queues : List QueueLine) (given : List Given) → AllZip (IsGivenFor programs) queues given
    → AllByRecursion (λ queue. 1 ≤ queue.openings) queues → AllByRecursion (λ named. named.1.limits ≡ limits) programs → All (IsGivenUnder limits) given
all_given limits programs [] [] h openings accepted = All-nil (IsGivenUnder limits)
all_given limits programs [] (g ∷ gs) h openings accepted = absurd h
all_given limits programs (q ∷ qs) [] h openings accepted = absurd h
all_given limits programs (q ∷ qs) (g ∷ gs) h openings accepted =
    let some : 1 ≤ g.openings = rw h.0.openings openings.0 in
    let verdict = h.0.verdict in
    let under : g.verdict.limits ≡ limits = sym (ap (λ (v : Verdict). v.limits) verdict.is) ∙ found_has (λ named. named.1.limits ≡ limits) (is_named q.program) programs verdict.program accepted verdict.found in
    All-cons (IsGivenUnder limits) g gs (some, under) (all_given limits programs qs gs h.1 openings.1 accepted)

all_from : {X : Type 0} (P : X → Type 0) (xs : List X) → AllByRecursion P xs → All P xs
all_from P [] h = All-nil P
all_from P (x ∷ xs) h = All-cons P x xs h.0 (all_from P xs h.1)

-- each controller is the one that is written
all_numbered : (P : ℕ → Type 0) (programs : List Named) (queues : List QueueLine) (given : List Given) → AllZip (IsGivenFor programs) queues given
    → AllByRecursion (λ queue. P queue.controller) queues → All (λ queue. P queue.controller) (map queue_given given)
all_numbered P programs [] [] h each = All-nil (λ queue. P queue.controller)
all_numbered P programs [] (g ∷ gs) h each = absurd h
all_numbered P programs (q ∷ qs) [] h each = absurd h
all_numbered P programs (q ∷ qs) (g ∷ gs) h each =
    All-cons (λ queue. P queue.controller) (queue_given g) (map queue_given gs) (subst P (sym h.0.controller) each.0) (all_numbered P programs qs gs h.1 each.1)

given_under : (version : Version) (controllers : Option ℕ) (programs : List Named) (queues : List QueueLine) (given : List Given) → AllZip (IsGivenFor programs) queues given
    → HasControllers version controllers → AreWrittenUnder controllers queues → AreUnder (helpers_with version) (unwrap_or controllers 0) (map queue_given given)
given_under One None programs queues given h has each = (refl, all_numbered (λ controller. controller ≡ 0) programs queues given h each)
given_under One (Some controllers) programs queues given h has each = absurd cc
given_under Two None programs queues given h has each = absurd cc
given_under Two (Some controllers) programs queues given h has (number, each) =
    (number, all_numbered (λ controller. controller < controllers) programs queues given h each)
given_under Three None programs queues given h has each = absurd cc
given_under Three (Some controllers) programs queues given h has (number, each) =
    (number, all_numbered (λ controller. controller < controllers) programs queues given h each)

pub configured : (limits : HelperLimits) (version : Version) (controllers : Option ℕ) (tables : List TableLine) (queues : List QueueLine) (programs : List Named) (given : List Given)
    → IsReady limits version controllers tables queues programs → AllZip (IsGivenFor programs) queues given → IsConfigured limits (unwrap_or controllers 0) given
configured limits version controllers tables queues programs given ready h =
    let many : length queues ≡ length given = as_many (IsGivenFor programs) queues given h in
    record {
      queue_number = (rw (← many) ready.queue_number.0, rw (← many) ready.queue_number.1);
      agreed = ready.agreed ∙ many;
      under = subst (λ (helpers : HelperSet). AreUnder helpers (unwrap_or controllers 0) (map queue_given given)) (sym ready.helpers)
          (given_under version controllers programs queues given h ready.has_controllers ready.under);
      table_number = ready.table_number;
      table_lengths = all_from (λ words. (1 ≤ words) × (words ≤ 4096)) limits.table_lengths ready.lengths;
      queues = all_given limits programs queues given h ready.openings ready.accepted;
    }

-- tables that have room for their first words
abbrev pub line_size : TableLine → ℕ
line_size line = line.size

abbrev pub line_words : TableLine → List ℕ
line_words line = line.words

room_at : (tables : List TableLine) (k : ℕ) → AllByRecursion (λ line. length line.words ≤ line.size) tables → k < length (map line_words tables)
    → length (slice_index_or (map line_words tables) k []) ≤ slice_index (map line_size tables) k
room_at [] k all below = absurd (omega arith)
room_at (t ∷ ts) zero all below = all.0
room_at (t ∷ ts) (suc k) all below = room_at ts k all.1 (omega arith)

pub have_room : (lengths : List ℕ) (tables : List TableLine) → lengths ≡ map line_size tables → AllByRecursion (λ line. length line.words ≤ line.size) tables → HaveRoom lengths (map line_words tables)
have_room lengths tables is all = subst (λ (ns : List ℕ). HaveRoom ns (map line_words tables)) (sym is) (record {
  lists = omega (arith, length-map tables line_words, length-map tables line_size);
  words = λ k below. room_at tables k all below;
})

-- tables without first words
pub wordless : (lengths : List ℕ) (tables : List TableLine) → AllByRecursion (λ line. line.words ≡ []) tables → tables_with lengths (map line_words tables) ≡ tables_with lengths []
wordless [] tables all = refl
wordless (n ∷ ns) [] all = refl
wordless (n ∷ ns) (t ∷ ts) all = rw (all.0, wordless ns ts all.1) refl

all_cons : {Y : Type 0} (P : Y → Type 0) (o : Option Y) (rest : List Y) → ((y : Y) → o ≡ Some y → P y) → AllByRecursion P rest → AllByRecursion P (cons_option o rest)
all_cons P None rest here h = h
all_cons P (Some y) rest here h = (here y refl, h)

all_filtered : {Y : Type 0} (P : Y → Type 0) (f : Data → Option Y) → ((d : Data) (y : Y) → f d ≡ Some y → P y) → (ds : List Data) → AllByRecursion P (filter_map f ds)
all_filtered P f each [] = tt
all_filtered P f each (d ∷ ds) = all_cons P (f d) (filter_map f ds) (each d) (all_filtered P f each ds)

range_by : (a b : Bool) (m n : ℕ) → (if a && b then Some m else None) ≡ Some n → (a ≡ true) × (b ≡ true) × (m ≡ n)
range_by true true m n is = (refl, refl, some_is m n is)
range_by true false m n is = absurd (cc)
range_by false b m n is = absurd (cc)

up_to_range : (most : ℕ) (number : Option ℤ) (n : ℕ) → up_to most number ≡ Some n → (1 ≤ n) × (n ≤ most)
up_to_range most None n is = absurd (cc)
up_to_range most (Some (negsuc k)) n is = absurd (cc)
up_to_range most (Some (pos m)) n is =
    let (low, high, same) = range_by (nat_le 1 m) (nat_le m most) m n is in
    let least : 1 ≤ m = leb-true 1 m low in
    let greatest : m ≤ most = leb-true m most high in
    (rw (← same) least, rw (← same) greatest)

-- what a queue's line has, by its parts
line_has : (P : QueueLine → Type 0) (openings controller : Option ℕ) (program : Option (List ℕ)) (queue : QueueLine)
    → ((n c : ℕ) (name : List ℕ) → openings ≡ Some n → controller ≡ Some c → P (record { openings = n; controller = c; program = name }))
    → queue_by openings controller program ≡ Some queue → P queue
line_has P None controller program queue each is = absurd (cc)
line_has P (Some n) None program queue each is = absurd (cc)
line_has P (Some n) (Some c) None queue each is = absurd (cc)
line_has P (Some n) (Some c) (Some name) queue each is = subst P (some_is _ _ is) (each n c name refl refl)

queue_least : (controllers : Option ℕ) (d : Data) (queue : QueueLine) → queue_of controllers d ≡ Some queue → 1 ≤ queue.openings
queue_least controllers d queue is =
    line_has (λ q. 1 ≤ q.openings) (openings_at d) (controller_at controllers d) (text_at (codes "program") d) queue
    (λ n c name h _. (up_to_range 255 (integer_at (codes "openings") d) n h).0) is

below_by : (a : Bool) (m n : ℕ) → (if a then Some m else None) ≡ Some n → (a ≡ true) × (m ≡ n)
below_by true m n is = (refl, some_is m n is)
below_by false m n is = absurd (cc)

below_bound : (bound : ℕ) (number : Option ℤ) (n : ℕ) → below bound number ≡ Some n → n < bound
below_bound bound None n is = absurd (cc)
below_bound bound (Some (negsuc k)) n is = absurd (cc)
below_bound bound (Some (pos m)) n is =
    let (less, same) = below_by (nat_lt m bound) m n is in
    let lt : m < bound = ltb-true m bound less in
    rw (← same) lt

-- without controllers each queue is under number 0, and else under one of them
queue_below : (controllers : Option ℕ) (d : Data) (queue : QueueLine) → queue_of controllers d ≡ Some queue → queue.controller < unwrap_or controllers 1
queue_below controllers d queue is =
    line_has (λ q. q.controller < unwrap_or controllers 1) (openings_at d) (controller_at controllers d) (text_at (codes "program") d) queue
    (λ n c name _ h. below_bound (unwrap_or controllers 1) (controller_written controllers d) c h) is

all_weaker : {X : Type 0} (P Q : X → Type 0) → ((x : X) → P x → Q x) → (xs : List X) → AllByRecursion P xs → AllByRecursion Q xs
all_weaker P Q weaker [] h = tt
all_weaker P Q weaker (x ∷ xs) h = (weaker x h.0, all_weaker P Q weaker xs h.1)

-- how many controllers there are, by whether the version is 1, and by what is written
in_range_by : (first second : Bool) (number : Option ℕ) (n : ℕ) → ((m : ℕ) → number ≡ Some m → (1 ≤ m) × (m ≤ 8))
    → (first || (second && is_some number)) ≡ true → (if first then None else Some (unwrap_or number 0)) ≡ Some n → (1 ≤ n) × (n ≤ 8)
in_range_by true second number n range lawful is = absurd (cc)
in_range_by false true (Some m) n range lawful is = subst (λ (x : ℕ). (1 ≤ x) × (x ≤ 8)) (some_is m n is) (range m refl)
in_range_by false true None n range lawful is = absurd (cc)
in_range_by false false number n range lawful is = absurd (cc)

controllers_range : (manifest : Data) (n : ℕ) → document_has_ranges manifest ≡ true → controllers_of manifest ≡ Some n → (1 ≤ n) × (n ≤ 8)
unfolding controllers_of
controllers_range manifest n lawful is =
    in_range_by (is_first manifest) (is_later manifest) (number_of_controllers manifest) n
    (λ m h. up_to_range 8 (integer_at (codes "controllers") manifest) m h) lawful is

controllers_by : (first second : Bool) (n : ℕ) → HasControllers (version_by first second) (if first then None else Some n)
controllers_by true second n = refl
controllers_by false true n = refl
controllers_by false false n = refl

controllers_there : (manifest : Data) → HasControllers (version_of manifest) (controllers_of manifest)
unfolding controllers_of version_of
controllers_there manifest = controllers_by (is_first manifest) (is_second manifest) (unwrap_or (number_of_controllers manifest) 0)

-- what a table's line has, by its parts
some_by : {X : Type 0} (a : Bool) (m n : X) → (if a then Some m else None) ≡ Some n → (a ≡ true) × (m ≡ n)
some_by true m n is = (refl, some_is m n is)
some_by false m n is = absurd (cc)

table_has : (P : TableLine → Type 0) (size : Option ℕ) (words : Option (List ℕ)) (line : TableLine)
    → ((n : ℕ) (those : List ℕ) → size ≡ Some n → words ≡ Some those → length those ≤ n → P (record { size = n; words = those }))
    → table_by size words ≡ Some line → P line
table_has P None words line each is = absurd (cc)
table_has P (Some n) None line each is = absurd (cc)
table_has P (Some n) (Some those) line each is =
    let (fits, same) = some_by (nat_le (length those) n) (record { size = n; words = those }) line is in
    subst P same (each n those refl refl (leb-true (length those) n fits))

table_range : (version : Version) (d : Data) (line : TableLine) → table_of version d ≡ Some line → (1 ≤ line.size) × (line.size ≤ 4096)
table_range version d line is =
    table_has (λ t. (1 ≤ t.size) × (t.size ≤ 4096)) (length_of d) (words_written version d) line
    (λ n those h _ _. up_to_range 4096 (integer_at (codes "length") d) n h) is

no_words : (size : Option ℕ) (line : TableLine) → table_by size (Some []) ≡ Some line → line.words ≡ []
no_words size line is = table_has (λ t. t.words ≡ []) size (Some []) line (λ n those _ h _. sym (some_is [] those h)) is

table_is_of : (version : Version) (d : Data) (line : TableLine) → table_of version d ≡ Some line → IsTableOf version line
table_is_of One d line is = no_words (length_of d) line is
table_is_of Two d line is = no_words (length_of d) line is
table_is_of Three d line is = table_has (λ t. length t.words ≤ t.size) (length_of d) (words_written Three d) line (λ n those _ _ h. h) is

all_mapped : {X Y : Type 0} (P : Y → Type 0) (f : X → Y) (xs : List X) → AllByRecursion (λ x. P (f x)) xs → AllByRecursion P (map f xs)
all_mapped P f [] h = tt
all_mapped P f (x ∷ xs) h = (h.0, all_mapped P f xs h.1)

written_under_by : (controllers : Option ℕ) (queues : List QueueLine) → ((n : ℕ) → controllers ≡ Some n → (1 ≤ n) × (n ≤ 8))
    → AllByRecursion (λ queue. queue.controller < unwrap_or controllers 1) queues → AreWrittenUnder controllers queues
written_under_by None queues range each = all_weaker (λ queue. queue.controller < 1) (λ queue. queue.controller ≡ 0) (λ queue less. omega arith) queues each
written_under_by (Some n) queues range each = (range n refl, each)

found_by : (here : Bool) (n : Named) (rest : Option Named) (more : Bool) → more ≡ is_some rest → (here || more) ≡ is_some (cond here (Some n) rest)
found_by true n rest more h = refl
found_by false n rest more h = h

among_found : (name : List ℕ) (programs : List Named) → is_among (map (λ (n : Named). n.0) programs) name ≡ is_some (find (is_named name) programs)
among_found name [] = refl
among_found name (n ∷ ns) = found_by (bytes_eq n.0 name) n (find (is_named name) ns) (is_among (map (λ (n : Named). n.0) ns) name) (among_found name ns)

all_known : (programs : List Named) (names : List (List ℕ)) (queues : List QueueLine) → names ≡ map (λ (n : Named). n.0) programs → list_all (λ queue. is_among names queue.program) queues ≡ true
    → AllByRecursion (λ queue. IsSome (find (is_named queue.program) programs)) queues
all_known programs names [] same h = tt
all_known programs names (q ∷ qs) same h =
    let (here, more) = and_parts (is_among names q.program) (list_all (λ queue. is_among names queue.program) qs) h in
    let found : is_among (map (λ (n : Named). n.0) programs) q.program ≡ true = ap (λ (ns : List (List ℕ)). is_among ns q.program) (sym same) ∙ here in
    (sym (among_found q.program programs) ∙ found, all_known programs names qs same more)

abbrev line_name : ProgramLine → List ℕ
line_name line = line.name

same_names : (limits : HelperLimits) (lines : List ProgramLine) (programs : List Named) → AllZip (IsAccepted limits) lines programs → map line_name lines ≡ map (λ (n : Named). n.0) programs
same_names limits [] [] h = refl
same_names limits [] (n ∷ ns) h = absurd h
same_names limits (l ∷ ls) [] h = absurd h
same_names limits (l ∷ ls) (n ∷ ns) h = λ i. sym h.0.name i ∷ same_names limits ls ns h.1 i

all_under : (limits : HelperLimits) (lines : List ProgramLine) (programs : List Named) → AllZip (IsAccepted limits) lines programs → AllByRecursion (λ named. named.1.limits ≡ limits) programs
all_under limits [] [] h = tt
all_under limits [] (n ∷ ns) h = absurd h
all_under limits (l ∷ ls) [] h = absurd h
all_under limits (l ∷ ls) (n ∷ ns) h = (h.0.verdict.limits_are, all_under limits ls ns h.1)

pub lowest_parts : (keys form ranges numbers names : Bool) → lowest keys form ranges numbers names ≡ None → (numbers ≡ true) × (names ≡ true) × (ranges ≡ true)
lowest_parts true true true true true is = (refl, refl, refl)
lowest_parts true true true true false is = absurd (cc)
lowest_parts true true true false names is = absurd (cc)
lowest_parts true true false numbers names is = absurd (cc)
lowest_parts true false ranges numbers names is = absurd (cc)
lowest_parts false form ranges numbers names is = absurd (cc)

pub record Numbers (plan : Plan) : Type 0 where
  pub queues : (1 ≤ length plan.queues) × (length plan.queues ≤ 64)
  pub tables : length plan.tables ≤ 16

pub numbers_of : (plan : Plan) → has_lawful_numbers plan ≡ true → Numbers plan
unfolding has_lawful_numbers
numbers_of plan h =
    let (both, few) = and_parts (is_between 1 64 (length plan.queues) && is_between 1 64 (length plan.programs)) (nat_le (length plan.tables) 16) h in
    let (queues, programs) = and_parts (is_between 1 64 (length plan.queues)) (is_between 1 64 (length plan.programs)) both in
    let (low, high) = and_parts (nat_le 1 (length plan.queues)) (nat_le (length plan.queues) 64) queues in
    record { queues = (leb-true 1 (length plan.queues) low, leb-true (length plan.queues) 64 high); tables = leb-true (length plan.tables) 16 few }

known_of : (plan : Plan) → has_lawful_names plan ≡ true → list_all (λ queue. is_among (names_of plan) queue.program) plan.queues ≡ true
unfolding has_lawful_names
known_of plan h = (and_parts (list_all is_name (names_of plan) && list_all (is_alone (names_of plan)) (names_of plan)) (list_all (λ queue. is_among (names_of plan) queue.program) plan.queues) h).1

-- what is lawful makes a configuration
pub ready : (manifest : Data) (plan : Plan) (programs : List Named) → lowest_fault manifest ≡ None → plan ≡ plan_of manifest → AllZip (IsAccepted (limits_of plan)) plan.programs programs → IsReady (limits_of plan) plan.version plan.controllers plan.tables plan.queues programs
ready manifest plan programs lawful says accepted =
    let (numbers, names, ranges) = lowest_parts (has_lawful_keys manifest) (has_lawful_form manifest) (has_lawful_ranges manifest) (has_lawful_numbers (plan_of manifest)) (has_lawful_names (plan_of manifest)) lawful in
    let counts = numbers_of plan (ap has_lawful_numbers says ∙ numbers) in
    let Queues : List QueueLine → Type 0 = AllByRecursion (λ queue. 1 ≤ queue.openings) in
    let Sizes : List TableLine → Type 0 = AllByRecursion (λ line. (1 ≤ line.size) × (line.size ≤ 4096)) in
    let version = version_of manifest in
    let tables = elements_at (codes "table") manifest in
    let cs = controllers_of manifest in
    let queues = elements_at (codes "queue") manifest in
    let (both, _) = and_parts (document_has_ranges manifest && list_all (queue_has_ranges cs) queues) (list_all (table_has_ranges version) tables) ranges in
    let (document, _) = and_parts (document_has_ranges manifest) (list_all (queue_has_ranges cs) queues) both in
    record {
      helpers = refl;
      has_controllers = subst (λ (p : Plan). HasControllers p.version p.controllers) (sym says) (controllers_there manifest);
      are_tables = subst (λ (p : Plan). AllByRecursion (IsTableOf p.version) p.tables) (sym says) (all_filtered (IsTableOf version) (table_of version) (table_is_of version) tables);
      table_lengths = refl;
      queue_number = counts.queues;
      agreed = refl;
      table_number = omega (arith, counts.tables, length-map plan.tables line_size);
      lengths = all_mapped (λ words. (1 ≤ words) × (words ≤ 4096)) line_size plan.tables
          (subst (λ (p : Plan). Sizes p.tables) (sym says) (all_filtered (λ line. (1 ≤ line.size) × (line.size ≤ 4096)) (table_of version) (table_range version) tables));
      openings = subst (λ (p : Plan). Queues p.queues) (sym says) (all_filtered (λ queue. 1 ≤ queue.openings) (queue_of cs) (queue_least cs) queues);
      under = subst (λ (p : Plan). AreWrittenUnder p.controllers p.queues) (sym says)
          (written_under_by cs (plan_of manifest).queues (λ n is. controllers_range manifest n document is)
          (all_filtered (λ queue. queue.controller < unwrap_or cs 1) (queue_of cs) (queue_below cs) queues));
      known = all_known programs (names_of plan) plan.queues (same_names (limits_of plan) plan.programs programs accepted) (known_of plan (ap has_lawful_names says ∙ names));
      accepted = all_under (limits_of plan) plan.programs programs accepted;
    }

seen_by : (here : Bool) (program : NamedProgram) (rest : Option NamedProgram) (more : Option Named) → option_map named_seen rest ≡ more → option_map named_seen (cond here (Some program) rest) ≡ cond here (Some (named_seen program)) more
seen_by true program rest more h = refl
seen_by false program rest more h = h

-- the program of a name, as it is found
pub find_seen : (name : List ℕ) (programs : List NamedProgram) → option_map named_seen (find (λ program. bytes_eq (string_bytes program.name) name) programs) ≡ find (is_named name) (map named_seen programs)
find_seen name [] = refl
find_seen name (p ∷ ps) = seen_by (bytes_eq (string_bytes p.name) name) p (find (λ program. bytes_eq (string_bytes program.name) name) ps) (find (is_named name) (map named_seen ps)) (find_seen name ps)

pub plan_numbers : (plan : Plan) → IsLawfulPlan plan → Numbers plan
plan_numbers plan h =
    let d = h.document in
    let (numbers, names, ranges) = lowest_parts (has_lawful_keys d) (has_lawful_form d) (has_lawful_ranges d) (has_lawful_numbers (plan_of d)) (has_lawful_names (plan_of d)) h.lawful in
    numbers_of plan (ap has_lawful_numbers h.says ∙ numbers)

-- the programs, under the limits as they are made
pub accepted_by : (plan : Plan) (limits : HelperLimits) (lines : List ProgramLine) (programs : List Named) → limits ≡ limits_of plan → lines ≡ plan.programs
    → AllZip (IsAccepted limits) lines programs → AllZip (IsAccepted (limits_of plan)) plan.programs programs
accepted_by plan limits lines programs limits_is lines_is h = rw (← limits_is, ← lines_is) h

pub ready_by : (plan : Plan) (limits : HelperLimits) (queues : List QueueLine) (programs named : List Named) → IsLawfulPlan plan → limits ≡ limits_of plan → queues ≡ plan.queues → named ≡ programs
    → AllZip (IsAccepted (limits_of plan)) plan.programs programs → IsReady limits plan.version plan.controllers plan.tables queues named
ready_by plan limits queues programs named lawful limits_is queues_is named_is h = rw (limits_is, queues_is, named_is) (ready lawful.document plan programs lawful.lawful lawful.says h)

pub queues_by : (plan : Plan) (queues : List QueueLine) (programs named : List Named) (given : List QueueSetup) → queues ≡ plan.queues → named ≡ programs
    → map (setup_of named) queues ≡ map Some given → map (setup_of programs) plan.queues ≡ map Some given
queues_by plan queues programs named given queues_is named_is h = rw (← queues_is, ← named_is) h

-- the limits, as they are made
pub limits_by : (plan : Entries) (helpers : HelperSet) (count : ℕ) (lent : List QueueEntry) (lengths : List ℕ) → helpers ≡ helpers_with plan.version → lent ≡ plan.queues.items → count ≡ length lent → lengths ≡ map line_size (map table_seen plan.tables.items)
    → ◌≡◌ {A = HelperLimits} (record { helpers = helpers; queues = count; table_lengths = lengths }) (limits_of (plan_seen plan))
limits_by plan helpers count lent lengths those same counted tables =
    let queues : count ≡ length (map queue_seen plan.queues.items) = counted ∙ ap length same ∙ sym (length-map plan.queues.items queue_seen) in
    λ i. record { helpers = those i; queues = queues i; table_lengths = tables i }

pub few_queues : (plan : Entries) (lent : List QueueEntry) → lent ≡ plan.queues.items → IsLawfulPlan (plan_seen plan) → length lent ≤ 64
few_queues plan lent same lawful =
    let count : length lent ≡ length (map queue_seen plan.queues.items) = ap length same ∙ sym (length-map plan.queues.items queue_seen) in
    rw count (plan_numbers (plan_seen plan) lawful).queues.1

-- a fault of the programs, under the limits as they are made
pub fault_by : (plan : Plan) (limits : HelperLimits) (lines : List ProgramLine) (fault : ManifestFault) → limits ≡ limits_of plan → lines ≡ plan.programs
    → IsUnread lines fault ⊎ IsUnaccepted limits lines fault → HasProgramFault plan fault
fault_by plan limits lines fault limits_is lines_is h = rw (← limits_is, ← lines_is) h

-- what was parsed and is lawful is written
pub writes_by : (text : List ℕ) (members : Members) (document : Data) (plan : Plan) → document ≡ table members → parse_document text ≡ Some members
    → lowest_fault document ≡ None → plan ≡ plan_of document → Writes text plan
writes_by text members document plan is parsed lawful says = record {
  document = members;
  parsed = parsed;
  lawful = ap lowest_fault (sym is) ∙ lawful;
  says = says ∙ ap plan_of is;
}
