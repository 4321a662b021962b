-- A manifest of version 1 or 2, and what it says as one of a later version.
use Rattle.std.proofs.Common.{◌≡◌, ◌≤◌, ◌&&◌, ◌||◌, not, ℕ, ℤ, Bool, true, false, List, [], ◌∷◌, Option, Some, None, is_some, map, filter_map, codes, pos, refl, ap, sym, subst, arith, ◌∙◌}
use Rattle.std.specs.List.{list_all, cons_option}
use Rattle.std.proofs.lemmas.Bool.{and_parts}
use Rattle.toml.specs.Data.{Data, table, Items, Members, no_members, depth, items_depth, members_depth, get, has_valid_dates, items_have_valid_dates, members_have_valid_dates}
use Rattle.toml.specs.View.{items_of}
use Rattle.std.specs.Prelude.{if◌then◌else◌, unwrap_or}
use Rattle.world_calls.specs.declared.trace.Version.{Version}
use Rattle.world_calls.specs.declared.trace.Version.TheVariants.{One, Three, Two}
use Rattle.manifest_form.specs.declared.migration.Kind.TheVariants.{Queue, Table, Program}
use Rattle.manifest_form.specs.Document.{array_at, elements, elements_of, elements_at, integer_at, text_at, has_keys}
use Rattle.manifest_form.specs.Entries.{Plan, TableLine, are_written, below, controller_written, has_words, length_of, up_to, is_first, is_second, number_of_controllers, controllers_of, queue_by, queue_of, program_by, program_of, source_by, source_of, plan_of, table_by, table_of, version_by, version_of, words_by}
use Rattle.manifest_form.specs.Faults.{document_has_keys, document_has_form, document_has_ranges, is_later, queue_has_keys, queue_has_form, queue_has_ranges, table_has_keys, table_has_form, table_has_ranges, program_has_keys, program_has_form, has_arrays, has_lawful_keys, has_lawful_form, has_lawful_ranges, form_fault, lowest_of, words_have_form}
use Rattle.manifest_form.specs.Migration.{IsLaterForm, as_later, comes_after, controllers_kept, entry_kept, migrated, number_of_version, put_entries, put_integer, put_source_by, put_text}

-- ---- versions

-- the first is none that comes after another one
abbrev is_one : Version → Bool
is_one One = true
is_one Two = false
is_one Three = false

later_is : (from to : Version) → comes_after from to ≡ true → is_one to ≡ false
later_is One One h = absurd cc
later_is One Two h = refl
later_is One Three h = refl
later_is Two One h = absurd cc
later_is Two Two h = absurd cc
later_is Two Three h = refl
later_is Three One h = absurd cc
later_is Three Two h = absurd cc
later_is Three Three h = absurd cc

-- and one before another one has no first words
earlier_is : (from to : Version) → comes_after from to ≡ true → has_words from ≡ false
earlier_is One to h = refl
earlier_is Two to h = refl
earlier_is Three One h = absurd cc
earlier_is Three Two h = absurd cc
earlier_is Three Three h = absurd cc

-- ---- one entry

abbrev queue_written : Option ℤ → Option ℤ → Option (List ℕ) → Data
queue_written openings controller program =
    table (put_text (codes "program") program (put_integer (codes "controller") controller (put_integer (codes "openings") openings no_members)))

abbrev length_written : Option ℤ → Data
length_written length = table (put_integer (codes "length") length no_members)

abbrev program_written : Option (List ℕ) → Option (List ℕ) → Option (List ℕ) → Data
program_written name asm digits = table (put_source_by asm digits (put_text (codes "name") name no_members))

queue_keys : (m : ℕ) (openings controller : Option ℤ) (program : Option (List ℕ)) → (is_some openings && is_some controller && is_some program) ≡ true → queue_has_keys (Some m) (queue_written openings controller program) ≡ true
unfolding has_keys
queue_keys m (Some openings) (Some controller) (Some program) h = refl
queue_keys m (Some openings) (Some controller) None h = absurd cc
queue_keys m (Some openings) None program h = absurd cc
queue_keys m None controller program h = absurd cc

queue_form : (m : ℕ) (openings controller : Option ℤ) (program : Option (List ℕ)) → (is_some openings && is_some controller && is_some program) ≡ true → queue_has_form (Some m) (queue_written openings controller program) ≡ true
unfolding integer_at text_at
queue_form m (Some openings) (Some controller) (Some program) h = refl
queue_form m (Some openings) (Some controller) None h = absurd cc
queue_form m (Some openings) None program h = absurd cc
queue_form m None controller program h = absurd cc

queue_ranges : (m : ℕ) (openings controller : Option ℤ) (program : Option (List ℕ)) → (is_some openings && is_some controller && is_some program) ≡ true
    → queue_has_ranges (Some m) (queue_written openings controller program) ≡ (is_some (up_to 255 openings) && is_some (below m controller))
unfolding integer_at
queue_ranges m (Some openings) (Some controller) (Some program) h = refl
queue_ranges m (Some openings) (Some controller) None h = absurd cc
queue_ranges m (Some openings) None program h = absurd cc
queue_ranges m None controller program h = absurd cc

queue_says : (m : ℕ) (openings controller : Option ℤ) (program : Option (List ℕ)) → (is_some openings && is_some controller && is_some program) ≡ true
    → queue_of (Some m) (queue_written openings controller program) ≡ queue_by (up_to 255 openings) (below m controller) program
unfolding integer_at text_at
queue_says m (Some openings) (Some controller) (Some program) h = refl
queue_says m (Some openings) (Some controller) None h = absurd cc
queue_says m (Some openings) None program h = absurd cc
queue_says m None controller program h = absurd cc

length_keys : (to : Version) (length : Option ℤ) → is_some length ≡ true → table_has_keys to (length_written length) ≡ true
unfolding has_keys
length_keys One (Some length) h = refl
length_keys Two (Some length) h = refl
length_keys Three (Some length) h = refl
length_keys to None h = absurd cc

length_form : (to : Version) (length : Option ℤ) → is_some length ≡ true → table_has_form to (length_written length) ≡ true
unfolding integer_at
length_form One (Some length) h = refl
length_form Two (Some length) h = refl
length_form Three (Some length) h = refl
length_form to None h = absurd cc

length_says : (to : Version) (length : Option ℤ) → is_some length ≡ true → table_of to (length_written length) ≡ table_by (up_to 4096 length) (Some [])
unfolding integer_at
length_says One (Some length) h = refl
length_says Two (Some length) h = refl
length_says Three (Some length) h = refl
length_says to None h = absurd cc

-- a table of a version without first words has a length alone
length_there : (from : Version) (d : Data) → table_has_form from d ≡ true → is_some (integer_at (codes "length") d) ≡ true
length_there from d h = (and_parts (is_some (integer_at (codes "length") d)) (words_have_form from d) h).0

length_alone : (from : Version) (d : Data) → has_words from ≡ false → table_of from d ≡ table_by (length_of d) (Some [])
length_alone from d none =
    ap (λ (b : Bool). table_by (length_of d) (words_by (b && is_some (get (codes "words") d)) (array_at (codes "words") d))) none

program_keys : (name asm digits : Option (List ℕ)) → (is_some name && is_some (source_by asm digits)) ≡ true → program_has_keys (program_written name asm digits) ≡ true
unfolding has_keys
program_keys (Some name) (Some asm) digits h = refl
program_keys (Some name) None (Some digits) h = refl
program_keys (Some name) None None h = absurd cc
program_keys None asm digits h = absurd cc

program_says : (name asm digits : Option (List ℕ)) → (is_some name && is_some (source_by asm digits)) ≡ true
    → program_of (program_written name asm digits) ≡ program_by name (source_by asm digits)
unfolding source_of text_at
program_says (Some name) (Some asm) digits h = refl
program_says (Some name) None (Some digits) h = refl
program_says (Some name) None None h = absurd cc
program_says None asm digits h = absurd cc

program_form : (name asm digits : Option (List ℕ)) → (is_some name && is_some (source_by asm digits)) ≡ true
    → program_has_form (program_written name asm digits) ≡ (is_some name && is_some (source_by asm digits))
unfolding source_of text_at
program_form (Some name) (Some asm) digits h = refl
program_form (Some name) None (Some digits) h = refl
program_form (Some name) None None h = absurd cc
program_form None asm digits h = absurd cc

queue_flat : (openings controller : Option ℤ) (program : Option (List ℕ)) → depth (queue_written openings controller program) ≤ 1
queue_flat (Some openings) (Some controller) (Some program) = omega arith
queue_flat (Some openings) (Some controller) None = omega arith
queue_flat (Some openings) None (Some program) = omega arith
queue_flat (Some openings) None None = omega arith
queue_flat None (Some controller) (Some program) = omega arith
queue_flat None (Some controller) None = omega arith
queue_flat None None (Some program) = omega arith
queue_flat None None None = omega arith

length_flat : (length : Option ℤ) → depth (length_written length) ≤ 1
length_flat (Some length) = omega arith
length_flat None = omega arith

program_flat : (name asm digits : Option (List ℕ)) → depth (program_written name asm digits) ≤ 1
program_flat (Some name) (Some asm) digits = omega arith
program_flat (Some name) None (Some digits) = omega arith
program_flat (Some name) None None = omega arith
program_flat None (Some asm) digits = omega arith
program_flat None None (Some digits) = omega arith
program_flat None None None = omega arith

queue_dateless : (openings controller : Option ℤ) (program : Option (List ℕ)) → has_valid_dates (queue_written openings controller program) ≡ true
queue_dateless (Some openings) (Some controller) (Some program) = refl
queue_dateless (Some openings) (Some controller) None = refl
queue_dateless (Some openings) None (Some program) = refl
queue_dateless (Some openings) None None = refl
queue_dateless None (Some controller) (Some program) = refl
queue_dateless None (Some controller) None = refl
queue_dateless None None (Some program) = refl
queue_dateless None None None = refl

length_dateless : (length : Option ℤ) → has_valid_dates (length_written length) ≡ true
length_dateless (Some length) = refl
length_dateless None = refl

program_dateless : (name asm digits : Option (List ℕ)) → has_valid_dates (program_written name asm digits) ≡ true
program_dateless (Some name) (Some asm) digits = refl
program_dateless (Some name) None (Some digits) = refl
program_dateless (Some name) None None = refl
program_dateless None (Some asm) digits = refl
program_dateless None None (Some digits) = refl
program_dateless None None None = refl

-- ---- all entries

all_lawful : (test : Data → Bool) (f : Data → Data) (here there : Data → Bool) → ((d : Data) → here d ≡ true → there d ≡ true → test (f d) ≡ true)
    → (ds : List Data) → list_all here ds ≡ true → list_all there ds ≡ true → list_all test (map f ds) ≡ true
all_lawful test f here there each [] a b = refl
all_lawful test f here there each (d ∷ ds) a b =
    let (a_first, a_rest) = and_parts (here d) (list_all here ds) a in
    let (b_first, b_rest) = and_parts (there d) (list_all there ds) b in
    rw (each d a_first b_first, all_lawful test f here there each ds a_rest b_rest)

all_said : {Y : Type 0} (says said : Data → Option Y) (f : Data → Data) (lawful : Data → Bool) → ((d : Data) → lawful d ≡ true → says (f d) ≡ said d)
    → (ds : List Data) → list_all lawful ds ≡ true → filter_map says (map f ds) ≡ filter_map said ds
all_said says said f lawful each [] h = refl
all_said says said f lawful each (d ∷ ds) h =
    let (first, rest) = and_parts (lawful d) (list_all lawful ds) h in
    λ i. cons_option (each d first i) (all_said says said f lawful each ds rest i)

all_flat : (f : Data → Data) → ((d : Data) → depth (f d) ≤ 1) → (ds : List Data) → items_depth (items_of (map f ds)) ≤ 1
all_flat f each [] = omega arith
all_flat f each (d ∷ ds) = omega (arith, each d, all_flat f each ds)

all_dateless : (f : Data → Data) → ((d : Data) → has_valid_dates (f d) ≡ true) → (ds : List Data) → items_have_valid_dates (items_of (map f ds)) ≡ true
all_dateless f each [] = refl
all_dateless f each (d ∷ ds) = rw (each d, all_dateless f each ds)

elements_of_items : (ds : List Data) → elements (items_of ds) ≡ ds
elements_of_items [] = refl
elements_of_items (d ∷ ds) = ap (λ rest. d ∷ rest) (elements_of_items ds)

-- ---- the whole: of this version, with so many controllers, of entries that were under those

module _ (to : Version) (number : ℤ) (controllers : Option ℕ) where
  queue_entry_flat : (d : Data) → depth (entry_kept controllers Queue d) ≤ 1
  queue_entry_flat d = queue_flat (integer_at (codes "openings") d) (controller_written controllers d) (text_at (codes "program") d)

  length_entry_flat : (d : Data) → depth (entry_kept controllers Table d) ≤ 1
  length_entry_flat d = length_flat (integer_at (codes "length") d)

  program_entry_flat : (d : Data) → depth (entry_kept controllers Program d) ≤ 1
  program_entry_flat d = program_flat (text_at (codes "name") d) (text_at (codes "asm") d) (text_at (codes "code") d)

  abbrev written : Option Items → Option Items → Option Items → Members
  written queues tables programs =
      put_entries controllers Program (codes "program") programs (put_entries controllers Table (codes "table") tables (put_entries controllers Queue (codes "queue") queues
      (put_integer (codes "controllers") (Some number) (put_integer (codes "version") (Some (pos (number_of_version to))) no_members))))

written_keys : (to : Version) → is_one to ≡ false → (number : ℤ) (controllers : Option ℕ) (queues : Items) (tables : Option Items) (programs : Items) → document_has_keys (table (written to number controllers (Some queues) tables (Some programs))) ≡ true
unfolding has_keys is_first integer_at
written_keys One none number controllers queues tables programs = absurd cc
written_keys Two none number controllers queues None programs = refl
written_keys Two none number controllers queues (Some tables) programs = refl
written_keys Three none number controllers queues None programs = refl
written_keys Three none number controllers queues (Some tables) programs = refl

written_form : (to : Version) → is_one to ≡ false → (number : ℤ) (controllers : Option ℕ) (queues : Items) (tables : Option Items) (programs : Items) → document_has_form (table (written to number controllers (Some queues) tables (Some programs))) ≡ true
unfolding array_at is_first integer_at
written_form One none number controllers queues tables programs = absurd cc
written_form Two none number controllers queues None programs = refl
written_form Two none number controllers queues (Some tables) programs = refl
written_form Three none number controllers queues None programs = refl
written_form Three none number controllers queues (Some tables) programs = refl

written_ranges : (to : Version) → is_one to ≡ false → (number : ℤ) (m : ℕ) → up_to 8 (Some number) ≡ Some m → (controllers : Option ℕ) (queues : Items) (tables : Option Items) (programs : Items) → document_has_ranges (table (written to number controllers (Some queues) tables (Some programs))) ≡ true
unfolding is_first integer_at
written_ranges One none number m fits controllers queues tables programs = absurd cc
written_ranges Two none number m fits controllers queues None programs = ap (λ (o : Option ℕ). is_some o) fits
written_ranges Two none number m fits controllers queues (Some tables) programs = ap (λ (o : Option ℕ). is_some o) fits
written_ranges Three none number m fits controllers queues None programs = ap (λ (o : Option ℕ). is_some o) fits
written_ranges Three none number m fits controllers queues (Some tables) programs = ap (λ (o : Option ℕ). is_some o) fits

written_controllers : (to : Version) → is_one to ≡ false → (number : ℤ) (m : ℕ) → up_to 8 (Some number) ≡ Some m → (controllers : Option ℕ) (queues : Items) (tables : Option Items) (programs : Items) → controllers_of (table (written to number controllers (Some queues) tables (Some programs))) ≡ Some m
unfolding controllers_of is_first integer_at
written_controllers One none number m fits controllers queues tables programs = absurd cc
written_controllers Two none number m fits controllers queues None programs = ap (λ (o : Option ℕ). Some (unwrap_or o 0)) fits
written_controllers Two none number m fits controllers queues (Some tables) programs = ap (λ (o : Option ℕ). Some (unwrap_or o 0)) fits
written_controllers Three none number m fits controllers queues None programs = ap (λ (o : Option ℕ). Some (unwrap_or o 0)) fits
written_controllers Three none number m fits controllers queues (Some tables) programs = ap (λ (o : Option ℕ). Some (unwrap_or o 0)) fits

written_version : (to : Version) → is_one to ≡ false → (number : ℤ) (controllers : Option ℕ) (queues : Items) (tables : Option Items) (programs : Items) → version_of (table (written to number controllers (Some queues) tables (Some programs))) ≡ to
unfolding version_of is_first integer_at
written_version One none number controllers queues tables programs = absurd cc
written_version Two none number controllers queues None programs = refl
written_version Two none number controllers queues (Some tables) programs = refl
written_version Three none number controllers queues None programs = refl
written_version Three none number controllers queues (Some tables) programs = refl

module _ (to : Version) (number : ℤ) (controllers : Option ℕ) where
  written_queues : (queues : Items) (tables : Option Items) (programs : Items)
      → elements_at (codes "queue") (table (written to number controllers (Some queues) tables (Some programs))) ≡ map (entry_kept controllers Queue) (elements queues)
  unfolding array_at
  written_queues queues None programs = elements_of_items (map (entry_kept controllers Queue) (elements queues))
  written_queues queues (Some tables) programs = elements_of_items (map (entry_kept controllers Queue) (elements queues))

  written_tables : (queues : Items) (tables : Option Items) (programs : Items)
      → elements_at (codes "table") (table (written to number controllers (Some queues) tables (Some programs))) ≡ map (entry_kept controllers Table) (elements_of tables)
  unfolding array_at
  written_tables queues None programs = refl
  written_tables queues (Some tables) programs = elements_of_items (map (entry_kept controllers Table) (elements tables))

  written_programs : (queues : Items) (tables : Option Items) (programs : Items)
      → elements_at (codes "program") (table (written to number controllers (Some queues) tables (Some programs))) ≡ map (entry_kept controllers Program) (elements programs)
  unfolding array_at
  written_programs queues None programs = elements_of_items (map (entry_kept controllers Program) (elements programs))
  written_programs queues (Some tables) programs = elements_of_items (map (entry_kept controllers Program) (elements programs))

  written_flat : (queues : Items) (tables : Option Items) (programs : Items) → members_depth (written to number controllers (Some queues) tables (Some programs)) ≤ 80
  written_flat queues None programs =
      omega (
        arith,
        all_flat (entry_kept controllers Queue) (queue_entry_flat to number controllers) (elements queues),
        all_flat (entry_kept controllers Program) (program_entry_flat to number controllers) (elements programs),
      )
  written_flat queues (Some tables) programs =
      omega (
        arith,
        all_flat (entry_kept controllers Queue) (queue_entry_flat to number controllers) (elements queues),
        all_flat (entry_kept controllers Table) (length_entry_flat to number controllers) (elements tables),
        all_flat (entry_kept controllers Program) (program_entry_flat to number controllers) (elements programs),
      )

  written_dateless : (queues : Items) (tables : Option Items) (programs : Items) → members_have_valid_dates (written to number controllers (Some queues) tables (Some programs)) ≡ true
  written_dateless queues tables programs =
      let q = all_dateless (entry_kept controllers Queue) (λ d. queue_dateless (integer_at (codes "openings") d) (controller_written controllers d) (text_at (codes "program") d)) (elements queues) in
      let p = all_dateless (entry_kept controllers Program) (λ d. program_dateless (text_at (codes "name") d) (text_at (codes "asm") d) (text_at (codes "code") d)) (elements programs) in
      by_tables tables q p
    where
      by_tables : (tables : Option Items) → items_have_valid_dates (items_of (map (entry_kept controllers Queue) (elements queues))) ≡ true
          → items_have_valid_dates (items_of (map (entry_kept controllers Program) (elements programs))) ≡ true
          → members_have_valid_dates (written to number controllers (Some queues) tables (Some programs)) ≡ true
      by_tables None q p = rw (q, p)
      by_tables (Some tables) q p =
          rw (q, p, all_dateless (entry_kept controllers Table) (λ d. length_dateless (integer_at (codes "length") d)) (elements tables))

-- ---- what follows for a manifest whose form has no fault

-- the queues of an old manifest have a form, and are in their ranges, by how many controllers there are then
record IsKept (from to : Version) (number : ℤ) (controllers : Option ℕ) : Type 0 where
  later : is_one to ≡ false
  wordless : has_words from ≡ false
  fits : up_to 8 (Some number) ≡ Some (unwrap_or controllers 1)

module _ (from to : Version) (number : ℤ) (controllers : Option ℕ) (kept : IsKept from to number controllers) (queues : Items) (tables : Option Items) (programs : Items) where
  abbrev new : Data
  new = table (written to number controllers (Some queues) tables (Some programs))

  abbrev many : ℕ
  many = unwrap_or controllers 1

  abbrev qs : List Data
  qs = elements queues

  abbrev ts : List Data
  ts = elements_of tables

  abbrev ps : List Data
  ps = elements programs

  new_keys : list_all (queue_has_form controllers) qs ≡ true → list_all (table_has_form from) ts ≡ true → list_all program_has_form ps ≡ true → has_lawful_keys new ≡ true
  unfolding source_of
  new_keys q t p =
      rw (
        written_keys to kept.later number controllers queues tables programs,
        written_version to kept.later number controllers queues tables programs,
        written_controllers to kept.later number many kept.fits controllers queues tables programs,
        written_queues to number controllers queues tables programs,
        written_tables to number controllers queues tables programs,
        written_programs to number controllers queues tables programs,
        all_lawful (queue_has_keys (Some many)) (entry_kept controllers Queue) (queue_has_form controllers) (queue_has_form controllers)
            (λ d h _. queue_keys many (integer_at (codes "openings") d) (controller_written controllers d) (text_at (codes "program") d) h) qs q q,
        all_lawful (table_has_keys to) (entry_kept controllers Table) (table_has_form from) (table_has_form from) (λ d h _. length_keys to (integer_at (codes "length") d) (length_there from d h)) ts t t,
        all_lawful program_has_keys (entry_kept controllers Program) program_has_form program_has_form (λ d h _. program_keys (text_at (codes "name") d) (text_at (codes "asm") d) (text_at (codes "code") d) h) ps p p,
      )

  new_form : list_all (queue_has_form controllers) qs ≡ true → list_all (table_has_form from) ts ≡ true → list_all program_has_form ps ≡ true → has_lawful_form new ≡ true
  unfolding source_of
  new_form q t p =
      rw (
        written_form to kept.later number controllers queues tables programs,
        written_version to kept.later number controllers queues tables programs,
        written_controllers to kept.later number many kept.fits controllers queues tables programs,
        written_queues to number controllers queues tables programs,
        written_tables to number controllers queues tables programs,
        written_programs to number controllers queues tables programs,
        all_lawful (queue_has_form (Some many)) (entry_kept controllers Queue) (queue_has_form controllers) (queue_has_form controllers)
            (λ d h _. queue_form many (integer_at (codes "openings") d) (controller_written controllers d) (text_at (codes "program") d) h) qs q q,
        all_lawful (table_has_form to) (entry_kept controllers Table) (table_has_form from) (table_has_form from) (λ d h _. length_form to (integer_at (codes "length") d) (length_there from d h)) ts t t,
        all_lawful program_has_form (entry_kept controllers Program) program_has_form program_has_form
            (λ d h _. program_form (text_at (codes "name") d) (text_at (codes "asm") d) (text_at (codes "code") d) h ∙ h) ps p p,
      )

  new_ranges : list_all (queue_has_form controllers) qs ≡ true → list_all (queue_has_ranges controllers) qs ≡ true → list_all (table_has_form from) ts ≡ true → list_all (table_has_ranges from) ts ≡ true → has_lawful_ranges new ≡ true
  new_ranges q q_ranges t t_ranges =
      rw (
        written_ranges to kept.later number many kept.fits controllers queues tables programs,
        written_version to kept.later number controllers queues tables programs,
        written_controllers to kept.later number many kept.fits controllers queues tables programs,
        written_queues to number controllers queues tables programs,
        written_tables to number controllers queues tables programs,
        all_lawful (queue_has_ranges (Some many)) (entry_kept controllers Queue) (queue_has_form controllers) (queue_has_ranges controllers)
            (λ d h r. queue_ranges many (integer_at (codes "openings") d) (controller_written controllers d) (text_at (codes "program") d) h ∙ r) qs q q_ranges,
        all_lawful (table_has_ranges to) (entry_kept controllers Table) (table_has_form from) (table_has_ranges from)
            (λ d h r. ap (λ (line : Option TableLine). is_some line) (length_says to (integer_at (codes "length") d) (length_there from d h) ∙ sym (length_alone from d kept.wordless)) ∙ r) ts t t_ranges,
      )

  new_queues : list_all (queue_has_form controllers) qs ≡ true → filter_map (queue_of (Some many)) (elements_at (codes "queue") new) ≡ filter_map (queue_of controllers) qs
  new_queues q =
      ap (filter_map (queue_of (Some many))) (written_queues to number controllers queues tables programs)
      ∙ all_said (queue_of (Some many)) (queue_of controllers) (entry_kept controllers Queue) (queue_has_form controllers)
      (λ d h. queue_says many (integer_at (codes "openings") d) (controller_written controllers d) (text_at (codes "program") d) h) qs q

  new_tables : list_all (table_has_form from) ts ≡ true → filter_map (table_of to) (elements_at (codes "table") new) ≡ filter_map (table_of from) ts
  new_tables t =
      ap (filter_map (table_of to)) (written_tables to number controllers queues tables programs)
      ∙ all_said (table_of to) (table_of from) (entry_kept controllers Table) (table_has_form from)
      (λ d h. length_says to (integer_at (codes "length") d) (length_there from d h) ∙ sym (length_alone from d kept.wordless)) ts t

  new_programs : list_all program_has_form ps ≡ true → filter_map program_of (elements_at (codes "program") new) ≡ filter_map program_of ps
  unfolding source_of
  new_programs p =
      ap (filter_map program_of) (written_programs to number controllers queues tables programs)
      ∙ all_said program_of program_of (entry_kept controllers Program) program_has_form (λ d h. program_says (text_at (codes "name") d) (text_at (codes "asm") d) (text_at (codes "code") d) h) ps p

  new_plan : list_all (queue_has_form controllers) qs ≡ true → list_all (table_has_form from) ts ≡ true → list_all program_has_form ps ≡ true
      → plan_of new ≡ record { version = to; controllers = Some many; queues = filter_map (queue_of controllers) qs; tables = filter_map (table_of from) ts; programs = filter_map program_of ps }
  new_plan q t p =
      let of_many : controllers_of new ≡ Some many = written_controllers to kept.later number many kept.fits controllers queues tables programs in
      let of_version : version_of new ≡ to = written_version to kept.later number controllers queues tables programs in
      let said : filter_map (queue_of (controllers_of new)) (elements_at (codes "queue") new) ≡ filter_map (queue_of controllers) qs =
      ap (λ (those : Option ℕ). filter_map (queue_of those) (elements_at (codes "queue") new)) of_many ∙ new_queues q in
      let told : filter_map (table_of (version_of new)) (elements_at (codes "table") new) ≡ filter_map (table_of from) ts =
      ap (λ (version : Version). filter_map (table_of version) (elements_at (codes "table") new)) of_version ∙ new_tables t in
      λ i. record { version = of_version i; controllers = of_many i; queues = said i; tables = told i; programs = new_programs p i }

-- ---- the old manifest, by its arrays

-- its form is lawful: the lowest of three is none
lawful_parts : (keys form ranges : Bool) → lowest_of keys form ranges ≡ None → (form ≡ true) × (ranges ≡ true)
lawful_parts true true true is = (refl, refl)
lawful_parts true true false is = absurd cc
lawful_parts true false ranges is = absurd cc
lawful_parts false form ranges is = absurd cc

no_fault : (keys form ranges : Bool) → keys ≡ true → form ≡ true → ranges ≡ true → lowest_of keys form ranges ≡ None
no_fault keys form ranges k f r = rw (k, f, r)

there_is : {X : Type 0} (o : Option X) → is_some o ≡ true → (x : X) × (o ≡ Some x)
there_is None h = absurd cc
there_is (Some x) h = (x, refl)

-- how many controllers are written
record HasNumber (controllers : Option ℕ) (old : Option ℤ) : Type 0 where
  number : ℤ
  is : controllers_kept controllers old ≡ Some number
  fits : up_to 8 (Some number) ≡ Some (unwrap_or controllers 1)

some_of : (o : Option ℕ) → is_some o ≡ true → o ≡ Some (unwrap_or o 0)
some_of None h = absurd cc
some_of (Some n) h = refl

number_by : (first later : Bool) (old : Option ℤ) → (first || (later && is_some (up_to 8 old))) ≡ true → HasNumber (if first then None else Some (unwrap_or (up_to 8 old) 0)) old
number_by true later old h = record { number = pos 1; is = refl; fits = refl }
number_by false later None h = absurd (let bad : false ≡ true = (and_parts later false h).1 in cc)
number_by false later (Some number) h = record { number = number; is = refl; fits = some_of (up_to 8 (Some number)) (and_parts later (is_some (up_to 8 (Some number))) h).1 }

has_number : (manifest : Data) → document_has_ranges manifest ≡ true → HasNumber (controllers_of manifest) (integer_at (codes "controllers") manifest)
unfolding controllers_of
has_number manifest h = number_by (is_first manifest) (is_later manifest) (integer_at (codes "controllers") manifest) h

pub later_form_is : (manifest : Data) (to : Version) → form_fault manifest ≡ None → comes_after (version_of manifest) to ≡ true → IsLaterForm manifest to (migrated to manifest)
later_form_is manifest to lawful later =
    let cs = controllers_of manifest in
    let from = version_of manifest in
    let qs = elements_at (codes "queue") manifest in
    let ts = elements_at (codes "table") manifest in
    let ps = elements_at (codes "program") manifest in
    let (form, ranges) = lawful_parts (has_lawful_keys manifest) (has_lawful_form manifest) (has_lawful_ranges manifest) lawful in
    let (form_qt, form_p) = and_parts (document_has_form manifest && list_all (queue_has_form cs) qs && list_all (table_has_form from) ts) (list_all program_has_form ps) form in
    let (form_q, form_t) = and_parts (document_has_form manifest && list_all (queue_has_form cs) qs) (list_all (table_has_form from) ts) form_qt in
    let (document, form_queues) = and_parts (document_has_form manifest) (list_all (queue_has_form cs) qs) form_q in
    let (ranges_q, ranges_t) = and_parts (document_has_ranges manifest && list_all (queue_has_ranges cs) qs) (list_all (table_has_ranges from) ts) ranges in
    let (document_ranges, ranges_queues) = and_parts (document_has_ranges manifest) (list_all (queue_has_ranges cs) qs) ranges_q in
    let (arrays, _) = and_parts (has_arrays manifest && is_some (integer_at (codes "version") manifest)) (is_first manifest || is_some (integer_at (codes "controllers") manifest)) document in
    let (arrays_there, _) = and_parts (has_arrays manifest) (is_some (integer_at (codes "version") manifest)) arrays in
    let (two, _) = and_parts (is_some (array_at (codes "queue") manifest) && is_some (array_at (codes "program") manifest)) (not (is_some (get (codes "table") manifest)) || is_some (array_at (codes "table") manifest)) arrays_there in
    let (queue_there, program_there) = and_parts (is_some (array_at (codes "queue") manifest)) (is_some (array_at (codes "program") manifest)) two in
    let (queues, queues_is) = there_is (array_at (codes "queue") manifest) queue_there in
    let (programs, programs_is) = there_is (array_at (codes "program") manifest) program_there in
    by_arrays (has_number manifest document_ranges) queues programs queues_is programs_is form_queues ranges_queues form_t ranges_t form_p
  where
    by_arrays : HasNumber (controllers_of manifest) (integer_at (codes "controllers") manifest) → (queues programs : Items) → array_at (codes "queue") manifest ≡ Some queues → array_at (codes "program") manifest ≡ Some programs
        → list_all (queue_has_form (controllers_of manifest)) (elements_at (codes "queue") manifest) ≡ true → list_all (queue_has_ranges (controllers_of manifest)) (elements_at (codes "queue") manifest) ≡ true
        → list_all (table_has_form (version_of manifest)) (elements_at (codes "table") manifest) ≡ true → list_all (table_has_ranges (version_of manifest)) (elements_at (codes "table") manifest) ≡ true
        → list_all program_has_form (elements_at (codes "program") manifest) ≡ true → IsLaterForm manifest to (migrated to manifest)
    by_arrays its queues programs queues_is programs_is qf qr tf tr pf =
        let cs = controllers_of manifest in
        let from = version_of manifest in
        let tables = array_at (codes "table") manifest in
        let kept : IsKept from to its.number cs = record { later = later_is from to later; wordless = earlier_is from to later; fits = its.fits } in
        let is : migrated to manifest ≡ written to its.number cs (Some queues) tables (Some programs) =
        λ i. put_entries cs Program (codes "program") (programs_is i) (put_entries cs Table (codes "table") tables (put_entries cs Queue (codes "queue") (queues_is i)
        (put_integer (codes "controllers") (its.is i) (put_integer (codes "version") (Some (pos (number_of_version to))) no_members)))) in
        let qf_there : list_all (queue_has_form cs) (elements queues) ≡ true = subst (λ (o : Option Items). list_all (queue_has_form cs) (elements_of o) ≡ true) queues_is qf in
        let qr_there : list_all (queue_has_ranges cs) (elements queues) ≡ true = subst (λ (o : Option Items). list_all (queue_has_ranges cs) (elements_of o) ≡ true) queues_is qr in
        let pf_there : list_all program_has_form (elements programs) ≡ true = subst (λ (o : Option Items). list_all program_has_form (elements_of o) ≡ true) programs_is pf in
        let made = table (written to its.number cs (Some queues) tables (Some programs)) in
        let old : ◌≡◌ {A = Plan} (record { version = to; controllers = Some (unwrap_or cs 1); queues = filter_map (queue_of cs) (elements queues); tables = filter_map (table_of from) (elements_of tables); programs = filter_map program_of (elements programs) }) (as_later to (plan_of manifest)) =
        λ i. record { version = to; controllers = Some (unwrap_or cs 1); queues = filter_map (queue_of cs) (elements_of (sym queues_is i)); tables = filter_map (table_of from) (elements_of tables); programs = filter_map program_of (elements_of (sym programs_is i)) } in
        record {
          lawful = subst (λ (members : Members). form_fault (table members) ≡ None) (sym is)
              (no_fault (has_lawful_keys made) (has_lawful_form made) (has_lawful_ranges made) (new_keys from to its.number cs kept queues tables programs qf_there tf pf_there)
              (new_form from to its.number cs kept queues tables programs qf_there tf pf_there) (new_ranges from to its.number cs kept queues tables programs qf_there qr_there tf tr));
          says = ap (λ (members : Members). plan_of (table members)) is ∙ (new_plan from to its.number cs kept queues tables programs qf_there tf pf_there ∙ old);
          flat = subst (λ (members : Members). members_depth members ≤ 80) (sym is) (written_flat to its.number cs queues tables programs);
          dates = subst (λ (members : Members). members_have_valid_dates members ≡ true) (sym is) (written_dateless to its.number cs queues tables programs);
        }
