-- A manifest of version 1 or 2 as one of a later version. One of version 1 gets one controller, under which all queues are. All else
-- stays.
use Rattle.std.specs.Prelude.{◌≡◌, ◌≤◌, ℕ, ℤ, pos, Bool, true, false, List, Option, Some, None, map, codes, unwrap_or}
use Rattle.std.specs.Ordering.{nat_cmp, match_ordering}
use Rattle.std.specs.Cmp.Lexicographic.{slice_cmp}
use Rattle.toml.specs.Data.{Data, string, integer, array, table, Items, Members, no_members, member, members_depth, members_have_valid_dates}
use Rattle.toml.specs.View.{items_of}
use Rattle.world_calls.specs.declared.trace.Version.{Version}
use Rattle.world_calls.specs.declared.trace.Version.TheVariants.{One, Three, Two}
use Rattle.manifest_form.specs.declared.migration.Kind.{Kind}
use Rattle.manifest_form.specs.declared.migration.Kind.TheVariants.{Queue, Table, Program}
use Rattle.manifest_form.specs.Document.{array_at, elements, integer_at, text_at}
use Rattle.manifest_form.specs.Entries.{Plan, controller_written, controllers_of, plan_of}
use Rattle.manifest_form.specs.Faults.{form_fault}

-- a value under its key, in the order of the keys, whatever stood there
abbrev pub put : List ℕ → Data → Members → Members
put key value no_members = member key value no_members
put key value (member other that rest) =
    match_ordering (slice_cmp nat_cmp key other) (member key value (member other that rest)) (member other value rest) (member other that (put key value rest))

-- a number or a text, if there is one
abbrev pub put_integer : List ℕ → Option ℤ → Members → Members
put_integer key None members = members
put_integer key (Some number) members = put key (integer number) members

abbrev pub put_text : List ℕ → Option (List ℕ) → Members → Members
put_text key None members = members
put_text key (Some text) members = put key (string text) members

-- a queue stays under its controller, and comes under controller 0 if there were none
abbrev pub queue_kept : Option ℕ → Data → Members
queue_kept controllers queue =
    put_text (codes "program") (text_at (codes "program") queue)
    (put_integer (codes "controller") (controller_written controllers queue) (put_integer (codes "openings") (integer_at (codes "openings") queue) no_members))

abbrev pub length_kept : Data → Members
length_kept entry = put_integer (codes "length") (integer_at (codes "length") entry) no_members

-- what stands under `asm`, and else what stands under `code`
abbrev pub put_source_by : Option (List ℕ) → Option (List ℕ) → Members → Members
put_source_by (Some text) digits members = put_text (codes "asm") (Some text) members
put_source_by None digits members = put_text (codes "code") digits members

abbrev pub put_source : Data → Members → Members
put_source program members = put_source_by (text_at (codes "asm") program) (text_at (codes "code") program) members

abbrev pub program_kept : Data → Members
program_kept program = put_source program (put_text (codes "name") (text_at (codes "name") program) no_members)

abbrev pub entry_kept : Option ℕ → Kind → Data → Data
entry_kept controllers Queue entry = table (queue_kept controllers entry)
entry_kept controllers Table entry = table (length_kept entry)
entry_kept controllers Program entry = table (program_kept entry)

-- entries, if there are such
abbrev pub put_entries : Option ℕ → Kind → List ℕ → Option Items → Members → Members
put_entries controllers kind key None members = members
put_entries controllers kind key (Some entries) members = put key (array (items_of (map (entry_kept controllers kind) (elements entries)))) members

-- how many controllers are written: one, if there were none
abbrev pub controllers_kept : Option ℕ → Option ℤ → Option ℤ
controllers_kept None written = Some (pos 1)
controllers_kept (Some controllers) written = written

abbrev pub number_of_version : Version → ℕ
number_of_version One = 1
number_of_version Two = 2
number_of_version Three = 3

-- the second is the later one
abbrev pub comes_after : Version → Version → Bool
comes_after One Two = true
comes_after One Three = true
comes_after Two Three = true
comes_after from to = false

abbrev pub migrated : Version → Data → Members
migrated to manifest =
    put_entries (controllers_of manifest) Program (codes "program") (array_at (codes "program") manifest)
    (put_entries (controllers_of manifest) Table (codes "table") (array_at (codes "table") manifest)
    (put_entries (controllers_of manifest) Queue (codes "queue") (array_at (codes "queue") manifest)
    (put_integer (codes "controllers") (controllers_kept (controllers_of manifest) (integer_at (codes "controllers") manifest))
    (put_integer (codes "version") (Some (pos (number_of_version to))) no_members))))

-- the plan of such a manifest in the later version: with one controller, if there were none
abbrev pub as_later : Version → Plan → Plan
as_later to plan = record plan { version = to; controllers = Some (unwrap_or plan.controllers 1) }

-- how deep arrays and tables may nest in what TOML reads
abbrev pub deepest : ℕ
deepest = 80

-- These members are a manifest without a fault of its form, which says the same in the later version, and which TOML reads as it
-- prints it.
pub record IsLaterForm (manifest : Data) (to : Version) (members : Members) : Type 0 where
  pub lawful : form_fault (table members) ≡ None
  pub says : plan_of (table members) ≡ as_later to (plan_of manifest)
  pub flat : members_depth members ≤ deepest
  pub dates : members_have_valid_dates members ≡ true
