use Rattle.std.proofs.Common.{◌≡◌, ℤ, pos, Option, Some, ℕ, codes, refl, subst, sym, ap, ◌∙◌}
use Rattle.toml.specs.Data.{Data, Items, Members, no_members}
use Rattle.toml.specs.View.{table_view, view}
use Rattle.world_calls.specs.declared.trace.Version.{Version}
use Rattle.manifest_form.specs.declared.migration.Kind.TheVariants.{Queue, Table, Program}
use Rattle.manifest_form.specs.Document.{array_at, integer_at}
use Rattle.manifest_form.specs.Entries.{controllers_of}
use Rattle.manifest_form.specs.Migration.{IsLaterForm, controllers_kept, migrated, number_of_version, put_entries, put_integer}
use Rattle.manifest_form.proofs.LaterForm.{later_form_is}
use Rattle.manifest_form.proofs.migration.migrated.Goals as goal

-- one member after another
put_all : (to : Version) (manifest : Data) {controllers : Option ℕ} {number kept : Option ℤ} {queues tables programs : Option Items} {none first second third fourth last : Members}
    → none ≡ no_members → first ≡ put_integer (codes "version") number none → second ≡ put_integer (codes "controllers") kept first
    → third ≡ put_entries controllers Queue (codes "queue") queues second → fourth ≡ put_entries controllers Table (codes "table") tables third → last ≡ put_entries controllers Program (codes "program") programs fourth
    → number ≡ Some (pos (number_of_version to)) → kept ≡ controllers_kept controllers (integer_at (codes "controllers") manifest) → controllers ≡ controllers_of manifest
    → queues ≡ array_at (codes "queue") manifest → tables ≡ array_at (codes "table") manifest → programs ≡ array_at (codes "program") manifest → last ≡ migrated to manifest
put_all to manifest a b d e f g number_is kept_is controllers_is queues_is tables_is programs_is =
    rw (g, f, e, d, b, a, number_is, kept_is, controllers_is, queues_is, tables_is, programs_is) refl

members : (c : goal.In_ok-put_entries-3) → table_view c.put_entries-3.new.table ≡ migrated c.args.to (view c.args.manifest.now)
members c =
    put_all c.args.to (view c.args.manifest.now) c.empty-table.ensures c.in_ok-put_integer.ensures c.in_ok-put_integer-2.ensures c.in_ok-put_entries.ensures c.in_ok-put_entries-2.ensures c.in_ok-put_entries-3.ensures
    c.number_of.ensures (c.controllers_kept.ensures ∙ ap (controllers_kept c.controllers-controllers.result) c.integer.ensures) c.controllers-controllers.ensures c.array.ensures c.array-2.ensures c.array-3.ensures

pub returns-clause-members : goal.returns-clause-members
returns-clause-members c = members c

pub returns-clause-says : goal.returns-clause-says
returns-clause-says c =
    let manifest = view c.args.manifest.now in
    subst (IsLaterForm manifest c.args.to) (sym (members c)) (later_form_is manifest c.args.to c.requires.lawful c.requires.later)
