-- A manifest without a fault of its form, and what it is in a later version.
use Rattle.std.proofs.Common.{◌≡◌, ℕ, Bool, true, false, List, None, refl, ap, sym, ◌∙◌}
use Rattle.toml.specs.Data.{Data, table}
use Rattle.world.specs.World.{Setup}
use Rattle.manifest_form.specs.Entries.{Plan, plan_of}
use Rattle.manifest_form.specs.Faults.{has_lawful_keys, has_lawful_form, has_lawful_ranges, form_fault, lowest_of}
use Rattle.manifest_form.specs.Names.{has_lawful_numbers, has_lawful_names}
use Rattle.world_calls.specs.declared.trace.Version.{Version}
use Rattle.manifest_form.specs.Migration.{as_later, comes_after}
use Rattle.manifest.specs.Meaning.{IsSetUp, Named, Writes, lowest, lowest_fault}
use Rattle.manifest.specs.Migration.{IsMigrated, PrintsLater}

-- what is known of the parts of the lowest fault, where there is none
record Parts (keys form ranges numbers names : Bool) : Type 0 where
  is_formed : lowest_of keys form ranges ≡ None
  has_numbers : numbers ≡ true
  has_names : names ≡ true

parts : (keys form ranges numbers names : Bool) → lowest keys form ranges numbers names ≡ None → Parts keys form ranges numbers names
parts true true true true true is = record { is_formed = refl; has_numbers = refl; has_names = refl }
parts true true true true false is = absurd cc
parts true true true false names is = absurd cc
parts true true false numbers names is = absurd cc
parts true false ranges numbers names is = absurd cc
parts false form ranges numbers names is = absurd cc

whole : (keys form ranges numbers names : Bool) → lowest_of keys form ranges ≡ None → numbers ≡ true → names ≡ true → lowest keys form ranges numbers names ≡ None
whole true true true numbers names is n m = rw (n, m)
whole true true false numbers names is n m = absurd cc
whole true false ranges numbers names is n m = absurd cc
whole false form ranges numbers names is n m = absurd cc

parts_of : (manifest : Data) → lowest_fault manifest ≡ None
    → Parts (has_lawful_keys manifest) (has_lawful_form manifest) (has_lawful_ranges manifest) (has_lawful_numbers (plan_of manifest)) (has_lawful_names (plan_of manifest))
parts_of manifest is =
    parts (has_lawful_keys manifest) (has_lawful_form manifest) (has_lawful_ranges manifest) (has_lawful_numbers (plan_of manifest)) (has_lawful_names (plan_of manifest)) is

pub form_of : (manifest : Data) → lowest_fault manifest ≡ None → form_fault manifest ≡ None
form_of manifest is = (parts_of manifest is).is_formed

-- neither a version nor a controller is an entry, and none has a name
numbers_kept : (to : Version) (plan : Plan) → has_lawful_numbers (as_later to plan) ≡ has_lawful_numbers plan
unfolding has_lawful_numbers
numbers_kept to plan = refl

names_kept : (to : Version) (plan : Plan) → has_lawful_names (as_later to plan) ≡ has_lawful_names plan
unfolding has_lawful_names
names_kept to plan = refl

pub migrated_is : (to : Version) (old new : List ℕ) (manifest : Data) (plan : Plan) (setup : Setup) (programs : List Named) → Writes old plan → lowest_fault manifest ≡ None → plan ≡ plan_of manifest
    → IsSetUp plan setup programs → comes_after plan.version to ≡ true → PrintsLater manifest to new → IsMigrated to old new
migrated_is to old new manifest plan setup programs written lawful says set_up lower prints =
    let later = prints.later in
    let members = table prints.members in
    let old_parts = parts_of manifest lawful in
    record {
      plan = plan;
      setup = setup;
      programs = programs;
      written = written;
      set_up = set_up;
      lower = lower;
      anew = record {
        document = prints.members;
        parsed = prints.parsed;
        lawful = whole (has_lawful_keys members) (has_lawful_form members) (has_lawful_ranges members) (has_lawful_numbers (plan_of members)) (has_lawful_names (plan_of members)) later.lawful
            (ap has_lawful_numbers later.says ∙ (numbers_kept to (plan_of manifest) ∙ old_parts.has_numbers))
            (ap has_lawful_names later.says ∙ (names_kept to (plan_of manifest) ∙ old_parts.has_names));
        says = ap (as_later to) says ∙ sym later.says;
      };
    }
