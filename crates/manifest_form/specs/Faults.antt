-- The faults of a manifest's form, and which of them is answered.
use Rattle.std.specs.Prelude.{ℕ, Bool, true, false, ◌&&◌, ◌||◌, not, List, [], ◌∷◌, Option, Some, None, is_some, codes, if◌then◌else◌}
use Rattle.std.specs.List.{list_all}
use Rattle.toml.specs.Data.{Data, Items, as_integer, get}
use Rattle.manifest_form.specs.declared.form_fault.FormFault.{FormFault}
use Rattle.manifest_form.specs.declared.form_fault.FormFault.TheVariants.{Key, Form, Range}
use Rattle.world_calls.specs.declared.trace.Version.{Version}
use Rattle.manifest_form.specs.Document.{array_at, elements, elements_at, integer_at, text_at, has_keys}
use Rattle.manifest_form.specs.Entries.{are_written, has_words, is_first, is_integer, is_second, controllers_of, number_of_controllers, controller_written, controller_at, openings_at, source_of, table_of, version_of}

-- M2: every key that is needed is there, and no other.
abbrev pub queue_has_keys : Option ℕ → Data → Bool
queue_has_keys None = has_keys (codes "openings" ∷ codes "program" ∷ []) []
queue_has_keys (Some controllers) = has_keys (codes "openings" ∷ codes "controller" ∷ codes "program" ∷ []) []

-- a table may have first words in the version that has them
abbrev pub keys_of_words : Bool → List (List ℕ)
keys_of_words true = codes "words" ∷ []
keys_of_words false = []

abbrev pub table_has_keys : Version → Data → Bool
table_has_keys version = has_keys (codes "length" ∷ []) (keys_of_words (has_words version))

-- a name, and either `code` or `asm`
abbrev pub program_has_keys : Data → Bool
program_has_keys program =
    has_keys (codes "name" ∷ codes "code" ∷ []) [] program || has_keys (codes "name" ∷ codes "asm" ∷ []) [] program

abbrev pub document_has_keys : Data → Bool
document_has_keys manifest =
    if is_first manifest then has_keys (codes "version" ∷ codes "queue" ∷ codes "program" ∷ []) (codes "table" ∷ []) manifest
    else has_keys (codes "version" ∷ codes "controllers" ∷ codes "queue" ∷ codes "program" ∷ []) (codes "table" ∷ []) manifest

abbrev pub has_lawful_keys : Data → Bool
has_lawful_keys manifest =
    document_has_keys manifest
    && list_all (queue_has_keys (controllers_of manifest)) (elements_at (codes "queue") manifest)
    && list_all (table_has_keys (version_of manifest)) (elements_at (codes "table") manifest)
    && list_all program_has_keys (elements_at (codes "program") manifest)

-- M3: every value is of its type and form.
abbrev pub queue_has_form : Option ℕ → Data → Bool
queue_has_form controllers queue =
    is_some (integer_at (codes "openings") queue)
    && is_some (controller_written controllers queue)
    && is_some (text_at (codes "program") queue)

-- first words are integers
abbrev pub are_integers : Option Items → Bool
are_integers None = false
are_integers (Some items) = list_all (λ value. is_some (as_integer value)) (elements items)

abbrev pub words_have_form : Version → Data → Bool
words_have_form version entry = not (are_written version entry) || are_integers (array_at (codes "words") entry)

abbrev pub table_has_form : Version → Data → Bool
table_has_form version entry = is_some (integer_at (codes "length") entry) && words_have_form version entry

abbrev pub program_has_form : Data → Bool
program_has_form program = is_some (text_at (codes "name") program) && is_some (source_of program)

-- `queue` and `program` are arrays, and so is `table` where it stands
abbrev pub has_arrays : Data → Bool
has_arrays manifest =
    is_some (array_at (codes "queue") manifest)
    && is_some (array_at (codes "program") manifest)
    && (not (is_some (get (codes "table") manifest)) || is_some (array_at (codes "table") manifest))

abbrev pub document_has_form : Data → Bool
document_has_form manifest =
    has_arrays manifest
    && is_some (integer_at (codes "version") manifest)
    && (is_first manifest || is_some (integer_at (codes "controllers") manifest))

abbrev pub has_lawful_form : Data → Bool
has_lawful_form manifest =
    document_has_form manifest
    && list_all (queue_has_form (controllers_of manifest)) (elements_at (codes "queue") manifest)
    && list_all (table_has_form (version_of manifest)) (elements_at (codes "table") manifest)
    && list_all program_has_form (elements_at (codes "program") manifest)

-- M4: the version is 1, or it is 2 or 3 and there are 1 to 8 controllers, and every number is in its range.
abbrev pub is_later : Data → Bool
is_later manifest = is_second manifest || is_integer 3 (integer_at (codes "version") manifest)

abbrev pub document_has_ranges : Data → Bool
document_has_ranges manifest = is_first manifest || (is_later manifest && is_some (number_of_controllers manifest))

abbrev pub queue_has_ranges : Option ℕ → Data → Bool
queue_has_ranges controllers queue = is_some (openings_at queue) && is_some (controller_at controllers queue)

-- a table has 1 to 4096 words, and no more first words than that, of which none is negative
abbrev pub table_has_ranges : Version → Data → Bool
table_has_ranges version entry = is_some (table_of version entry)

abbrev pub has_lawful_ranges : Data → Bool
has_lawful_ranges manifest =
    document_has_ranges manifest
    && list_all (queue_has_ranges (controllers_of manifest)) (elements_at (codes "queue") manifest)
    && list_all (table_has_ranges (version_of manifest)) (elements_at (codes "table") manifest)

-- the lowest of M2 to M4, by whether keys, form and ranges are lawful
abbrev pub lowest_of : Bool → Bool → Bool → Option FormFault
lowest_of false form ranges = Some Key
lowest_of true false ranges = Some Form
lowest_of true true false = Some Range
lowest_of true true true = None

-- the lower of two
abbrev pub lower : Option FormFault → Option FormFault → Option FormFault
lower None other = other
lower (Some Key) other = Some Key
lower (Some Form) (Some Key) = Some Key
lower (Some Form) _ = Some Form
lower (Some Range) None = Some Range
lower (Some Range) other = other

abbrev pub document_fault : Data → Option FormFault
document_fault manifest = lowest_of (document_has_keys manifest) (document_has_form manifest) (document_has_ranges manifest)

abbrev pub queue_fault : Option ℕ → Data → Option FormFault
queue_fault controllers queue = lowest_of (queue_has_keys controllers queue) (queue_has_form controllers queue) (queue_has_ranges controllers queue)

abbrev pub table_fault : Version → Data → Option FormFault
table_fault version entry = lowest_of (table_has_keys version entry) (table_has_form version entry) (table_has_ranges version entry)

abbrev pub program_fault : Data → Option FormFault
program_fault program = lowest_of (program_has_keys program) (program_has_form program) true

-- the lowest of all elements
abbrev pub lowest_among : (Data → Option FormFault) → List Data → Option FormFault
lowest_among fault [] = None
lowest_among fault (value ∷ rest) = lower (fault value) (lowest_among fault rest)

abbrev pub form_fault : Data → Option FormFault
form_fault manifest = lowest_of (has_lawful_keys manifest) (has_lawful_form manifest) (has_lawful_ranges manifest)
