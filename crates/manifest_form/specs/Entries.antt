-- What the entries of a manifest say: its controllers, its queues, its tables and its programs, each as it is written.
use Rattle.std.specs.Prelude.{ℕ, ℤ, pos, negsuc, Bool, true, false, ◌&&◌, ◌==◌, nat_le, nat_lt, List, [], Option, Some, None, is_some, unwrap_or, codes, length, map, filter_map, if◌then◌else◌}
use Rattle.std.specs.List.{list_all}
use Rattle.toml.specs.Data.{Data, Items, as_integer, get}
use Rattle.world_calls.specs.declared.trace.Version.{Version}
use Rattle.world_calls.specs.declared.trace.Version.TheVariants.{One, Three, Two}
use Rattle.manifest_form.specs.Document.{array_at, elements, elements_at, integer_at, text_at}
use Rattle.manifest_form.specs.Code.{bytes_in}

-- how a program is written: as the bytes that pairs of digits spell, or as text for the assembler
pub data Source : Type 0 where
  code : List ℕ → Source
  asm : List ℕ → Source

-- a queue: its openings, its controller, which is 0 where there are none, and the name of its program
pub record QueueLine : Type 0 where
  pub openings : ℕ
  pub controller : ℕ
  pub program : List ℕ

pub record ProgramLine : Type 0 where
  pub name : List ℕ
  pub source : Source

-- a table: how many words it has, and its first ones, as many as are written
pub record TableLine : Type 0 where
  pub size : ℕ
  pub words : List ℕ

-- a manifest: its version, how many controllers there are, if it is of a version that has them, its queues, its tables, and its programs
pub record Plan : Type 0 where
  pub version : Version
  pub controllers : Option ℕ
  pub queues : List QueueLine
  pub tables : List TableLine
  pub programs : List ProgramLine

-- a number from 1 to this
abbrev pub up_to : ℕ → Option ℤ → Option ℕ
up_to most None = None
up_to most (Some (pos n)) = if nat_le 1 n && nat_le n most then Some n else None
up_to most (Some (negsuc n)) = None

-- a number below this
abbrev pub below : ℕ → Option ℤ → Option ℕ
below bound None = None
below bound (Some (pos n)) = if nat_lt n bound then Some n else None
below bound (Some (negsuc n)) = None

abbrev pub is_integer : ℕ → Option ℤ → Bool
is_integer number (Some (pos n)) = n == number
is_integer number _ = false

-- whether the manifest is of version 1, by the integer 1 alone, or of version 2, likewise; else it is judged as one of version 3
unfoldable pub is_first : Data → Bool
is_first manifest = is_integer 1 (integer_at (codes "version") manifest)

abbrev pub is_second : Data → Bool
is_second manifest = is_integer 2 (integer_at (codes "version") manifest)

abbrev pub version_by : Bool → Bool → Version
version_by true second = One
version_by false true = Two
version_by false false = Three

unfoldable pub version_of : Data → Version
version_of manifest = version_by (is_first manifest) (is_second manifest)

-- tables may have first words
abbrev pub has_words : Version → Bool
has_words One = false
has_words Two = false
has_words Three = true

abbrev pub number_of_controllers : Data → Option ℕ
number_of_controllers manifest = up_to 8 (integer_at (codes "controllers") manifest)

-- how many controllers there are: no number in version 1, and 0 where it is out of its range
unfoldable pub controllers_of : Data → Option ℕ
controllers_of manifest = if is_first manifest then None else Some (unwrap_or (number_of_controllers manifest) 0)

abbrev pub openings_at : Data → Option ℕ
openings_at queue = up_to 255 (integer_at (codes "openings") queue)

-- the number under `controller`, and how many there are of which it is to be one; where there are none each queue is under
-- number 0
abbrev pub controller_written : Option ℕ → Data → Option ℤ
controller_written None queue = Some (pos 0)
controller_written (Some controllers) queue = integer_at (codes "controller") queue

abbrev pub controller_at : Option ℕ → Data → Option ℕ
controller_at controllers queue = below (unwrap_or controllers 1) (controller_written controllers queue)

abbrev pub queue_by : Option ℕ → Option ℕ → Option (List ℕ) → Option QueueLine
queue_by (Some openings) (Some controller) (Some program) = Some (record { openings = openings; controller = controller; program = program })
queue_by _ _ _ = None

abbrev pub queue_of : Option ℕ → Data → Option QueueLine
queue_of controllers queue = queue_by (openings_at queue) (controller_at controllers queue) (text_at (codes "program") queue)

abbrev pub length_of : Data → Option ℕ
length_of entry = up_to 4096 (integer_at (codes "length") entry)

-- a number that is not negative
abbrev pub word_in : Option ℤ → Option ℕ
word_in None = None
word_in (Some (pos n)) = Some n
word_in (Some (negsuc n)) = None

abbrev pub is_word : Data → Bool
is_word value = is_some (word_in (as_integer value))

abbrev pub word_at : Data → ℕ
word_at value = unwrap_or (word_in (as_integer value)) 0

-- the words of a list, if each is one
abbrev pub words_in : List Data → Option (List ℕ)
words_in values = if list_all is_word values then Some (map word_at values) else None

abbrev pub words_of : Option Items → Option (List ℕ)
words_of None = None
words_of (Some items) = words_in (elements items)

-- the first words of a table: none where none are written
abbrev pub words_by : Bool → Option Items → Option (List ℕ)
words_by false items = Some []
words_by true items = words_of items

abbrev pub are_written : Version → Data → Bool
are_written version entry = has_words version && is_some (get (codes "words") entry)

abbrev pub words_written : Version → Data → Option (List ℕ)
words_written version entry = words_by (are_written version entry) (array_at (codes "words") entry)

-- no more words than the table has
abbrev pub table_by : Option ℕ → Option (List ℕ) → Option TableLine
table_by None words = None
table_by (Some size) None = None
table_by (Some size) (Some words) = if nat_le (length words) size then Some (record { size = size; words = words }) else None

abbrev pub table_of : Version → Data → Option TableLine
table_of version entry = table_by (length_of entry) (words_written version entry)

-- by what stands under `asm`, and under `code`
abbrev pub source_by : Option (List ℕ) → Option (List ℕ) → Option Source
source_by (Some text) digits = Some (asm text)
source_by None (Some digits) = elim (bytes_in digits) [ None ↦ None | Some bytes ↦ Some (code bytes) ]
source_by None None = None

unfoldable pub source_of : Data → Option Source
source_of program = source_by (text_at (codes "asm") program) (text_at (codes "code") program)

abbrev pub program_by : Option (List ℕ) → Option Source → Option ProgramLine
program_by None source = None
program_by (Some name) None = None
program_by (Some name) (Some source) = Some (record { name = name; source = source })

abbrev pub program_of : Data → Option ProgramLine
program_of program = program_by (text_at (codes "name") program) (source_of program)

-- what a manifest says that is of the form
abbrev pub plan_of : Data → Plan
plan_of manifest = record {
  version = version_of manifest;
  controllers = controllers_of manifest;
  queues = filter_map (queue_of (controllers_of manifest)) (elements_at (codes "queue") manifest);
  tables = filter_map (table_of (version_of manifest)) (elements_at (codes "table") manifest);
  programs = filter_map program_of (elements_at (codes "program") manifest);
}
