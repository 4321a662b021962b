-- The tests of names, over the code's entries.
use Rattle.std.proofs.Common.{◌≡◌, ℕ, Bool, ◌&&◌, ◌==◌, List, [], ◌∷◌, map, Option, refl, ap, ◌∙◌, bytes_eq, count_by, fold, cond, ◌+◌, sym}
use Rattle.std.specs.List.{list_all, list_any}
use Rattle.manifest_form.specs.declared.entries.QueueEntry.{QueueEntry}
use Rattle.manifest_form.specs.declared.entries.ProgramEntry.{ProgramEntry}
use Rattle.world_calls.specs.declared.trace.Version.{Version}
use Rattle.manifest_form.specs.Document.{is_among}
use Rattle.manifest_form.specs.Entries.{QueueLine, ProgramLine, TableLine}
use Rattle.manifest_form.specs.Names.{has_lawful_names, is_name, is_alone}
use Rattle.manifest_form.specs.Seen.{queue_seen, program_seen, are_lawful, are_known}
use Rattle.manifest_form.proofs.Lists.{list_all-map, list_any-map, list_all_same}

count_map_from : {X Y : Type 0} (test : Y → Bool) (f : X → Y) (start : ℕ) (xs : List X) → fold (λ n y. n + cond (test y) 1 0) start (map f xs) ≡ fold (λ n x. n + cond (test (f x)) 1 0) start xs
count_map_from test f start [] = refl
count_map_from test f start (x ∷ xs) = count_map_from test f (start + cond (test (f x)) 1 0) xs

count_by-map : {X Y : Type 0} (test : Y → Bool) (f : X → Y) (xs : List X) → count_by test (map f xs) ≡ count_by (λ x. test (f x)) xs
count_by-map test f xs = count_map_from test f 0 xs

abbrev name : ProgramLine → List ℕ
name program = program.name

all_named : (test : List ℕ → Bool) (programs : List ProgramEntry) → list_all test (map name (map program_seen programs)) ≡ list_all (λ program. test program.name.now) programs
all_named test programs = list_all-map test name (map program_seen programs) ∙ list_all-map (λ program. test (name program)) program_seen programs

any_named : (test : List ℕ → Bool) (programs : List ProgramEntry) → list_any test (map name (map program_seen programs)) ≡ list_any (λ program. test program.name.now) programs
any_named test programs = list_any-map test name (map program_seen programs) ∙ list_any-map (λ program. test (name program)) program_seen programs

counted_named : (test : List ℕ → Bool) (programs : List ProgramEntry) → count_by test (map name (map program_seen programs)) ≡ count_by (λ program. test program.name.now) programs
counted_named test programs = count_by-map test name (map program_seen programs) ∙ count_by-map (λ program. test (name program)) program_seen programs

pub names_lawful : (version : Version) (controllers : Option ℕ) (queues : List QueueEntry) (tables : List TableLine) (programs : List ProgramEntry) →
    has_lawful_names (record { version = version; controllers = controllers; queues = map queue_seen queues; tables = tables; programs = map program_seen programs })
    ≡ (are_lawful programs && are_known queues programs)
unfolding has_lawful_names
names_lawful version controllers queues tables programs =
    let names = map name (map program_seen programs) in
    let formed = all_named is_name programs in
    let alone = all_named (is_alone names) programs
    ∙ list_all_same _ _ (λ (program : ProgramEntry). ap (λ (count : ℕ). count == 1) (counted_named (λ other. bytes_eq other program.name.now) programs)) programs in
    let known = list_all-map (λ (queue : QueueLine). is_among names queue.program) queue_seen queues
    ∙ list_all_same _ _ (λ (queue : QueueEntry). any_named (λ other. bytes_eq other queue.program.now) programs) queues in
    λ i. formed i && alone i && known i

pub names_told : (version : Version) (controllers : Option ℕ) (queues listed : List QueueEntry) (tables : List TableLine) (programs those : List ProgramEntry) (lawful known : Bool) → those ≡ programs → listed ≡ queues
    → lawful ≡ are_lawful those → known ≡ are_known listed those
    → (lawful && known) ≡ has_lawful_names (record { version = version; controllers = controllers; queues = map queue_seen queues; tables = tables; programs = map program_seen programs })
names_told version controllers queues listed tables programs those lawful known a b c d = rw (c, d, a, b) (sym (names_lawful version controllers queues tables programs))
