-- The rows of a table, as text.
use Rattle.std.specs.Prelude.{◌+◌, ◌-◌, ◌==◌, ◌&&◌, ◌++◌, ℕ, List, [], ◌∷◌, codes, encode_utf8, if◌then◌else◌, length, nat_lt, replicate}
use Rattle.std.specs.List.{flat_map}
use Rattle.ccb.specs.Status.{code_of}
use Rattle.cli_text_page.specs.Page.{byte_digits, printable}
use Rattle.show_decision.specs.Numbered.{text_at}
use Rattle.show_decision.specs.declared.rows.Row.{Row}
use Rattle.show_decision.specs.declared.writing.Heading.{Heading}
use Rattle.show_decision.specs.declared.writing.TheConstants.{WIDTH}

-- the digit of a sense key, of base 16
abbrev pub key_text : ℕ → List ℕ
key_text key = encode_utf8 (printable (if nat_lt key 10 then key + 48 else key + 87))

-- what all rows of a key begin with: the status, the SCSI status, the response code and the key
abbrev pub heading_text : Heading → List ℕ
heading_text it =
    codes "status " ++ (byte_digits (code_of it.status) ++ (codes " scsi " ++ (byte_digits it.scsi ++ (codes " code " ++ (byte_digits it.response ++ (codes " key " ++ key_text it.key))))))

-- what stands after an ASC: nothing for all of its ASCQ, else the one, or the first and the last one
abbrev pub last_text : (first last : ℕ) → List ℕ
last_text first last = if first == last then [] else codes "-" ++ byte_digits last

abbrev pub ascq_text : (first last : ℕ) → List ℕ
ascq_text first last = if first == 0 && last == 255 then [] else codes "/" ++ (byte_digits first ++ last_text first last)

abbrev pub range_text : Row → List ℕ
range_text row = codes " asc " ++ (byte_digits row.asc ++ ascq_text row.first row.last)

-- a row: of what it is, blanks up to the place of decisions, and what was decided
abbrev pub row_text : (of decision : List ℕ) → List ℕ
row_text of decision = of ++ (replicate (WIDTH - length of) 32 ++ (decision ++ 10 ∷ []))

abbrev pub usual_text : Heading → List (List ℕ) → (usual : ℕ) → List ℕ
usual_text heading texts usual = row_text (heading_text heading) (text_at texts usual)

abbrev pub line_text : Heading → List (List ℕ) → Row → List ℕ
line_text heading texts row = row_text (heading_text heading ++ range_text row) (text_at texts row.decision)

-- all rows of a key
abbrev pub key_rows_text : Heading → List (List ℕ) → (usual : ℕ) → List Row → List ℕ
key_rows_text heading texts usual rows = usual_text heading texts usual ++ flat_map (line_text heading texts) rows
