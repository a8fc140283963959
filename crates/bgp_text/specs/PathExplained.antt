-- What `explain` and `explain --json` print for an UPDATE whose routes have path identifiers (RFC 7911): what `show` prints, and its fields, of which each
-- path identifier is one; notes are at the offsets of the message as it was received.
use Rattle.std.specs.Prelude.{ℕ, List, ◌++◌, map, Option}
use Rattle.bgp_paths.specs.declared.families.PathFamilies.{PathFamilies}
use Rattle.bgp_paths.specs.Prelude.{PathNumbers}
use Rattle.bgp_text.specs.Below.{flat_map, Context, Outcome, Fault, path_fields}
use Rattle.bgp_text.specs.Explained.{short_reset_line}
use Rattle.bgp_text.specs.FieldLines.{faulty_line, noted_lines}
use Rattle.bgp_text.specs.Json.{line_end}
use Rattle.bgp_text.specs.JsonFields.{faulty_field, fields_member, noted_members, span_of}
use Rattle.bgp_text.specs.JsonOutcome.{outcome_members}
use Rattle.bgp_text.specs.JsonPaths.{path_outcome_members}
use Rattle.bgp_text.specs.NoteRow.{notes_received}
use Rattle.bgp_text.specs.PathLines.{path_lines}

-- the lines that `show` prints, except for data of a reset that is left out
abbrev pub path_heading_lines : PathNumbers → (ℕ → ℕ) → ℕ → ℕ → Outcome → List ℕ
path_heading_lines ids received place len (Outcome.Took m notes) = path_lines ids received place len (Outcome.Took m notes)
path_heading_lines ids received place len (Outcome.Withdraw routes notes) = path_lines ids received place len (Outcome.Withdraw routes notes)
path_heading_lines ids received place len (Outcome.Reset n) = short_reset_line place len n

unfoldable pub path_explained_fields : Context → PathFamilies → List ℕ → (ℕ → ℕ) → Option Fault → Outcome → List ℕ
path_explained_fields ctx f message received fault (Outcome.Took m notes) = noted_lines message 0 (notes_received received notes) (path_fields ctx f message)
path_explained_fields ctx f message received fault (Outcome.Withdraw routes notes) = noted_lines message 0 (notes_received received notes) (path_fields ctx f message)
path_explained_fields ctx f message received fault (Outcome.Reset n) = flat_map (faulty_line message fault n) (path_fields ctx f message)

abbrev pub path_explained_lines : Context → PathFamilies → PathNumbers → (ℕ → ℕ) → ℕ → ℕ → List ℕ → Option Fault → Outcome → List ℕ
path_explained_lines ctx f ids received place len message fault o =
    path_heading_lines ids received place len o ++ path_explained_fields ctx f message received fault o

-- ---- as JSON

-- the object that `show --json` prints, and of a reset the octets that cause it
abbrev pub path_heading_members : PathNumbers → (ℕ → ℕ) → ℕ → ℕ → Option Fault → Outcome → List ℕ
path_heading_members ids received place len fault (Outcome.Took m notes) = path_outcome_members ids received place len (Outcome.Took m notes)
path_heading_members ids received place len fault (Outcome.Withdraw routes notes) = path_outcome_members ids received place len (Outcome.Withdraw routes notes)
path_heading_members ids received place len fault (Outcome.Reset n) = outcome_members place len (span_of fault) (Outcome.Reset n)

unfoldable pub path_explained_members : Context → PathFamilies → List ℕ → (ℕ → ℕ) → Option Fault → Outcome → List ℕ
path_explained_members ctx f message received fault (Outcome.Took m notes) = noted_members message (notes_received received notes) (path_fields ctx f message)
path_explained_members ctx f message received fault (Outcome.Withdraw routes notes) = noted_members message (notes_received received notes) (path_fields ctx f message)
path_explained_members ctx f message received fault (Outcome.Reset n) = fields_member message (map (faulty_field fault n.code n.subcode) (path_fields ctx f message))

abbrev pub path_explained_json : Context → PathFamilies → PathNumbers → (ℕ → ℕ) → ℕ → ℕ → List ℕ → Option Fault → Outcome → List ℕ
path_explained_json ctx f ids received place len message fault o =
    path_heading_members ids received place len fault o ++ (path_explained_members ctx f message received fault o ++ line_end)
