-- The names of numbers: the calls' own statuses, the reasons of notes as `bgp show` prints them, and those of IANA's registries.
use Rattle.std.specs.Prelude.{◌==◌, ℕ, List, [], ◌∷◌, Option, None, Some, codes, if◌then◌else◌}
use Rattle.bgp_attr.specs.declared.why.Why.TheVariants as why
use Rattle.bgp_names.specs.Attributes.{attribute_name}
use Rattle.bgp_names.specs.Capabilities.{capability_name}
use Rattle.bgp_names.specs.Errors.{error_name, subcode_name}
use Rattle.bgp_names.specs.Names.{named}
use Rattle.bgp_text.specs.NoteLines.{why_name}
use Rattle.ristulva_c.specs.declared.name.TheConstants.{STATUS, WHY, ATTRIBUTE, CAPABILITY, ERROR, SUBCODE}
use Rattle.ristulva_c.specs.declared.status.TheConstants.{RANGE}
use Rattle.ristulva_c.specs.Text.{Writing, IsLeft, IsWritten}

-- the name of a status
unfoldable pub status_name : ℕ → List ℕ
status_name status = named (
    (0, codes "OK") ∷ (
    (1, codes "no session, decoder or guard") ∷ (
    (2, codes "an allocation failed") ∷ (
    (3, codes "out of range") ∷ (
    (4, codes "an incomplete message") ∷ (
    (5, codes "too little room") ∷ (
    (6, codes "nothing is left") ∷ (
    (7, codes "not accepted") ∷ (
    (8, codes "can't be written") ∷ (
    (9, codes "not in this state") ∷ (
    (10, codes "a configuration that isn't allowed") ∷ (
    (11, codes "the handle is in use") ∷ (
    (12, codes "routes of several kinds") ∷ (
    [])))))))))))))) status

-- the name of the number of a reason
unfoldable pub reason_name : ℕ → List ℕ
reason_name number = named (
    (1, why_name why.Flags) ∷ (
    (2, why_name why.Length) ∷ (
    (3, why_name why.Value) ∷ (
    (4, why_name why.SegmentType) ∷ (
    (5, why_name why.SegmentCount) ∷ (
    (6, why_name why.SegmentEnd) ∷ (
    (7, why_name why.Repeated) ∷ (
    (8, why_name why.External) ∷ (
    (9, why_name why.FourOctet) ∷ (
    (10, why_name why.Family) ∷ (
    (11, why_name why.Unneeded) ∷ (
    (12, why_name why.Emptied) ∷ (
    (13, why_name why.Cut) ∷ (
    (14, why_name why.Missing) ∷ (
    (15, why_name why.AsZero) ∷ (
    [])))))))))))))))) number

-- the name of a number of this kind, or of a subcode of a code: empty where it isn't known here
abbrev pub name_of : ℕ → ℕ → ℕ → Option (List ℕ)
name_of kind number subcode =
    if kind == STATUS then Some (status_name number) else (
    if kind == WHY then Some (reason_name number) else (
    if kind == ATTRIBUTE then Some (attribute_name number) else (
    if kind == CAPABILITY then Some (capability_name number) else (
    if kind == ERROR then Some (error_name number) else (
    if kind == SUBCODE then Some (subcode_name number subcode) else
    None)))))

-- the name is written, or there are no names of this kind
abbrev pub IsNamed : Option (List ℕ) → Writing → Type 0
IsNamed None w = IsLeft RANGE w
IsNamed (Some name) w = IsWritten name w
