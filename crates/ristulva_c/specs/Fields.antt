-- The fields of a message in numbers.
use Rattle.std.specs.Prelude.{◌≡◌, ◌≤◌, ℕ, List, length, map, take, nat_le, Option, None, Some, if◌then◌else◌}
use Rattle.bgp_frame.specs.Step.{Step}
use Rattle.bgp_frame.specs.Prelude.{ShowsFront}
use Rattle.bgp_frame.specs.declared.step.Step.TheVariants as step
use Rattle.bgp_open.specs.declared.context.Context.{Context}
use Rattle.bgp_fields.specs.declared.field.Field.{Field}
use Rattle.bgp_fields.specs.declared.field.Group.{Group}
use Rattle.bgp_fields.specs.Prelude.{fields_of}
use Rattle.ristulva_c.specs.declared.fields.ToldField.{ToldField}
use Rattle.ristulva_c.specs.declared.status.TheConstants.{INCOMPLETE, OK, ROOM}
use Rattle.ristulva_c.specs.Copied.{copied}
use Rattle.ristulva_c.specs.FieldKinds.{number_of_kind}

-- where the attribute, the parameter or the capability of a field begins, 0 for none, and its type or code
abbrev pub group_at : Option Group → ℕ
group_at None = 0
group_at (Some g) = g.at

abbrev pub group_code : Option Group → ℕ
group_code None = 0
group_code (Some g) = g.code

-- a field as reported
abbrev pub field_told : Field → ToldField
field_told f = record { at = f.at; len = f.len; group = group_at f.group; kind = number_of_kind f.kind; code = group_code f.group }

-- the fields of a whole message, or of the header with a fault, in a context
abbrev pub fields_told : Context → List ℕ → List ToldField
fields_told ctx octets = map field_told (fields_of ctx octets)

-- what a call has: its status, and the caller's memory before and after it
pub record Filling : Type 0 where
  pub status : ℕ
  pub before : List ToldField
  pub behind : List ToldField
  pub written_before : ℕ
  pub written_behind : ℕ

-- nothing is changed
pub record IsLeft (answer : ℕ) (w : Filling) : Type 0 where
  pub status : w.status ≡ answer
  pub list : w.behind ≡ w.before
  pub written : w.written_behind ≡ w.written_before

-- these fields are the list's first elements, where it has room for all of them: else nothing is changed. A message has at most as many as octets
pub record IsFilled (fields : List ToldField) (w : Filling) : Type 0 where
  pub status : w.status ≡ (if nat_le (length fields) (length w.before) then OK else ROOM)
  pub list : w.behind ≡ copied fields w.before
  pub written : w.written_behind ≡ (if nat_le (length fields) (length w.before) then length fields else w.written_before)
  pub few : length fields ≤ 4096

-- by what the octets begin with: less than a message; a message; or a header with a fault, whose fields are those of its 19 octets
abbrev pub Fills : Context → List ℕ → Step → Filling → Type 0
Fills ctx octets step.More w = IsLeft INCOMPLETE w
Fills ctx octets (step.Frame f) w = IsFilled (fields_told ctx (take f.len octets)) w
Fills ctx octets (step.Fault fault) w = IsFilled (fields_told ctx (take 19 octets)) w

pub record AreFields (ctx : Context) (octets : List ℕ) (w : Filling) : Type 0 where
  pub found : Step
  pub shows : ShowsFront octets found
  pub fills : Fills ctx octets found w
