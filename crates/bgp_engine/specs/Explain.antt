-- What `explain` prints, and `explain --json`.
use Rattle.std.specs.Prelude.{ℕ, Bool, true, false, ◌||◌, List, [], Option, None, Ok, Err, if◌then◌else◌}
use Rattle.bgp_engine.specs.Below.{Agreed, Context, End, Fault, Outcome, Refresh, end_json, end_line, explained_json, explained_lines, explained_refresh, explained_refresh_json, plain}
use Rattle.bgp_msg.specs.declared.outcome.Outcome.TheVariants as outcome
use Rattle.bgp_paths.specs.declared.families.PathFamilies.{PathFamilies}
use Rattle.bgp_paths.specs.Prelude.{path_families, plain_body}
use Rattle.bgp_fields.specs.PathPlaces.{path_fault}
use Rattle.bgp_text.specs.PathExplained.{path_explained_json, path_explained_lines}
use Rattle.bgp_engine.specs.Heard.{Heard, fault_in, heard_in}
use Rattle.bgp_engine.specs.Identified.{Showing, body_in, has_paths, heard_by, received_at, shown_body}
use Rattle.bgp_engine.specs.OnlyFaults.{Chosen}
use Rattle.bgp_engine.specs.Refreshed.{Refreshed}
use Rattle.bgp_engine.specs.Rules.{Rules, IsReport}
use Rattle.bgp_engine.specs.Run.{Reports}
use Rattle.bgp_engine.specs.Show.{class_of}
use Rattle.bgp_engine.specs.Tally.{no_tally}
use Rattle.bgp_engine.specs.Wide.{wide_rules}

-- how messages are printed: one in a context, by its offset, length, octets, fault and outcome; an UPDATE whose routes of these families have path
-- identifiers, by its octets and fault; a ROUTE-REFRESH that is accepted, by its offset, length, octets and what it says; and the end
pub record Form : Type 0 where
  pub message : Context → ℕ → ℕ → List ℕ → Option Fault → Outcome → List ℕ
  pub identified : Context → PathFamilies → List ℕ → Option Fault → Showing
  pub refresh : Context → ℕ → ℕ → List ℕ → Refresh → List ℕ
  pub end : End → List ℕ

-- in lines of text: what `show` prints, and a line for each field
abbrev pub in_lines : Form
in_lines = record {
  message = explained_lines;
  identified = λ ctx f octets fault ids received place len o. path_explained_lines ctx f ids received place len octets fault o;
  refresh = explained_refresh;
  end = end_line;
}

-- an object of JSON on a line: what `show --json` prints, with the fields
abbrev pub in_json : Form
in_json = record {
  message = explained_json;
  identified = λ ctx f octets fault ids received place len o. path_explained_json ctx f ids received place len octets fault o;
  refresh = explained_refresh_json;
  end = end_json;
}

-- the text that is printed for a message of this length, with the octets marked for which it is answered by a reset
abbrev pub heard_text : Form → Chosen → Context → ℕ → ℕ → List ℕ → Heard → List ℕ
heard_text form printed ctx place len octets h =
    if printed.outcome h.outcome then form.message ctx place len octets (fault_in ctx octets h.front) h.outcome else []

-- that of a ROUTE-REFRESH, or of the reset by one
abbrev pub refresh_text : Form → Chosen → Context → ℕ → ℕ → List ℕ → Refreshed → List ℕ
refresh_text form printed ctx place len octets (Ok r) = if printed.refresh r then form.refresh ctx place len octets r else []
refresh_text form printed ctx place len octets (Err n) =
    if printed.outcome (outcome.Reset n) then form.message ctx place len octets None (outcome.Reset n) else []

-- that of each message that is printed; and the end
abbrev pub explained_rules : Form → Chosen → Context → Rules Heard
explained_rules form printed ctx = record {
  types = plain;
  judge = heard_in ctx;
  line = heard_text form printed ctx;
  refresh = refresh_text form printed ctx;
  class = λ h. class_of h.outcome;
  last = λ tally. form.end tally.end;
  rest = λ _. [];
  answer = λ tally _. Ok tally;
}

abbrev pub Explained : Form → Chosen → Context → Reports
Explained form printed ctx = IsReport (explained_rules form printed ctx) 0 no_tally

-- ---- where routes may have path identifiers (RFC 7911)

-- what is printed of an UPDATE with this outcome, where it is
abbrev pub where_chosen : Chosen → Showing → Showing
where_chosen printed shown ids received place len o = if printed.outcome o then shown ids received place len o else []

-- why an UPDATE with this outcome is answered by a reset, where it is: by its body, the body without path identifiers, and the offsets as received
abbrev pub fault_between : Context → PathFamilies → List ℕ → List ℕ → (ℕ → ℕ) → Outcome → Option Fault
fault_between ctx f body bare received (Outcome.Reset n) = path_fault ctx f body bare received n.subcode
fault_between ctx f body bare received _ = None

abbrev pub identified_fault : Context → PathFamilies → List ℕ → Outcome → Option Fault
identified_fault ctx f body o = fault_between ctx f body (plain_body f body) (received_at f body) o

-- the text of an UPDATE with these octets and this body
abbrev pub identified_text : Form → Chosen → PathFamilies → Context → ℕ → ℕ → List ℕ → List ℕ → Outcome → List ℕ
identified_text form printed f ctx place len octets body o =
    shown_body (where_chosen printed (form.identified ctx f octets (identified_fault ctx f body o))) f ctx place len body o

abbrev pub explained_for : Bool → Form → Chosen → PathFamilies → Context → ℕ → ℕ → List ℕ → Heard → List ℕ
explained_for true form printed f ctx place len octets h = identified_text form printed f ctx place len octets (body_in h.front) h.outcome
explained_for false form printed f ctx place len octets h = heard_text form printed ctx place len octets h

-- whether any family has path identifiers is asked first
abbrev pub explained_with : Bool → Form → Chosen → PathFamilies → Context → ℕ → ℕ → List ℕ → Heard → List ℕ
explained_with true form printed f ctx place len octets h = explained_for (has_paths f h.front) form printed f ctx place len octets h
explained_with false form printed f ctx place len octets h = heard_text form printed ctx place len octets h

abbrev pub explained_path_rules : Form → Chosen → PathFamilies → Context → Rules Heard
explained_path_rules form printed f ctx = record (explained_rules form printed ctx) {
  judge = heard_by f ctx;
  line = explained_with (f.ip4 || f.ip6) form printed f ctx;
}

-- the same where ROUTE-REFRESH and path identifiers may be agreed on
abbrev pub ExplainedUnder : Form → Chosen → Agreed → Reports
ExplainedUnder form printed terms = IsReport (wide_rules terms.refresh (explained_path_rules form printed (path_families terms) terms.context)) 0 no_tally
