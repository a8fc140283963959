-- Messages whose routes may have path identifiers (RFC 7911): an UPDATE is judged without them, and printed with them beside its routes.
use Rattle.std.specs.Prelude.{ℕ, Bool, true, false, ◌&&◌, ◌||◌, List, [], Option, None, Some, Result, Ok, Err, if◌then◌else◌}
use Rattle.bgp_engine.specs.Below.{Agreed, Context, HeadFault, Kind, Message, Outcome, Span, StreamRules, is_reset, of_fault, out_of}
use Rattle.bgp_update.specs.Prelude.{parts_of}
use Rattle.bgp_paths.specs.declared.families.PathFamilies.{PathFamilies}
use Rattle.bgp_paths.specs.Prelude.{PathNumbers, numbers_in, outcome_with, path_families, place_between, plain_body}
use Rattle.bgp_engine.specs.Heard.{Heard, place_in}
use Rattle.bgp_engine.specs.OnlyFaults.{is_fault}

-- routes of no family have path identifiers
abbrev pub no_paths : PathFamilies
no_paths = record { ip4 = false; ip6 = false }

-- those that were agreed on, or else these
abbrev pub families_or : PathFamilies → Option Agreed → PathFamilies
families_or families None = families
families_or families (Some terms) = path_families terms

abbrev pub is_update : Kind → Bool
is_update Kind.Open = false
is_update Kind.Update = true
is_update Kind.Notification = false
is_update Kind.Keepalive = false

-- some routes have path identifiers, and this is an UPDATE
abbrev pub is_identified : PathFamilies → Kind → Bool
is_identified f kind = (f.ip4 || f.ip6) && is_update kind

abbrev pub outcome_at : Bool → PathFamilies → Context → Message → Outcome
outcome_at true f ctx m = outcome_with ctx f m.body
outcome_at false f ctx m = out_of ctx m

-- the outcome of a message
abbrev pub outcome_in : PathFamilies → Context → Message → Outcome
outcome_in f ctx m = outcome_at (is_identified f m.kind) f ctx m

abbrev pub heard_by : PathFamilies → Context → StreamRules Heard
heard_by f ctx = record {
  of_message = λ m. record { front = Ok m; outcome = outcome_in f ctx m };
  of_fault = λ fault. record { front = Err fault; outcome = of_fault fault };
  resets = λ h. is_reset h.outcome;
}

abbrev pub judged_by : PathFamilies → Context → StreamRules Outcome
judged_by f ctx = record { of_message = outcome_in f ctx; of_fault = of_fault; resets = is_reset }

-- how the outcome of an UPDATE is printed, by the path identifiers of its routes, the offset in its body of an attribute at an offset of the body without
-- them, and its own offset and length
abbrev pub Showing : Type 0
Showing = PathNumbers → (ℕ → ℕ) → ℕ → ℕ → Outcome → List ℕ

-- where it isn't accepted without a note
abbrev pub where_faulty : Showing → Showing
where_faulty shown ids received place len o = if is_fault o then shown ids received place len o else []

-- the offset as received of an attribute of the body without path identifiers
abbrev pub received_at : PathFamilies → List ℕ → ℕ → ℕ
received_at f body at = place_between (parts_of (plain_body f body)) (parts_of body) at

-- an attribute with IPv4 routes is discarded where these aren't in use in attributes, and its path identifiers with it
abbrev pub used_numbers : Bool → PathNumbers → PathNumbers
used_numbers true ids = ids
used_numbers false ids = record ids { unreached4 = []; reached4 = [] }

abbrev pub shown_body : Showing → PathFamilies → Context → ℕ → ℕ → List ℕ → Outcome → List ℕ
shown_body shown f ctx place len body o = shown (used_numbers ctx.ip4 (numbers_in f (parts_of body))) (received_at f body) place len o

-- whether what is printed is such an UPDATE, or else a header with a fault, or another message
abbrev pub has_paths : PathFamilies → Result Message HeadFault → Bool
has_paths f (Ok m) = is_identified f m.kind
has_paths f (Err fault) = false

abbrev pub body_in : Result Message HeadFault → List ℕ
body_in (Ok m) = m.body
body_in (Err fault) = []

module _ (shown : ℕ → ℕ → Option Span → Outcome → List ℕ) (with_paths : Showing) where
  abbrev pub line_for : Bool → PathFamilies → Context → ℕ → ℕ → List ℕ → Heard → List ℕ
  line_for true f ctx place len octets h = shown_body with_paths f ctx place len (body_in h.front) h.outcome
  line_for false f ctx place len octets h = shown place len (place_in ctx octets h.front) h.outcome

  -- whether any family has path identifiers is asked first
  abbrev pub line_with : Bool → PathFamilies → Context → ℕ → ℕ → List ℕ → Heard → List ℕ
  line_with true f ctx place len octets h = line_for (has_paths f h.front) f ctx place len octets h
  line_with false f ctx place len octets h = shown place len (place_in ctx octets h.front) h.outcome

  -- the text of each outcome
  abbrev pub line_by : PathFamilies → Context → ℕ → ℕ → List ℕ → Heard → List ℕ
  line_by f ctx = line_with (f.ip4 || f.ip6) f ctx
