-- What `narrow` writes: the messages of a session with 4-octet AS numbers, as sent to a 2-octet speaker (RFC 6793).
use Rattle.std.specs.Prelude.{ℕ, Bool, true, false, not, ◌&&◌, ◌==◌, nat_lt, List, [], length, Option, None, Some, is_none, unwrap_or, Result, Ok, Err, if◌then◌else◌}
use Rattle.bgp_engine.specs.Below.{Agreed, End, Kind, octets_of, Context, narrowed_update, with_as4, Outcome, out_of, canonical, is_valid, is_too_long, plain}
use Rattle.bgp_frame.specs.Frame as frame
use Rattle.bgp_update.specs.declared.update.Update.{Update}
use Rattle.bgp_update.specs.Prelude.{parts_of, written_body}
use Rattle.bgp_msg.specs.declared.message.Message.{Message}
use Rattle.bgp_paths.specs.declared.families.PathFamilies.{PathFamilies}
use Rattle.bgp_paths.specs.Prelude.{FieldNumbers, body_with, fields_in, outcome_with, path_families}
use Rattle.bgp_engine.specs.declared.class.Class.{Class}
use Rattle.bgp_engine.specs.declared.fault.ToolFault.{ToolFault}
use Rattle.bgp_engine.specs.declared.fault.ToolFault.TheVariants.{Narrow}
use Rattle.bgp_engine.specs.declared.tally.Tally.{Tally}
use Rattle.bgp_engine.specs.Identified.{is_identified}
use Rattle.bgp_engine.specs.Rules.{Rules, IsReport}
use Rattle.bgp_engine.specs.Run.{Reports}
use Rattle.bgp_engine.specs.Refreshed.{copied}
use Rattle.bgp_engine.specs.Tally.{no_tally}
use Rattle.bgp_engine.specs.Wide.{wide_rules}

-- the written form, where it can be written
abbrev pub written_in : Context → Message → Option (List ℕ)
written_in ctx m = if is_valid ctx m && not (is_too_long ctx m) then Some (canonical ctx m) else None

-- an UPDATE is narrowed, and every other message is passed on unchanged
abbrev pub narrowed_message : Context → frame.Message → Message → Option (List ℕ)
narrowed_message ctx m (Message.Update u) = written_in (with_as4 false ctx) (Message.Update (narrowed_update u))
narrowed_message ctx m (Message.Open o) = Some (octets_of m)
narrowed_message ctx m (Message.Notification n) = Some (octets_of m)
narrowed_message ctx m Message.Keepalive = Some (octets_of m)

-- only a message that is accepted can be narrowed
abbrev pub narrowed_outcome : Context → frame.Message → Outcome → Option (List ℕ)
narrowed_outcome ctx m (Outcome.Took said notes) = narrowed_message ctx m said
narrowed_outcome ctx m (Outcome.Withdraw routes notes) = None
narrowed_outcome ctx m (Outcome.Reset n) = None

abbrev pub narrowed_class : Option (List ℕ) → Class
narrowed_class None = Class.Reset
narrowed_class (Some octets) = Class.Took

-- the offset where it can't continue, where there is one
abbrev pub narrow_answer : End → Tally → ℕ → Result Tally ToolFault
narrow_answer End.Reset tally place = Err (Narrow place)
narrow_answer End.Head tally place = Err (Narrow place)
narrow_answer (End.Wait n) tally place = if n == 0 then Ok tally else Err (Narrow place)

-- it stops at the first message that can't be narrowed, and at a header's fault
abbrev pub narrow_rules : Context → Rules (Option (List ℕ))
narrow_rules ctx = record {
  types = plain;
  judge = record { of_message = λ m. narrowed_outcome ctx m (out_of ctx m); of_fault = λ _. None; resets = is_none };
  line = λ _ _ _ o. unwrap_or o [];
  refresh = copied;
  class = narrowed_class;
  last = λ _. [];
  rest = λ _. [];
  answer = λ tally place. narrow_answer tally.end tally place;
}

-- ---- an UPDATE whose routes have path identifiers (RFC 7911)

-- an UPDATE with this body, where a message can have it
abbrev pub message_with : List ℕ → Option (List ℕ)
message_with body = if nat_lt 4077 (length body) then None else Some (octets_of (record { kind = Kind.Update; body = body }))

-- it is narrowed without them
abbrev pub narrowed_plain : Context → Update → List ℕ
narrowed_plain ctx u = written_body (with_as4 false ctx) (narrowed_update u)

-- and written with those of its routes, where a message can have it so and without them
abbrev pub narrowed_with : PathFamilies → FieldNumbers → Context → Update → Option (List ℕ)
narrowed_with f ns ctx u = if nat_lt 4077 (length (narrowed_plain ctx u)) then None else message_with (body_with f ns (narrowed_plain ctx u))

abbrev pub narrowed_taken : PathFamilies → FieldNumbers → Context → Message → Option (List ℕ)
narrowed_taken f ns ctx (Message.Update u) = narrowed_with f ns ctx u
narrowed_taken f ns ctx (Message.Open o) = None
narrowed_taken f ns ctx (Message.Notification n) = None
narrowed_taken f ns ctx Message.Keepalive = None

-- only an UPDATE that is accepted
abbrev pub narrowed_by : PathFamilies → FieldNumbers → Context → Outcome → Option (List ℕ)
narrowed_by f ns ctx (Outcome.Took said notes) = narrowed_taken f ns ctx said
narrowed_by f ns ctx (Outcome.Withdraw routes notes) = None
narrowed_by f ns ctx (Outcome.Reset n) = None

abbrev pub narrowed_body : PathFamilies → Context → List ℕ → Option (List ℕ)
narrowed_body f ctx body = narrowed_by f (fields_in f (parts_of body)) ctx (outcome_with ctx f body)

abbrev pub narrowed_at : Bool → PathFamilies → Context → frame.Message → Option (List ℕ)
narrowed_at true f ctx m = narrowed_body f ctx m.body
narrowed_at false f ctx m = narrowed_outcome ctx m (out_of ctx m)

-- the same where routes may have path identifiers
abbrev pub narrow_path_rules : PathFamilies → Context → Rules (Option (List ℕ))
narrow_path_rules f ctx = record (narrow_rules ctx) {
  judge = record { of_message = λ m. narrowed_at (is_identified f m.kind) f ctx m; of_fault = λ _. None; resets = is_none };
}

abbrev pub Narrowed : Context → Reports
Narrowed ctx = IsReport (narrow_rules ctx) 0 no_tally

-- the same where ROUTE-REFRESH, which is passed on unchanged, and path identifiers may be agreed on
abbrev pub NarrowedUnder : Agreed → Reports
NarrowedUnder terms = IsReport (wide_rules terms.refresh (narrow_path_rules (path_families terms) terms.context)) 0 no_tally
