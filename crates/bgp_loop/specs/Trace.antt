-- What is written of a run, move by move.
use Rattle.std.specs.Prelude.{ℕ, ◌+◌, ◌==◌, min, false, List, [], ◌∷◌, ◌++◌, length, Option, None, Some, Result, Ok, Err, codes, if◌then◌else◌}
use Rattle.bgp_frame.specs.declared.fault.HeadFault.{HeadFault}
use Rattle.bgp_frame.specs.Prelude.{Message, wanted, content}
use Rattle.bgp_open.specs.declared.context.Context.{Context}
use Rattle.bgp_machine.specs.declared.event.Event.{Event}
use Rattle.bgp_machine.specs.declared.event.Event.TheVariants.{Connected}
use Rattle.bgp_msg.specs.Prelude.{out_of, of_fault}
use Rattle.bgp_text.specs.Outcome.{outcome_lines}
use Rattle.bgp_session.specs.declared.report.Report.{Report}
use Rattle.bgp_session.specs.declared.side.Side.{Side}
use Rattle.bgp_session.specs.declared.side.Side.TheVariants.{A, B}
use Rattle.bgp_session.specs.Prelude.{sights_behind, Sight, Begun, Told, Came, Heard, Tried, Ended, observed}
use Rattle.bgp_script.specs.declared.script.Script.{Script}
use Rattle.bgp_script.specs.NoteList.{side_name}
use Rattle.bgp_script.specs.TraceText.{move_line, step_line, event_words, heard_words, tried_words, cut_line}

-- ---- what a side received

-- the offset, in this direction of this connection, of the message that arrives, and its octets so far
pub record Coming : Type 0 where
  pub place : ℕ
  pub octets : List ℕ

abbrev pub nothing_came : Coming
nothing_came = record { place = 0; octets = [] }

abbrev pub with_octets : Coming → List ℕ → Coming
with_octets c octets = record { place = c.place; octets = c.octets ++ octets }

-- the message was received, and another follows it: the offset saturates
abbrev pub behind_message : Coming → Coming
behind_message c = record { place = min (c.place + length c.octets) 18446744073709551615; octets = [] }

-- ---- a message

-- the message in octets, or the fault of their header, where they are exactly that
abbrev pub whole_of : List ℕ → Option (Result Message HeadFault)
whole_of b = if length b == wanted b then Some (content b) else None

-- the lines of a message as `show` prints them, after the name of the side that received it
abbrev pub message_lines : Side → Context → ℕ → ℕ → Message → List ℕ
message_lines side ctx place len m = side_name side ++ (codes " " ++ outcome_lines place len (out_of ctx m))

abbrev pub fault_lines : Side → ℕ → HeadFault → List ℕ
fault_lines side place fault = side_name side ++ (codes " " ++ outcome_lines place 0 (of_fault fault))

abbrev pub lines_of : Side → Context → Coming → Option (Result Message HeadFault) → List ℕ
lines_of side ctx c None = []
lines_of side ctx c (Some (Ok m)) = message_lines side ctx c.place (length c.octets) m
lines_of side ctx c (Some (Err fault)) = fault_lines side c.place fault

abbrev pub heard_lines : Side → Context → Coming → List ℕ
heard_lines side ctx c = lines_of side ctx c (whole_of c.octets)

-- before both agreed on anything, a message is judged as by `show` without flags
abbrev pub context_or_none : Option Context → Context
context_or_none None = record { internal = false; as4 = false; ip4 = false; ip6 = false; hold = 0 }
context_or_none (Some ctx) = ctx

-- ---- a run

-- what is written so far, and what each side received
pub record Traced : Type 0 where
  pub text : List ℕ
  pub a : Coming
  pub b : Coming

abbrev pub nothing_traced : Traced
nothing_traced = record { text = []; a = nothing_came; b = nothing_came }

abbrev pub adds : Traced → List ℕ → Traced
adds t text = record { text = t.text ++ text; a = t.a; b = t.b }

abbrev pub coming_to : Side → Traced → Coming
coming_to A t = t.a
coming_to B t = t.b

abbrev pub with_coming : Side → Traced → Coming → Traced
with_coming A t c = record { text = t.text; a = c; b = t.b }
with_coming B t c = record { text = t.text; a = t.a; b = c }

-- offsets are counted from the start of the connection
abbrev pub begins_at : Event → Side → Traced → Traced
begins_at Connected side t = with_coming side t nothing_came
begins_at _ side t = t

abbrev pub message_heard : Side → Context → Traced → Traced
message_heard side ctx t = with_coming side (adds t (heard_lines side ctx (coming_to side t))) (behind_message (coming_to side t))

-- what is written of one report to an observer: octets are kept until a message is received
abbrev pub traced : Traced → Sight → Traced
traced t (Begun one) = adds t (move_line one)
traced t (Told side event state actions) = adds (begins_at event side t) (step_line side (event_words event) state actions)
traced t (Came side octet) = with_coming side t (with_octets (coming_to side t) (octet ∷ []))
traced t (Heard side ctx state actions) = adds (message_heard side (context_or_none ctx) t) (step_line side heard_words state actions)
traced t (Tried side fault state actions) = adds t (step_line side (tried_words fault) state actions)
traced t Ended = adds t cut_line

-- what is written of the moves of a script, where a wire gives the answers of this report
abbrev pub trace_text : Script → Report → List ℕ
trace_text script report = (observed traced nothing_traced (sights_behind script.a script.b script.moves report.answers)).text
