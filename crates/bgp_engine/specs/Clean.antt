-- What `clean` writes: the messages of a stream as they are passed on, up to the first of which nothing is (RFC 7606).
use Rattle.std.specs.Prelude.{◌⊎◌, ℕ, Bool, true, false, ◌==◌, List, [], Option, None, Some, option_map, is_err, Result, Ok, Err, if◌then◌else◌}
use Rattle.bgp_engine.specs.Below.{result_ok}
use Rattle.bgp_frame.specs.declared.kind.WideKind.{WideKind}
use Rattle.bgp_engine.specs.Below.{Agreed, End, Refreshes, HeadFault, Kind, head_notification, Context, CleanFault, plain}
use Rattle.bgp_frame.specs.Frame as frame
use Rattle.bgp_msg.specs.declared.message.Message.{Message}
use Rattle.bgp_clean.specs.declared.limits.Limits.{Limits}
use Rattle.bgp_terms.specs.declared.refreshes.Refreshes.TheVariants as refreshes
use Rattle.bgp_terms.specs.Prelude.{plain_terms}
use Rattle.bgp_clean.specs.Prelude.{cleaned, cleaned_with, handed_refresh, octets_handed, octets_handed_in, refuses_in}
use Rattle.bgp_engine.specs.declared.class.Class.{Class}
use Rattle.bgp_engine.specs.declared.fault.Stop.TheVariants as stop
use Rattle.bgp_engine.specs.declared.fault.ToolFault.{ToolFault}
use Rattle.bgp_engine.specs.declared.fault.ToolFault.TheVariants.{Clean}
use Rattle.bgp_engine.specs.declared.tally.Tally.{Tally}
use Rattle.bgp_engine.specs.Agree.{agreed}
use Rattle.bgp_engine.specs.File.{first_open, open_at}
use Rattle.bgp_engine.specs.First.{start_by, Start, Starts, ReportedFrom}
use Rattle.bgp_engine.specs.Refreshed.{Refreshed}
use Rattle.bgp_engine.specs.Rules.{Rules}
use Rattle.bgp_engine.specs.Run.{Reports}
use Rattle.bgp_engine.specs.Wide.{wide_rules}

-- the written form of what is passed on, where something is
abbrev pub clean_line : Context → Result (List Message) CleanFault → List ℕ
clean_line ctx (Ok ns) = octets_handed ctx ns
clean_line ctx (Err f) = []

abbrev pub clean_class : Result (List Message) CleanFault → Class
clean_class (Ok ns) = Class.Took
clean_class (Err f) = Class.Reset

-- the offset where the cleaned stream ends before its source does
abbrev pub clean_answer : End → Tally → ℕ → Result Tally ToolFault
clean_answer End.Reset tally place = Err (Clean place stop.Unsaid)
clean_answer End.Head tally place = Err (Clean place stop.Unsaid)
clean_answer (End.Wait n) tally place = if n == 0 then Ok tally else Err (Clean place stop.Incomplete)

abbrev pub fault_of_head : HeadFault → Result (List Message) CleanFault
fault_of_head f = Err (CleanFault.Reset (head_notification f).code (head_notification f).subcode)

-- what is passed on of a ROUTE-REFRESH that is accepted
abbrev pub refresh_line : Context → ℕ → ℕ → List ℕ → Refreshed → List ℕ
refresh_line ctx place len octets (Ok r) = octets_handed_in (plain_terms ctx) (handed_refresh ctx r)
refresh_line ctx place len octets (Err n) = []

-- of the messages after the first
abbrev pub clean_rules : Context → (ℕ → Bool) → Limits → Rules (Result (List Message) CleanFault)
clean_rules ctx drops limits = record {
  types = plain;
  judge = record { of_message = cleaned ctx drops (refuses_in ctx limits) false; of_fault = fault_of_head; resets = is_err };
  line = λ _ _ _ o. clean_line ctx o;
  refresh = refresh_line ctx;
  class = clean_class;
  last = λ _. [];
  rest = λ _. [];
  answer = λ tally place. clean_answer tally.end tally place;
}

-- The first message has a separate rule where it is an OPEN that is passed on, which offers at most this ROUTE-REFRESH: any other message is passed on at
-- any position
abbrev pub first_line : Refreshes → Context → (ℕ → Bool) → Limits → frame.Message → Kind → Option (List ℕ)
first_line offers ctx drops limits m Kind.Open = option_map (octets_handed ctx) (result_ok (cleaned_with offers ctx drops (refuses_in ctx limits) true m))
first_line offers ctx drops limits m _ = None

abbrev pub first_of : Refreshes → Context → (ℕ → Bool) → Limits → Option frame.Message → Option (List ℕ)
first_of offers ctx drops limits None = None
first_of offers ctx drops limits (Some m) = first_line offers ctx drops limits m m.kind

abbrev pub start_in : (ℕ → Bool) → Limits → Option frame.Message → Context → Start Kind (Result (List Message) CleanFault)
start_in drops limits first ctx = record { rules = clean_rules ctx drops limits; first = first_of refreshes.None ctx drops limits first }

-- in a context that is known
abbrev pub starts_in : Context → (ℕ → Bool) → Limits → Starts Kind (Result (List Message) CleanFault)
starts_in ctx drops limits first = Ok (start_in drops limits first ctx)

-- where ROUTE-REFRESH may be agreed on: it is passed on, and an OPEN that is may offer it
abbrev pub start_under : (ℕ → Bool) → Limits → Option frame.Message → Agreed → Start WideKind (Result (List Message) CleanFault ⊎ Refreshed)
start_under drops limits first terms = record {
  rules = wide_rules terms.refresh (clean_rules terms.context drops limits);
  first = first_of terms.refresh terms.context drops limits first;
}

abbrev pub starts_under : Agreed → (ℕ → Bool) → Limits → Starts WideKind (Result (List Message) CleanFault ⊎ Refreshed)
starts_under terms drops limits first = Ok (start_under drops limits first terms)

-- by what the first message and that of the other direction agree on
abbrev pub starts_by : List ℕ → (ℕ → Bool) → Limits → Starts WideKind (Result (List Message) CleanFault ⊎ Refreshed)
starts_by theirs drops limits first = start_by (start_under drops limits first) (agreed false (open_at first) (first_open theirs))

abbrev pub CleanedIn : Context → (ℕ → Bool) → Limits → Reports
CleanedIn ctx drops limits = ReportedFrom (starts_in ctx drops limits)

abbrev pub CleanedUnder : Agreed → (ℕ → Bool) → Limits → Reports
CleanedUnder terms drops limits = ReportedFrom (starts_under terms drops limits)

abbrev pub CleanedBy : List ℕ → (ℕ → Bool) → Limits → Reports
CleanedBy theirs drops limits = ReportedFrom (starts_by theirs drops limits)

-- an answer without the reason why it ended before a message: the offset says which
abbrev pub without_words : Result Tally ToolFault → Result Tally ToolFault
without_words (Err (Clean place (stop.At why))) = Err (Clean place stop.Unsaid)
without_words answer = answer
