-- Steps of an engine that handles the first message of its stream by a separate rule.
use Rattle.std.specs.Prelude.{◌≡◌, ◌⊎◌, ◌-◌, ◌^◌, ℕ, List, [], ◌++◌, length, Option, None, Some, option_map, Result, Ok, Err}
use Rattle.bgp_frame.specs.declared.kind.WideKind.{WideKind}
use Rattle.bgp_engine.specs.Below.{Agreed, AreOctets, Kind, Message, Refreshes, Waits}
use Rattle.bgp_frame.specs.declared.end.End.TheVariants as end
use Rattle.bgp_engine.specs.declared.fault.NoContext.{NoContext}
use Rattle.bgp_engine.specs.declared.fault.NoContext.TheVariants.{NoOpen}
use Rattle.bgp_engine.specs.declared.opening.Stage.{Stage}
use Rattle.bgp_engine.specs.declared.starting.Begun.{Begun}
use Rattle.bgp_engine.specs.declared.starting.Starting as code
use Rattle.bgp_engine.specs.Agree.{Fit, fitting}
use Rattle.bgp_engine.specs.File.{first_open, open_in}
use Rattle.bgp_engine.specs.First.{Start, Starts, ReportedFrom, start_by}
use Rattle.bgp_engine.specs.Opens.{unagreed}
use Rattle.bgp_engine.specs.Report.{Report, behind}
use Rattle.bgp_engine.specs.Refreshed.{Refreshed}
use Rattle.bgp_engine.specs.Rules.{Rules}
use Rattle.bgp_engine.specs.Wide.{wide_rules}
use Rattle.bgp_engine.specs.steps.Pages.{Plan}
use Rattle.bgp_engine.specs.steps.Walking.{Walking, IsFresh, IsReady, reports_of, room_of, walk_of}

-- how the stream is read, how far it has come, the octets of its first message until that is whole, and the walk over it
pub record Starting (K Outcome : Type 0) : Type 0 where
  pub starts : Starts K Outcome
  pub stage : Stage
  pub front : List ℕ
  pub walk : Walking K Outcome

-- a stream whose messages have these outcomes, or are ROUTE-REFRESH
abbrev pub WideStart : Type 0 → Type 0
WideStart Outcome = Start WideKind (Outcome ⊎ Refreshed)

module _ {Outcome : Type 0} where
  -- the rules for the stream whose first message this is
  abbrev pub start_of : Message → Refreshes → Plan Kind Outcome → WideStart Outcome
  start_of m accepted plan = record { rules = wide_rules accepted plan.rules; first = plan.first m }

  -- how a page's stream is read: as the page is, or by what both OPENs agree on, where that is suitable
  abbrev pub starts_of : {P : Type 0} → Fit → (P → Rules Outcome) → (P → Option Agreed → Plan Kind Outcome) → Refreshes → Option (List ℕ) → P → Starts WideKind (Outcome ⊎ Refreshed)
  starts_of fits rules plan accepted None page None = Ok (record { rules = wide_rules accepted (rules page); first = None })
  starts_of fits rules plan accepted None page (Some m) = Ok (start_of m accepted (plan page None))
  starts_of fits rules plan accepted (Some theirs) page None = Err NoOpen
  starts_of fits rules plan accepted (Some theirs) page (Some m) =
      start_by (λ terms. start_of m terms.refresh (plan page (Some terms))) (fitting fits (open_in m.kind m.body) (first_open theirs))

  -- the page has its terms now, and this ROUTE-REFRESH is accepted; or there are none
  abbrev pub SettlesOn : Result Refreshes NoContext → Result (WideStart Outcome) NoContext → Plan Kind Outcome → Message → Type 0
  SettlesOn (Ok accepted) before plan m = before ≡ Ok (start_of m accepted plan)
  SettlesOn (Err why) before plan m = before ≡ Err why

  -- how a stream begins: without a context; by rules for each of its messages; or after the first, with this collected
  abbrev pub Begins : Begun → Result (WideStart Outcome) NoContext → Rules Outcome → List ℕ → List ℕ → Type 0
  Begins (Begun.Unagreed why) start rules told_old told_new = (start ≡ Err why) × (told_new ≡ told_old)
  Begins (Begun.Plain accepted) start rules told_old told_new = (start ≡ Ok (record { rules = wide_rules accepted rules; first = None })) × (told_new ≡ told_old)
  Begins (Begun.Handed accepted) start rules told_old told_new =
      (text : List ℕ) × (start ≡ Ok (record { rules = wide_rules accepted rules; first = Some text })) × (told_new ≡ told_old ++ text)

  abbrev pub starting_of : {P : Type 0} → Fit → (P → Rules Outcome) → (P → Option Agreed → Plan Kind Outcome) → code.Starting P → Starting WideKind (Outcome ⊎ Refreshed)
  starting_of fits rules plan s = record {
    starts = starts_of fits rules plan s.walk.refreshes (option_map (λ t. t.now) s.theirs) s.walk.page;
    stage = s.stage;
    front = s.front;
    walk = walk_of rules s.walk;
  }

module _ {K Outcome : Type 0} where
  abbrev pub starting : Starts K Outcome → Stage → List ℕ → Walking K Outcome → Starting K Outcome
  starting starts stage front walk = record { starts = starts; stage = stage; front = front; walk = walk }

  abbrev pub reports_at : Stage → Starting K Outcome → List ℕ → Report → Type 0
  reports_at Stage.First s later r = AreOctets later → ReportedFrom s.starts (s.front ++ later) r
  reports_at Stage.Agreed s later r = reports_of s.walk later r
  reports_at (Stage.Unagreed why) s later r = r ≡ unagreed why end.Reset

  -- the report of the rest of the stream
  abbrev pub reports_in : Starting K Outcome → List ℕ → Report → Type 0
  reports_in s later r = reports_at s.stage s later r

  -- the first message is incomplete, and nothing precedes it
  pub record IsFirst (front : List ℕ) (w : Walking K Outcome) : Type 0 where
    pub octets : AreOctets front
    pub waits : Waits front
    pub ready : IsReady w
    pub fresh : IsFresh w

  abbrev pub GoesAt : Stage → List ℕ → Walking K Outcome → Type 0
  GoesAt Stage.First front w = IsFirst front w
  GoesAt Stage.Agreed front w = IsReady w
  GoesAt (Stage.Unagreed why) front w = ⊥

  abbrev pub GoesOn : Starting K Outcome → Type 0
  GoesOn s = GoesAt s.stage s.front s.walk

  abbrev pub ReadyAt : Stage → List ℕ → Walking K Outcome → Type 0
  ReadyAt Stage.First front w = IsFirst front w
  ReadyAt Stage.Agreed front w = IsReady w
  ReadyAt (Stage.Unagreed why) front w = Unit {0}

  -- nothing is missing for a last report
  abbrev pub ReadyIn : Starting K Outcome → Type 0
  ReadyIn s = ReadyAt s.stage s.front s.walk

  -- how a stream continues once its first octets, which are held, were examined, with this collected: the walk consumes what is left of them first
  abbrev pub SettlesAt : Stage → Starts K Outcome → (held lines front : List ℕ) → Walking K Outcome → Type 0
  SettlesAt Stage.First starts held lines front w = Waits held × (front ≡ held) × (lines ≡ [])
  SettlesAt Stage.Agreed starts held lines front w =
      IsReady w × AreOctets front × ((later : List ℕ) (r : Report) → AreOctets later → reports_of w (front ++ later) r → ReportedFrom starts (held ++ later) (behind lines r))
  SettlesAt (Stage.Unagreed why) starts held lines front w = ((later : List ℕ) → ReportedFrom starts (held ++ later) (unagreed why end.Reset)) × (lines ≡ [])

  pub record Settles (stage : Stage) (starts : Starts K Outcome) (held told_old told_new front : List ℕ) (w : Walking K Outcome) : Type 0 where
    pub lines : List ℕ
    pub told : told_new ≡ told_old ++ lines
    pub settles : SettlesAt stage starts held lines front w

  -- how many more octets can be counted
  abbrev pub room_at : Stage → List ℕ → Walking K Outcome → ℕ
  room_at Stage.First front w = 2 ^ 60 - length front
  room_at Stage.Agreed front w = room_of w
  room_at (Stage.Unagreed why) front w = 2 ^ 60

  abbrev pub room_in : Starting K Outcome → ℕ
  room_in s = room_at s.stage s.front s.walk
