-- The reports of an engine on a stream by what its first OPEN and that of the other direction agree on.
use Rattle.std.specs.Prelude.{◌≡◌, ℕ, List, [], length, Result, Ok, Err, if◌then◌else◌}
use Rattle.bgp_engine.specs.Below.{Agreed, End}
use Rattle.bgp_engine.specs.declared.fault.NoContext.{NoContext as Why}
use Rattle.bgp_engine.specs.declared.fault.ToolFault.TheVariants.{NoContext}
use Rattle.bgp_engine.specs.Agree.{Fit, any_as4, any_terms, fitting}
use Rattle.bgp_engine.specs.Check.{CheckedUnder}
use Rattle.bgp_engine.specs.File.{first_open, is_part}
use Rattle.bgp_engine.specs.Narrow.{NarrowedUnder}
use Rattle.bgp_engine.specs.Report.{Report}
use Rattle.bgp_engine.specs.Run.{Reports}
use Rattle.bgp_engine.specs.Show.{ShownUnder}
use Rattle.bgp_engine.specs.ShowJson.{ShownJsonUnder}

-- nothing is written where there is no context
abbrev pub unagreed : Why → End → Report
unagreed why e = record { lines = []; last = []; end_of = e; answer = Err (NoContext why) }

-- the first message is incomplete, or it is whole, and whatever follows it isn't read
abbrev pub unagreed_end : List ℕ → End
unagreed_end stream = if is_part stream then End.Wait (length stream) else End.Reset

abbrev pub ReportedIn : Result Agreed Why → (Agreed → Reports) → List ℕ → Report → Type 0
ReportedIn (Ok terms) reports stream r = reports terms stream r
ReportedIn (Err why) reports stream r = r ≡ unagreed why (unagreed_end stream)

-- the report of a stream by what it and the octets of the other direction agree on, where that is suitable
abbrev pub ReportedBy : Fit → List ℕ → (Agreed → Reports) → Reports
ReportedBy fits theirs reports stream r = ReportedIn (fitting fits (first_open stream) (first_open theirs)) reports stream r

abbrev pub ShownBy : List ℕ → Reports
ShownBy theirs = ReportedBy any_terms theirs ShownUnder

abbrev pub ShownJsonBy : List ℕ → Reports
ShownJsonBy theirs = ReportedBy any_terms theirs ShownJsonUnder

abbrev pub CheckedBy : List ℕ → Reports
CheckedBy theirs = ReportedBy any_terms theirs CheckedUnder

-- what is narrowed has 4-octet AS numbers
abbrev pub NarrowedBy : List ℕ → Reports
NarrowedBy theirs = ReportedBy any_as4 theirs NarrowedUnder
