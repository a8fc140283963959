-- What the two speakers of a session agree on, by the OPENs of both.
use Rattle.std.specs.Prelude.{Bool, true, false, not, ◌&&◌, if◌then◌else◌}
use Rattle.bgp_engine.specs.Below.{Agreed, Option, None, Some, Result, Ok, Err, Open, agree_on_paths, terms_sent}
use Rattle.bgp_engine.specs.declared.fault.NoContext.{NoContext}
use Rattle.bgp_engine.specs.declared.fault.NoContext.TheVariants.{NoOpen, Paths}

-- What was negotiated for the messages from the speaker of one OPEN to that of the other. It requires both OPENs, and where path identifiers aren't
-- read, routes don't have any.
abbrev pub agreed : Bool → Option Open → Option Open → Result Agreed NoContext
agreed reads_paths (Some ours) (Some theirs) = if not reads_paths && agree_on_paths ours theirs then Err Paths else Ok (terms_sent ours theirs)
agreed reads_paths (Some ours) None = Err NoOpen
agreed reads_paths None theirs = Err NoOpen

-- Which terms an engine writes by: whether those with path identifiers, and which of them
pub record Fit : Type 0 where
  pub reads_paths : Bool
  pub suits : Agreed → Bool

-- all of them
abbrev pub any_terms : Fit
any_terms = record { reads_paths = true; suits = λ _. true }

-- all of those without path identifiers
abbrev pub any_plain : Fit
any_plain = record { reads_paths = false; suits = λ _. true }

-- those of them with 4-octet AS numbers
abbrev pub any_as4 : Fit
any_as4 = record { reads_paths = true; suits = λ terms. terms.context.as4 }

-- terms, where they are suitable
abbrev pub fit_of : (Agreed → Bool) → Result Agreed NoContext → Result Agreed NoContext
fit_of suits (Err why) = Err why
fit_of suits (Ok terms) = if suits terms then Ok terms else Err NoOpen

-- what both agree on, where an engine can write by it
abbrev pub fitting : Fit → Option Open → Option Open → Result Agreed NoContext
fitting fits ours theirs = fit_of fits.suits (agreed fits.reads_paths ours theirs)
