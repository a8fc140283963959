-- What two OPENs agree on beyond a context, in C's form.
use Rattle.std.specs.Prelude.{◌≡◌, ◌==◌, ◌||◌, ℕ, List, Option, None, Some, option_map, Result, Ok, Err, if◌then◌else◌}
use Rattle.bgp_frame.specs.Step.{Step}
use Rattle.bgp_frame.specs.Prelude.{ShowsFront}
use Rattle.bgp_open.specs.declared.context.Context.{Context}
use Rattle.bgp_open.specs.declared.message.Open.{Open}
use Rattle.bgp_terms.specs.declared.refreshes.Refreshes.{Refreshes}
use Rattle.bgp_terms.specs.declared.refreshes.Refreshes.TheVariants as refreshes
use Rattle.bgp_terms.specs.Prelude.{Agreed, plain_terms, terms_of}
use Rattle.ristulva_c.specs.declared.status.TheConstants.{OK}
use Rattle.ristulva_c.specs.declared.terms.SessionTerms.{SessionTerms}
use Rattle.ristulva_c.specs.declared.terms.TheConstants.{REFRESH_NONE, REFRESH_PLAIN, REFRESH_ENHANCED}
use Rattle.ristulva_c.specs.Agree.{open_at}
use Rattle.ristulva_c.specs.Agreed.{context_said}
use Rattle.ristulva_c.specs.Context.{context_of, is_set}
use Rattle.ristulva_c.specs.Opens.{flag_of}

abbrev pub refreshes_in : ℕ → Option Refreshes
refreshes_in n =
    if n == REFRESH_NONE then Some refreshes.None else (
    if n == REFRESH_PLAIN then Some refreshes.Plain else (
    if n == REFRESH_ENHANCED then Some refreshes.Enhanced else None))

abbrev pub number_of_refreshes : Refreshes → ℕ
number_of_refreshes refreshes.None = REFRESH_NONE
number_of_refreshes refreshes.Plain = REFRESH_PLAIN
number_of_refreshes refreshes.Enhanced = REFRESH_ENHANCED

abbrev pub with_refreshes : Context → Refreshes → Agreed
with_refreshes ctx r = record (plain_terms ctx) { refresh = r }

-- the terms by which messages without path identifiers are read: none where the number of `refresh` is unknown
abbrev pub plain_terms_in : SessionTerms → Option Agreed
plain_terms_in said = option_map (with_refreshes (context_of said.context)) (refreshes_in said.refresh)

-- those by which messages are judged: none where routes have path identifiers too, without which a message is written before it is judged
abbrev pub terms_in : SessionTerms → Option Agreed
terms_in said = if is_set said.paths4 || is_set said.paths6 then None else plain_terms_in said

abbrev pub terms_said : Agreed → SessionTerms
terms_said t = record {
  context = context_said t.context;
  refresh = number_of_refreshes t.refresh;
  long_messages = flag_of t.long;
  long_back = flag_of t.long_back;
  paths4 = flag_of t.paths4;
  paths6 = flag_of t.paths6;
  hop6 = flag_of t.hop6;
}

-- what a call has: its status, and the caller's memory before and after it
pub record Telling : Type 0 where
  pub status : ℕ
  pub before : SessionTerms
  pub behind : SessionTerms
  pub hold_before : ℕ
  pub hold_behind : ℕ

pub record IsLeft (answer : ℕ) (t : Telling) : Type 0 where
  pub status : t.status ≡ answer
  pub terms : t.behind ≡ t.before
  pub hold : t.hold_behind ≡ t.hold_before

pub record IsTold (agreed : Agreed) (t : Telling) : Type 0 where
  pub status : t.status ≡ OK
  pub terms : t.behind ≡ terms_said agreed
  pub hold : t.hold_behind ≡ agreed.context.hold

-- the terms; where one of the two isn't an OPEN, nothing is changed, and the status is that of the first that isn't
abbrev pub TermsBy : Result Open ℕ → Result Open ℕ → Telling → Type 0
TermsBy (Ok reader) (Ok sender) t = IsTold (terms_of reader sender) t
TermsBy (Ok reader) (Err answer) t = IsLeft answer t
TermsBy (Err answer) sender t = IsLeft answer t

-- the OPENs that octets begin with
pub record AreTerms (reader sender : List ℕ) (t : Telling) : Type 0 where
  pub found : Step
  pub shows : ShowsFront reader found
  pub other : Step
  pub shows_other : ShowsFront sender other
  pub tells : TermsBy (open_at found) (open_at other) t
