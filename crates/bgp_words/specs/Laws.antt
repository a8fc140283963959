-- What laws of the command line say of words.
use Rattle.std.specs.Prelude.{◌≡◌, ◌<◌, ℕ, Bool, true, false, List, [], Some, if◌then◌else◌}
use Rattle.clap.specs.Words.{Text}
use Rattle.bgp_attr.specs.Prelude.{is_recognised}
use Rattle.bgp_wire.specs.Prelude.{none_of_them}
use Rattle.bgp_wire.specs.declared.octet_set.OctetSet.{OctetSet}
use Rattle.bgp_open.specs.declared.context.Context.{Context}
use Rattle.bgp_terms.specs.declared.refreshes.Refreshes.{Refreshes}
use Rattle.bgp_terms.specs.declared.refreshes.Refreshes.TheVariants as refreshes
use Rattle.bgp_words.specs.declared.request.Request.{Request}
use Rattle.bgp_words.specs.declared.request.Request.TheVariants.{Clean}
use Rattle.bgp_words.specs.declared.request.Session.{Session}
use Rattle.bgp_words.specs.declared.request.Session.TheVariants.{Flags}
use Rattle.bgp_words.specs.CommandLine.{drops_of, faults_of, request_of}

-- the words have no error, and request this, with this file: no attributes are left out
pub record CanBeDoneWith (words : List Text) (request : Request) (file : Text) : Type 0 where
  pub without_fault : faults_of words ≡ []
  pub asked : (drops : OctetSet) → request_of words drops ≡ Some (request, file)
  pub left_out : drops_of words ≡ Some none_of_them

abbrev pub CanBeDone : List Text → Request → Type 0
CanBeDone words request = CanBeDoneWith words request []

-- the words have no error, and request `clean`, with this file: unrecognised attributes of these types are left out
pub record CanBeCleaned (words : List Text) (session : Session) (hex : Bool) (file : Text) (types : ℕ → Bool) : Type 0 where
  pub without_fault : faults_of words ≡ []
  pub asked : (drops : OctetSet) → request_of words drops ≡ Some (Clean session hex drops, file)
  pub left_out : drops_of words ≡ Some types

-- a context with and without all of the other flags
abbrev pub flags : Bool → Bool → Context
flags as4 others = record { internal = others; as4 = as4; ip4 = others; ip6 = others; hold = 0 }

-- a session by flags: its context, ROUTE-REFRESH as the receiver accepts it, and whether routes of IPv4 and of IPv6 have path identifiers
abbrev pub session_with : Context → Refreshes → Bool → Bool → Session
session_with ctx accepted ip4 ip6 = Flags (record { context = ctx; refresh = accepted; paths = record { ip4 = ip4; ip6 = ip6 } })

-- that context with and without ROUTE-REFRESH, without path identifiers
abbrev pub by_flags : Bool → Bool → Session
by_flags as4 others = session_with (flags as4 others) (if others then refreshes.Enhanced else refreshes.None) false false

-- types that aren't recognised
abbrev pub AreUnrecognised : (ℕ → Bool) → Type 0
AreUnrecognised types = (kind : ℕ) → types kind ≡ true → (is_recognised kind ≡ false) × (kind < 256)
