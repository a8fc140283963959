-- A message without path identifiers, and the path identifiers of its routes (RFC 7911, section 3).
use Rattle.std.specs.Prelude.{◌++◌, ℕ, Bool, true, false, List, [], ◌∷◌, Option, None, Some, if◌then◌else◌}
use Rattle.bgp_numbers.specs.declared.attribute.TheConstants.{MP_REACH_NLRI, MP_UNREACH_NLRI}
use Rattle.bgp_prefix.specs.Prelude.{PrefixValue}
use Rattle.bgp_attr.specs.declared.mp.MpReach.{MpReach}
use Rattle.bgp_attr.specs.declared.mp.MpUnreach.{MpUnreach}
use Rattle.bgp_frame.specs.declared.kind.Kind.TheVariants as kind
use Rattle.bgp_frame.specs.declared.kind.WideKind.{WideKind}
use Rattle.bgp_frame.specs.declared.kind.WideKind.TheVariants as wide
use Rattle.bgp_frame.specs.declared.step.Step.TheVariants as step
use Rattle.bgp_frame.specs.Step.{StepIn}
use Rattle.bgp_frame.specs.Prelude.{MessageIn, ShowsFrontIn, message_in, octets_of_in}
use Rattle.bgp_paths.specs.declared.families.PathFamilies.{PathFamilies}
use Rattle.bgp_paths.specs.Prelude.{field_run, first_or_zero, later_of, numbers_of, plain_body, run_of_type}
use Rattle.bgp_open.specs.declared.context.Context.{Context}
use Rattle.bgp_terms.specs.Prelude.{Agreed}
use Rattle.bgp_update.specs.declared.update.Update.{Update}
use Rattle.bgp_update.specs.Prelude.{Parts, marks_of, parts_of, update_of}
use Rattle.bgp_msg.specs.declared.outcome.Outcome.{Outcome}
use Rattle.bgp_msg.specs.Prelude.{is_reset, out_of}
use Rattle.bgp_wide.specs.Prelude.{types_in}
use Rattle.ristulva_c.specs.declared.status.TheConstants.{INCOMPLETE, RANGE, REFUSED}
use Rattle.ristulva_c.specs.declared.terms.SessionTerms.{SessionTerms}
use Rattle.ristulva_c.specs.Context.{is_set}
use Rattle.ristulva_c.specs.Routes.{reach_prefixes, unreach_prefixes}
use Rattle.ristulva_c.specs.Text.{IsLeft, IsWritten, Writing}

-- the families whose routes have path identifiers
abbrev pub families_in : SessionTerms → PathFamilies
families_in said = record { ip4 = is_set said.paths4; ip6 = is_set said.paths6 }

abbrev pub is_update : WideKind → Bool
is_update (wide.Base kind.Open) = false
is_update (wide.Base kind.Update) = true
is_update (wide.Base kind.Notification) = false
is_update (wide.Base kind.Keepalive) = false
is_update wide.Refresh = false

-- a body without path identifiers: that of another message than an UPDATE is as it was
abbrev pub body_without : PathFamilies → WideKind → List ℕ → List ℕ
body_without f kind body = if is_update kind then plain_body f body else body

abbrev pub message_without : PathFamilies → MessageIn WideKind → MessageIn WideKind
message_without f m = record { kind = m.kind; body = body_without f m.kind m.body }

-- ---- the message

-- by what the octets begin with: less than a message; a message, which is written without path identifiers, with the header of its length; or a header
-- with a fault
abbrev pub WritesWithout : Agreed → PathFamilies → StepIn WideKind → Writing → Type 0
WritesWithout t f step.More w = IsLeft INCOMPLETE w
WritesWithout t f (step.Frame frame) w = IsWritten (octets_of_in (types_in t) (message_without f (message_in frame))) w
WritesWithout t f (step.Fault fault) w = IsLeft REFUSED w

pub record IsWithoutPaths (t : Agreed) (f : PathFamilies) (octets : List ℕ) (w : Writing) : Type 0 where
  pub found : StepIn WideKind
  pub shows : ShowsFrontIn (types_in t) octets found
  pub writes : WritesWithout t f found w

-- by terms, or nothing is written where there are none
abbrev pub IsWithoutPathsBy : Option Agreed → PathFamilies → List ℕ → Writing → Type 0
IsWithoutPathsBy None f octets w = IsLeft RANGE w
IsWithoutPathsBy (Some t) f octets w = IsWithoutPaths t f octets w

-- ---- the path identifiers

-- one for each prefix, in order: 0 where none is left
abbrev pub path_numbers : List ℕ → List PrefixValue → List ℕ
path_numbers ids [] = []
path_numbers ids (p ∷ later) = first_or_zero ids ∷ path_numbers (later_of ids) later

-- those of a message, by the fields that its routes are in
pub record PathIds : Type 0 where
  pub withdrawn : List ℕ
  pub unreached : List ℕ
  pub reached : List ℕ
  pub nlri : List ℕ

abbrev pub no_ids : PathIds
no_ids = record { withdrawn = []; unreached = []; reached = []; nlri = [] }

abbrev pub ids_of : PathFamilies → Parts → PathIds
ids_of f p = record {
  withdrawn = numbers_of (field_run f.ip4 p.withdrawn);
  unreached = numbers_of (run_of_type f p.attributes MP_UNREACH_NLRI);
  reached = numbers_of (run_of_type f p.attributes MP_REACH_NLRI);
  nlri = numbers_of (field_run f.ip4 p.nlri);
}

abbrev pub ids_in : PathFamilies → Option Parts → PathIds
ids_in f None = no_ids
ids_in f (Some p) = ids_of f p

abbrev pub unreached_numbers : List ℕ → Option MpUnreach → List ℕ
unreached_numbers ids None = []
unreached_numbers ids (Some r) = path_numbers ids (unreach_prefixes r)

abbrev pub reached_numbers : List ℕ → Option MpReach → List ℕ
reached_numbers ids None = []
reached_numbers ids (Some r) = path_numbers ids (reach_prefixes r)

-- those of an UPDATE's routes, each beside the route in the same place of its field
abbrev pub update_numbers : PathIds → Update → List ℕ
update_numbers ids u =
    path_numbers ids.withdrawn u.withdrawn
    ++ (unreached_numbers ids.unreached u.attrs.mp_unreach ++ (reached_numbers ids.reached u.attrs.mp_reach ++ path_numbers ids.nlri u.nlri))

-- of what is kept of the body without path identifiers
abbrev pub kept_numbers : Context → PathIds → Option Parts → List ℕ
kept_numbers ctx ids None = []
kept_numbers ctx ids (Some p) = update_numbers ids (update_of p (marks_of ctx p))

-- unless the session ends
abbrev pub ListsUnless : Bool → List ℕ → Writing → Type 0
ListsUnless true numbers w = IsLeft REFUSED w
ListsUnless false numbers w = IsWritten numbers w

-- the outcome of the UPDATE without path identifiers
abbrev pub outcome_without : Context → PathFamilies → List ℕ → Outcome
outcome_without ctx f body = out_of ctx (record { kind = kind.Update; body = plain_body f body })

abbrev pub ListsUpdate : Context → PathFamilies → List ℕ → Writing → Type 0
ListsUpdate ctx f body w = ListsUnless (is_reset (outcome_without ctx f body)) (kept_numbers ctx (ids_in f (parts_of body)) (parts_of (plain_body f body))) w

-- another message has no routes
abbrev pub ListsBody : Context → PathFamilies → Bool → List ℕ → Writing → Type 0
ListsBody ctx f true body w = ListsUpdate ctx f body w
ListsBody ctx f false body w = IsWritten [] w

-- by what the octets begin with
abbrev pub ListsPaths : Context → PathFamilies → StepIn WideKind → Writing → Type 0
ListsPaths ctx f step.More w = IsLeft INCOMPLETE w
ListsPaths ctx f (step.Frame frame) w = ListsBody ctx f (is_update frame.kind) frame.body.now w
ListsPaths ctx f (step.Fault fault) w = IsLeft REFUSED w

pub record ArePaths (t : Agreed) (f : PathFamilies) (octets : List ℕ) (w : Writing) : Type 0 where
  pub found : StepIn WideKind
  pub shows : ShowsFrontIn (types_in t) octets found
  pub lists : ListsPaths t.context f found w

-- by terms, or nothing is written where there are none
abbrev pub ArePathsBy : Option Agreed → PathFamilies → List ℕ → Writing → Type 0
ArePathsBy None f octets w = IsLeft RANGE w
ArePathsBy (Some t) f octets w = ArePaths t f octets w
