-- Reachability, what is missing, the notes and the routes of a message (RFC 7606, sections 3, 5.2 and 6).
use Rattle.std.specs.Prelude.{ℕ, ◌+◌, Bool, not, ◌&&◌, ◌||◌, ◌==◌, nat_lt, List, [], ◌∷◌, ◌++◌, length, map, Option, Some, if◌then◌else◌}
use Rattle.std.specs.List.{flat_map, list_any}
use Rattle.bgp_numbers.specs.declared.attribute.TheConstants.{ORIGIN, AS_PATH, NEXT_HOP}
use Rattle.bgp_prefix.specs.Prelude.{PrefixValue, run_of}
use Rattle.bgp_attr.specs.declared.judged.Judged.{Judged}
use Rattle.bgp_attr.specs.declared.mp.MpReach.{MpReach}
use Rattle.bgp_attr.specs.declared.mp.MpUnreach.{MpUnreach}
use Rattle.bgp_attr.specs.declared.why.Why.{Why}
use Rattle.bgp_attr.specs.declared.judged.Judged.TheVariants as judged
use Rattle.bgp_attr.specs.declared.mp.MpReach.TheVariants as reach
use Rattle.bgp_attr.specs.declared.mp.MpUnreach.TheVariants as unreach
use Rattle.bgp_attr.specs.declared.why.Why.TheVariants as why
use Rattle.bgp_update.specs.declared.missing.Missing.{Missing}
use Rattle.bgp_update.specs.declared.note.Note.{Note}
use Rattle.bgp_update.specs.declared.routes.Routes.{Routes}
use Rattle.bgp_update.specs.Parts.{Parts, attributes_at, has_nlri}
use Rattle.bgp_update.specs.Marks.{Mark, placed_tlvs}
use Rattle.bgp_update.specs.Taken.{kept_of, attrs_of}

-- ---- routes of the multiprotocol attributes

abbrev pub reached_ip4 : Option MpReach → List PrefixValue
reached_ip4 (Some (reach.Ip4 hop routes)) = routes
reached_ip4 _ = []

abbrev pub reached_ip6 : Option MpReach → List PrefixValue
reached_ip6 (Some (reach.Ip6 hop link routes)) = routes
reached_ip6 _ = []

abbrev pub gone_ip4 : Option MpUnreach → List PrefixValue
gone_ip4 (Some (unreach.Ip4 routes)) = routes
gone_ip4 _ = []

abbrev pub gone_ip6 : Option MpUnreach → List PrefixValue
gone_ip6 (Some (unreach.Ip6 routes)) = routes
gone_ip6 _ = []

-- whether an MP_REACH_NLRI has a route
abbrev pub has_routes : Option MpReach → Bool
has_routes r = nat_lt 0 (length (reached_ip4 r)) || nat_lt 0 (length (reached_ip6 r))

-- ---- what is missing

-- the message announces a route
abbrev pub is_reachable : Parts → List Mark → Bool
is_reachable p marks = has_nlri p || has_routes (attrs_of (kept_of marks)).mp_reach

-- whether an attribute of a type is in a field, however it is judged
abbrev pub types_of_field : List ℕ → ℕ → Bool
types_of_field field = λ kind. list_any (λ q. q.tlv.kind == kind) (placed_tlvs field)

abbrev pub has_type : ℕ → Parts → Bool
has_type kind p = types_of_field p.attributes kind

-- which of ORIGIN, AS_PATH and NEXT_HOP a message that announces routes lacks: NEXT_HOP is required for NLRI only
abbrev pub missing_in : Bool → Bool → (ℕ → Bool) → Missing
missing_in reaches nlri types = record {
  origin = reaches && not (types ORIGIN);
  as_path = reaches && not (types AS_PATH);
  next_hop = nlri && not (types NEXT_HOP);
}

abbrev pub missing_of : Parts → List Mark → Missing
missing_of p marks = missing_in (is_reachable p marks) (has_nlri p) (types_of_field p.attributes)

abbrev pub is_missing : Missing → Bool
is_missing m = m.origin || (m.as_path || m.next_hop)

-- ---- notes

-- why an attribute isn't kept, where the session continues
abbrev pub why_not : Judged → List Why
why_not (judged.Discard w) = w ∷ []
why_not (judged.Withdraw w) = w ∷ []
why_not _ = []

-- the note of a mark, with its offset in the body
abbrev pub mark_notes : ℕ → Mark → List Note
mark_notes field_at m = map (λ w. record { at = field_at + m.at; kind = m.kind; why = w }) (why_not m.judged)

abbrev pub missing_note : Bool → ℕ → List Note
missing_note missing kind = if missing then record { at = 0; kind = kind; why = why.Missing } ∷ [] else []

-- ascending by type
abbrev pub missing_notes : Missing → List Note
missing_notes m = missing_note m.origin ORIGIN ++ (missing_note m.as_path AS_PATH ++ missing_note m.next_hop NEXT_HOP)

-- each attribute that wasn't kept, by offset, the one that is cut off, and then what is missing
abbrev pub notes_of : Parts → List Mark → List Note
notes_of p marks = flat_map (mark_notes (attributes_at p)) marks ++ missing_notes (missing_of p marks)

-- ---- routes

-- all routes of the message, each family in its order
abbrev pub routes_of : Parts → List Mark → Routes
routes_of p marks = record {
  ip4 = (run_of 4 p.withdrawn).0 ++ (gone_ip4 (attrs_of (kept_of marks)).mp_unreach ++ (reached_ip4 (attrs_of (kept_of marks)).mp_reach ++ (run_of 4 p.nlri).0));
  ip6 = gone_ip6 (attrs_of (kept_of marks)).mp_unreach ++ reached_ip6 (attrs_of (kept_of marks)).mp_reach;
}
