-- An UPDATE whose routes have path identifiers, as JSON: as one without, with a list of path identifiers beside each list of routes (RFC 7911).
use Rattle.std.specs.Prelude.{ℕ, List, map, ◌++◌, codes, Option, None, Some}
use Rattle.std.specs.Fmt.{decimal}
use Rattle.bgp_paths.specs.Prelude.{PathNumbers}
use Rattle.bgp_numbers.specs.declared.afi.TheConstants.{IPV4, IPV6}
use Rattle.bgp_text.specs.Below.{Attr, MpReach, MpUnreach, Message, Note, Outcome, Routes, Update}
use Rattle.bgp_text.specs.declared.placed_notes.PlacedNote.{PlacedNote}
use Rattle.bgp_text.specs.Beside.{beside, numbers_ip4, numbers_ip6}
use Rattle.bgp_text.specs.Json.{line_end, listed, member}
use Rattle.bgp_text.specs.JsonAddress.{ip4_json, ip6_json, prefix4_json, prefix6_json}
use Rattle.bgp_text.specs.JsonAttributes.{attribute_member, others_member}
use Rattle.bgp_text.specs.JsonMp.{family_json}
use Rattle.bgp_text.specs.JsonNotes.{note_json_at}
use Rattle.bgp_text.specs.JsonOutcome.{judged, outcome_members}
use Rattle.bgp_text.specs.JsonUpdate.{routes_json}
use Rattle.bgp_text.specs.Lines.{where_there}
use Rattle.bgp_text.specs.Members.{Shown, printed}
use Rattle.bgp_text.specs.PlacedNotes.{placed_notes}

-- a path identifier, or that there is none
abbrev pub cell_json : Option ℕ → List ℕ
cell_json None = codes "null"
cell_json (Some number) = decimal number

-- that of each route
abbrev pub beside_paths : {A : Type 0} → List A → List ℕ → List (Option ℕ)
beside_paths routes numbers = map (λ b. b.path) (beside routes numbers)

abbrev pub paths_member : {A : Type 0} → List ℕ → List A → List ℕ → List ℕ
paths_member name routes numbers = member name (listed cell_json) (beside_paths routes numbers)

unfoldable pub path_reach_json : List ℕ → List ℕ → MpReach → List ℕ
path_reach_json ids4 ids6 (MpReach.Ip4 hop routes) =
    family_json IPV4 ++ (member (codes "next_hop") ip4_json hop ++ (member (codes "nlri") (listed prefix4_json) routes
    ++ (paths_member (codes "nlri_paths") routes ids4 ++ codes "}")))
path_reach_json ids4 ids6 (MpReach.Ip6 hop link routes) =
    family_json IPV6 ++ (member (codes "next_hop") ip6_json hop ++ (where_there (member (codes "link_local") ip6_json) link
    ++ (member (codes "nlri") (listed prefix6_json) routes ++ (paths_member (codes "nlri_paths") routes ids6 ++ codes "}"))))

unfoldable pub path_unreach_json : List ℕ → List ℕ → MpUnreach → List ℕ
path_unreach_json ids4 ids6 (MpUnreach.Ip4 routes) =
    family_json IPV4 ++ (member (codes "withdrawn") (listed prefix4_json) routes ++ (paths_member (codes "withdrawn_paths") routes ids4 ++ codes "}"))
path_unreach_json ids4 ids6 (MpUnreach.Ip6 routes) =
    family_json IPV6 ++ (member (codes "withdrawn") (listed prefix6_json) routes ++ (paths_member (codes "withdrawn_paths") routes ids6 ++ codes "}"))

abbrev pub path_attribute_member : PathNumbers → Attr → List ℕ
path_attribute_member ids (Attr.MpReach reach) = member (codes "mp_reach") (path_reach_json ids.reached4 ids.reached6) reach
path_attribute_member ids (Attr.MpUnreach unreach) = member (codes "mp_unreach") (path_unreach_json ids.unreached4 ids.unreached6) unreach
path_attribute_member ids attr = attribute_member attr

abbrev pub in_path_json : PathNumbers → Shown
in_path_json ids = record {
  withdrawn = λ routes. member (codes "withdrawn") (listed prefix4_json) routes ++ paths_member (codes "withdrawn_paths") routes ids.withdrawn;
  attribute = path_attribute_member ids;
  others = others_member;
  nlri = λ routes. member (codes "nlri") (listed prefix4_json) routes ++ paths_member (codes "nlri_paths") routes ids.nlri;
}

-- all routes in one list, IPv4 first, and their path identifiers in another
abbrev pub path_routes_members : PathNumbers → Routes → List ℕ
path_routes_members ids r =
    member (codes "routes") routes_json r
    ++ member (codes "paths") (listed cell_json) (beside_paths r.ip4 (numbers_ip4 ids) ++ beside_paths r.ip6 (numbers_ip6 ids))

-- a note at another offset than its own
abbrev pub placed_json : PlacedNote → List ℕ
placed_json p = note_json_at p.at p.note

abbrev pub placed_member : (ℕ → ℕ) → List Note → List ℕ
placed_member place notes = member (codes "notes") (listed placed_json) (placed_notes place notes)

abbrev pub path_update_members : PathNumbers → (ℕ → ℕ) → ℕ → ℕ → Update → List Note → List ℕ
path_update_members ids received place len u notes =
    judged place len (codes "UPDATE") (codes "take") ++ (printed (in_path_json ids) u ++ placed_member received notes)

abbrev pub path_withdraw_members : PathNumbers → (ℕ → ℕ) → ℕ → ℕ → Routes → List Note → List ℕ
path_withdraw_members ids received place len routes notes =
    judged place len (codes "UPDATE") (codes "withdraw") ++ (path_routes_members ids routes ++ placed_member received notes)

abbrev pub path_took_members : PathNumbers → (ℕ → ℕ) → ℕ → ℕ → Message → List Note → List ℕ
path_took_members ids received place len (Message.Update u) notes = path_update_members ids received place len u notes
path_took_members ids received place len m notes = outcome_members place len None (Outcome.Took m notes)

-- the object of the outcome of a message without path identifiers, with those of its routes beside them, and the offsets of notes as received
abbrev pub path_outcome_members : PathNumbers → (ℕ → ℕ) → ℕ → ℕ → Outcome → List ℕ
path_outcome_members ids received place len (Outcome.Took m notes) = path_took_members ids received place len m notes
path_outcome_members ids received place len (Outcome.Withdraw routes notes) = path_withdraw_members ids received place len routes notes
path_outcome_members ids received place len (Outcome.Reset n) = outcome_members place len None (Outcome.Reset n)

-- its line
abbrev pub path_outcome_json : PathNumbers → (ℕ → ℕ) → ℕ → ℕ → Outcome → List ℕ
path_outcome_json ids received place len o = path_outcome_members ids received place len o ++ line_end
