-- The lines of an UPDATE whose routes have path identifiers: those of one without, and at the end of a route's line its path identifier (RFC 7911).
use Rattle.std.specs.Prelude.{ℕ, List, [], ◌∷◌, ◌++◌, codes, Option, None, Some}
use Rattle.std.specs.Fmt.{decimal}
use Rattle.bgp_paths.specs.Prelude.{PathNumbers}
use Rattle.bgp_text.specs.Below.{flat_map, ipv4_text, ipv6_text, Attr, MpReach, MpUnreach, Message, Note, Outcome, Routes, Update}
use Rattle.bgp_text.specs.declared.beside.Beside.{Beside}
use Rattle.bgp_text.specs.AttributeLines.{attribute_lines, opaque_line}
use Rattle.bgp_text.specs.Beside.{beside, numbers_ip4, numbers_ip6}
use Rattle.bgp_text.specs.Lines.{line_of}
use Rattle.bgp_text.specs.Members.{Shown, printed}
use Rattle.bgp_text.specs.MpLines.{family_line, ip4_next_line, ip6_next_line}
use Rattle.bgp_text.specs.Outcome.{head_line, outcome_lines}
use Rattle.bgp_text.specs.PlacedNotes.{placed_lines}

-- the end of a route's line
abbrev pub path_end : Option ℕ → List ℕ
path_end None = 10 ∷ []
path_end (Some number) = line_of (codes " path ") decimal number

abbrev pub beside_line : {A : Type 0} → List ℕ → (A → List ℕ) → Beside A → List ℕ
beside_line label shown b = label ++ (shown b.route ++ path_end b.path)

abbrev pub path_reach_lines : List ℕ → List ℕ → MpReach → List ℕ
path_reach_lines ids4 ids6 (MpReach.Ip4 next_hop routes) = ip4_next_line next_hop ++ flat_map (beside_line (codes "  mp_nlri ") ipv4_text) (beside routes ids4)
path_reach_lines ids4 ids6 (MpReach.Ip6 next_hop link routes) = ip6_next_line next_hop link ++ flat_map (beside_line (codes "  mp_nlri ") ipv6_text) (beside routes ids6)

abbrev pub path_unreach_lines : List ℕ → List ℕ → MpUnreach → List ℕ
path_unreach_lines ids4 ids6 (MpUnreach.Ip4 routes) = family_line (codes "ip4") ++ flat_map (beside_line (codes "  mp_withdrawn ") ipv4_text) (beside routes ids4)
path_unreach_lines ids4 ids6 (MpUnreach.Ip6 routes) = family_line (codes "ip6") ++ flat_map (beside_line (codes "  mp_withdrawn ") ipv6_text) (beside routes ids6)

-- an attribute with routes has path identifiers beside them, each other one is as without
abbrev pub path_attribute_lines : PathNumbers → Attr → List ℕ
path_attribute_lines ids (Attr.MpReach reach) = path_reach_lines ids.reached4 ids.reached6 reach
path_attribute_lines ids (Attr.MpUnreach unreach) = path_unreach_lines ids.unreached4 ids.unreached6 unreach
path_attribute_lines ids attr = attribute_lines attr

abbrev pub in_path_lines : PathNumbers → Shown
in_path_lines ids = record {
  withdrawn = λ routes. flat_map (beside_line (codes "  withdrawn ") ipv4_text) (beside routes ids.withdrawn);
  attribute = path_attribute_lines ids;
  others = flat_map opaque_line;
  nlri = λ routes. flat_map (beside_line (codes "  nlri ") ipv4_text) (beside routes ids.nlri);
}

-- a line for each route, IPv4 first
abbrev pub path_routes_lines : PathNumbers → Routes → List ℕ
path_routes_lines ids r =
    flat_map (beside_line (codes "  route ") ipv4_text) (beside r.ip4 (numbers_ip4 ids))
    ++ flat_map (beside_line (codes "  route ") ipv6_text) (beside r.ip6 (numbers_ip6 ids))

abbrev pub path_update_lines : PathNumbers → (ℕ → ℕ) → ℕ → ℕ → Update → List Note → List ℕ
path_update_lines ids received place len u notes = (head_line place len (codes "UPDATE take") ++ printed (in_path_lines ids) u) ++ placed_lines received notes

abbrev pub path_withdraw_lines : PathNumbers → (ℕ → ℕ) → ℕ → ℕ → Routes → List Note → List ℕ
path_withdraw_lines ids received place len routes notes = head_line place len (codes "UPDATE withdraw") ++ (path_routes_lines ids routes ++ placed_lines received notes)

abbrev pub path_took_lines : PathNumbers → (ℕ → ℕ) → ℕ → ℕ → Message → List Note → List ℕ
path_took_lines ids received place len (Message.Update u) notes = path_update_lines ids received place len u notes
path_took_lines ids received place len m notes = outcome_lines place len (Outcome.Took m notes)

-- what is printed for the outcome of a message without path identifiers, with those of its routes beside them, and the offsets of notes as received
abbrev pub path_lines : PathNumbers → (ℕ → ℕ) → ℕ → ℕ → Outcome → List ℕ
path_lines ids received place len (Outcome.Took m notes) = path_took_lines ids received place len m notes
path_lines ids received place len (Outcome.Withdraw routes notes) = path_withdraw_lines ids received place len routes notes
path_lines ids received place len (Outcome.Reset n) = outcome_lines place len (Outcome.Reset n)
