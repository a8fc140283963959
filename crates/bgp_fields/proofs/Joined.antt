-- The fields of a message, joined, are the message.
use Rattle.bgp_fields.proofs.Prelude.{◌≡◌, ℕ, ◌+◌, List, [], ◌∷◌, ◌++◌, length, take, drop, Option, None, Some, refl, sym, ap, ◌∙◌, arith, flat_map}
use Rattle.bgp_fields.proofs.Prelude.{take-append-drop, drop_all, flat_map-cons, drop-drop, Context, PathFamilies, Reading, Field, Group, Unread, MessagePart, SectionPart}
use Rattle.bgp_fields.proofs.Prelude.{ValuePart, no_fields, value_fields_in, section_fields_in, message_fields_in, fields_of, path_fields, plain_reading, refresh_fields, Tiles, octets_in, AreTheOctets}
use Rattle.bgp_fields.proofs.Prelude.{value_plan_in, section_plan_in, message_plan_in}
use Rattle.bgp_fields.proofs.Tilings.{Tiles-to, walk-tiles}

-- fields from an offset on, up to the end, are the octets from there on
pub joined : (octets : List ℕ) (from : ℕ) (fs : List Field) → Tiles from (length octets) fs → flat_map (octets_in octets) fs ≡ drop from octets
joined octets from [] t = sym (drop_all from octets (omega (arith, t)))
joined octets from (f ∷ fs) t =
    flat_map-cons (octets_in octets) f fs
    ∙ ap (λ (b : List ℕ). take f.len (drop f.at octets) ++ b)
    (joined octets (f.at + f.len) fs t.2 ∙ sym (drop-drop f.len f.at octets))
    ∙ take-append-drop f.len (drop f.at octets)
    ∙ ap (λ (n : ℕ). drop n octets) t.0

none-tiles : (none : Unit {0}) (at : ℕ) (group : Option Group) (b : List ℕ) → Tiles at (at + length b) (no_fields none at group b)
none-tiles none at group [] = omega arith
none-tiles none at group (x ∷ b) = (refl, omega arith, refl)

value-tiles : (r : Reading) (part : ValuePart) (at : ℕ) (group : Option Group) (b : List ℕ) → Tiles at (at + length b) (value_fields_in r part at group b)
value-tiles r = walk-tiles (Unit {0}) ValuePart (ValuePart.All Unread) (value_plan_in r) no_fields none-tiles

section-tiles : (r : Reading) (part : SectionPart) (at : ℕ) (group : Option Group) (b : List ℕ)
    → Tiles at (at + length b) (section_fields_in r part at group b)
section-tiles r = walk-tiles ValuePart SectionPart (SectionPart.All Unread) (section_plan_in r) (value_fields_in r) (value-tiles r)

message-tiles : (r : Reading) (part : MessagePart) (at : ℕ) (group : Option Group) (b : List ℕ)
    → Tiles at (at + length b) (message_fields_in r part at group b)
message-tiles r = walk-tiles SectionPart MessagePart (MessagePart.All Unread) (message_plan_in r.paths) (section_fields_in r) (section-tiles r)

fields-from : (r : Reading) (part : MessagePart) (octets : List ℕ) → AreTheOctets octets (message_fields_in r part 0 None octets)
fields-from r part octets =
    let fields = message_fields_in r part 0 None octets in
    let tiles : Tiles 0 (length octets) fields = Tiles-to 0 (0 + length octets) (length octets) fields (omega arith) (message-tiles r part 0 None octets) in
    record { placed = tiles; joined = joined octets 0 fields tiles }

pub fields-octets : (ctx : Context) (octets : List ℕ) → AreTheOctets octets (fields_of ctx octets)
fields-octets ctx = fields-from (plain_reading ctx) MessagePart.Marker

pub refresh-octets : (ctx : Context) (octets : List ℕ) → AreTheOctets octets (refresh_fields ctx octets)
refresh-octets ctx = fields-from (plain_reading ctx) MessagePart.RefreshMarker

pub path-octets : (ctx : Context) (families : PathFamilies) (octets : List ℕ) → AreTheOctets octets (path_fields ctx families octets)
path-octets ctx families = fields-from (record { ctx = ctx; paths = Some families }) MessagePart.Marker
