-- The routes in prefix fields, by family and by the field of the message that has them.
use Rattle.std.specs.Prelude.{◌≡◌, ◌++◌, ℕ, Bool, true, false, List, [], ◌∷◌, Option, None, Some, if◌then◌else◌}
use Rattle.std.specs.List.{flat_map}
use Rattle.bgp_prefix.specs.Prelude.{PrefixValue, one_prefix}
use Rattle.bgp_update.specs.declared.routes.Routes.{Routes}
use Rattle.bgp_update.specs.declared.update.Update.{Update}
use Rattle.bgp_update.specs.Prelude.{gone_ip4, gone_ip6, reached_ip4, reached_ip6}
use Rattle.bgp_fields.specs.declared.field.Field.{Field}
use Rattle.bgp_fields.specs.declared.kind.FieldKind.{FieldKind}
use Rattle.bgp_fields.specs.declared.kind.FieldKind.TheVariants.{WithdrawnPrefix, UnreachPrefix4, UnreachPrefix6, ReachPrefix4, ReachPrefix6, NlriPrefix}
use Rattle.bgp_fields.specs.Laws.{octets_in}

-- the length of an address in a prefix of this kind; none for any other kind
abbrev pub prefix_width : FieldKind → Option ℕ
prefix_width WithdrawnPrefix = Some 4
prefix_width UnreachPrefix4 = Some 4
prefix_width UnreachPrefix6 = Some 16
prefix_width ReachPrefix4 = Some 4
prefix_width ReachPrefix6 = Some 16
prefix_width NlriPrefix = Some 4
prefix_width _ = None

abbrev pub is_withdrawn_prefix : FieldKind → Bool
is_withdrawn_prefix WithdrawnPrefix = true
is_withdrawn_prefix _ = false

abbrev pub is_unreach_prefix4 : FieldKind → Bool
is_unreach_prefix4 UnreachPrefix4 = true
is_unreach_prefix4 _ = false

abbrev pub is_unreach_prefix6 : FieldKind → Bool
is_unreach_prefix6 UnreachPrefix6 = true
is_unreach_prefix6 _ = false

abbrev pub is_reach_prefix4 : FieldKind → Bool
is_reach_prefix4 ReachPrefix4 = true
is_reach_prefix4 _ = false

abbrev pub is_reach_prefix6 : FieldKind → Bool
is_reach_prefix6 ReachPrefix6 = true
is_reach_prefix6 _ = false

abbrev pub is_nlri_prefix : FieldKind → Bool
is_nlri_prefix NlriPrefix = true
is_nlri_prefix _ = false

-- the prefix that is all of the octets
abbrev pub prefix_alone : Option (PrefixValue × List ℕ) → List PrefixValue
prefix_alone (Some (p, [])) = p ∷ []
prefix_alone _ = []

abbrev pub prefix_in : Option ℕ → List ℕ → List PrefixValue
prefix_in None b = []
prefix_in (Some width) b = prefix_alone (one_prefix width b)

-- the prefixes in fields of the chosen kinds, in their order
abbrev pub prefixes_shown : (FieldKind → Bool) → List ℕ → List Field → List PrefixValue
prefixes_shown chosen octets fields =
    flat_map (λ f. if chosen f.kind then prefix_in (prefix_width f.kind) (octets_in octets f) else []) fields

-- the prefix fields are the routes of an UPDATE, by family and by the field that has them
pub record ShowsRoutes (octets : List ℕ) (fields : List Field) (u : Update) : Type 0 where
  pub withdrawn : prefixes_shown is_withdrawn_prefix octets fields ≡ u.withdrawn
  pub unreach4 : prefixes_shown is_unreach_prefix4 octets fields ≡ gone_ip4 u.attrs.mp_unreach
  pub unreach6 : prefixes_shown is_unreach_prefix6 octets fields ≡ gone_ip6 u.attrs.mp_unreach
  pub reach4 : prefixes_shown is_reach_prefix4 octets fields ≡ reached_ip4 u.attrs.mp_reach
  pub reach6 : prefixes_shown is_reach_prefix6 octets fields ≡ reached_ip6 u.attrs.mp_reach
  pub nlri : prefixes_shown is_nlri_prefix octets fields ≡ u.nlri

-- the prefix fields are the routes of a message that is treated as a withdrawal, each family in its order
pub record ShowsWithdrawal (octets : List ℕ) (fields : List Field) (routes : Routes) : Type 0 where
  pub ip4 : routes.ip4 ≡ prefixes_shown is_withdrawn_prefix octets fields ++ (prefixes_shown is_unreach_prefix4 octets fields
      ++ (prefixes_shown is_reach_prefix4 octets fields ++ prefixes_shown is_nlri_prefix octets fields))
  pub ip6 : routes.ip6 ≡ prefixes_shown is_unreach_prefix6 octets fields ++ prefixes_shown is_reach_prefix6 octets fields
