-- The UPDATE that withdraws routes, as it is written.
use Rattle.bgp_clean.proofs.Prelude.{◌≡◌, ℕ, List, [], ◌∷◌, refl, sym, ap, ◌∙◌, flat_map, append-nil, Context, PrefixValue, canonical, run_octets}
use Rattle.bgp_clean.proofs.Prelude.{MpUnreach, Attrs, Routes, slot, attrs_from, no_attrs, whole_unreach, gone_octets, withdrawal_octets, attributes_octets}
use Rattle.bgp_clean.proofs.Prelude.{written_body, recognised_types, unreach_of, withdrawal}
use Rattle.bgp_update.specs.Prelude.{body_octets}

module _ (ctx : Context) where
  abbrev gone : List PrefixValue → Attrs
  gone routes = record no_attrs { mp_unreach = unreach_of routes }

  attributes-are : (routes : List PrefixValue) → attributes_octets ctx (gone routes) ≡ gone_octets routes
  unfolding slot attrs_from
  attributes-are [] = ap (flat_map (canonical ctx)) (sym (recognised_types (gone []) refl))
  attributes-are (r ∷ rs) = ap (flat_map (canonical ctx)) (sym (recognised_types (gone (r ∷ rs)) refl)) ∙ append-nil (whole_unreach (MpUnreach.Ip6 (r ∷ rs)))

  pub withdrawal_is : (r : Routes) → written_body ctx (withdrawal r) ≡ withdrawal_octets r
  withdrawal_is r = ap (λ (x : List ℕ). body_octets (run_octets r.ip4) x []) (attributes-are r.ip6)
