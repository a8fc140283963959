-- What is collected capability by capability is what all capabilities offer together.
use Rattle.std.proofs.Common.{◌≡◌, Bool, ◌||◌, List, [], ◌∷◌, ◌++◌, take, refl, sym, ap, ◌∙◌, append_assoc}
use Rattle.std.specs.List.{list_any}
use Rattle.std.proofs.Math.Bool.{or-false, or_assoc}
use Rattle.std.proofs.lemmas.List.{append-nil}
use Rattle.bgp_numbers.specs.declared.afi.TheConstants.{IPV4, IPV6}
use Rattle.bgp_numbers.specs.declared.capability.TheConstants.{ROUTE_REFRESH, EXTENDED_MESSAGE, ENHANCED_ROUTE_REFRESH}
use Rattle.bgp_open.specs.declared.capability.Capability.{Capability}
use Rattle.bgp_terms.specs.declared.family.Family.{Family}
use Rattle.bgp_terms.specs.declared.paths.Role.TheVariants.{Reads, Sends}
use Rattle.bgp_terms.specs.Prelude.{Offered, no_offer, offered_by, offering_more, offers_hop6, offers_more, offers_plain, offers_role, one_or_none, opaque_families, opaque_of}
use Rattle.bgp_terms.proofs.KeptFamilies.{kept-again, take-front}

-- what was collected so far, and what these capabilities add
abbrev with : Offered → List Capability → Offered
with p caps = record {
  refresh = p.refresh || list_any (offers_plain ROUTE_REFRESH) caps;
  enhanced = p.enhanced || list_any (offers_plain ENHANCED_ROUTE_REFRESH) caps;
  long = p.long || list_any (offers_plain EXTENDED_MESSAGE) caps;
  hop6 = p.hop6 || list_any offers_hop6 caps;
  reads4 = p.reads4 || list_any (offers_role Reads IPV4) caps;
  sends4 = p.sends4 || list_any (offers_role Sends IPV4) caps;
  reads6 = p.reads6 || list_any (offers_role Reads IPV6) caps;
  sends6 = p.sends6 || list_any (offers_role Sends IPV6) caps;
  families = take 42 (p.families ++ opaque_families caps);
}

same : (a b c d e f g h i j k l m n o p : Bool) (s t : List Family) → a ≡ b → c ≡ d → e ≡ f → g ≡ h → i ≡ j → k ≡ l → m ≡ n → o ≡ p → s ≡ t
    → (let x : Offered = record { refresh = a; enhanced = c; long = e; hop6 = g; reads4 = i; sends4 = k; reads6 = m; sends6 = o; families = s } in
    let y : Offered = record { refresh = b; enhanced = d; long = f; hop6 = h; reads4 = j; sends4 = l; reads6 = n; sends6 = p; families = t } in x ≡ y)
same a b c d e f g h i j k l m n o p s t q1 q2 q3 q4 q5 q6 q7 q8 q9 = rw (q1, q2, q3, q4, q5, q6, q7, q8, q9) refl

offering-with : (p : Offered) (caps : List Capability) → take 42 p.families ≡ p.families → offering_more p caps ≡ with p caps
offering-with p [] kept =
    sym (same _ p.refresh _ p.enhanced _ p.long _ p.hop6 _ p.reads4 _ p.sends4 _ p.reads6 _ p.sends6 _ p.families
    (or-false p.refresh) (or-false p.enhanced) (or-false p.long) (or-false p.hop6) (or-false p.reads4) (or-false p.sends4) (or-false p.reads6) (or-false p.sends6)
    (ap (take 42) (append-nil p.families) ∙ kept))
offering-with p (c ∷ later) kept =
    offering-with (offers_more p c) later (kept-again p.families (one_or_none (opaque_of c)))
    ∙ same _ _ _ _ _ _ _ _ _ _ _ _ _ _ _ _ _ _
    (or_assoc p.refresh (offers_plain ROUTE_REFRESH c) _) (or_assoc p.enhanced (offers_plain ENHANCED_ROUTE_REFRESH c) _) (or_assoc p.long (offers_plain EXTENDED_MESSAGE c) _)
    (or_assoc p.hop6 (offers_hop6 c) _)
    (or_assoc p.reads4 (offers_role Reads IPV4 c) _) (or_assoc p.sends4 (offers_role Sends IPV4 c) _) (or_assoc p.reads6 (offers_role Reads IPV6 c) _) (or_assoc p.sends6 (offers_role Sends IPV6 c) _)
    (take-front 42 (p.families ++ one_or_none (opaque_of c)) (opaque_families later) ∙ ap (take 42) (append_assoc p.families (one_or_none (opaque_of c)) (opaque_families later)))

-- what capabilities offer is collected one by one
pub offering-all : (p : Offered) (caps others : List Capability) → p ≡ no_offer → caps ≡ others → offering_more p caps ≡ offered_by others
offering-all p caps others none these = rw (none, these) (offering-with no_offer others refl)
