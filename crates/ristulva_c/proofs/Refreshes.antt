-- Where the octets after a ROUTE-REFRESH's four are.
use Rattle.ristulva_c.proofs.Below.{◌≡◌, ℕ, ◌+◌, ◌≤◌, Bool, true, false, not, ◌&&◌, cond, List, [], ◌∷◌, ◌++◌, length, take, drop, Ok, Err, Result, append_assoc, refl, sym, ap, ◌∙◌, drop_at, take_at, take-append-drop, drop-drop}
use Rattle.std.specs.Int.{w16, from_be_bytes}
use Rattle.bgp_frame.specs.declared.kind.WideKind.{WideKind}
use Rattle.bgp_frame.specs.declared.kind.WideKind.TheVariants as wide
use Rattle.bgp_frame.specs.Prelude.{IsFrameIn, header_in}
use Rattle.bgp_frame.specs.steps.AreTypes.{wide-are}
use Rattle.bgp_frame.proofs.Headers.{length-header}
use Rattle.bgp_refresh.specs.declared.fault.RefreshFault.{RefreshFault}
use Rattle.bgp_refresh.specs.declared.fault.RefreshFault.TheVariants as fault
use Rattle.bgp_refresh.specs.Prelude.{Refresh, is_bound, is_nothing, mark_of, refresh_of}
use Rattle.bgp_terms.specs.declared.refreshes.Refreshes.{Refreshes}
use Rattle.bgp_terms.specs.Prelude.{Agreed}
use Rattle.bgp_wide.specs.Prelude.{grammar_of, types_in}
use Rattle.ristulva_c.specs.declared.refresh.ToldRefresh.{ToldRefresh}
use Rattle.ristulva_c.specs.Refresh.{Says, accepted, refresh_in, refresh_told}
use Rattle.ristulva_c.specs.Span.{octets_in}
use Rattle.ristulva_c.specs.steps.Refresh.{IsSaid}

-- a body that is accepted has four octets before the rest
record IsSplit (body : List ℕ) (r : Refresh) : Type 0 where
  first : List ℕ
  is : body ≡ first ++ r.rest
  four : length first ≡ 4

split : (refreshes : Refreshes) (body : List ℕ) (r : Refresh) → refresh_of refreshes body ≡ Ok r → IsSplit body r
split refreshes [] r e = absurd cc
split refreshes (a ∷ []) r e = absurd cc
split refreshes (a ∷ b ∷ []) r e = absurd cc
split refreshes (a ∷ b ∷ c ∷ []) r e = by_bound (is_bound (mark_of refreshes c)) e
  where
    by_bound : (t : Bool) → (let x : Result Refresh RefreshFault = cond t (Err fault.Length) (Err fault.Short) in x) ≡ Ok r → IsSplit (a ∷ b ∷ c ∷ []) r
    by_bound true e = absurd cc
    by_bound false e = absurd cc
split refreshes (a ∷ b ∷ c ∷ d ∷ rest) r e = by_bound (is_bound (mark_of refreshes c) && not (is_nothing rest)) e
  where
    one : Refresh
    one = record { afi = from_be_bytes w16 (a ∷ b ∷ []); safi = d; mark = mark_of refreshes c; rest = rest }

    by_bound : (t : Bool) → cond t (Err fault.Length) (Ok one) ≡ Ok r → IsSplit (a ∷ b ∷ c ∷ d ∷ rest) r
    by_bound true e = absurd cc
    by_bound false e = let same : one ≡ r = cc in record { first = a ∷ b ∷ c ∷ d ∷ []; is = ap (λ (x : Refresh). a ∷ b ∷ c ∷ d ∷ x.rest) same; four = refl }

rest_lies : (t : Agreed) (octets : List ℕ) (len : ℕ) (body : List ℕ) (r : Refresh) → IsFrameIn (types_in t) (record { kind = wide.Refresh; body = body }) (take len octets)
    → refresh_of t.refresh body ≡ Ok r → octets_in (refresh_told r).rest octets ≡ r.rest
rest_lies t octets len body r frame is =
    let parts = split t.refresh body r is in
    let head = header_in (types_in t) wide.Refresh (19 + length body) in
    let tail = drop len octets in
    let whole : octets ≡ head ++ (parts.first ++ (r.rest ++ tail)) =
    sym (take-append-drop len octets) ∙ ap (λ (x : List ℕ). x ++ tail) frame.octets ∙ append_assoc head body tail
    ∙ ap (λ (x : List ℕ). head ++ (x ++ tail)) parts.is ∙ ap (λ (x : List ℕ). head ++ x) (append_assoc parts.first r.rest tail) in
    let at19 : drop 19 octets ≡ parts.first ++ (r.rest ++ tail) =
    ap (drop 19) whole ∙ drop_at head (parts.first ++ (r.rest ++ tail)) 19 (length-header (types_in t) (wide-are (grammar_of t.refresh)) wide.Refresh (19 + length body)) in
    let at23 : drop 23 octets ≡ r.rest ++ tail = sym (drop-drop 4 19 octets) ∙ ap (drop 4) at19 ∙ drop_at parts.first (r.rest ++ tail) 4 parts.four in
    ap (take (length r.rest)) at23 ∙ take_at r.rest tail (length r.rest) refl

pub says : (t : Agreed) (octets : List ℕ) (kind : WideKind) (len : ℕ) (body : List ℕ) (status : ℕ) (before behind : ToldRefresh)
    → (len ≤ length octets) × IsFrameIn (types_in t) (record { kind = kind; body = body }) (take len octets)
    → IsSaid (refresh_in t.refresh kind body) status before behind → Says octets (refresh_in t.refresh kind body) status before behind
says t octets (wide.Base kind) len body status before behind shows said = said
says t octets wide.Refresh len body status before behind shows said = by_reading (refresh_of t.refresh body) refl said
  where
    by_reading : (read : Result Refresh RefreshFault) → refresh_of t.refresh body ≡ read → IsSaid (accepted read) status before behind → Says octets (accepted read) status before behind
    by_reading (Ok r) is said = (said.0, (said.1, ap (λ (x : ToldRefresh). octets_in x.rest octets) said.1 ∙ rest_lies t octets len body r shows.1 is))
    by_reading (Err why) is said = said
