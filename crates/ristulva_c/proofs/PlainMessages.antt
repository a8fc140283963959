-- A message without path identifiers is one.
use Rattle.ristulva_c.proofs.Below.{◌≡◌, ℕ, ◌+◌, ◌≤◌, true, List, length, take, arith, AreOctets, IsFrame}
use Rattle.bgp_frame.specs.Kind.{plain}
use Rattle.bgp_frame.specs.declared.kind.Kind.TheVariants as kinds
use Rattle.bgp_frame.specs.declared.kind.WideKind.{WideKind}
use Rattle.bgp_frame.specs.declared.kind.WideKind.TheVariants as wide
use Rattle.bgp_frame.specs.steps.AreTypes.{plain-are}
use Rattle.bgp_frame.specs.Prelude.{IsFrameIn, IsLength}
use Rattle.bgp_frame.proofs.FrameLemmas.{length-IsFrame}
use Rattle.bgp_terms.specs.Prelude.{Agreed}
use Rattle.bgp_wide.specs.Prelude.{is_offered, types_in}
use Rattle.bgp_wide.proofs.Bases.{base_frame}
use Rattle.ristulva_c.specs.Paths.{is_update}

-- the length of an UPDATE that is found is allowed
pub update_allowed : (t : Agreed) (octets : List ℕ) (kind : WideKind) (len : ℕ) (body : List ℕ) → is_update kind ≡ true
    → (len ≤ length octets) × IsFrameIn (types_in t) (record { kind = kind; body = body }) (take len octets) → IsLength kinds.Update (19 + length body)
update_allowed t octets (wide.Base kinds.Update) len body is shows =
    let frame : IsFrame (record { kind = kinds.Update; body = body }) (take len octets) = base_frame (is_offered t.refresh) kinds.Update body (take len octets) shows.1 in
    let long = length-IsFrame plain plain-are (record { kind = kinds.Update; body = body }) (take len octets) frame in
    record { least = omega (arith, long, frame.allowed.least); most = omega (arith, long, frame.allowed.most) }
update_allowed t octets (wide.Base kinds.Open) len body is shows = absurd cc
update_allowed t octets (wide.Base kinds.Notification) len body is shows = absurd cc
update_allowed t octets (wide.Base kinds.Keepalive) len body is shows = absurd cc
update_allowed t octets wide.Refresh len body is shows = absurd cc

-- and so is that without path identifiers
pub plain_allowed : (body plain : List ℕ) → length plain ≤ length body → (4 ≤ length body → 4 ≤ length plain) → IsLength kinds.Update (19 + length body)
    → IsLength kinds.Update (19 + length plain)
plain_allowed body plain shorter longer allowed =
    let least = longer (omega (arith, allowed.least)) in
    record { least = omega (arith, least); most = omega (arith, shorter, allowed.most) }
