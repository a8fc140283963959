-- What is written is a frame, and is read back.
use Rattle.std.specs.Prelude.{if◌then◌else◌}
use Rattle.bgp_wire.proofs.Std.{◌≡◌, ℕ, Bool, true, false, not, ◌&&◌, List, [], length, Ok, Err, refl, sym, ap, subst, ◌∙◌, arith, from_be_bytes-to_be_bytes_2}
use Rattle.bgp_frame.specs.Prelude.{IsFrameIn, IsLengthIn, wide_types}
use Rattle.bgp_frame.specs.declared.kind.WideKind.TheVariants as wide
use Rattle.bgp_terms.specs.declared.refreshes.Refreshes.TheVariants as refreshes
use Rattle.bgp_refresh.specs.declared.fault.RefreshFault.TheVariants as fault
use Rattle.bgp_refresh.specs.declared.mark.RefreshMark.{RefreshMark}
use Rattle.bgp_refresh.specs.declared.mark.RefreshMark.TheVariants as mark
use Rattle.bgp_refresh.specs.Prelude.{IsCanonical, Refresh, is_bound, is_nothing, mark_of, refresh_body, refresh_octets, refresh_of, subtype_of}

-- a message to which nothing is added
abbrev bare : ℕ → ℕ → RefreshMark → Refresh
bare afi safi m = record { afi = afi; safi = safi; mark = m; rest = [] }

reads_mark : (m : RefreshMark) (n afi safi : ℕ) → n ≡ afi → (if is_bound m && not (is_nothing []) then Err fault.Length else Ok (bare n safi m)) ≡ Ok (bare afi safi m)
reads_mark mark.Request n afi safi same = ap (λ (k : ℕ). Ok (bare k safi mark.Request)) same
reads_mark mark.Begin n afi safi same = ap (λ (k : ℕ). Ok (bare k safi mark.Begin)) same
reads_mark mark.End n afi safi same = ap (λ (k : ℕ). Ok (bare k safi mark.End)) same
reads_mark (mark.Ignored subtype) n afi safi same = ap (λ (k : ℕ). Ok (bare k safi (mark.Ignored subtype))) same

pub read_back : (r : Refresh) → IsCanonical r → refresh_of refreshes.Enhanced (refresh_body r) ≡ Ok r
read_back r is =
    subst (λ (rest : List ℕ). refresh_of refreshes.Enhanced (refresh_body (record { afi = r.afi; safi = r.safi; mark = r.mark; rest = rest })) ≡ Ok (record { afi = r.afi; safi = r.safi; mark = r.mark; rest = rest }))
    (sym is.nothing)
    (reads_mark (mark_of refreshes.Enhanced (subtype_of r.mark)) _ r.afi r.safi (from_be_bytes-to_be_bytes_2 r.afi is.afi) ∙ ap (λ (m : RefreshMark). Ok (bare r.afi r.safi m)) is.mark)

fits : (long : Bool) (afi safi : ℕ) (m : RefreshMark) → IsLengthIn (wide_types (record { refresh = true; long = long })) wide.Refresh (length (refresh_octets (bare afi safi m)))
fits true afi safi m = record { least = omega arith; most = omega arith }
fits false afi safi m = record { least = omega arith; most = omega arith }

pub written_frame : (long : Bool) (r : Refresh) → IsCanonical r → IsFrameIn (wide_types (record { refresh = true; long = long })) (record { kind = wide.Refresh; body = refresh_body r }) (refresh_octets r)
written_frame long r is =
    subst (λ (rest : List ℕ). IsFrameIn (wide_types (record { refresh = true; long = long })) (record { kind = wide.Refresh; body = refresh_body (record { afi = r.afi; safi = r.safi; mark = r.mark; rest = rest }) }) (refresh_octets (record { afi = r.afi; safi = r.safi; mark = r.mark; rest = rest })))
    (sym is.nothing)
    (record { octets = refl; allowed = fits long r.afi r.safi r.mark })
