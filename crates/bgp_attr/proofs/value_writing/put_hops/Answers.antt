use Rattle.bgp_wire.proofs.Std.{◌≡◌, ℕ, ◌+◌, ◌≤◌, List, [], ◌∷◌, ◌++◌, length, get_or, refl, sym, ap, ap₂, arith, on_ok_weaker, on_err_weaker, w16, to_be_bytes}
use Rattle.std.proofs.lemmas.List.{length-append}
use Rattle.bgp_numbers.specs.declared.safi.TheConstants.{UNICAST}
use Rattle.bgp_attr.specs.Prelude.{reach_row}
use Rattle.bgp_attr.proofs.Parts.{on_refusal, part_refused, third_refused, last_refused, part_written}
use Rattle.bgp_attr.proofs.value_writing.put_hops.Goals as goal

hops_fit : (afi : ℕ) (hop link : List ℕ) → 4 + length hop + length link ≤ length (reach_row afi (hop ++ link) [])
hops_fit afi hop link = omega (arith, length-append hop link, length-append (hop ++ link) (0 ∷ []))

hop_fits : (afi : ℕ) (hop link : List ℕ) → 4 + length hop ≤ length (reach_row afi (hop ++ link) [])
hop_fits afi hop link = omega (arith, hops_fit afi hop link)

row_is : (afi high low : ℕ) (hop link : List ℕ) → high ∷ low ∷ [] ≡ to_be_bytes w16 afi
    → ((high ∷ low ∷ UNICAST ∷ (length hop + length link) ∷ [] ++ hop) ++ link) ++ 0 ∷ [] ≡ reach_row afi (hop ++ link) []
row_is afi high low hop link e = ap₂ (λ (b : List ℕ) (n : ℕ). b ++ (UNICAST ∷ n ∷ ((hop ++ link) ++ 0 ∷ []))) e (sym (length-append hop link))

pub returns-in_err-put_octets-2-clause-err : goal.returns-in_err-put_octets-2-clause-err
returns-in_err-put_octets-2-clause-err g c =
    on_refusal c.from_residual-in_err-put_octets-2.result (part_refused g.O.Output.room (g.O.Output.written c.args.out.now) _ _ (reach_row c.args.family (c.args.hop.now ++ c.args.link.now) []) _ (g.O.Output.written c.put_octets-2.new.out)
    (hop_fits c.args.family c.args.hop.now c.args.link.now) c.in_ok-put_octets.ensures.ok.0 c.in_err-put_octets-2.ensures.err)

pub returns-in_err-put_octets-3-clause-err : goal.returns-in_err-put_octets-3-clause-err
returns-in_err-put_octets-3-clause-err g c =
    on_refusal c.from_residual-in_err-put_octets-3.result (third_refused g.O.Output.room (g.O.Output.written c.args.out.now) _ _ _ (reach_row c.args.family (c.args.hop.now ++ c.args.link.now) []) _ _ (g.O.Output.written c.put_octets-3.new.out)
    (hops_fit c.args.family c.args.hop.now c.args.link.now) c.in_ok-put_octets.ensures.ok.0 c.in_ok-put_octets-2.ensures.ok.0 c.in_err-put_octets-3.ensures.err)

pub returns : goal.returns
returns g c =
    let old = g.O.Output.written c.args.out.now in
    let row = row_is c.args.family _ _ c.args.hop.now c.args.link.now (ap (λ (l : List ℕ). get_or l 0 0 ∷ get_or l 1 0 ∷ []) c.to_be_bytes.ensures) in
    let both = part_written old _ _ _ _ _ refl (part_written old _ _ _ _ _ refl c.in_ok-put_octets.ensures.ok.0 c.in_ok-put_octets-2.ensures.ok.0) c.in_ok-put_octets-3.ensures.ok.0 in
    record {
      ok = on_ok_weaker c.put_octets-4.result (λ p. (part_written old _ _ _ _ _ row both p.0, c.in_ok-put_octets-2.ensures.ok.1, c.in_ok-put_octets-3.ensures.ok.1)) c.put_octets-4.ensures.ok;
      err = on_err_weaker c.put_octets-4.result (last_refused g.O.Output.room old _ _ _ _ (g.O.Output.written c.put_octets-4.new.out) row both) c.put_octets-4.ensures.err;
    }
