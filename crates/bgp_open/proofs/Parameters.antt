-- A parameter is read by its reader.
use Rattle.bgp_wire.proofs.Std.{◌≡◌, ℕ, ◌<◌, Bool, true, false, cond, eqb, leb, take, drop, List, [], ◌∷◌, ◌++◌, length, Option, Some, None, refl, ap, ◌∙◌, arith}
use Rattle.std.proofs.lemmas.Bool.{eqb-true}
use Rattle.bgp_wire.specs.Prelude.{pieces, Reads, BehindLength, behind_length}
use Rattle.bgp_wire.proofs.Firsts.{cond-then}
use Rattle.bgp_wire.proofs.Pieces.{found_not}
use Rattle.bgp_wire.proofs.Behinds.{BehindLength-reads}
use Rattle.bgp_numbers.specs.declared.parameter.TheConstants.{CAPABILITIES}
use Rattle.bgp_open.specs.declared.capability.Capability.{Capability}
use Rattle.bgp_open.specs.Prelude.{IsCapability, one_capability, IsParameter, one_parameter}
use Rattle.bgp_open.proofs.Capabilities.{capability-reads}

value_reads : Reads (BehindLength IsCapability) (behind_length one_capability)
value_reads = BehindLength-reads Capability IsCapability one_capability capability-reads

finds : (cs : List Capability) (front back : List ℕ) → IsParameter cs front → one_parameter (front ++ back) ≡ Some (cs, back)
unfolding one_parameter
finds cs front back p = ap (λ (x : List ℕ). one_parameter (x ++ back)) p.octets ∙ value_reads.finds cs p.value back p.holds

gives_at : (kind : ℕ) (b : List ℕ) (cs : List Capability) (after : List ℕ) (t : Bool) → eqb kind CAPABILITIES ≡ t → cond t (behind_length one_capability b) None ≡ Some (cs, after)
    → (front : List ℕ) × (kind ∷ b ≡ front ++ after) × IsParameter cs front
gives_at kind b cs after true two e =
    let gave = value_reads.gives b cs after e in
    (kind ∷ gave.0, ap (λ (x : List ℕ). kind ∷ x) gave.1, record { value = gave.0; octets = ap (λ (k : ℕ). k ∷ gave.0) (eqb-true kind CAPABILITIES two); holds = gave.2 })
gives_at kind b cs after false two e = absurd (found_not (List Capability) (cs, after) e)

gives : (b : List ℕ) (cs : List Capability) (after : List ℕ) → one_parameter b ≡ Some (cs, after) → (front : List ℕ) × (b ≡ front ++ after) × IsParameter cs front
unfolding one_parameter
gives [] cs after e = absurd (found_not (List Capability) (cs, after) e)
gives (kind ∷ b) cs after e = gives_at kind b cs after (eqb kind CAPABILITIES) refl e

not_empty : (b : List ℕ) (kind : ℕ) (value : List ℕ) → b ≡ kind ∷ value → 0 < length b
not_empty b kind value e = omega (arith, ap length e)

pub parameter-reads : Reads IsParameter one_parameter
parameter-reads = record {
  not_empty = λ cs b p. not_empty b CAPABILITIES p.value p.octets;
  finds = finds;
  gives = gives;
}

-- ---- the parameter at the front, test by test

abbrev nothing : Option (List Capability × List ℕ)
nothing = None

none_both : (t : Bool) → cond t nothing nothing ≡ nothing
none_both true = refl
none_both false = refl

-- the capabilities of the octets, where there is nothing else
abbrev whole_in : List ℕ × List ℕ → Option (List Capability × List ℕ)
whole_in cut = cond (eqb (length (pieces one_capability cut.0).1) 0) (Some ((pieces one_capability cut.0).0, cut.1)) None

pub one_parameter-short : (b : List ℕ) → length b < 2 → one_parameter b ≡ None
unfolding one_parameter behind_length
one_parameter-short [] short = refl
one_parameter-short (kind ∷ []) short = none_both (eqb kind CAPABILITIES)
one_parameter-short (kind ∷ n ∷ b) short = absurd (omega arith)

pub one_parameter-tests : (kind n : ℕ) (b : List ℕ) → one_parameter (kind ∷ n ∷ b)
    ≡ cond (eqb kind CAPABILITIES) (cond (leb n (length b)) (cond (eqb (length (pieces one_capability (take n b)).1) 0) (Some ((pieces one_capability (take n b)).0, drop n b)) None) None) None
unfolding one_parameter behind_length
one_parameter-tests kind n b =
    ap (λ (o : Option (List Capability × List ℕ)). cond (eqb kind CAPABILITIES) o None) (cond-then (leb n (length b)) (take n b, drop n b) whole_in)

pub ruleset steps = (one_parameter-short, one_parameter-tests)
