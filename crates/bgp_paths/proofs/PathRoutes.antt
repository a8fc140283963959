-- Routes are written after their path identifiers, and read back.
use Rattle.bgp_wire.proofs.Std.{◌≡◌, ℕ, List, ◌++◌, Some, None, sym, ap, ◌∙◌, append_assoc}
use Rattle.bgp_wire.proofs.Pieces.{pieces-none, pieces-some}
use Rattle.bgp_prefix.specs.Prelude.{IsPrefix, PrefixValue, one_prefix, run_of}
use Rattle.bgp_prefix.proofs.PrefixLemmas.{IsPrefix-reads}
use Rattle.bgp_paths.specs.Prelude.{first_or_zero, later_of, route_octets, routes_with, with_numbers}

module _ (width : ℕ) where
  -- the first route, and the others
  pub with_first : (ns : List ℕ) (b : List ℕ) (p : PrefixValue) (after : List ℕ) → Some (p, after) ≡ one_prefix width b
      → routes_with width ns b ≡ route_octets (first_or_zero ns) p ++ routes_with width (later_of ns) after
  with_first ns b p after e =
      ap (λ (q : List PrefixValue × List ℕ). with_numbers ns q.0 ++ q.1) (pieces-some PrefixValue (IsPrefix width) (one_prefix width) (IsPrefix-reads width) b p after (sym e))
      ∙ append_assoc (route_octets (first_or_zero ns) p) (with_numbers (later_of ns) (run_of width after).0) (run_of width after).1

  pub with_none : (ns : List ℕ) (b : List ℕ) → None ≡ one_prefix width b → routes_with width ns b ≡ b
  with_none ns b e = ap (λ (q : List PrefixValue × List ℕ). with_numbers ns q.0 ++ q.1) (pieces-none PrefixValue (IsPrefix width) (one_prefix width) (IsPrefix-reads width) b (sym e))
