-- The number of octets wanted.
use Rattle.ristulva_c.proofs.Below.{◌≡◌, ℕ, ◌<◌, ◌≤◌, List, length, Ok, Err, refl, sym, ap, ◌∙◌, arith, length_field, head_of, wanted_by, wanted, Waits, wanted_by_head}
use Rattle.bgp_frame.proofs.FrameLemmas.{wanted_under}
use Rattle.bgp_frame.proofs.HeadLemmas.{Says-head_of}
use Rattle.bgp_frame.specs.Kind.{plain}
use Rattle.bgp_frame.specs.declared.grammar.WideGrammar.{WideGrammar}
use Rattle.bgp_frame.specs.declared.kind.WideKind.{WideKind}
use Rattle.bgp_frame.specs.Prelude.{Types, WaitsIn, head_of_in, wanted_in, wide_types}
use Rattle.bgp_frame.specs.steps.AreTypes.{plain-are, wide-are}

by_head : (b : List ℕ) (r : _) → head_of b ≡ r → 19 ≤ length b → Waits b → wanted b ≡ length_field b
by_head b (Ok h) e long waits = (wanted_by_head plain plain-are b long ∙ ap wanted_by e) ∙ sym (Says-head_of plain plain-are b h e).len_is
by_head b (Err f) e long waits = let is : wanted b ≡ 19 = wanted_by_head plain plain-are b long ∙ ap wanted_by e in absurd (omega arith)

-- with a whole header, and less than its message: what its Length says
pub wanted_is_length : (b : List ℕ) → 19 ≤ length b → Waits b → wanted b ≡ length_field b
wanted_is_length b long waits = by_head b (head_of b) refl long waits

-- without one: a header
pub wanted_is_header : (b : List ℕ) → length b < 19 → wanted b ≡ 19
wanted_is_header = wanted_under plain plain-are

-- ---- by terms

module _ (g : WideGrammar) where
  abbrev types : Types WideKind
  types = wide_types g

  wide_by_head : (b : List ℕ) (r : _) → head_of_in types b ≡ r → 19 ≤ length b → WaitsIn types b → wanted_in types b ≡ length_field b
  wide_by_head b (Ok h) e long waits = (wanted_by_head types (wide-are g) b long ∙ ap wanted_by e) ∙ sym (Says-head_of types (wide-are g) b h e).len_is
  wide_by_head b (Err f) e long waits = let is : wanted_in types b ≡ 19 = wanted_by_head types (wide-are g) b long ∙ ap wanted_by e in absurd (omega arith)

  pub wide_is_length : (b : List ℕ) → 19 ≤ length b → WaitsIn types b → wanted_in types b ≡ length_field b
  wide_is_length b long waits = wide_by_head b (head_of_in types b) refl long waits

  pub wide_is_header : (b : List ℕ) → length b < 19 → wanted_in types b ≡ 19
  wide_is_header = wanted_under types (wide-are g)
