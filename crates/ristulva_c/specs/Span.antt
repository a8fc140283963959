-- Spans of octets.
use Rattle.std.specs.Prelude.{List, ℕ, take, drop}
use Rattle.ristulva_c.specs.declared.span.Span.{Span}

-- the octets of a span
abbrev pub octets_in : Span → List ℕ → List ℕ
octets_in span octets = take span.len (drop span.at octets)

abbrev pub no_span : Span
no_span = record { at = 0; len = 0 }
