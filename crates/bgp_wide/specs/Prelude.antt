-- Re-exports the names that other crates and the proofs cite. Declares nothing.
pub use Rattle.bgp_wide.specs.Outcome.{Refreshed, WideOutcome, fault_in, grammar_of, is_offered, of_kind, out_in, refreshed, resets_in, rules_in, types_in}
pub use Rattle.bgp_wide.specs.OutcomeView.{wide_value}
pub use Rattle.bgp_wide.specs.Decoder.{Decoding, Going, IsBehind, IsFed, IsPulled, behind, decoder, fresh, given_by, holding}
pub use Rattle.bgp_wide.specs.Look.{IsLook, gone}
pub use Rattle.bgp_wide.specs.Without.{AreAccepted, base_outcomes, bases}
