-- The written and the sent form of an UPDATE.
use Rattle.ristulva_c.proofs.Below.{◌≡◌, Bool, true, false, not, cond, ℕ, ◌+◌, ◌≤◌, List, [], ◌++◌, length, Option, Some, None, refl, ap, ◌∙◌, arith, le-ltb, false_from_ne_true, is_none, IsTrue, AreOctets, Context, Invalid, Note, Update, HasNoAs4, verdict_of, written_body, canonical, written, invalid_of, is_valid, is_too_long, length-octets_of}
use Rattle.bgp_update.specs.Prelude.{invalid_of as invalid_in}
use Rattle.bgp_update.specs.declared.verdict.Verdict.TheVariants as verdict
use Rattle.bgp_update.proofs.Taken.{taken-written}
use Rattle.bgp_update.proofs.Widths.{wide_update_has_no_as4}
use Rattle.bgp_msg.specs.declared.message.Message.TheVariants as message
use Rattle.ristulva_c.specs.Prelude.{encoded_of, short_of, written_of}
use Rattle.bgp_frame.specs.Kind.{plain}
use Rattle.bgp_frame.specs.steps.AreTypes.{plain-are}

none_valid : (o : Option Invalid) → ((why : Invalid) → o ≡ Some why → ⊥) → is_none o ≡ true
none_valid None never = refl
none_valid (Some why) never = absurd (never why refl)

module _ (ctx : Context) (u : Update) where
  abbrev all : List ℕ → Option (List ℕ)
  all octets = Some octets

  pub writes_all : (old octets : List ℕ) → old ≡ [] → ((why : Invalid) → invalid_of ctx (message.Update u) ≡ Some why → ⊥)
      → (IsTrue (is_valid ctx (message.Update u)) × IsTrue (is_too_long ctx (message.Update u)) → ⊥) → octets ≡ old ++ canonical ctx (message.Update u) → written_of ctx u ≡ Some octets
  writes_all old octets none valid short is =
      let good : is_valid ctx (message.Update u) ≡ true = none_valid (invalid_of ctx (message.Update u)) valid in
      let fits : is_too_long ctx (message.Update u) ≡ false = false_from_ne_true (is_too_long ctx (message.Update u)) (λ long. short (good, long)) in
      let same : octets ≡ canonical ctx (message.Update u) = is ∙ ap (λ (x : List ℕ). x ++ canonical ctx (message.Update u)) none in
      rw (good, fits, same) refl

  -- what is valid is written where it isn't too long
  pub valid_written : invalid_of ctx (message.Update u) ≡ None → written_of ctx u ≡ short_of ctx u
  valid_written valid =
      let good : is_valid ctx (message.Update u) ≡ true = ap is_none valid in
      rw good (at (is_too_long ctx (message.Update u)))
    where
      at : (long : Bool) → cond (not long) (all (canonical ctx (message.Update u))) None ≡ cond long None (all (canonical ctx (message.Update u)))
      at true = refl
      at false = refl

  -- what is accepted is written
  pub taken_written : (body : List ℕ) (notes : List Note) → AreOctets body → length body ≤ 4077 → verdict_of ctx body ≡ verdict.Take u notes → written_of ctx u ≡ encoded_of ctx u
  taken_written body notes octets short e =
      let can = taken-written ctx body u notes octets e in
      let len : length (canonical ctx (message.Update u)) ≡ 19 + length (written_body ctx u) = length-octets_of plain plain-are (written ctx (message.Update u)) in
      let fits : is_too_long ctx (message.Update u) ≡ false = le-ltb 4096 (length (canonical ctx (message.Update u))) (omega (arith, len, can.no_longer, short)) in
      valid_written can.valid ∙ (rw fits refl)

  pub writes_nothing : (why : Invalid) → invalid_of ctx (message.Update u) ≡ Some why → written_of ctx u ≡ None
  writes_nothing why bad =
      let not_good : is_valid ctx (message.Update u) ≡ false = ap is_none bad in
      rw not_good refl

-- what is accepted is valid
pub taken_is_valid : (ctx : Context) (body : List ℕ) (u : Update) (notes : List Note) → AreOctets body → verdict_of ctx body ≡ verdict.Take u notes → invalid_in ctx u ≡ None
taken_is_valid ctx body u notes octets e = let can = taken-written ctx body u notes octets e in can.valid

-- and has neither AS4_PATH nor AS4_AGGREGATOR, where AS numbers have four octets
pub taken_has_no_as4 : (ctx : Context) (body : List ℕ) (u : Update) (notes : List Note) → ctx.as4 ≡ true → AreOctets body → verdict_of ctx body ≡ verdict.Take u notes → HasNoAs4 u.attrs
taken_has_no_as4 ctx body u notes wide octets e = wide_update_has_no_as4 ctx u wide (taken_is_valid ctx body u notes octets e)
