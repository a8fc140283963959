-- The codes of resets: those of the body of an UPDATE are UPDATE Message Errors.
use Rattle.bgp_text.proofs.Prelude.{◌≡◌, ℕ, ◌-◌, Bool, true, false, ◌&&◌, ◌==◌, nat_lt, List, [], ◌∷◌, ◌++◌, length, Option, None, Some, refl, subst}
use Rattle.bgp_text.proofs.Prelude.{if◌then◌else◌, option_or, run_of, judgement, TlvValue, PlacedTlv, tlvs_of, Mark, malformed, carries_routes, repeated}
use Rattle.bgp_text.proofs.Prelude.{cut_kind, placed_tlvs, marks_behind, field_marks, cut_mark, marks_of, is_reachable, notes_of, routes_of, Parts, parts_of}
use Rattle.bgp_text.proofs.Prelude.{update_of, first_reset, reset_by, bad_network, reset_of_run, reset_of, is_withdrawn, without_reset, unless_reset}
use Rattle.bgp_text.proofs.Prelude.{of_parts, verdict_of}
use Rattle.bgp_numbers.specs.declared.error.TheConstants.{UPDATE_MESSAGE}
use Rattle.bgp_frame.specs.declared.notification.Notification.{Notification}
use Rattle.bgp_open.specs.declared.context.Context.{Context}
use Rattle.bgp_attr.specs.declared.judged.Judged.{Judged}
use Rattle.bgp_attr.specs.declared.why.Why.{Why}
use Rattle.bgp_attr.proofs.TestRows.{IsRefusal}
use Rattle.bgp_attr.proofs.EachType.{by_answer}
use Rattle.bgp_update.specs.declared.verdict.Verdict.{Verdict}
use Rattle.bgp_wire.specs.Prelude.{also, none_of_them}
use Rattle.bgp_update.specs.Parts.{has_nlri}
use Rattle.bgp_msg.specs.declared.outcome.Outcome.{Outcome}
use Rattle.bgp_msg.specs.Prelude.{of_verdict}

-- ---- the judgement of an attribute

abbrev OfJudged : Judged → Type 0
OfJudged (Judged.Keep a) = Unit {0}
OfJudged (Judged.Discard w) = Unit {0}
OfJudged (Judged.Withdraw w) = Unit {0}
OfJudged (Judged.Reset n) = n.code ≡ UPDATE_MESSAGE

of_refusal : (j : Judged) → IsRefusal j → OfJudged j
of_refusal (Judged.Keep a) h = tt
of_refusal (Judged.Discard w) h = tt
of_refusal (Judged.Withdraw w) h = tt
of_refusal (Judged.Reset n) h = h

of_judgement : (ctx : Context) (nlri : Bool) (t : TlvValue) → OfJudged (judgement ctx nlri t)
of_judgement ctx nlri t = by_answer ctx nlri t OfJudged (λ a. tt) of_refusal

either : (b : Bool) (x y : Judged) → OfJudged x → OfJudged y → OfJudged (if b then x else y)
either true x y p q = p
either false x y p q = q

of_repeated : (kind : ℕ) → OfJudged (repeated kind)
of_repeated kind = either (carries_routes kind) (Judged.Reset malformed) (Judged.Discard Why.Repeated) refl tt

abbrev OfMarks : List Mark → Type 0
OfMarks [] = Unit {0}
OfMarks (m ∷ ms) = OfJudged m.judged × OfMarks ms

of_both : (ms ns : List Mark) → OfMarks ms → OfMarks ns → OfMarks (ms ++ ns)
of_both [] ns p q = q
of_both (m ∷ ms) ns p q = (p.0, of_both ms ns p.1 q)

of_marks_behind : (ctx : Context) (nlri : Bool) (seen : ℕ → Bool) (ps : List PlacedTlv) → OfMarks (marks_behind ctx nlri seen ps)
of_marks_behind ctx nlri seen [] = tt
of_marks_behind ctx nlri seen (p ∷ ps) = (
  either (seen p.tlv.kind) (repeated p.tlv.kind) (judgement ctx nlri p.tlv) (of_repeated p.tlv.kind) (of_judgement ctx nlri p.tlv),
  of_marks_behind ctx nlri (also p.tlv.kind seen) ps,
)

of_cut_mark : (at : ℕ) (rest : List ℕ) → OfMarks (cut_mark at rest)
of_cut_mark at [] = tt
of_cut_mark at (flags ∷ rest) =
    (either (nat_lt 1 (length (flags ∷ rest)) && carries_routes (cut_kind (flags ∷ rest))) (Judged.Reset malformed) (Judged.Withdraw Why.Cut) refl tt, tt)

of_field_marks : (ctx : Context) (nlri : Bool) (field : List ℕ) → OfMarks (field_marks ctx nlri field)
unfolding field_marks
of_field_marks ctx nlri field = of_both (marks_behind ctx nlri none_of_them (placed_tlvs field)) (cut_mark (length field - length (tlvs_of field).1) (tlvs_of field).1)
    (of_marks_behind ctx nlri none_of_them (placed_tlvs field)) (of_cut_mark (length field - length (tlvs_of field).1) (tlvs_of field).1)

-- ---- the outcome of a message

abbrev OfReset : Option Notification → Type 0
OfReset None = Unit {0}
OfReset (Some n) = n.code ≡ UPDATE_MESSAGE

of_reset_by : (j : Judged) → OfJudged j → OfReset (reset_by j)
of_reset_by (Judged.Keep a) h = tt
of_reset_by (Judged.Discard w) h = tt
of_reset_by (Judged.Withdraw w) h = tt
of_reset_by (Judged.Reset n) h = h

of_first_of : (o p : Option Notification) → OfReset o → OfReset p → OfReset (option_or o p)
of_first_of None p h k = k
of_first_of (Some n) p h k = h

of_first_reset : (ms : List Mark) → OfMarks ms → OfReset (first_reset ms)
of_first_reset [] h = tt
of_first_reset (m ∷ ms) h = of_first_of (reset_by m.judged) (first_reset ms) (of_reset_by m.judged h.0) (of_first_reset ms h.1)

of_run : (b : List ℕ) → OfReset (reset_of_run b)
of_run b = of_some (length (run_of 4 b).1 == 0)
  where
    of_some : (whole : Bool) → OfReset (if whole then None else Some bad_network)
    of_some true = tt
    of_some false = refl

abbrev OfVerdict : Verdict → Type 0
OfVerdict (Verdict.Take u notes) = Unit {0}
OfVerdict (Verdict.Withdraw routes notes) = Unit {0}
OfVerdict (Verdict.Reset n) = n.code ≡ UPDATE_MESSAGE

of_unless : (o : Option Notification) (v : Verdict) → OfReset o → OfVerdict v → OfVerdict (unless_reset o v)
of_unless None v h k = k
of_unless (Some n) v h k = h

one_of : (b : Bool) (x y : Verdict) → OfVerdict x → OfVerdict y → OfVerdict (if b then x else y)
one_of true x y p q = p
one_of false x y p q = q

of_reset_of : (p : Parts) (ms : List Mark) → OfMarks ms → OfReset (reset_of p ms)
of_reset_of p ms h =
    of_first_of (first_reset ms) (option_or (reset_of_run p.withdrawn) (reset_of_run p.nlri)) (of_first_reset ms h)
    (of_first_of (reset_of_run p.withdrawn) (reset_of_run p.nlri) (of_run p.withdrawn) (of_run p.nlri))

of_without_reset : (p : Parts) (ms : List Mark) → OfVerdict (without_reset p ms)
of_without_reset p ms =
    one_of (is_withdrawn p ms)
    (if is_reachable p ms then Verdict.Withdraw (routes_of p ms) (notes_of p ms) else Verdict.Reset malformed) (Verdict.Take (update_of p ms) (notes_of p ms))
    (one_of (is_reachable p ms) (Verdict.Withdraw (routes_of p ms) (notes_of p ms)) (Verdict.Reset malformed) tt refl) tt

of_known : (ctx : Context) (p : Option Parts) → OfVerdict (of_parts ctx p)
of_known ctx None = refl
of_known ctx (Some p) =
    of_unless (reset_of p (marks_of ctx p)) (without_reset p (marks_of ctx p))
    (of_reset_of p (marks_of ctx p) (of_field_marks ctx (has_nlri p) p.attributes)) (of_without_reset p (marks_of ctx p))

has_its_code : (v : Verdict) (n : Notification) → OfVerdict v → of_verdict v ≡ Outcome.Reset n → n.code ≡ UPDATE_MESSAGE
has_its_code (Verdict.Take u notes) n h is = absurd cc
has_its_code (Verdict.Withdraw routes notes) n h is = absurd cc
has_its_code (Verdict.Reset m) n h is = subst (λ (x : Notification). x.code ≡ UPDATE_MESSAGE) (let e : m ≡ n = cc in e) h

-- a reset for the body of an UPDATE is an UPDATE Message Error
pub update_resets : (ctx : Context) (body : List ℕ) (n : Notification) → of_verdict (verdict_of ctx body) ≡ Outcome.Reset n → n.code ≡ UPDATE_MESSAGE
update_resets ctx body n is = has_its_code (verdict_of ctx body) n (of_known ctx (parts_of body)) is
