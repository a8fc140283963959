-- A stream without its ROUTE-REFRESH messages has the same other outcomes.
use Rattle.bgp_wire.proofs.Std.{◌≡◌, ℕ, true, false, List, [], ◌∷◌, ◌++◌, map, refl, sym, ap, subst, ◌∙◌, append_assoc, eqb, flat_map, AllByRecursion}
use Rattle.bgp_wire.specs.Prelude.{Row}
use Rattle.bgp_numbers.specs.declared.message.TheConstants.{ROUTE_REFRESH}
use Rattle.bgp_frame.specs.declared.end.End.{End}
use Rattle.bgp_frame.specs.declared.kind.Kind.{Kind}
use Rattle.bgp_frame.specs.declared.kind.WideKind.{WideKind}
use Rattle.bgp_frame.specs.declared.kind.WideKind.TheVariants as wide
use Rattle.bgp_frame.specs.Prelude.{EndsBy, EndsByIn, Gives, GoesOn, IsFrame, IsFrameIn, Message, MessageIn, octets_of, outcome_of, outcome_of_in, type_field}
use Rattle.bgp_msg.specs.declared.outcome.Outcome.{Outcome}
use Rattle.bgp_msg.specs.Prelude.{of_fault, stream_rules}
use Rattle.bgp_terms.specs.Prelude.{Agreed}
use Rattle.bgp_wide.specs.Outcome.{WideOutcome, fault_in, is_offered, rules_in, types_in}
use Rattle.bgp_wide.specs.Without.{AreAccepted, base_of, base_outcome, base_outcomes, bases, is_refused}
use Rattle.bgp_wide.proofs.Bases.{base_frame, same_fault, waits_plainly}

module _ (terms : Agreed) where
  abbrev one : MessageIn WideKind → ℕ × WideOutcome
  one = outcome_of_in (types_in terms) (rules_in terms)

  abbrev plainly : Message → ℕ × Outcome
  plainly = outcome_of (stream_rules terms.context)

  -- ---- whole messages

  whole : (kind : Kind) (body b : List ℕ) → IsFrameIn (types_in terms) (record { kind = wide.Base kind; body = body }) b
      → IsFrame (record { kind = kind; body = body }) (octets_of (record { kind = kind; body = body }))
  whole kind body b f = let base = base_frame (is_offered terms.refresh) kind body b f in subst (IsFrame (record { kind = kind; body = body })) base.octets base

  frames : (ms : List (MessageIn WideKind)) (row : List ℕ) → Row (IsFrameIn (types_in terms)) ms row → Row IsFrame (bases ms) (flat_map octets_of (bases ms))
  frames [] row is = refl
  frames (m ∷ ms) row (front, back, together, f, later) = by_kind m.kind m.body f (frames ms back later)
    where
      by_kind : (kind : WideKind) (body : List ℕ) → IsFrameIn (types_in terms) (record { kind = kind; body = body }) front → Row IsFrame (bases ms) (flat_map octets_of (bases ms))
          → Row IsFrame (base_of kind body ++ bases ms) (flat_map octets_of (base_of kind body ++ bases ms))
      by_kind (wide.Base kind) body f rest = (octets_of (record { kind = kind; body = body }), flat_map octets_of (bases ms), refl, whole kind body front f, rest)
      by_kind wide.Refresh body f rest = rest

  -- ---- outcomes

  same_outcomes : (ms : List (MessageIn WideKind)) → base_outcomes (map one ms) ≡ map plainly (bases ms)
  same_outcomes [] = refl
  same_outcomes (m ∷ ms) = by_kind m.kind m.body (same_outcomes ms)
    where
      by_kind : (kind : WideKind) (body : List ℕ) → base_outcomes (map one ms) ≡ map plainly (bases ms)
          → base_outcome (one (record { kind = kind; body = body })).0 (one (record { kind = kind; body = body })).1 ++ base_outcomes (map one ms) ≡ map plainly (base_of kind body ++ bases ms)
      by_kind (wide.Base kind) body rest = ap (λ (os : List (ℕ × Outcome)). plainly (record { kind = kind; body = body }) ∷ os) rest
      by_kind wide.Refresh body rest = rest

  all_go_on : (ms : List (MessageIn WideKind)) → AllByRecursion (GoesOn (rules_in terms)) ms → AllByRecursion (GoesOn (stream_rules terms.context)) (bases ms)
  all_go_on [] all = tt
  all_go_on (m ∷ ms) all = by_kind m.kind m.body all.0 (all_go_on ms all.1)
    where
      by_kind : (kind : WideKind) (body : List ℕ) → GoesOn (rules_in terms) (record { kind = kind; body = body }) → AllByRecursion (GoesOn (stream_rules terms.context)) (bases ms) → AllByRecursion (GoesOn (stream_rules terms.context)) (base_of kind body ++ bases ms)
      by_kind (wide.Base kind) body it rest = (it, rest)
      by_kind wide.Refresh body it rest = rest

  bases-append : (ms ns : List (MessageIn WideKind)) → bases (ms ++ ns) ≡ bases ms ++ bases ns
  bases-append [] ns = refl
  bases-append (m ∷ ms) ns = ap (λ (l : List Message). base_of m.kind m.body ++ l) (bases-append ms ns) ∙ sym (append_assoc (base_of m.kind m.body) (bases ms) (bases ns))

  outcomes-append : (os ps : List (ℕ × WideOutcome)) → base_outcomes (os ++ ps) ≡ base_outcomes os ++ base_outcomes ps
  outcomes-append [] ps = refl
  outcomes-append (o ∷ os) ps = ap (λ (l : List (ℕ × Outcome)). base_outcome o.0 o.1 ++ l) (outcomes-append os ps) ∙ sym (append_assoc (base_outcome o.0 o.1) (base_outcomes os) (base_outcomes ps))

  -- ---- the last message, where it ends the session

  record IsLast (m : MessageIn WideKind) : Type 0 where
    message : Message
    are : bases (m ∷ []) ≡ message ∷ []
    reset : (stream_rules terms.context).resets ((stream_rules terms.context).of_message message) ≡ true

  last_accepted : (ms : List (MessageIn WideKind)) (m : MessageIn WideKind) → AreAccepted (map one (ms ++ m ∷ [])) → is_refused (one m).1 ≡ false
  last_accepted [] m all = all.0
  last_accepted (n ∷ ms) m all = last_accepted ms m all.1

  is_last : (kind : WideKind) (body : List ℕ) → is_refused (one (record { kind = kind; body = body })).1 ≡ false
      → (rules_in terms).resets ((rules_in terms).of_message (record { kind = kind; body = body })) ≡ true → IsLast (record { kind = kind; body = body })
  is_last (wide.Base kind) body accepted is = record { message = record { kind = kind; body = body }; are = refl; reset = is }
  is_last wide.Refresh body accepted is = absurd cc

  ends : (ms : List (MessageIn WideKind)) (rest : List ℕ) (os : List (ℕ × WideOutcome)) (e : End) → eqb (type_field rest) ROUTE_REFRESH ≡ false
      → EndsByIn (types_in terms) (rules_in terms) ms rest os e → AreAccepted os → EndsBy (stream_rules terms.context) (bases ms) rest (base_outcomes os) e
  ends ms rest os End.Reset other (r, told) accepted =
      let all = subst AreAccepted (told ∙ ap (map one) r.in_order) accepted in
      let last = is_last r.last.kind r.last.body (last_accepted r.earlier r.last all) r.reset in (
        record {
          earlier = bases r.earlier;
          last = last.message;
          in_order = ap bases r.in_order ∙ bases-append r.earlier (r.last ∷ []) ∙ ap (λ (l : List Message). bases r.earlier ++ l) last.are;
          go_on = all_go_on r.earlier r.go_on;
          reset = last.reset;
        },
        ap base_outcomes told ∙ same_outcomes ms,
      )
  ends ms rest os End.Head other h accepted = record {
    go_on = all_go_on ms h.go_on;
    has_header = h.has_header;
    fault = h.fault;
    faulty = same_fault (is_offered terms.refresh) rest h.fault other h.faulty;
    told = ap base_outcomes h.told ∙ outcomes-append (map one ms) ((0, fault_in h.fault) ∷ []) ∙ ap (λ (l : List (ℕ × Outcome)). l ++ (0, of_fault h.fault) ∷ []) (same_outcomes ms);
  }
  ends ms rest os (End.Wait n) other w accepted = record {
    go_on = all_go_on ms w.go_on;
    waits = waits_plainly (is_offered terms.refresh) rest other w.waits;
    count = w.count;
    told = ap base_outcomes w.told ∙ same_outcomes ms;
  }

  pub without_refreshes : (ms : List (MessageIn WideKind)) (row rest : List ℕ) (os : List (ℕ × WideOutcome)) (e : End)
      → Row (IsFrameIn (types_in terms)) ms row → EndsByIn (types_in terms) (rules_in terms) ms rest os e → AreAccepted os → eqb (type_field rest) ROUTE_REFRESH ≡ false
      → Gives (stream_rules terms.context) (flat_map octets_of (bases ms) ++ rest) (base_outcomes os) e
  without_refreshes ms row rest os e are ended accepted other = record {
    messages = bases ms;
    row = flat_map octets_of (bases ms);
    rest = rest;
    whole = refl;
    frames = frames ms row are;
    ends = ends ms rest os e other ended accepted;
  }
