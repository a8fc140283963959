-- A stream's outcomes, one step after another.
use Rattle.bgp_wire.proofs.Std.{◌≡◌, ℕ, ◌+◌, ◌<◌, true, false, List, [], ◌∷◌, ◌++◌, length, take, drop, get_or, Option, Some, None, Result, Ok, Err, refl, sym, ap, subst, ◌∙◌, append_assoc, arith, Bor, eqb, cond-false, flat_map, take_more, take-append-drop}
use Rattle.std.proofs.lemmas.Bool.{ne_eqb}
use Rattle.std.proofs.lemmas.Grind.{flat_map-append}
use Rattle.std.proofs.lemmas.List.{append-nil, length-append}
use Rattle.bgp_frame.specs.declared.end.End.{End}
use Rattle.bgp_frame.specs.declared.fault.HeadFault.{HeadFault}
use Rattle.bgp_frame.specs.Prelude.{Message, octets_of, Waits, Gives, StreamRules, outcome_of, IsContent}
use Rattle.bgp_frame.specs.declared.end.End.TheVariants as end
use Rattle.bgp_frame.proofs.FrameLemmas.{head_of-append, length-octets_of}
use Rattle.bgp_frame.proofs.Pulls.{nothing_waits}
use Rattle.bgp_frame.proofs.Streams.{gives_wait, gives_fault, gives_reset, gives_more}
use Rattle.bgp_open.specs.declared.context.Context.{Context}
use Rattle.bgp_msg.specs.declared.outcome.Outcome.{Outcome}
use Rattle.bgp_msg.specs.Prelude.{is_reset, stream_rules, Decoding, fresh, holding, given_by, IsNext, IsLater, Stands, Decodes, end_behind}
use Rattle.bgp_msg.proofs.Pulls.{one_out}
use Rattle.bgp_frame.specs.Kind.{plain}
use Rattle.bgp_frame.specs.steps.AreTypes.{plain-are}

abbrev pub Outs : Type 0
Outs = List (ℕ × Outcome)

-- ---- the outcomes of the held octets

module _ (old : Decoding) (octets : List ℕ) (n : ℕ) (before : Outs) (going : old.stopped ≡ false) where
  abbrev j : StreamRules Outcome
  j = stream_rules old.ctx

  abbrev z : Decoding
  z = holding old (old.held ++ take n octets)

  abbrev behind : List ℕ → List ℕ
  behind more = drop n octets ++ more

  -- the outcomes of the held octets and those after them are the outcomes of all
  of_whole : (more : List ℕ) (os : Outs) (e : End) → Gives j (z.held ++ behind more) os e → Gives j (old.held ++ (octets ++ more)) os e
  of_whole more os e g =
      subst (λ (s : List ℕ). Gives j s os e)
      (append_assoc old.held (take n octets) (behind more)
      ∙ ap (λ (s : List ℕ). old.held ++ s) (sym (append_assoc (take n octets) (drop n octets) more))
      ∙ ap (λ (s : List ℕ). old.held ++ (s ++ more)) (take-append-drop n octets)) g

  pub step_none : (new : Decoding) → IsNext z None new → Decodes old octets before before (drop n octets) None new
  step_none new next =
      subst (λ (d : Decoding). Decodes old octets before before (drop n octets) None d) (sym next.1)
      (record { stands = (going, refl, next.0); fresh = []; told = sym (append-nil before); later = of_whole })

  -- a message, or a header with a fault, ends the stream
  ends_by : (what : Result Message HeadFault) → IsContent what z.held → is_reset (given_by z what).1 ≡ true
      → (more : List ℕ) → Gives j (z.held ++ behind more) (given_by z what ∷ []) (end_behind (given_by z what).0)
  ends_by (Ok m) frame is more =
      let k = length (octets_of m) in
      let long = length-octets_of plain plain-are m in
      subst (λ (e : End). Gives j (z.held ++ behind more) (outcome_of j m ∷ []) e) (sym (cond-false (eqb k 0) end.Head end.Reset (ne_eqb k 0 (λ (none : k ≡ 0). absurd (omega arith)))))
      (gives_reset plain plain-are Outcome j m z.held (behind more) frame is)
  ends_by (Err f) faulty is more =
      gives_fault plain plain-are Outcome j (z.held ++ behind more) f (omega (arith, faulty.0, length-append z.held (behind more))) (head_of-append plain plain-are z.held (behind more) (omega (arith, faulty.0)) ∙ faulty.1)

  -- or the stream continues
  goes_by : (what : Result Message HeadFault) → IsContent what z.held → is_reset (given_by z what).1 ≡ false
      → (more : List ℕ) (others : Outs) (e : End) → Gives j (behind more) others e → Gives j (z.held ++ behind more) (given_by z what ∷ others) e
  goes_by (Ok m) frame on more others e g = gives_more plain plain-are Outcome j m z.held (behind more) others e frame on g
  goes_by (Err f) faulty on more others e g = absurd cc

  module _ (k : ℕ) (o : Outcome) (outs : Outs) (new : Decoding) (next : IsNext z (Some (k, o)) new) (told : outs ≡ before ++ (k, o) ∷ []) where
    same : ◌≡◌ {A = ℕ × Outcome} (k, o) (given_by z next.what)
    same = one_out z (k, o) new next

    resets : is_reset o ≡ is_reset (given_by z next.what).1
    resets = ap (λ (out : ℕ × Outcome). is_reset out.1) same

    pub step_reset : is_reset o ≡ true → Decodes old octets before outs (drop n octets) (Some (end_behind k)) new
    step_reset is = record {
      stands = tt;
      fresh = (k, o) ∷ [];
      told = told;
      later = λ more others e l.
          of_whole more ((k, o) ∷ others) e (rw (l.0, l.1)
          (subst (λ (out : ℕ × Outcome). Gives j (z.held ++ behind more) (out ∷ []) (end_behind out.0)) (sym same) (ends_by next.what next.is_held (sym resets ∙ is) more)));
    }

    pub step_on : is_reset o ≡ false → Decodes old octets before outs (drop n octets) None new
    step_on is =
        let on = sym resets ∙ is in
        subst (λ (d : Decoding). Decodes old octets before outs (drop n octets) None d) (sym next.leaves) (record {
          stands = (on, refl, nothing_waits plain plain-are);
          fresh = (k, o) ∷ [];
          told = told;
          later = λ more others e g.
              of_whole more ((k, o) ∷ others) e
              (subst (λ (out : ℕ × Outcome). Gives j (z.held ++ behind more) (out ∷ others) e) (sym same) (goes_by next.what next.is_held on more others e g));
        })

-- ---- steps one after another

pub decodes_from : (old : Decoding) (octets : List ℕ) (before : Outs) → old.stopped ≡ false → Waits old.held → Decodes old octets before before octets None old
decodes_from old octets before going waits = record { stands = (going, refl, waits); fresh = []; told = sym (append-nil before); later = λ more others e g. g }

pub further : (old mid new : Decoding) (octets rest rest1 : List ℕ) (before told outs : Outs) (ended : Option End) → Decodes old octets before told rest None mid
    → Decodes mid rest told outs rest1 ended new → Decodes old octets before outs rest1 ended new
further old mid new octets rest rest1 before told outs ended first second =
    let ctx = first.stands.1 in
    let later = subst (λ (c : Context). (more : List ℕ) (others : Outs) (e : End) → IsLater c ended (new.held ++ (rest1 ++ more)) others e
    → Gives (stream_rules c) (mid.held ++ (rest ++ more)) (second.fresh ++ others) e) ctx second.later in
    record {
      stands = subst (λ (c : Context). Stands c ended new) ctx second.stands;
      fresh = first.fresh ++ second.fresh;
      told = second.told ∙ ap (λ (os : Outs). os ++ second.fresh) first.told ∙ append_assoc before first.fresh second.fresh;
      later = λ more others e l.
          subst (λ (os : Outs). Gives (stream_rules old.ctx) (old.held ++ (octets ++ more)) os e) (sym (append_assoc first.fresh second.fresh others))
          (first.later more (second.fresh ++ others) e (later more others e l));
    }

-- where the stream has ended, the rest is ignored
pub over : (old new : Decoding) (octets rest : List ℕ) (before outs : Outs) (e : End) → Decodes old octets before outs rest (Some e) new → Decodes old octets before outs [] (Some e) new
over old new octets rest before outs e d = record { stands = tt; fresh = d.fresh; told = d.told; later = d.later }

-- all octets of a piece were consumed: more follow
with_more : (old mid : Decoding) (octets piece : List ℕ) (before told : Outs) → Decodes old octets before told [] None mid → Decodes old (octets ++ piece) before told piece None mid
with_more old mid octets piece before told first = record {
  stands = first.stands;
  fresh = first.fresh;
  told = first.told;
  later = λ more others e g.
      subst (λ (s : List ℕ). Gives (stream_rules old.ctx) (old.held ++ s) (first.fresh ++ others) e) (sym (append_assoc octets piece more)) (first.later (piece ++ more) others e g);
}

-- ---- all pieces

abbrev pub octets_in : Bor (List ℕ) → List ℕ
octets_in piece = piece.now

module _ {X : Type 0} (octets_of : X → List ℕ) (pieces : List X) (i : ℕ) where
  one_piece : (d : X) → i < length pieces → flat_map octets_of (take (i + 1) pieces) ≡ flat_map octets_of (take i pieces) ++ octets_of (get_or pieces i d)
  one_piece d lt =
      ap (flat_map octets_of) (take_more pieces i d lt) ∙ flat_map-append octets_of (take i pieces) (get_or pieces i d ∷ [])
      ∙ ap (λ (b : List ℕ). flat_map octets_of (take i pieces) ++ b) (append-nil (octets_of (get_or pieces i d)))

  pieces_left : flat_map octets_of pieces ≡ flat_map octets_of (take i pieces) ++ flat_map octets_of (drop i pieces)
  pieces_left = ap (flat_map octets_of) (sym (take-append-drop i pieces)) ∙ flat_map-append octets_of (take i pieces) (drop i pieces)

-- one more piece
pub one_more : (ctx : Context) (pieces : List (Bor (List ℕ))) (i : ℕ) (mid new : Decoding) (told outs : Outs) → i < length pieces → Decodes (fresh ctx) (flat_map octets_in (take i pieces)) [] told [] None mid
    → (d : Bor (List ℕ)) (r ended : Option End) → r ≡ ended → Decodes mid (octets_in (get_or pieces i d)) told outs [] r new → Decodes (fresh ctx) (flat_map octets_in (take (i + 1) pieces)) [] outs [] ended new
one_more ctx pieces i mid new told outs lt first d r ended is more =
    let piece : List ℕ = octets_in (get_or pieces i d) in
    let front : List ℕ = flat_map octets_in (take i pieces) in
    subst (λ (x : Option End). Decodes (fresh ctx) (flat_map octets_in (take (i + 1) pieces)) [] outs [] x new) is
    (subst (λ (s : List ℕ). Decodes (fresh ctx) s [] outs [] r new) (sym (one_piece octets_in pieces i d lt))
    (further (fresh ctx) mid new (front ++ piece) piece [] [] told outs r (with_more (fresh ctx) mid front piece [] told first) more))

-- all outcomes are reported, whatever follows
gives_all : (ctx : Context) (front more : List ℕ) (outs : Outs) (ended : Option End) (d : Decoding) (e : End) → Decodes (fresh ctx) front [] outs [] ended d → IsLater ctx ended (d.held ++ more) [] e
    → Gives (stream_rules ctx) (front ++ more) outs e
gives_all ctx front more outs ended d e c l = subst (λ (os : Outs). Gives (stream_rules ctx) (front ++ more) os e) (append-nil c.fresh ∙ sym c.told) (c.later more [] e l)

pub ends_early : (ctx : Context) (pieces : List (Bor (List ℕ))) (i : ℕ) (outs : Outs) (d : Decoding) (e : End) → Decodes (fresh ctx) (flat_map octets_in (take i pieces)) [] outs [] (Some e) d
    → Gives (stream_rules ctx) (flat_map octets_in pieces) outs e
ends_early ctx pieces i outs d e c =
    subst (λ (s : List ℕ). Gives (stream_rules ctx) s outs e) (sym (pieces_left octets_in pieces i))
    (gives_all ctx (flat_map octets_in (take i pieces)) (flat_map octets_in (drop i pieces)) outs (Some e) d e c (refl, refl))

pub waits_at_end : (ctx : Context) (stream : List ℕ) (outs : Outs) (d : Decoding) → Decodes (fresh ctx) stream [] outs [] None d → Gives (stream_rules ctx) stream outs (end.Wait (length d.held))
waits_at_end ctx stream outs d c =
    let e = end.Wait (length d.held) in
    subst (λ (s : List ℕ). Gives (stream_rules ctx) s outs e) (append-nil stream)
    (gives_all ctx stream [] outs None d e c (subst (λ (s : List ℕ). Gives (stream_rules ctx) s [] e) (sym (append-nil d.held)) (gives_wait plain plain-are Outcome (stream_rules ctx) d.held c.stands.2)))
