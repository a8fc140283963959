-- Steps of an engine that handles the first message of its stream by a separate rule.
use Rattle.bgp_engine.proofs.Prelude.{◌≡◌, ℕ, ◌+◌, ◌≤◌, Bool, true, false, Bor, ◌⊎◌, List, [], ◌++◌, length, take, drop, Option, option_map, Some, None, Result}
use Rattle.bgp_engine.proofs.Prelude.{Ok, Err, refl, sym, ap, subst, ◌∙◌, append_assoc, arith, inl, inr, take-append-drop, drop-append_seam, AreTypes}
use Rattle.bgp_engine.proofs.Prelude.{is_some, OnErr, append-nil, length-append, take_all, AreOctets, AreOctets-nil, has_octet, AreOctets-append}
use Rattle.bgp_engine.proofs.Prelude.{AreOctets-back, AreOctets-front, AreOctets-drop, End, HeadFault, Message, octets_of, IsFrame, Waits, head_of}
use Rattle.bgp_engine.proofs.Prelude.{head_of-append, length-IsFrame, Stops-wanted, gives_wait, Class, ToolFault, Tally, without_words, nothing_waits}
use Rattle.bgp_engine.proofs.Prelude.{first_message, first_open, is_part, open_at, open_in, Start, Starts, ReportedAt, ReportedAs, ReportedFrom, ReportedWith}
use Rattle.bgp_engine.proofs.Prelude.{ReportedWithout, ReportedBy, ReportedIn, Fit, any_plain, fit_of, fitting, unagreed, unagreed_end, Report, behind, IsOver, IsWaiting, Rules, RulesIn}
use Rattle.bgp_engine.proofs.Prelude.{counted, report_of, IsReport, Answers, Io, Reports, no_tally, Closes, ClosesBy, GoesOn, IsTotal, Rests, Takes, Plan}
use Rattle.bgp_engine.proofs.Prelude.{start_of, start_under, starts_of, IsFirst, IsFresh, Settles, reports_in, starting, Walking, IsReady, reports_of, walking, agreed}
use Rattle.bgp_engine.proofs.Prelude.{Stage}
use Rattle.bgp_frame.specs.Takes as frame
use Rattle.bgp_engine.specs.Below.{Agreed}
use Rattle.bgp_clean.specs.declared.fault.CleanFault.{CleanFault}
use Rattle.bgp_msg.specs.declared.message.Message.{Message as Said}
use Rattle.bgp_engine.specs.declared.cleaning.CleanPage.{CleanPage}
use Rattle.bgp_engine.specs.declared.fault.NoContext.{NoContext}
use Rattle.bgp_engine.specs.declared.fault.Stop.{Stop}
use Rattle.bgp_frame.specs.declared.kind.Kind.{Kind}
use Rattle.bgp_frame.specs.declared.kind.WideKind.{WideKind}
use Rattle.bgp_terms.specs.declared.refreshes.Refreshes.{Refreshes}
use Rattle.bgp_terms.specs.declared.refreshes.Refreshes.TheVariants as refreshes
use Rattle.bgp_engine.specs.Refreshed.{Refreshed}
use Rattle.bgp_engine.specs.Clean.{clean_rules, first_line, start_in, starts_by, starts_in, starts_under}
use Rattle.bgp_engine.specs.First.{start_by}
use Rattle.bgp_engine.specs.Wide.{wide_rules}
use Rattle.bgp_engine.specs.steps.Cleaning.{clean_plan, offers_or, page_rules}
use Rattle.bgp_engine.specs.steps.Extends.{Extends, wide_extends}
use Rattle.bgp_engine.specs.steps.Pages.{context_or}
use Rattle.bgp_engine.specs.steps.Starting.{WideStart}
use Rattle.bgp_engine.specs.steps.Starting as steps
use Rattle.bgp_engine.proofs.FirstOpens.{waits_part, frame_first, frame_whole, fault_whole, fault_first}
use Rattle.bgp_engine.proofs.Reading.{goes_further}
use Rattle.bgp_engine.proofs.Plainly.{as_plain}
use Rattle.bgp_engine.proofs.Walks.{counted-bound, fresh_report, heard, heard_report, report_on}
use Rattle.bgp_frame.specs.Kind.{plain as plain_types}
use Rattle.bgp_frame.specs.steps.AreTypes.{plain-are}

-- ---- octets are consumed after others

pub takes_behind : (a b d : Reports) (going : Type 0) (t0 t1 t2 x y lines : List ℕ) (over : Bool) → t1 ≡ t0 ++ lines → GoesOn a x lines b → Takes b d going t1 t2 y over → Takes a d going t0 t2 (x ++ y) over
takes_behind a b d going t0 t1 t2 x y lines over told on p = record {
  lines = lines ++ p.lines;
  told = p.told ∙ ap (λ (t : List ℕ). t ++ p.lines) told ∙ append_assoc t0 lines p.lines;
  goes_on = goes_further a b d x y lines p.lines on p.goes_on;
  stands = p.stands;
}

pub on_err : {T E : Type 0} (r : Result T E) (P : Type 0) → P → OnErr r P
on_err (Ok x) P p = tt
on_err (Err e) P p = p

-- ---- octets of the first message

-- where that is incomplete, all were fed
pub all_fed : (held octets : List ℕ) (n : ℕ) → frame.Takes held octets n → Waits (held ++ take n octets) → take n octets ≡ octets
all_fed held octets n t waits =
    elim t.all_or_stops [
      | inl all ↦ take_all n octets (omega (arith, all))
      | inr stops ↦ let w = Stops-wanted plain_types plain-are (held ++ take n octets) stops in absurd (omega (arith, w.1))
    ]

fed_whole : (held octets : List ℕ) (n : ℕ) (later : List ℕ) → (held ++ take n octets) ++ (drop n octets ++ later) ≡ held ++ (octets ++ later)
fed_whole held octets n later =
    append_assoc held (take n octets) (drop n octets ++ later) ∙ ap (λ (x : List ℕ). held ++ x) (sym (append_assoc (take n octets) (drop n octets) later))
    ∙ ap (λ (x : List ℕ). held ++ (x ++ later)) (take-append-drop n octets)

-- the rules by which a stream is read extend the types of RFC 4271
abbrev pub Extending : {K Outcome : Type 0} → Starts K Outcome → Type 0
Extending {K} {Outcome} starts = (o : Option Message) (x : Start K Outcome) → starts o ≡ Ok x → Extends x.rules.types

module _ {K Outcome : Type 0} (starts : Starts K Outcome) (extending : Extending starts) where
  -- ---- what is reported of a whole stream

  part_first : (s : List ℕ) → Waits s → first_message s ≡ None
  part_first s waits = rw (waits_part s waits) refl

  total : (s : List ℕ) → AreOctets s → (r : Report) × ReportedFrom starts s r
  total s octets = by_first (first_message s)
    where
      by_text : (rules : RulesIn K Outcome) (are : AreTypes rules.types) (len : ℕ) (text : Option (List ℕ)) → (r : Report) × ReportedAs rules text len s r
      by_text rules are len None = (heard rules are 0 no_tally s, heard_report rules are 0 no_tally s octets)
      by_text rules are len (Some text) =
          let r : Report = heard rules are len (counted no_tally len Class.Took) (drop len s) in
          (behind text r, record { report = r; rest = heard_report rules are len _ (drop len s) (AreOctets-drop len s octets); told = refl })

      by_start : (len : ℕ) (o : Result (Start K Outcome) NoContext) → ((x : Start K Outcome) → o ≡ Ok x → AreTypes x.rules.types) → (r : Report) × ReportedWith o len s r
      by_start len (Err why) are = (unagreed why (unagreed_end s), refl)
      by_start len (Ok x) are = by_text x.rules (are x refl) len x.first

      by_none : (o : Result (Start K Outcome) NoContext) → ((x : Start K Outcome) → o ≡ Ok x → AreTypes x.rules.types) → (r : Report) × ReportedWithout o s r
      by_none (Err why) are = (unagreed why (unagreed_end s), refl)
      by_none (Ok x) are = (heard x.rules (are x refl) 0 no_tally s, heard_report x.rules (are x refl) 0 no_tally s octets)

      by_first : (o : Option Message) → (r : Report) × ReportedAt starts o s r
      by_first None = by_none (starts None) (λ x e. (extending None x e).are)
      by_first (Some m) = by_start (length (octets_of m)) (starts (Some m)) (λ x e. (extending (Some m) x e).are)

  pub first_total : (front : List ℕ) (w : Walking K Outcome) → AreOctets front → IsTotal (reports_in (starting starts Stage.First front w))
  first_total front w octets later are = let found = total (front ++ later) (AreOctets-append front later octets are) in (found.0, λ _. found.1)

  -- ---- the first message is whole

  module _ (held : List ℕ) (m : Message) (f : IsFrame m held) (later : List ℕ) where
    pub plain : (rules : RulesIn K Outcome) (r : Report) → starts (Some m) ≡ Ok (record { rules = rules; first = None }) → IsReport rules 0 no_tally (held ++ later) r → ReportedFrom starts (held ++ later) r
    plain rules r e q = rw (frame_first m held f later, e) q

    pub handed : (rules : RulesIn K Outcome) (text : List ℕ) (r : Report) → starts (Some m) ≡ Ok (record { rules = rules; first = Some text })
        → IsReport rules (length held) (counted no_tally (length held) Class.Took) later r → ReportedFrom starts (held ++ later) (behind text r)
    handed rules text r e q =
        rw (frame_first m held f later, e)
        (record {
          report = r;
          rest = subst (λ (n : ℕ). IsReport rules n (counted no_tally n Class.Took) (drop n (held ++ later)) r) (ap length f.octets)
              (subst (λ (x : List ℕ). IsReport rules (length held) (counted no_tally (length held) Class.Took) x r) (sym (drop-append_seam held later)) q);
          told = refl;
        })

    pub unagreed_with : (why : NoContext) → starts (Some m) ≡ Err why → ReportedFrom starts (held ++ later) (unagreed why End.Reset)
    unagreed_with why e = rw (frame_first m held f later, e, frame_whole m held f later) refl

  -- ---- none can be read

  module _ (s : List ℕ) (none : first_message s ≡ None) where
    pub without : (rules : RulesIn K Outcome) (r : Report) → starts None ≡ Ok (record { rules = rules; first = None }) → IsReport rules 0 no_tally s r → ReportedFrom starts s r
    without rules r e q = rw (none, e) q

  -- ---- how a stream continues after what is held

  module _ (held : List ℕ) (octets : AreOctets held) (told : List ℕ) where
    module _ (m : Message) (f : IsFrame m held) where
      pub settles_unagreed : (front : List ℕ) (w : Walking K Outcome) (why : NoContext) (told1 : List ℕ) → (starts (Some m) ≡ Err why) × (told1 ≡ told) → Settles (Stage.Unagreed why) starts held told told1 front w
      settles_unagreed front w why told1 b = record { lines = []; told = b.1 ∙ sym (append-nil told); settles = (λ later. unagreed_with held m f later why b.0, refl) }

      pub settles_plain : (w : Walking K Outcome) → IsReady w → IsFresh w → (told1 : List ℕ) → (starts (Some m) ≡ Ok (record { rules = w.rules; first = None })) × (told1 ≡ told) → Settles Stage.Agreed starts held told told1 held w
      settles_plain w ready fresh told1 b = record {
        lines = [];
        told = b.1 ∙ sym (append-nil told);
        settles = (ready, octets, λ later r are q. plain held m f later w.rules r b.0 (fresh_report w (held ++ later) r ready.typed fresh (AreOctets-append held later octets are) q));
      }

      short_frame : length held ≤ 4096
      short_frame = let most = plain-are.short m.kind in omega (arith, f.allowed.most, most)

      -- the walk after a message that was handled, of which nothing is left
      abbrev pub behind_first : Walking K Outcome → ℕ → Walking K Outcome
      behind_first w len = walking w.types w.rules [] (0 + len) (counted no_tally len Class.Took) None

      behind_ready : (w : Walking K Outcome) → IsReady w → IsReady (behind_first w (length held))
      behind_ready w ready =
          let long = length-IsFrame plain_types plain-are m held f in
          record {
            typed = record { are = ready.typed.are; same = ready.typed.same };
            waits = nothing_waits w.types ready.typed.are;
            counting = λ none. record {
              typed = record { are = ready.typed.are; same = ready.typed.same };
              octets = AreOctets-nil;
              place = omega (arith, short_frame);
              counts = omega (arith, long, counted-bound no_tally (length held) Class.Took);
            };
            over = λ ended. absurd cc;
          }

      pub settles_handed : (w : Walking K Outcome) → IsReady w → (told1 : List ℕ) (len : ℕ) → len ≡ length held → ((text : List ℕ) × (starts (Some m) ≡ Ok (record { rules = w.rules; first = Some text })) × (told1 ≡ told ++ text))
          → Settles Stage.Agreed starts held told told1 [] (behind_first w len)
      settles_handed w ready told1 len same b =
          subst (λ (n : ℕ). Settles Stage.Agreed starts held told told1 [] (behind_first w n)) (sym same)
          (record {
            lines = b.0;
            told = b.2;
            settles = (
              behind_ready w ready,
              AreOctets-nil,
              λ later r are q. handed held m f later w.rules b.0 r b.1
                  (subst (λ (n : ℕ). IsReport w.rules n (counted no_tally (length held) Class.Took) later r) (let zero : 0 + length held ≡ length held = omega arith in zero)
                  (report_on (behind_first w (length held)) later r (behind_ready w ready).typed refl refl are q)),
            );
          })

    module _ (h : HeadFault) (size : length held ≡ 19) (faulty : head_of held ≡ Err h) where
      none_read : (later : List ℕ) → first_message (held ++ later) ≡ None
      none_read later =
          fault_first (held ++ later) h (omega (arith, size, length-append held later)) (head_of-append plain_types plain-are held later (omega (arith, size)) ∙ faulty)

      no_part : (later : List ℕ) → is_part (held ++ later) ≡ false
      no_part later =
          fault_whole (held ++ later) h (omega (arith, size, length-append held later)) (head_of-append plain_types plain-are held later (omega (arith, size)) ∙ faulty)

      pub settles_fault : (w : Walking K Outcome) → IsReady w → IsFresh w → starts None ≡ Ok (record { rules = w.rules; first = None }) → Settles Stage.Agreed starts held told told held w
      settles_fault w ready fresh b = record {
        lines = [];
        told = sym (append-nil told);
        settles = (ready, octets, λ later r are q. without (held ++ later) (none_read later) w.rules r b (fresh_report w (held ++ later) r ready.typed fresh (AreOctets-append held later octets are) q));
      }

      pub settles_fault_unagreed : (front : List ℕ) (w : Walking K Outcome) (why : NoContext) → starts None ≡ Err why → Settles (Stage.Unagreed why) starts held told told front w
      settles_fault_unagreed front w why e = record {
        lines = [];
        told = sym (append-nil told);
        settles = (λ later. rw (none_read later, e, no_part later) refl, refl);
      }

    pub settles_first : (w : Walking K Outcome) → Waits held → Settles Stage.First starts held told told held w
    settles_first w waits = record { lines = []; told = sym (append-nil told); settles = (waits, refl, refl) }

  -- ---- a block of octets

  rests_by : (held : List ℕ) → Waits held → (o : Result (Start K Outcome) NoContext) → starts None ≡ o → (r : Report) × ReportedFrom starts held r × (r.lines ≡ []) × IsWaiting r.end_of
  rests_by held waits (Err why) e = (unagreed why (End.Wait (length held)), rw (part_first held waits, e, waits_part held waits) refl, refl, tt)
  rests_by held waits (Ok x) e =
      let extends = extending None x e in (
        report_of x.rules 0 no_tally held [] (End.Wait (length held)),
        rw (part_first held waits, e) (record { outcomes = []; end_of = End.Wait (length held); gives = gives_wait x.rules.types extends.are Outcome x.rules.judge held (extends.waits held waits); told = refl }),
        refl,
        tt,
      )

  pub first_rests : (front : List ℕ) (w : Walking K Outcome) → Waits front → Rests (reports_in (starting starts Stage.First front w))
  first_rests front w waits =
      let q = rests_by front waits (starts None) refl in
      record { report = q.0; reported = λ octets. subst (λ (s : List ℕ). ReportedFrom starts s q.0) (sym (append-nil front)) q.1; none = q.2; waiting = q.3 }

  module _ (held : List ℕ) (w0 w1 : Walking K Outcome) (octets : List ℕ) (n : ℕ) (t0 t1 front : List ℕ) where
    abbrev pub fed : List ℕ
    fed = held ++ take n octets

    pub takes_part : AreOctets fed → IsReady w1 → IsFresh w1 → frame.Takes held octets n → Settles Stage.First starts fed t0 t1 front w1
        → Takes (reports_in (starting starts Stage.First held w0)) (reports_in (starting starts Stage.First front w1)) (steps.GoesOn (starting starts Stage.First front w1)) t0 t1 octets false
    takes_part are ready fresh took s =
        let waits : Waits fed = s.settles.0 in
        let is : front ≡ fed = s.settles.1 in
        let all : fed ≡ held ++ octets = ap (λ (x : List ℕ). held ++ x) (all_fed held octets n took waits) in
        let first : IsFirst front w1 = record { octets = subst AreOctets (sym is) are; waits = subst Waits (sym is) waits; ready = ready; fresh = fresh } in
        record {
          lines = s.lines;
          told = s.told;
          goes_on = λ later r q more.
              subst (λ (l : List ℕ). ReportedFrom starts (held ++ (octets ++ later)) (behind l r)) (sym s.settles.2)
              (subst (λ (x : List ℕ). ReportedFrom starts x r) (ap (λ (x : List ℕ). x ++ later) (is ∙ all) ∙ append_assoc held octets later) (q (AreOctets-back octets later more)));
          stands = (first, first_rests front w1 first.waits);
        }

    pub takes_unagreed : (why : NoContext) → Settles (Stage.Unagreed why) starts fed t0 t1 front w1
        → (starts1 : Starts K Outcome) → Takes (reports_in (starting starts Stage.First held w0)) (reports_in (starting starts1 (Stage.Unagreed why) front w1)) (steps.GoesOn (starting starts1 (Stage.Unagreed why) front w1)) t0 t1 octets true
    takes_unagreed why s starts1 = record {
      lines = s.lines;
      told = s.told;
      goes_on = λ later r q are.
          subst (λ (l : List ℕ). ReportedFrom starts (held ++ (octets ++ later)) (behind l r)) (sym s.settles.1)
          (subst (λ (x : Report). ReportedFrom starts (held ++ (octets ++ later)) x) (sym q)
          (subst (λ (x : List ℕ). ReportedFrom starts x (unagreed why End.Reset)) (fed_whole held octets n later) (s.settles.0 (drop n octets ++ later))));
      stands = record { report = unagreed why End.Reset; reported = refl; none = refl; over = λ r q. subst (λ (x : Report). IsOver x.end_of) (sym q) tt; always = λ later more r q. q };
    }

    pub takes_agreed : (starts1 : Starts K Outcome) (front2 : List ℕ) (w2 : Walking K Outcome) (t2 : List ℕ) (over : Bool) → Settles Stage.Agreed starts fed t0 t1 front w1
        → Takes (reports_of w1) (reports_of w2) (IsReady w2) t1 t2 (front ++ drop n octets) over
        → Takes (reports_in (starting starts Stage.First held w0)) (reports_in (starting starts1 Stage.Agreed front2 w2)) (steps.GoesOn (starting starts1 Stage.Agreed front2 w2)) t0 t2 octets over
    takes_agreed starts1 front2 w2 t2 over s p = record {
      lines = s.lines ++ p.lines;
      told = p.told ∙ ap (λ (t : List ℕ). t ++ p.lines) s.told ∙ append_assoc t0 s.lines p.lines;
      goes_on = λ later r q are.
          let whole : fed ++ (drop n octets ++ later) ≡ held ++ (octets ++ later) = fed_whole held octets n later in
          let rest : AreOctets (drop n octets ++ later) =
          AreOctets-append (drop n octets) later (AreOctets-drop n octets (AreOctets-front octets later are)) (AreOctets-back octets later are) in
          let on : reports_of w1 (front ++ (drop n octets ++ later)) (behind p.lines r) =
          subst (λ (x : List ℕ). reports_of w1 x (behind p.lines r)) (append_assoc front (drop n octets) later) (p.goes_on later r q) in
          subst (λ (x : List ℕ). ReportedFrom starts x (behind (s.lines ++ p.lines) r)) whole
          (subst (λ (l : List ℕ). ReportedFrom starts (fed ++ (drop n octets ++ later)) (record { lines = l; last = r.last; end_of = r.end_of; answer = r.answer })) (sym (append_assoc s.lines p.lines r.lines))
          (s.settles.2 (drop n octets ++ later) (behind p.lines r) rest on));
      stands = p.stands;
    }

  -- ---- where a stream ends

  pub closes_none : (front : List ℕ) (w : Walking K Outcome) (told : List ℕ) (why : NoContext) → Waits front → starts None ≡ Err why → Closes (reports_in (starting starts Stage.First front w)) told told (Err (ToolFault.NoContext why))
  closes_none front w told why waits e = record {
    report = unagreed why (End.Wait (length front));
    reported = λ octets. subst (λ (x : List ℕ). ReportedFrom starts x (unagreed why (End.Wait (length front)))) (sym (append-nil front)) (rw (part_first front waits, e, waits_part front waits) refl);
    closes = (sym (append-nil told), refl);
  }

  -- what closes later after lines that were collected
  closes_behind : (lines t0 t1 t2 : List ℕ) (r : Report) (answer : Result Tally ToolFault) → t1 ≡ t0 ++ lines → ClosesBy r t1 t2 answer → ClosesBy (behind lines r) t0 t2 answer
  closes_behind lines t0 t1 t2 r answer told by = by_answer answer by
    where
      all : t2 ≡ t1 ++ (r.lines ++ r.last) → t2 ≡ t0 ++ ((lines ++ r.lines) ++ r.last)
      all is = is ∙ ap (λ (t : List ℕ). t ++ (r.lines ++ r.last)) told ∙ append_assoc t0 lines (r.lines ++ r.last) ∙ ap (λ (t : List ℕ). t0 ++ t) (sym (append_assoc lines r.lines r.last))

      by_answer : (a : Result Tally ToolFault) → ClosesBy r t1 t2 a → ClosesBy (behind lines r) t0 t2 a
      by_answer (Ok tally) c = (all c.0, c.1)
      by_answer (Err ToolFault.Memory) c = tt
      by_answer (Err ToolFault.Read) c = c
      by_answer (Err ToolFault.Write) c = c
      by_answer (Err (ToolFault.BadHex n)) c = c
      by_answer (Err (ToolFault.Script n)) c = c
      by_answer (Err ToolFault.Net) c = c
      by_answer (Err (ToolFault.Narrow n)) c = (all c.0, c.1)
      by_answer (Err (ToolFault.Clean n why)) c = (c.0, all c.1, c.2)
      by_answer (Err (ToolFault.NoContext why)) c = (all c.0, c.1)

  module _ (front : List ℕ) (w : Walking K Outcome) (first : IsFirst front w) (e : starts None ≡ Ok (record { rules = w.rules; first = None })) where
    -- a stream that ends with an incomplete first message
    pub closes_first : (w1 : Walking K Outcome) (t0 t1 t2 : List ℕ) (over : Bool) (answer : Result Tally ToolFault) → Takes (reports_of w) (reports_of w1) (IsReady w1) t0 t1 front over → Closes (reports_of w1) t1 t2 answer
        → Closes (reports_in (starting starts Stage.First front w)) t0 t2 answer
    closes_first w1 t0 t1 t2 over answer p c =
        let none = part_first (front ++ []) (subst Waits (sym (append-nil front)) first.waits) in
        let r = behind p.lines c.report in
        record {
          report = r;
          reported = λ octets. without (front ++ []) none w.rules r e (fresh_report w (front ++ []) r first.ready.typed first.fresh (AreOctets-append front [] first.octets AreOctets-nil) (p.goes_on [] c.report c.reported));
          closes = closes_behind p.lines t0 t1 t2 c.report answer p.told c.closes;
        }

  pub closes_memory : (front : List ℕ) (w : Walking K Outcome) (t0 t1 : List ℕ) → AreOctets front → Closes (reports_in (starting starts Stage.First front w)) t0 t1 (Err ToolFault.Memory)
  closes_memory front w t0 t1 octets = let found = first_total front w octets [] AreOctets-nil in record { report = found.0; reported = found.1; closes = tt }

pub closes_unagreed : {K Outcome : Type 0} (starts : Starts K Outcome) (front : List ℕ) (w : Walking K Outcome) (told : List ℕ) (why : NoContext) → Closes (reports_in (starting starts (Stage.Unagreed why) front w)) told told (Err (ToolFault.NoContext why))
closes_unagreed starts front w told why = record { report = unagreed why End.Reset; reported = refl; closes = (sym (append-nil told), refl) }

-- ---- a walk consumes octets, and then others

module _ {K Outcome : Type 0} (a b d : Walking K Outcome) (t0 t1 t2 front later : List ℕ) where
  pub walks_on : (over : Bool) → Takes (reports_of a) (reports_of b) (IsReady b) t0 t1 front false → Takes (reports_of b) (reports_of d) (IsReady d) t1 t2 later over → Takes (reports_of a) (reports_of d) (IsReady d) t0 t2 (front ++ later) over
  walks_on over p q = takes_behind (reports_of a) (reports_of b) (reports_of d) (IsReady d) t0 t1 t2 front later p.lines over p.told p.goes_on q

module _ {K Outcome : Type 0} (a b : Walking K Outcome) (t0 t1 front later : List ℕ) where
  pub walks_over : Takes (reports_of a) (reports_of b) (IsReady b) t0 t1 front true → Takes (reports_of a) (reports_of b) (IsReady b) t0 t1 (front ++ later) true
  walks_over p = record {
    lines = p.lines;
    told = p.told;
    goes_on = λ more r q. subst (λ (x : List ℕ). reports_of a x (behind p.lines r)) (sym (append_assoc front later more)) (p.goes_on (later ++ more) r (p.stands.always more (later ++ more) r q));
    stands = p.stands;
  }

-- an engine's answer has no reason
pub wordless : (reports : Reports) (hex : Bool) (io : Io) (answer : Result Tally ToolFault) → Answers reports hex io answer → without_words answer ≡ answer
wordless reports hex io (Ok tally) a = refl
wordless reports hex io (Err ToolFault.Memory) a = refl
wordless reports hex io (Err ToolFault.Read) a = refl
wordless reports hex io (Err ToolFault.Write) a = refl
wordless reports hex io (Err (ToolFault.BadHex n)) a = refl
wordless reports hex io (Err (ToolFault.Script n)) a = refl
wordless reports hex io (Err ToolFault.Net) a = refl
wordless reports hex io (Err (ToolFault.Narrow n)) a = refl
wordless reports hex io (Err (ToolFault.Clean n Stop.Unsaid)) a = refl
wordless reports hex io (Err (ToolFault.Clean n Stop.Incomplete)) a = refl
wordless reports hex io (Err (ToolFault.Clean n (Stop.At why))) a = absurd a.is_fault.0
wordless reports hex io (Err (ToolFault.NoContext why)) a = refl

-- ---- how a page's stream is read

module _ {P Outcome : Type 0} (fits : Fit) (rules : P → Rules Outcome) (plan : P → Option Agreed → Plan Kind Outcome) where
  abbrev from : Refreshes → Option (List ℕ) → P → Starts WideKind (Outcome ⊎ Refreshed)
  from accepted theirs page = starts_of fits rules plan accepted theirs page

  pub known : (accepted : Refreshes) (o : Option (Bor (List ℕ))) (page : P) → is_some o ≡ false → from accepted (option_map (λ t. t.now) o) page None ≡ Ok (record { rules = wide_rules accepted (rules page); first = None })
  known accepted None page is = refl
  known accepted (Some theirs) page is = absurd cc

  pub known_none : (accepted : Refreshes) (o : Option (Bor (List ℕ))) (page : P) → o ≡ None → from accepted (option_map (λ t. t.now) o) page None ≡ Ok (record { rules = wide_rules accepted (rules page); first = None })
  known_none accepted o page is = rw is refl

  pub unknown : (accepted : Refreshes) (o : Option (Bor (List ℕ))) (page : P) → is_some o ≡ true → from accepted (option_map (λ t. t.now) o) page None ≡ Err NoContext.NoOpen
  unknown accepted None page is = absurd cc
  unknown accepted (Some theirs) page is = refl

  -- pages with the same rules and plan read a stream in the same way
  starts_at : (accepted : Refreshes) (theirs : Option (List ℕ)) (p q : P) → rules p ≡ rules q → plan p ≡ plan q → (o : Option Message) → from accepted theirs p o ≡ from accepted theirs q o
  starts_at accepted None p q e f None = ap (λ (r : Rules Outcome). Ok (record { rules = wide_rules accepted r; first = None })) e
  starts_at accepted None p q e f (Some m) = ap (λ (x : Option Agreed → Plan Kind Outcome). Ok (start_of m accepted (x None))) f
  starts_at accepted (Some theirs) p q e f None = refl
  starts_at accepted (Some theirs) p q e f (Some m) =
      ap (λ (x : Option Agreed → Plan Kind Outcome). start_by (λ terms. start_of m terms.refresh (x (Some terms))) (fitting fits (open_in m.kind m.body) (first_open theirs))) f

  pub starts_same : (accepted : Refreshes) (theirs : Option (List ℕ)) (p q : P) → rules p ≡ rules q → plan p ≡ plan q → from accepted theirs p ≡ from accepted theirs q
  starts_same accepted theirs p q e f = λ i o. starts_at accepted theirs p q e f o i

  module _ (page : P) where
    same_start : (x y : WideStart Outcome) → (let ok : Result (WideStart Outcome) NoContext = Ok x in ok ≡ Ok y) → x ≡ y
    same_start x y e = cc

    by_terms : (m : Message) (o : Result Agreed NoContext) (x : WideStart Outcome) → start_by (λ terms. start_of m terms.refresh (plan page (Some terms))) o ≡ Ok x → Extends x.rules.types
    by_terms m (Err why) x e = absurd cc
    by_terms m (Ok terms) x e = subst (λ (y : WideStart Outcome). Extends y.rules.types) (same_start _ x e) (wide_extends terms.refresh)

    pub extending : (accepted : Refreshes) (theirs : Option (List ℕ)) → Extending (from accepted theirs page)
    extending accepted None None x e = subst (λ (y : WideStart Outcome). Extends y.rules.types) (same_start _ x e) (wide_extends accepted)
    extending accepted None (Some m) x e = subst (λ (y : WideStart Outcome). Extends y.rules.types) (same_start _ x e) (wide_extends accepted)
    extending accepted (Some theirs) None x e = absurd cc
    extending accepted (Some theirs) (Some m) x e = by_terms m (fitting fits (open_in m.kind m.body) (first_open theirs)) x e

  -- no first message has a separate rule: the stream is reported by what both agree on
  pub opened : (accepted : Refreshes) (theirs : List ℕ) (page : P) → ((terms : Agreed) (m : Message) → (plan page (Some terms)).first m ≡ None) → (s : List ℕ) (r : Report)
      → ReportedFrom (from accepted (Some theirs) page) s r → ReportedBy fits theirs (λ terms. IsReport (wide_rules terms.refresh (plan page (Some terms)).rules) 0 no_tally) s r
  opened accepted theirs page plainly s r q = by_first (first_message s) q
    where
      by_fit : (m : Message) (o : Result Agreed NoContext) → ReportedWith (start_by (λ terms. start_of m terms.refresh (plan page (Some terms))) o) (length (octets_of m)) s r
          → ReportedIn o (λ terms. IsReport (wide_rules terms.refresh (plan page (Some terms)).rules) 0 no_tally) s r
      by_fit m (Err why) given = given
      by_fit m (Ok terms) given = subst (λ (text : Option (List ℕ)). ReportedAs (wide_rules terms.refresh (plan page (Some terms)).rules) text (length (octets_of m)) s r) (plainly terms m) given

      by_first : (o : Option Message) → ReportedAt (from accepted (Some theirs) page) o s r → ReportedIn (fitting fits (open_at o) (first_open theirs)) (λ terms. IsReport (wide_rules terms.refresh (plan page (Some terms)).rules) 0 no_tally) s r
      by_first None given = given
      by_first (Some m) given = by_fit m (fitting fits (open_in m.kind m.body) (first_open theirs)) given

-- two ways to read a stream that agree on each first message
pub from_same : {K Outcome : Type 0} (a b : Starts K Outcome) → ((o : Option Message) → a o ≡ b o) → (s : List ℕ) (r : Report) → ReportedFrom a s r → ReportedFrom b s r
from_same {K = K} {Outcome = Outcome} a b same s r q = by_first (first_message s) q
  where
    by_first : (o : Option Message) → ReportedAt a o s r → ReportedAt b o s r
    by_first None given = subst (λ (x : Result (Start K Outcome) NoContext). ReportedWithout x s r) (same None) given
    by_first (Some m) given = subst (λ (x : Result (Start K Outcome) NoContext). ReportedWith x (length (octets_of m)) s r) (same (Some m)) given

-- the same start where ROUTE-REFRESH may be a message, and isn't offered
abbrev unoffered : {Outcome : Type 0} → Start Kind Outcome → WideStart Outcome
unoffered x = record { rules = wide_rules refreshes.None x.rules; first = x.first }

-- a stream without ROUTE-REFRESH is reported by the types of RFC 4271
pub from_plain : {Outcome : Type 0} (a : Starts WideKind (Outcome ⊎ Refreshed)) (b : Option Message → Start Kind Outcome) → ((o : Option Message) → a o ≡ Ok (unoffered (b o))) → ((o : Option Message) → (b o).rules.types ≡ plain_types) → (s : List ℕ) (r : Report)
    → ReportedFrom a s r → ReportedFrom (λ o. Ok (b o)) s r
from_plain {Outcome = Outcome} a b same types s r q = by_first (first_message s) q
  where
    by_text : (rules : Rules Outcome) (is : rules.types ≡ plain_types) (text : Option (List ℕ)) (len : ℕ) → ReportedAs (wide_rules refreshes.None rules) text len s r → ReportedAs rules text len s r
    by_text rules is None len given = as_plain rules is 0 no_tally s r given
    by_text rules is (Some text) len given = record { report = given.report; rest = as_plain rules is len (counted no_tally len Class.Took) (drop len s) given.report given.rest; told = given.told }

    by_first : (o : Option Message) → ReportedAt a o s r → ReportedAt (λ o. Ok (b o)) o s r
    by_first None given = as_plain (b None).rules (types None) 0 no_tally s r (subst (λ (x : Result (WideStart Outcome) NoContext). ReportedWithout x s r) (same None) given)
    by_first (Some m) given =
        by_text (b (Some m)).rules (types (Some m)) (b (Some m)).first (length (octets_of m)) (subst (λ (x : Result (WideStart Outcome) NoContext). ReportedWith x (length (octets_of m)) s r) (same (Some m)) given)

-- ---- the page of `clean` reads its streams by the rules of `clean`

abbrev clean_page_plan : CleanPage → Option Agreed → Plan Kind (Result (List Said) CleanFault)
clean_page_plan page terms = clean_plan (offers_or page.offers terms) (context_or page.ctx terms) (has_octet page.drops) page.limits

pub clean_same : (page : CleanPage) → page.offers ≡ refreshes.None → (s : List ℕ) (r : Report) → ReportedFrom (starts_of any_plain page_rules clean_page_plan refreshes.None None page) s r → ReportedFrom (starts_in page.ctx (has_octet page.drops) page.limits) s r
clean_same page bare s r q = from_plain _ (λ first. start_in (has_octet page.drops) page.limits first page.ctx) same (λ o. refl) s r q
  where
    same : (o : Option Message) → starts_of any_plain page_rules clean_page_plan refreshes.None None page o ≡ Ok (unoffered (start_in (has_octet page.drops) page.limits o page.ctx))
    same None = refl
    same (Some m) =
        ap (λ (offers : Refreshes). Ok (unoffered (record { rules = clean_rules page.ctx (has_octet page.drops) page.limits; first = first_line offers page.ctx (has_octet page.drops) page.limits m m.kind }))) bare

-- by terms
pub clean_under : (terms : Agreed) (page : CleanPage) → page.offers ≡ terms.refresh → page.ctx ≡ terms.context → (o : Option Message)
    → starts_of any_plain page_rules clean_page_plan terms.refresh None page o ≡ starts_under terms (has_octet page.drops) page.limits o
clean_under terms page offers context None = rw (sym context) refl
clean_under terms page offers context (Some m) = rw (sym context, sym offers) refl

pub clean_by : (accepted : Refreshes) (theirs : List ℕ) (page : CleanPage) (o : Option Message)
    → starts_of any_plain page_rules clean_page_plan accepted (Some theirs) page o ≡ starts_by theirs (has_octet page.drops) page.limits o
clean_by accepted theirs page None = refl
clean_by accepted theirs page (Some m) = by_agreed (agreed false (open_in m.kind m.body) (first_open theirs))
  where
    by_agreed : (o : Result Agreed NoContext) → start_by (λ terms. start_of m terms.refresh (clean_page_plan page (Some terms))) (fit_of (λ _. true) o) ≡ start_by (start_under (has_octet page.drops) page.limits (Some m)) o
    by_agreed (Err why) = refl
    by_agreed (Ok terms) = refl
