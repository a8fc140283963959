-- What is passed on of a message is clean, kind by kind.
use Rattle.bgp_clean.proofs.Prelude.{◌≡◌, ℕ, ◌+◌, ◌≤◌, Bool, true, false, cond, List, [], ◌∷◌, ◌++◌, length, map, Option, Some, None, Result, Ok, Err, refl, sym}
use Rattle.bgp_clean.proofs.Prelude.{ap, ap₂, subst, ◌∙◌, arith, AllByRecursion, false≢true, length-drop, AreOctets, AreOctets-back, Kind, IsFrame, header, length-body, run_octets, IPV4, IPV6}
use Rattle.bgp_clean.proofs.Prelude.{Notification, length-octets_of, length-IsFrame, Context, Capability, OpenFault, Open, open_notification, reading_of, MpReach, MpUnreach, CanBeWritten, attributes_octets}
use Rattle.bgp_clean.proofs.Prelude.{attrs_from, parts_of, verdict_of, written_body, Invalid, Note, Routes, Update, Verdict, valid-taken, taken-written}
use Rattle.bgp_clean.proofs.Prelude.{Message, HasMessageRanges, IsTakenAsItself, of_open_fault, of_reading, of_verdict, notification_in, written, body_of}
use Rattle.bgp_clean.proofs.Prelude.{invalid_of, CleanFault, family_in, ended_family, handed_update, handed, cleaned_outcome, IsCleanWith, no_lesson, or_keepalive, parts_handed, listed, unless_refused, end_of}
use Rattle.bgp_clean.proofs.Prelude.{Lesson, AreNoLonger, AreUnchanged, announced_nlri, announced_reached, both, gone_lesson, gone_routes, has_any, lesson_by, lesson_from, lesson_in, lesson_of, nlri_part, nlri_routes, reached_part, reached_routes, taught_by, cleaned_open_with, lacks_family, cleaned_update, withdrawal}
use Rattle.bgp_clean.proofs.Prelude.{none-some, same_Some}
use Rattle.bgp_terms.specs.declared.refreshes.Refreshes.{Refreshes}
use Rattle.bgp_clean.specs.Prelude.{cleaned_with, lesson_with}
use Rattle.bgp_clean.proofs.Understood.{understood_good}
use Rattle.bgp_frame.specs.Frame as frame
use Rattle.bgp_frame.proofs.Headers.{below_limit}
use Rattle.bgp_open.proofs.Readings.{reading-spells}
use Rattle.bgp_msg.specs.Prelude.{canonical}
use Rattle.bgp_msg.proofs.Itself.{valid-itself}
use Rattle.bgp_msg.proofs.ReadOpens.{read-good, read-short}
use Rattle.bgp_clean.proofs.Dropped.{dropped-written, dropped-again}
use Rattle.bgp_clean.proofs.Ends.{IsEnding, end_update, family_of_end, has_routes_in, taken-ending, unending, written-end}
use Rattle.bgp_clean.proofs.Lessons.{both-none, lesson-ended, none-gone, with_reach, withdrawal-gone, withdrawal-learned, nlri-learned, reached-learned}
use Rattle.bgp_clean.proofs.CleanedOpens.{read-ranges, cleaned-ranges, cleaned-shorter, cleaned-again, cleaned-lacks_none, cleaned-peer_as}
use Rattle.bgp_clean.proofs.Withdrawals.{withdrawal-written, withdrawal-can, gone-can, nlri-can, reached-can}
use Rattle.bgp_clean.proofs.Announcing.{nlri-part-can, reached-part-can, left-true}
use Rattle.bgp_frame.specs.Kind.{plain}
use Rattle.bgp_frame.specs.steps.AreTypes.{plain-are}

abbrev ok : List Message → Result (List Message) CleanFault
ok ns = Ok ns

pub ok-same : (ms ns : List Message) → ok ms ≡ ok ns → ms ≡ ns
ok-same ms ns e = cc

pub not_ok : (f : CleanFault) (ns : List Message) → Err f ≡ ok ns → ⊥
not_ok f ns e = absurd cc

abbrev framed : Kind → List ℕ → frame.Message
framed k body = record { kind = k; body = body }

-- it is accepted as itself, and no longer than the message
record IsWritten (ctx : Context) (m : frame.Message) (n : Message) : Type 0 where
  taken : IsTakenAsItself ctx n
  no_longer : length (canonical ctx n) ≤ length (frame.octets_of m)

module _ (offers : Refreshes) (ctx : Context) (drops : ℕ → Bool) (refuses : Update → Bool) (k : Kind) (body octets : List ℕ) (are : AreOctets octets) (f : IsFrame (framed k body) octets) where
  abbrev m : frame.Message
  m = framed k body

  long : length octets ≡ 19 + length body
  long = length-IsFrame plain plain-are m octets f

  short : length body ≤ 4077
  short = omega (arith, long, below_limit plain plain-are k (length octets) f.allowed)

  body-octets : AreOctets body
  body-octets = AreOctets-back (header k (19 + length body)) body (subst AreOctets f.octets are)

  is-written : (n : Message) → HasMessageRanges n → invalid_of ctx n ≡ None → length (body_of ctx n) ≤ length body → IsWritten ctx m n
  is-written n ranges valid le = record {
    taken = valid-itself ctx n ranges valid (omega (arith, length-octets_of plain plain-are (written ctx n), short));
    no_longer = omega (arith, length-octets_of plain plain-are (written ctx n), length-octets_of plain plain-are m);
  }

  -- cleaned again it is what is passed on of it, and a receiver learns from it what it says
  again-from : (first : Bool) (n : Message) → IsWritten ctx m n → handed offers drops refuses first (ended_family ctx (written ctx n)) n ≡ Ok (n ∷ [])
      → cleaned_with offers ctx drops refuses first (written ctx n) ≡ Ok (n ∷ [])
  again-from first n w again = ap (cleaned_outcome offers drops refuses first (ended_family ctx (written ctx n))) w.taken.taken ∙ again

  learned-from : (n : Message) → IsWritten ctx m n → lesson_with offers ctx drops refuses (written ctx n) ≡ lesson_by offers drops refuses (ended_family ctx (written ctx n)) n
  learned-from n w = ap (lesson_in offers drops refuses (ended_family ctx (written ctx n))) w.taken.taken

  -- one message
  clean-from : (first : Bool) (n : Message) → IsWritten ctx m n → handed offers drops refuses first (ended_family ctx (written ctx n)) n ≡ Ok (n ∷ [])
      → lesson_by offers drops refuses (ended_family ctx (written ctx n)) n ≡ lesson_with offers ctx drops refuses m → IsCleanWith offers ctx drops refuses first m (n ∷ [])
  clean-from first n w again taught = record {
    some = omega arith;
    taken = (w.taken, tt);
    again = (again-from first n w again, tt);
    no_longer = (w.no_longer, tt);
    taught = both-none (lesson_with offers ctx drops refuses (written ctx n)) ∙ learned-from n w ∙ taught;
  }

-- ---- OPEN

abbrev some_invalid : Invalid → Option Invalid
some_invalid why = Some why

handed-open : (first lacks : Bool) (said ns : List Message) → cond first (cond lacks (Err CleanFault.NoFamily) (ok said)) (Err CleanFault.LateOpen) ≡ ok ns → (first ≡ true) × (said ≡ ns)
handed-open true true said ns e = absurd (not_ok _ ns e)
handed-open true false said ns e = (refl, ok-same said ns e)
handed-open false lacks said ns e = absurd (not_ok _ ns e)

module _ (offers : Refreshes) (ctx : Context) (drops : ℕ → Bool) (refuses : Update → Bool) (first : Bool) (body octets : List ℕ) (are : AreOctets octets) (f : IsFrame (framed Kind.Open body) octets) where
  open-read : (o : Open) → reading_of body ≡ Ok o → first ≡ true → IsCleanWith offers ctx drops refuses first (framed Kind.Open body) (Message.Open (cleaned_open_with offers o) ∷ [])
  open-read o e is_first =
      let n : Message = Message.Open (cleaned_open_with offers o) in
      let inside : AreOctets body = body-octets offers ctx drops refuses Kind.Open body octets are f in
      let spelled = reading-spells body (omega (arith, long offers ctx drops refuses Kind.Open body octets are f, f.allowed.least)) o e in
      let good = understood_good offers o (read-good o body inside spelled) in
      let w : IsWritten ctx (framed Kind.Open body) n =
      is-written offers ctx drops refuses Kind.Open body octets are f n (cleaned-ranges offers o (read-ranges o body inside spelled))
      (ap (λ (t : Bool). cond t (some_invalid Invalid.BadOpen) None) good) (omega (arith, cleaned-shorter offers o, read-short o body inside spelled)) in
      clean-from offers ctx drops refuses Kind.Open body octets are f first n w
      (ap₂ (λ (s t : Bool). cond s (cond t (Err CleanFault.NoFamily) (ok (Message.Open (cleaned_open_with offers (cleaned_open_with offers o)) ∷ []))) (Err CleanFault.LateOpen)) is_first (cleaned-lacks_none offers o)
      ∙ ap (λ (q : Open). ok (Message.Open q ∷ [])) (cleaned-again offers o))
      (ap₂ (λ (number : ℕ) (caps : List Capability). record no_lesson { peer = Some (record { number = number; hold = o.hold; id = o.id; caps = caps }) })
      (cleaned-peer_as offers o) (ap (λ (q : Open). q.caps) (cleaned-again offers o))
      ∙ ap (λ (r : Result Open OpenFault). lesson_in offers drops refuses None (of_reading r)) (sym e))

  open-by : (ns : List Message) (r : Result Open OpenFault) → reading_of body ≡ r → cleaned_outcome offers drops refuses first None (of_reading r) ≡ Ok ns
      → IsCleanWith offers ctx drops refuses first (framed Kind.Open body) ns
  open-by ns (Ok o) e is =
      let both = handed-open first (lacks_family o) (Message.Open (cleaned_open_with offers o) ∷ []) ns is in
      subst (λ (q : List Message). IsCleanWith offers ctx drops refuses first (framed Kind.Open body) q) both.1 (open-read o e both.0)
  open-by ns (Err why) e is = fault-by (open_notification why) is
    where
      fault-by : (said : Option Notification) → cleaned_outcome offers drops refuses first None (of_open_fault said) ≡ Ok ns → IsCleanWith offers ctx drops refuses first (framed Kind.Open body) ns
      fault-by (Some said) eq = absurd (not_ok _ ns eq)
      fault-by None eq = absurd (not_ok _ ns eq)

-- ---- UPDATE

module _ (offers : Refreshes) (ctx : Context) (drops : ℕ → Bool) (refuses : Update → Bool) (body octets : List ℕ) (are : AreOctets octets) (f : IsFrame (framed Kind.Update body) octets) where
  abbrev this : frame.Message
  this = framed Kind.Update body

  inside : AreOctets body
  inside = body-octets offers ctx drops refuses Kind.Update body octets are f

  fits : length body ≤ 4077
  fits = short offers ctx drops refuses Kind.Update body octets are f

  update-written : (u : Update) → CanBeWritten ctx u body → IsWritten ctx this (Message.Update u)
  update-written u can = is-written offers ctx drops refuses Kind.Update body octets are f (Message.Update u) can.ranges can.valid can.no_longer

  read-back : (u : Update) → CanBeWritten ctx u body → verdict_of ctx (written_body ctx u) ≡ Verdict.Take u []
  read-back u can = valid-taken ctx u can.ranges can.valid (omega (arith, can.no_longer, fits))

  -- an UPDATE that is one part: it is passed on as itself, and this is learned from it
  record IsPart (x : Update) (l : Lesson) : Type 0 where
    can : CanBeWritten ctx x body
    has : has_routes_in x ≡ true
    same : cleaned_update drops x ≡ x
    alone : parts_handed refuses x ≡ x ∷ []
    says : lesson_of refuses x ≡ l
    goes_on : l.ended ≡ None

  module _ (x : Update) (l : Lesson) (p : IsPart x l) where
    no-end : ended_family ctx (written ctx (Message.Update x)) ≡ None
    no-end = unending ctx x (written_body ctx x) [] (read-back x p.can) p.has

    part-again : (first : Bool) → cleaned_with offers ctx drops refuses first (written ctx (Message.Update x)) ≡ Ok (Message.Update x ∷ [])
    part-again first =
        again-from offers ctx drops refuses Kind.Update body octets are f first (Message.Update x) (update-written x p.can)
        (ap₂ (λ (o : Option ℕ) (v : Update). ok (handed_update refuses o v)) no-end p.same ∙ ap (λ (us : List Update). ok (or_keepalive us)) p.alone)

    part-learned : lesson_with offers ctx drops refuses (written ctx (Message.Update x)) ≡ l
    part-learned =
        learned-from offers ctx drops refuses Kind.Update body octets are f (Message.Update x) (update-written x p.can)
        ∙ ap₂ (λ (o : Option ℕ) (v : Update). record (lesson_of refuses v) { ended = o }) no-end p.same
        ∙ ap (λ (k : Lesson). record k { ended = None }) p.says
        ∙ ap (λ (o : Option ℕ). record l { ended = o }) (sym p.goes_on)

  -- some parts in order
  record AreParts (us : List Update) (l : Lesson) : Type 0 where
    taken : AllByRecursion (IsTakenAsItself ctx) (map Message.Update us)
    again : (first : Bool) → AreUnchanged offers ctx drops refuses first (map Message.Update us)
    no_longer : AreNoLonger ctx this (map Message.Update us)
    taught : lesson_from offers ctx drops refuses (map Message.Update us) ≡ l

  no-parts : AreParts [] no_lesson
  no-parts = record { taken = tt; again = λ first. tt; no_longer = tt; taught = refl }

  one-more : (x : Update) (l : Lesson) (us : List Update) (k : Lesson) → IsPart x l → AreParts us k → AreParts (x ∷ us) (both l k)
  one-more x l us k p ps = record {
    taken = ((update-written x p.can).taken, ps.taken);
    again = λ first. (part-again x l p first, ps.again false);
    no_longer = ((update-written x p.can).no_longer, ps.no_longer);
    taught = ap₂ both (part-learned x l p) ps.taught;
  }

  -- a part that is present or not
  abbrev Given : Bool → Update → Lesson → Type 0
  Given true x l = IsPart x l
  Given false x l = l ≡ no_lesson

  given-more : (t : Bool) (x : Update) (l : Lesson) (us : List Update) (k : Lesson) → Given t x l → AreParts us k → AreParts (listed t x ++ us) (both l k)
  given-more true x l us k p ps = one-more x l us k p ps
  given-more false x l us k e ps = subst (λ (q : Lesson). AreParts us (both q k)) (sym e) ps

  given-last : (t : Bool) (x : Update) (l : Lesson) → Given t x l → AreParts (listed t x) l
  given-last true x l p = subst (λ (q : Lesson). AreParts (x ∷ []) q) (both-none l) (one-more x l [] no_lesson p no-parts)
  given-last false x l e = subst (λ (q : Lesson). AreParts [] q) (sym e) no-parts

  -- ---- each part

  withdrawal-part : (r : Routes) → has_any r ≡ true → CanBeWritten ctx (withdrawal r) body → IsPart (withdrawal r) (gone_lesson r)
  unfolding attrs_from
  withdrawal-part r there can = record {
    can = can;
    has = left-true (has_any (gone_routes (withdrawal r))) false (ap has_any (withdrawal-gone r) ∙ there);
    same = refl;
    alone = ap (λ (q : Routes). listed (has_any q) (withdrawal q) ++ []) (withdrawal-gone r) ∙ ap (λ (t : Bool). listed t (withdrawal r) ++ []) there;
    says = withdrawal-learned refuses r;
    goes_on = refl;
  }

  given-withdrawal : (r : Routes) (t : Bool) → has_any r ≡ t → CanBeWritten ctx (withdrawal r) body → Given t (withdrawal r) (gone_lesson r)
  given-withdrawal r true e can = withdrawal-part r e can
  given-withdrawal r false e can = none-gone r e

  module _ (u s : Update) (is : s ≡ cleaned_update drops u) (can : CanBeWritten ctx s body) where
    again : cleaned_update drops s ≡ s
    again = ap (cleaned_update drops) is ∙ dropped-again drops u ∙ sym is

    nlri-by : (refused : Bool) → refuses (nlri_part s) ≡ refused → has_any (nlri_routes s) ≡ true
        → IsPart (unless_refused refused (nlri_part s) (nlri_routes s)) (taught_by true refused (announced_nlri s))
    nlri-by true e there = withdrawal-part (nlri_routes s) there (nlri-can ctx s body can)
    nlri-by false e there = record {
      can = nlri-part-can ctx s body can;
      has = left-true (has_any (nlri_routes s)) false there;
      same = ap nlri_part again;
      alone = ap₂ (λ (t q : Bool). listed t (unless_refused q (nlri_part s) (nlri_routes s)) ++ []) there e;
      says = nlri-learned refuses s there e;
      goes_on = refl;
    }

    given-nlri : (t : Bool) → has_any (nlri_routes s) ≡ t
        → Given t (unless_refused (refuses (nlri_part s)) (nlri_part s) (nlri_routes s)) (taught_by t (refuses (nlri_part s)) (announced_nlri s))
    given-nlri true e = nlri-by (refuses (nlri_part s)) refl e
    given-nlri false e = refl

    reached-alone : (v : Update) (r : Option MpReach) → (let w : Update = with_reach v r in
        refuses (reached_part w) ≡ false → has_any (reached_routes w) ≡ true
        → (has_routes_in (reached_part w) ≡ true) × (parts_handed refuses (reached_part w) ≡ reached_part w ∷ []))
    reached-alone v None e there = absurd (false≢true there)
    reached-alone v (Some (MpReach.Ip4 hop [])) e there = absurd (false≢true there)
    reached-alone v (Some (MpReach.Ip4 hop (p ∷ ps))) e there =
        let w : Update = with_reach v (Some (MpReach.Ip4 hop (p ∷ ps))) in
        (left-true (has_any (reached_routes w)) false there, ap₂ (λ (t q : Bool). listed t (unless_refused q (reached_part w) (reached_routes w)) ++ []) there e)
    reached-alone v (Some (MpReach.Ip6 hop link ps)) e there =
        let w : Update = with_reach v (Some (MpReach.Ip6 hop link ps)) in
        (there, ap₂ (λ (t q : Bool). listed t (unless_refused q (reached_part w) (reached_routes w))) there e)

    reached-by : (refused : Bool) → refuses (reached_part s) ≡ refused → has_any (reached_routes s) ≡ true
        → IsPart (unless_refused refused (reached_part s) (reached_routes s)) (taught_by true refused (announced_reached s))
    reached-by true e there = withdrawal-part (reached_routes s) there (reached-can ctx s body can)
    reached-by false e there =
        let both = reached-alone s s.attrs.mp_reach e there in
        record {
          can = reached-part-can ctx s body can;
          has = both.0;
          same = ap reached_part again;
          alone = both.1;
          says = reached-learned refuses s there e;
          goes_on = refl;
        }

    given-reached : (t : Bool) → has_any (reached_routes s) ≡ t
        → Given t (unless_refused (refuses (reached_part s)) (reached_part s) (reached_routes s)) (taught_by t (refuses (reached_part s)) (announced_reached s))
    given-reached true e = reached-by (refuses (reached_part s)) refl e
    given-reached false e = refl

    -- all parts of an UPDATE: what is learned from them is what it says
    all-parts : AreParts (parts_handed refuses s) (lesson_of refuses s)
    all-parts =
        given-more (has_any (gone_routes s)) (withdrawal (gone_routes s)) (gone_lesson (gone_routes s)) _ _
        (given-withdrawal (gone_routes s) (has_any (gone_routes s)) refl (gone-can ctx s body can))
        (given-more (has_any (nlri_routes s)) _ _ _ _ (given-nlri (has_any (nlri_routes s)) refl)
        (given-last (has_any (reached_routes s)) _ _ (given-reached (has_any (reached_routes s)) refl)))

  parts-end : (us : List Update) (l : Lesson) (first : Bool) → AreParts us l → l ≡ lesson_with offers ctx drops refuses this → IsCleanWith offers ctx drops refuses first this (or_keepalive us)
  parts-end [] l first ps taught =
      clean-from offers ctx drops refuses Kind.Update body octets are f first Message.Keepalive
      (is-written offers ctx drops refuses Kind.Update body octets are f Message.Keepalive tt refl (omega arith)) refl (ps.taught ∙ taught)
  parts-end (u ∷ us) l first ps taught = record { some = omega arith; taken = ps.taken; again = ps.again first; no_longer = ps.no_longer; taught = ps.taught ∙ taught }

  withdraw-clean : (first : Bool) (routes : Routes) (notes : List Note) → verdict_of ctx body ≡ Verdict.Withdraw routes notes
      → IsCleanWith offers ctx drops refuses first this (Message.Update (withdrawal routes) ∷ [])
  withdraw-clean first routes notes e =
      let made = withdrawal-written ctx body inside routes notes e in
      parts-end (withdrawal routes ∷ []) (gone_lesson routes) first
      (given-last true (withdrawal routes) (gone_lesson routes) (withdrawal-part routes made.1 made.0))
      (ap (λ (v : Verdict). lesson_in offers drops refuses (family_in ctx (parts_of body)) (of_verdict v)) (sym e))

  module _ (first : Bool) (u : Update) (notes : List Note) (e : verdict_of ctx body ≡ Verdict.Take u notes) where
    abbrev stays : Update
    stays = cleaned_update drops u

    read : CanBeWritten ctx u body
    read = taken-written ctx body u notes inside e

    -- what is learned from the message
    told : (family : Option ℕ) → family_in ctx (parts_of body) ≡ family → lesson_by offers drops refuses family (Message.Update u) ≡ lesson_with offers ctx drops refuses this
    told family is =
        ap (λ (o : Option ℕ). lesson_by offers drops refuses o (Message.Update u)) (sym is)
        ∙ ap (λ (v : Verdict). lesson_in offers drops refuses (family_in ctx (parts_of body)) (of_verdict v)) (sym e)

    plain-clean : family_in ctx (parts_of body) ≡ None → IsCleanWith offers ctx drops refuses first this (or_keepalive (parts_handed refuses stays))
    plain-clean is =
        let all = all-parts u stays refl (dropped-written drops ctx u body read) in
        parts-end (parts_handed refuses stays) (lesson_of refuses stays) first all (ap (λ (o : Option ℕ). record (lesson_of refuses stays) { ended = o }) (lesson-ended refuses stays) ∙ told None is)

    -- an End-of-RIB, which is passed on as the one of its family
    abbrev EndsAgain : ℕ → Type 0
    EndsAgain g =
        CanBeWritten ctx (end_of g) body × (family_in ctx (parts_of (written_body ctx (end_of g))) ≡ Some g)
        × (lesson_by offers drops refuses (Some g) (Message.Update (end_of g)) ≡ lesson_by offers drops refuses (Some g) (Message.Update u))

    read-end : (o : Option MpUnreach) → u ≡ end_update o → CanBeWritten ctx (end_update o) body
    read-end o same = subst (λ (v : Update). CanBeWritten ctx v body) same read

    same-lesson : (g : ℕ) (o : Option MpUnreach) → u ≡ end_update o → lesson_by offers drops refuses (Some g) (Message.Update (end_update o)) ≡ lesson_by offers drops refuses (Some g) (Message.Update u)
    same-lesson g o same = ap (λ (v : Update). lesson_by offers drops refuses (Some g) (Message.Update v)) (sym same)

    ends-again : (o : Option MpUnreach) (g : ℕ) → family_of_end o ≡ Some g → u ≡ end_update o → EndsAgain g
    unfolding attrs_from
    ends-again None g of same =
        subst EndsAgain (same_Some IPV4 g of)
        (read-end None same, written-end ctx None body (read-end None same) fits IPV4 refl, same-lesson IPV4 None same)
    ends-again (Some (MpUnreach.Ip6 [])) g of same =
        subst EndsAgain (same_Some IPV6 g of) (
          read-end (Some (MpUnreach.Ip6 [])) same,
          written-end ctx (Some (MpUnreach.Ip6 [])) body (read-end (Some (MpUnreach.Ip6 [])) same) fits IPV6 refl,
          same-lesson IPV6 (Some (MpUnreach.Ip6 [])) same,
        )
    ends-again (Some (MpUnreach.Ip4 [])) g of same =
        let empty : CanBeWritten ctx (end_update None) body =
        withdrawal-can ctx (record { ip4 = []; ip6 = [] }) tt tt refl body
        (omega (arith, read.no_longer, length-body (run_octets u.withdrawn) (attributes_octets ctx u.attrs) (run_octets u.nlri))) in
        subst EndsAgain (same_Some IPV4 g of)
        (empty, written-end ctx None body empty fits IPV4 refl, same-lesson IPV4 (Some (MpUnreach.Ip4 [])) same)
    ends-again (Some (MpUnreach.Ip4 (p ∷ ps))) g of same = absurd (none-some g of)
    ends-again (Some (MpUnreach.Ip6 (p ∷ ps))) g of same = absurd (none-some g of)

    end-by : (o : Option MpUnreach) (g : ℕ) → family_of_end o ≡ Some g → u ≡ end_update o → family_in ctx (parts_of body) ≡ Some g → IsCleanWith offers ctx drops refuses first this (Message.Update (end_of g) ∷ [])
    end-by o g of same is =
        let end = ends-again o g of same in
        let again : ended_family ctx (written ctx (Message.Update (end_of g))) ≡ Some g = end.1 in
        clean-from offers ctx drops refuses Kind.Update body octets are f first (Message.Update (end_of g)) (update-written (end_of g) end.0)
        (ap (λ (q : Option ℕ). ok (handed_update refuses q (cleaned_update drops (end_of g)))) again)
        (ap (λ (q : Option ℕ). lesson_by offers drops refuses q (Message.Update (end_of g))) again ∙ end.2 ∙ told (Some g) is)

    taken-by : (ns : List Message) (family : Option ℕ) → family_in ctx (parts_of body) ≡ family → handed_update refuses family stays ≡ ns → IsCleanWith offers ctx drops refuses first this ns
    taken-by ns None is handed = subst (λ (q : List Message). IsCleanWith offers ctx drops refuses first this q) handed (plain-clean is)
    taken-by ns (Some g) is handed =
        let end : IsEnding u g = taken-ending ctx u body notes g e is in
        subst (λ (q : List Message). IsCleanWith offers ctx drops refuses first this q) handed (end-by end.unreach g end.of_family end.is is)

  update-by : (first : Bool) (ns : List Message) (v : Verdict) → verdict_of ctx body ≡ v → cleaned_outcome offers drops refuses first (family_in ctx (parts_of body)) (of_verdict v) ≡ Ok ns
      → IsCleanWith offers ctx drops refuses first this ns
  update-by first ns (Verdict.Take u notes) e is = taken-by first u notes e ns (family_in ctx (parts_of body)) refl (ok-same _ ns is)
  update-by first ns (Verdict.Withdraw routes notes) e is =
      subst (λ (q : List Message). IsCleanWith offers ctx drops refuses first this q) (ok-same (Message.Update (withdrawal routes) ∷ []) ns is) (withdraw-clean first routes notes e)
  update-by first ns (Verdict.Reset why) e is = absurd (not_ok _ ns is)

-- ---- every message

module _ (offers : Refreshes) (ctx : Context) (drops : ℕ → Bool) (refuses : Update → Bool) (first : Bool) (octets : List ℕ) (ns : List Message) (are : AreOctets octets) where
  clean-by : (k : Kind) (body : List ℕ) → IsFrame (framed k body) octets → cleaned_with offers ctx drops refuses first (framed k body) ≡ Ok ns → IsCleanWith offers ctx drops refuses first (framed k body) ns
  clean-by Kind.Open body f is = open-by offers ctx drops refuses first body octets are f ns (reading_of body) refl is
  clean-by Kind.Update body f is = update-by offers ctx drops refuses body octets are f first ns (verdict_of ctx body) refl is
  clean-by Kind.Notification body f is =
      let said : Message = Message.Notification (notification_in body) in
      let two : 2 ≤ length body = omega (arith, long offers ctx drops refuses Kind.Notification body octets are f, f.allowed.least) in
      subst (λ (q : List Message). IsCleanWith offers ctx drops refuses first (framed Kind.Notification body) q) (ok-same (said ∷ []) ns is)
      (clean-from offers ctx drops refuses Kind.Notification body octets are f first said
      (is-written offers ctx drops refuses Kind.Notification body octets are f said tt refl (omega (arith, two, length-drop 2 body))) refl refl)
  clean-by Kind.Keepalive body f is =
      subst (λ (q : List Message). IsCleanWith offers ctx drops refuses first (framed Kind.Keepalive body) q) (ok-same (Message.Keepalive ∷ []) ns is)
      (clean-from offers ctx drops refuses Kind.Keepalive body octets are f first Message.Keepalive
      (is-written offers ctx drops refuses Kind.Keepalive body octets are f Message.Keepalive tt refl (omega arith)) refl refl)

pub handed-clean : (offers : Refreshes) (ctx : Context) (drops : ℕ → Bool) (refuses : Update → Bool) (first : Bool) (m : frame.Message) (octets : List ℕ) (ns : List Message)
    → AreOctets octets → IsFrame m octets → cleaned_with offers ctx drops refuses first m ≡ Ok ns → IsCleanWith offers ctx drops refuses first m ns
handed-clean offers ctx drops refuses first m octets ns are f is = clean-by offers ctx drops refuses first octets ns are m.kind m.body f is
