-- A walk over the messages of a stream is a receiver of octets, and its result octet by octet is the report of the stream.
use Rattle.bgp_engine.proofs.Prelude.{◌≡◌, ℕ, zero, suc, ◌+◌, ◌<◌, ◌≤◌, ◌^◌, Bool, true, false, List, [], ◌∷◌, ◌++◌, length, take, drop, Option, Some, None}
use Rattle.bgp_engine.proofs.Prelude.{option_map, Result, Ok, Err, refl, sym, ap, subst, ◌∙◌, append_assoc, arith, inl, inr, take-append-drop, cases_lt}
use Rattle.bgp_engine.proofs.Prelude.{take-append_seam, drop-append_seam, if◌then◌else◌, is_none, is_some, not, append-nil, length-append, length-drop}
use Rattle.bgp_engine.proofs.Prelude.{length-take, drop-drop, AreOctets, AreOctets-nil, AreOctets-append, AreOctets-take, AreOctets-drop, End, HeadFault}
use Rattle.bgp_engine.proofs.Prelude.{AreTypes, Done, IsContentIn, IsFrameIn, IsHeldIn, Judges, MessageIn, Types, WaitsIn, behind_feed, octets_of_in, wanted_in}
use Rattle.bgp_engine.proofs.Prelude.{by_octets, done_by, left_to_do, given, PullsIn, GivesIn, StopsIn, head_of-append, length-IsFrame, wanted-append}
use Rattle.bgp_engine.proofs.Prelude.{wanted-bounds, wanted-Stops, nothing_waits, gives_wait, gives_fault, gives_reset, gives_more, Class, Tally, ToolFault}
use Rattle.bgp_engine.proofs.Prelude.{no_tally, Report, behind, IsOver, IsWaiting, RulesIn, messages_in, octets_at, counted, passed, total, rest_of, report_of}
use Rattle.bgp_engine.proofs.Prelude.{IsReport, GoesOn, Rests, Takes, ClosesBy, Closes, Writes, WritesFault, IsAnswer, is_last, Walking, IsCounting, IsFresh, IsReady, IsTyped}
use Rattle.bgp_engine.proofs.Prelude.{IsJudged, Hears, Moves, all_counts, closing, comes, end_by, ended_by, outcome, reported, reports_of, reset_if}
use Rattle.bgp_engine.proofs.Prelude.{walker, walking}
use Rattle.std.proofs.Math.Dec.{eqb-suc-zero}
use Rattle.bgp_frame.specs.Hearing as hearing
use Rattle.bgp_frame.proofs.Hearings as hearings
use Rattle.bgp_frame.proofs.Hearings.{IsHearer, content_is, taken_up}

pub is_hearer : {K Outcome : Type 0} (ty : Types K) (are : AreTypes ty) → IsHearer (walker {K = K} {Outcome = Outcome} ty)
is_hearer ty are = record { types = are; held_so = λ w held. refl; held_same = λ w. refl; held_last = λ w a b. refl; listens_so = λ w held. refl; emptied = λ w said. refl }

-- ---- the result of a walk is a report

-- the octets of a message, which isn't empty, are the first n of the stream
octets_at-some : (n : ℕ) (s : List ℕ) → 0 < n → octets_at n s ≡ take n s
octets_at-some zero s some = absurd (omega (arith, some))
octets_at-some (suc n) s some = rw (eqb-suc-zero n) refl

module _ {K Outcome : Type 0} (rules : RulesIn K Outcome) (are : AreTypes rules.types) where
  abbrev ty : Types K
  ty = rules.types

  abbrev pub front : ℕ → Tally → Walking K Outcome
  front place tally = walking ty rules [] place tally None

  abbrev pub heard : ℕ → Tally → List ℕ → Report
  heard place tally s = reported (by_octets (walker ty) (front place tally) s)

  abbrev HasReport : ℕ → Tally → List ℕ → Type 0
  HasReport place tally s = IsReport rules place tally s (heard place tally s)

  -- octets that can be held can be held before the others arrive
  held_first : (place : ℕ) (tally : Tally) (held later : List ℕ) → IsHeldIn ty held
      → by_octets (walker ty) (front place tally) (held ++ later) ≡ left_to_do (walker ty) (walking ty rules held place tally None) later
  held_first place tally held later can =
      hearings.in_parts (walker ty) (is_hearer ty are) (front place tally) held later
      ∙ ap (λ (d : Done (Walking K Outcome) ℕ). hearing.behind d.actions (by_octets (walker ty) d.session later))
      (hearings.front_by_octets (walker ty) (is_hearer ty are) (front place tally) refl held (nothing_waits ty are) can)

  reported_behind : (lines : List ℕ) (d : Done (Walking K Outcome) ℕ) → reported (hearing.behind lines d) ≡ behind lines (reported d)
  reported_behind lines d = rw (append_assoc lines d.actions []) refl

  module _ (place : ℕ) (tally : Tally) (held later : List ℕ) (can : IsHeldIn ty held) (what : Result (MessageIn K) HeadFault) (is : IsContentIn ty what held) where
    abbrev o : ℕ × Outcome
    o = outcome ty rules what

    abbrev next : Option End → Walking K Outcome
    next ended = walking ty rules [] (place + passed rules o) (counted tally o.0 (rules.class o.1)) ended

    -- the report of what follows it
    abbrev report_behind : List ℕ → List (ℕ × Outcome) → End → Report
    report_behind s os e = report_of rules (place + passed rules o) (counted tally o.0 (rules.class o.1)) s os e

    its_octets : (w : Result (MessageIn K) HeadFault) → IsContentIn ty w held → octets_at (outcome ty rules w).0 (held ++ later) ≡ held
    its_octets (Ok m) f =
        let size : length held ≡ length (octets_of_in ty m) = ap length f.octets in
        octets_at-some (length (octets_of_in ty m)) (held ++ later) (omega (arith, size, length-IsFrame ty are m held f))
        ∙ ap (λ (n : ℕ). take n (held ++ later)) (sym size) ∙ take-append_seam held later
    its_octets (Err f) faulty = ap (λ (n : ℕ). take n (held ++ later)) (sym faulty.0) ∙ take-append_seam held later

    -- it is written and counted, and then what follows it
    report_content : (os : List (ℕ × Outcome)) (e : End) → GivesIn ty rules.judge (held ++ later) (o ∷ os) e
        → reported (by_octets (walker ty) (next (ended_by rules what)) later) ≡ report_behind (drop (passed rules o) (held ++ later)) os e → HasReport place tally (held ++ later)
    report_content os e gives rest =
        let x : Walking K Outcome = walking ty rules held place tally None in
        let place_is : place + passed rules o + total rules os ≡ place + (passed rules o + total rules os) = omega arith in
        record {
          outcomes = o ∷ os;
          end_of = e;
          gives = gives;
          told = ap reported (held_first place tally held later can
              ∙ ap (λ c. let d : Done (Walking K Outcome) ℕ = done_by (walker ty) x (option_map ((walker ty).comes x) c) in hearing.behind d.actions (by_octets (walker ty) d.session later)) (content_is ty are what held is))
              ∙ reported_behind (rules.line place o.0 held o.1) (by_octets (walker ty) (next (ended_by rules what)) later)
              ∙ ap (behind (rules.line place o.0 held o.1)) rest
              ∙ rw (its_octets what is, drop-drop (total rules os) (passed rules o) (held ++ later), place_is) refl;
        }

    -- after the end of a stream nothing is received
    none_heard : (e : End) → by_octets (walker ty) (next (Some e)) later ≡ record { actions = []; session = next (Some e) }
    none_heard e = hearings.drops_all (walker ty) (is_hearer ty are) (next (Some e)) refl (nothing_waits ty are) later

  module _ (n : ℕ) (shorter : (s : List ℕ) (place : ℕ) (tally : Tally) → length s < n → AreOctets s → HasReport place tally s) (place : ℕ) (tally : Tally) (held later : List ℕ) (can : IsHeldIn ty held) where
    report_message : (m : MessageIn K) (f : IsFrameIn ty m held) → length later < n → AreOctets later → (resets : Bool) → rules.judge.resets (rules.judge.of_message m) ≡ resets → HasReport place tally (held ++ later)
    report_message m f lt octets true is =
        report_content place tally held later can (Ok m) f [] End.Reset (gives_reset ty are Outcome rules.judge m held later f is)
        (ap (λ (b : Bool). reported (by_octets (walker ty) (next place tally held later can (Ok m) f (reset_if b)) later)) is ∙ ap reported (none_heard place tally held later can (Ok m) f End.Reset))
    report_message m f lt octets false on =
        let x = next place tally held later can (Ok m) f None in
        let q = shorter later x.place x.tally lt octets in
        let rest : drop (passed rules (outcome ty rules (Ok m))) (held ++ later) ≡ later =
        ap (λ (b : Bool). drop (if b then 0 else length (octets_of_in ty m)) (held ++ later)) on ∙ ap (λ (i : ℕ). drop i (held ++ later)) (sym (ap length f.octets)) ∙ drop-append_seam held later in
        report_content place tally held later can (Ok m) f q.outcomes q.end_of (gives_more ty are Outcome rules.judge m held later q.outcomes q.end_of f on q.gives)
        (ap (λ (b : Bool). reported (by_octets (walker ty) (next place tally held later can (Ok m) f (reset_if b)) later)) on ∙ q.told
        ∙ ap (λ (s : List ℕ). report_of rules x.place x.tally s q.outcomes q.end_of) (sym rest))

    report_front : StopsIn ty held → length later < n → AreOctets later → HasReport place tally (held ++ later)
    report_front (inl whole) lt octets = report_message whole.0 whole.1 lt octets (rules.judge.resets (rules.judge.of_message whole.0)) refl
    report_front (inr faulty) lt octets =
        let f : HeadFault = faulty.1.0 in
        let long : 19 ≤ length (held ++ later) = omega (arith, faulty.0, length-append held later) in
        report_content place tally held later can (Err f) (faulty.0, faulty.1.1) [] End.Head
        (gives_fault ty are Outcome rules.judge (held ++ later) f long (head_of-append ty are held later (omega (arith, faulty.0)) ∙ faulty.1.1))
        (ap reported (none_heard place tally held later can (Err f) (faulty.0, faulty.1.1) End.Head))

  reports_within : (n : ℕ) (s : List ℕ) (place : ℕ) (tally : Tally) → length s < n → AreOctets s → HasReport place tally s
  reports_within zero s place tally lt octets = absurd (omega arith)
  reports_within (suc n) s place tally lt octets =
      elim (cases_lt (length s) (wanted_in ty s)) [
        | inl waits ↦
            let can : IsHeldIn ty s = record { octets = octets; within = omega (arith, waits) } in
            let none = hearings.front_by_octets (walker ty) (is_hearer ty are) (front place tally) refl s (nothing_waits ty are) can ∙ hearings.rests (walker ty) (is_hearer ty are) (walking ty rules s place tally None) waits in
            record { outcomes = []; end_of = End.Wait (length s); gives = gives_wait ty are Outcome rules.judge s waits; told = ap reported none }
        | inr long ↦
            let held : List ℕ = take (wanted_in ty s) s in
            let bounds = wanted-bounds ty are s in
            let size : length held ≡ wanted_in ty s = omega (arith, length-take (wanted_in ty s) s) in
            let wants : wanted_in ty held ≡ wanted_in ty s = sym (wanted-append ty are held (drop (wanted_in ty s) s) (omega (arith, bounds.0))) ∙ ap (wanted_in ty) (take-append-drop (wanted_in ty s) s) in
            let octets_held : AreOctets held = AreOctets-take (wanted_in ty s) s octets in
            subst (HasReport place tally) (take-append-drop (wanted_in ty s) s)
            (report_front n (reports_within n) place tally held (drop (wanted_in ty s) s) (record { octets = octets_held; within = omega arith })
            (wanted-Stops ty are held octets_held (omega (arith, bounds.0)) (omega arith)) (omega (arith, bounds.0, length-drop (wanted_in ty s) s)) (AreOctets-drop (wanted_in ty s) s octets))
      ]

  -- each stream of octets has its report
  pub heard_report : (place : ℕ) (tally : Tally) (s : List ℕ) → AreOctets s → HasReport place tally s
  heard_report place tally s octets = reports_within (suc (length s)) s place tally (omega arith) octets

-- ---- what is judged

messages_in-bound : (n : ℕ) → messages_in n ≤ 1
messages_in-bound zero = omega arith
messages_in-bound (suc n) = rw (eqb-suc-zero n) (omega arith)

-- after the end of a stream its octets don't count
passed-bound : (resets : Bool) (n : ℕ) → (if resets then 0 else n) ≤ n
passed-bound true n = omega arith
passed-bound false n = omega arith

-- a message is counted once among the messages and once by its class
pub counted-bound : (t : Tally) (len : ℕ) (k : Class) → all_counts (counted t len k) ≤ all_counts t + 2
counted-bound t len Class.Took = omega (arith, messages_in-bound len)
counted-bound t len Class.Withdrawn = omega (arith, messages_in-bound len)
counted-bound t len Class.Reset = omega (arith, messages_in-bound len)

pub none_there : (o : Option End) → is_some o ≡ false → o ≡ None
none_there None is = refl
none_there (Some e) is = absurd cc

closes_by : (report : Report) (t0 t1 : List ℕ) (answer : Result Tally ToolFault) → IsAnswer answer → t1 ≡ t0 ++ (report.lines ++ report.last) → report.answer ≡ answer → ClosesBy report t0 t1 answer
closes_by report t0 t1 (Ok tally) is told same = (told, same)
closes_by report t0 t1 (Err (ToolFault.Narrow n)) is told same = (told, same)
closes_by report t0 t1 (Err (ToolFault.Clean n why)) is told same = (is, told, same)
closes_by report t0 t1 (Err (ToolFault.NoContext why)) is told same = absurd is
closes_by report t0 t1 (Err ToolFault.Memory) is told same = absurd is
closes_by report t0 t1 (Err ToolFault.Read) is told same = absurd is
closes_by report t0 t1 (Err ToolFault.Write) is told same = absurd is
closes_by report t0 t1 (Err (ToolFault.BadHex n)) is told same = absurd is
closes_by report t0 t1 (Err (ToolFault.Script n)) is told same = absurd is
closes_by report t0 t1 (Err ToolFault.Net) is told same = absurd is

module _ {K Outcome : Type 0} where
  abbrev done : List ℕ → Walking K Outcome → Done (Walking K Outcome) ℕ
  done actions w = record { actions = actions; session = w }

  -- what a walk reports of what it holds and of the octets after that is their report
  pub reports_report : (w : Walking K Outcome) (later : List ℕ) (r : Report) → IsTyped w → w.ended ≡ None → IsHeldIn w.types w.held → AreOctets later → reports_of w later r → IsReport w.rules w.place w.tally (w.held ++ later) r
  reports_report w later r typed e can octets q =
      let are : AreTypes w.rules.types = subst AreTypes typed.same typed.are in
      let holds : IsHeldIn w.rules.types w.held = subst (λ (t : Types K). IsHeldIn t w.held) typed.same can in
      let at : r ≡ reported (left_to_do (walker w.rules.types) (walking w.rules.types w.rules w.held w.place w.tally None) later) =
      q ∙ ap (λ (o : Option End). reported (left_to_do (walker w.types) (walking w.types w.rules w.held w.place w.tally o) later)) e
      ∙ ap (λ (t : Types K). reported (left_to_do (walker t) (walking t w.rules w.held w.place w.tally None) later)) typed.same in
      subst (IsReport w.rules w.place w.tally (w.held ++ later)) (ap reported (held_first w.rules are w.place w.tally w.held later holds) ∙ sym at)
      (heard_report w.rules are w.place w.tally (w.held ++ later) (AreOctets-append w.held later can.octets octets))

  -- ---- what is judged

  module _ (w : Walking K Outcome) (octets t0 t1 : List ℕ) (n : ℕ) (typed : IsTyped w) (unended : w.ended ≡ None) (pulls : PullsIn w.types w.held octets n) where
    abbrev pulled : List ℕ
    pulled = w.held ++ take n octets

    pub judges_message : (m : MessageIn K) (len : ℕ) (k : Class) → IsFrameIn w.types m pulled → len ≡ length pulled → Writes w.rules t0 t1 w.place len m k
        → IsJudged w (walking w.types w.rules [] (w.place + (if is_last k then 0 else len)) (counted w.tally len k) (reset_if (is_last k))) t0 t1 octets (Some n)
    judges_message m len k f size writes =
        let o : Outcome = w.rules.judge.of_message m in
        let count : len ≡ length (octets_of_in w.types m) = size ∙ ap length f.octets in
        let its : octets_of_in w.rules.types m ≡ pulled = ap (λ (t : Types K). octets_of_in t m) (sym typed.same) ∙ sym f.octets in (
          w.rules.line w.place (length (octets_of_in w.types m)) pulled o,
          record {
            pulls = pulls;
            next = record { up = ap is_none unended; what = Ok m; is_held = f; does = refl; leaves = rw (sym writes.ends, writes.counts, count) refl };
          },
          writes.told ∙ ap (λ (i : ℕ). t0 ++ w.rules.line w.place i (octets_of_in w.rules.types m) o) count ∙ ap (λ (b : List ℕ). t0 ++ w.rules.line w.place (length (octets_of_in w.types m)) b o) its,
        )

    pub judges_fault : (f : HeadFault) → IsContentIn w.types (Err f) pulled → WritesFault w.rules t0 t1 w.place pulled f
        → IsJudged w (walking w.types w.rules [] w.place (counted w.tally 0 Class.Reset) (Some End.Head)) t0 t1 octets (Some n)
    judges_fault f faulty writes =
        let o : Outcome = w.rules.judge.of_fault f in
        let stays : w.place ≡ w.place + passed w.rules (0, o) = omega (arith, passed-bound (w.rules.judge.resets o) 0) in (
          w.rules.line w.place 0 pulled o,
          record {
            pulls = pulls;
            next = record { up = ap is_none unended; what = Err f; is_held = faulty; does = refl; leaves = rw writes.counts (ap (λ (p : ℕ). walking w.types w.rules [] p (counted w.tally 0 Class.Reset) (Some End.Head)) stays) };
          },
          writes.told,
        )

  -- a walk after another: it holds octets by the same types, they end no later in the stream, and it is ready
  pub record Stands (old new : Walking K Outcome) : Type 0 where
    pub types : new.types ≡ old.types
    pub count : new.place + length new.held ≤ old.place + length old.held
    pub ready : IsReady new

  module _ (w : Walking K Outcome) (c : IsCounting w) where
    abbrev are : AreTypes w.types
    are = c.typed.are

    pub counting_ready : w.ended ≡ None → WaitsIn w.types w.held → IsReady w
    counting_ready unended waits = record { typed = c.typed; waits = waits; counting = λ none. c; over = λ ended. absurd (let not : false ≡ true = sym (ap is_some unended) ∙ ended in cc) }

    typed_on : (place : ℕ) (tally : Tally) (ended : Option End) → IsTyped (walking w.types w.rules [] place tally ended)
    typed_on place tally ended = record { are = c.typed.are; same = c.typed.same }

    counts_on : (len : ℕ) (k : Class) → 1 < len → len ≤ length w.held → IsCounting (walking w.types w.rules [] (w.place + len) (counted w.tally len k) None)
    counts_on len k some within =
        record { typed = typed_on _ _ _; octets = AreOctets-nil; place = omega (arith, c.place, within); counts = omega (arith, c.counts, some, counted-bound w.tally len k) }

    stands_by : (len : ℕ) (k : Class) → 1 < len → len ≤ length w.held → (resets : Bool)
        → Stands w (walking w.types w.rules [] (w.place + (if resets then 0 else len)) (counted w.tally len k) (reset_if resets))
    stands_by len k some within true =
        record { types = refl; count = omega arith; ready = record { typed = typed_on _ _ _; waits = nothing_waits w.types are; counting = λ none. absurd cc; over = λ ended. tt } }
    stands_by len k some within false =
        record { types = refl; count = omega (arith, within); ready = record { typed = typed_on _ _ _; waits = nothing_waits w.types are; counting = λ none. counts_on len k some within; over = λ ended. absurd cc } }

    stands_judged : (what : Result (MessageIn K) HeadFault) → IsContentIn w.types what w.held → Stands w (comes w what).1
    stands_judged (Ok m) f =
        let size = ap length f.octets in
        stands_by (length (octets_of_in w.types m)) _ (omega (arith, size, length-IsFrame w.types are m w.held f)) (omega (arith, size)) (w.rules.judge.resets (w.rules.judge.of_message m))
    stands_judged (Err f) faulty = record {
      types = refl;
      count = omega (arith, passed-bound (w.rules.judge.resets (w.rules.judge.of_fault f)) 0);
      ready = record { typed = typed_on _ _ _; waits = nothing_waits w.types are; counting = λ none. absurd cc; over = λ ended. tt };
    }

    judges_stand : (line : List ℕ) (new : Walking K Outcome) → Judges (walker w.types) w line new → Stands w new
    judges_stand line new j = subst (Stands w) (sym j.leaves) (stands_judged j.what j.is_held)

  -- ---- what is received does what its octets do one by one

  pub hears_pulled : (old new : Walking K Outcome) (octets t0 t1 : List ℕ) (n : ℕ) → AreTypes old.types → IsJudged old new t0 t1 octets (Some n) → Hears old new t0 t1 octets n
  hears_pulled old new octets t0 t1 n are j =
      let h = hearings.pulls_as_fed (walker old.types) (is_hearer old.types are) old octets n (Some j.0) new j.1 in
      record { found = Some j.0; call = (h.fed, h.next); told = j.2 }

  -- there was nothing to judge, so octets were fed, and what is held then is judged
  module _ (old mid new : Walking K Outcome) (octets held t0 t1 t2 : List ℕ) (n : ℕ) (are : AreTypes old.types) (unended : old.ended ≡ None) (first : IsJudged old mid t0 t1 octets None)
      (counts : hearing.CountsFedIn mid.types true mid.held octets n) (is : held ≡ mid.held ++ take n octets) where
    is_fed : hearing.IsFed (walker old.types) old octets n (behind_feed (walker old.types) old octets n)
    is_fed = (rw unended (rw first.1 at counts), refl)

    fed_next : (found : Option ℕ) → IsJudged (behind_feed (walker old.types) old octets n) new t0 t2 [] found → Hears old new t0 t2 octets n
    fed_next None j = record { found = None; call = (is_fed, (j.0.waits, j.1)); told = j.2 ∙ sym (append-nil t0) }
    fed_next (Some k) j = record { found = Some j.0; call = (is_fed, hearings.judged_by_pull (walker old.types) (is_hearer old.types are) _ k j.0 new j.1); told = j.2 }

    pub hears_fed : (found : Option ℕ) → IsJudged (walking mid.types mid.rules held mid.place mid.tally mid.ended) new t1 t2 [] found → Hears old new t0 t2 octets n
    hears_fed found j = fed_next found (rw (is, first.1, first.2) at j)

  pub counting_fed : (old mid : Walking K Outcome) (octets t0 t1 : List ℕ) (n : ℕ) → IsReady old → old.ended ≡ None → IsJudged old mid t0 t1 octets None → AreOctets octets → n ≤ length octets → old.place + length old.held + length octets ≤ 2 ^ 60
      → IsCounting (walking mid.types mid.rules (mid.held ++ take n octets) mid.place mid.tally mid.ended)
  counting_fed old mid octets t0 t1 n ready unended first are within fits =
      let c : IsCounting old = ready.counting unended in
      subst (λ (w : Walking K Outcome). IsCounting (walking w.types w.rules (w.held ++ take n octets) w.place w.tally w.ended)) (sym first.1)
      (record {
        typed = record { are = c.typed.are; same = c.typed.same };
        octets = AreOctets-append old.held (take n octets) c.octets (AreOctets-take n octets are);
        place = omega (arith, fits, within, length-append old.held (take n octets), length-take n octets);
        counts = c.counts;
      })

  module _ (old new : Walking K Outcome) (octets t0 t1 : List ℕ) (n : ℕ) (unended : old.ended ≡ None) (ready : IsReady old) (h : Hears old new t0 t1 octets n) where
    abbrev old_are : AreTypes old.types
    old_are = ready.typed.are

    abbrev hears : IsHearer (walker {K = K} {Outcome = Outcome} old.types)
    hears = is_hearer old.types old_are

    abbrev fed : Walking K Outcome
    fed = behind_feed (walker old.types) old octets n

    c : IsCounting old
    c = ready.counting unended

    up : is_none old.ended ≡ true
    up = ap is_none unended

    counts : hearing.CountsFedIn old.types true old.held octets n
    counts = taken_up old.types old_are (is_none old.ended) old.held octets n up h.call.0.0

    pub hears_some : 0 < length octets → 0 < n
    hears_some some = counts.1 ready.waits some

    lengths : length fed.held + length (drop n octets) ≡ length old.held + length octets
    lengths = omega (arith, counts.0.within, length-append old.held (take n octets), length-take n octets, length-drop n octets)

    module _ (are : AreOctets octets) (fits : old.place + length old.held + length octets ≤ 2 ^ 60) where
      passes : hearings.Passes (walker old.types) hears old octets n (given h.found) new
      passes =
          hearings.passes (walker old.types) hears old octets n h.found new
          (record {
            can_hold = record { octets = c.octets; within = omega (arith, ready.waits) };
            holds_none = λ deaf. absurd (hearings.not_both old.types old_are (is_none old.ended) up deaf);
          })
          are ((hearings.feed_is_way (walker old.types) hears).heard old octets n h.found new h.call)

      counts_fed : IsCounting fed
      counts_fed = record {
        typed = record { are = old_are; same = ready.typed.same };
        octets = AreOctets-append old.held (take n octets) c.octets (AreOctets-take n octets are);
        place = omega (arith, fits, lengths);
        counts = c.counts;
      }

      stands_fed : (o : Option (List ℕ)) → hearing.IsJudged (walker old.types) fed o new → Stands fed new
      stands_fed None j = subst (Stands fed) (sym j.1) (record { types = refl; count = omega arith; ready = counting_ready fed counts_fed unended j.0 })
      stands_fed (Some line) j = judges_stand fed counts_fed line new j

      pub moves_heard : Moves old new t0 t1 octets (drop n octets)
      moves_heard =
          let s = stands_fed h.found h.call.1 in
          record { lines = given h.found; told = h.told; types = s.types; left = passes.left; count = omega (arith, s.count, lengths); ready = s.ready }

  pub moves_none : (w : Walking K Outcome) (told octets : List ℕ) → IsReady w → Moves w w told told octets octets
  moves_none w told octets ready = record { lines = []; told = sym (append-nil told); types = refl; left = refl; count = omega arith; ready = ready }

  pub moves_more : (a b d : Walking K Outcome) (t0 t1 t2 x y z : List ℕ) → Moves a b t0 t1 x y → Moves b d t1 t2 y z → Moves a d t0 t2 x z
  moves_more a b d t0 t1 t2 x y z p q =
      let rest = left_to_do (walker a.types) d z in
      let left : left_to_do (walker a.types) b y ≡ hearing.behind q.lines rest = subst (λ (t : Types K). left_to_do (walker t) b y ≡ hearing.behind q.lines (left_to_do (walker t) d z)) p.types q.left in
      record {
        lines = p.lines ++ q.lines;
        told = q.told ∙ ap (λ (t : List ℕ). t ++ q.lines) p.told ∙ append_assoc t0 p.lines q.lines;
        types = q.types ∙ p.types;
        left = p.left ∙ ap (hearing.behind p.lines) left ∙ ap (λ (lines : List ℕ). done lines rest.session) (sym (append_assoc p.lines q.lines rest.actions));
        count = omega (arith, p.count, q.count);
        ready = q.ready;
      }

  -- ---- a block

  module _ (ty : Types K) (are : AreTypes ty) where
    left_in_parts : (w : Walking K Outcome) (a b : List ℕ)
        → left_to_do (walker ty) w (a ++ b) ≡ hearing.behind (left_to_do (walker ty) w a).actions (by_octets (walker ty) (left_to_do (walker ty) w a).session b)
    left_in_parts w a b =
        let first = hearing.settled (walker ty) w in
        let front = by_octets (walker ty) first.session a in
        let back = by_octets (walker ty) front.session b in
        ap (hearing.behind first.actions) (hearings.in_parts (walker ty) (is_hearer ty are) first.session a b)
        ∙ ap (λ (lines : List ℕ). done lines back.session) (sym (append_assoc first.actions front.actions back.actions))

    -- nothing is left to do where what is held is incomplete and no octets arrive, or the stream has ended
    waits_still_in : (w : Walking K Outcome) → WaitsIn ty w.held → left_to_do (walker ty) w [] ≡ done [] w
    waits_still_in w waits = hearings.waiting (walker ty) (is_hearer ty are) w [] waits

    over_still_in : (w : Walking K Outcome) → is_none w.ended ≡ false → WaitsIn ty w.held → (later : List ℕ) → left_to_do (walker ty) w later ≡ done [] w
    over_still_in w deaf waits later = hearings.waiting (walker ty) (is_hearer ty are) w later waits ∙ hearings.drops_all (walker ty) (is_hearer ty are) w deaf waits later

  pub waits_still : (w : Walking K Outcome) → IsReady w → left_to_do (walker w.types) w [] ≡ done [] w
  waits_still w ready = waits_still_in w.types ready.typed.are w ready.waits

  over_still : (w : Walking K Outcome) → is_none w.ended ≡ false → IsReady w → (later : List ℕ) → left_to_do (walker w.types) w later ≡ done [] w
  over_still w deaf ready later = over_still_in w.types ready.typed.are w deaf ready.waits later

  -- where the octets were received up to a rest that does nothing, others can follow
  pub goes_on : (old new : Walking K Outcome) (t0 t1 octets rest : List ℕ) (p : Moves old new t0 t1 octets rest) → left_to_do (walker new.types) new rest ≡ done [] new → GoesOn (reports_of old) octets p.lines (reports_of new)
  goes_on old new t0 t1 octets rest p still later r q =
      let new_are = p.ready.typed.are in
      let same : left_to_do (walker new.types) old octets ≡ hearing.behind p.lines (left_to_do (walker new.types) new rest) =
      subst (λ (t : Types K). left_to_do (walker t) old octets ≡ hearing.behind p.lines (left_to_do (walker t) new rest)) (sym p.types) p.left in
      ap (behind p.lines) (q ∙ ap reported (hearings.waiting (walker new.types) (is_hearer new.types new_are) new later p.ready.waits))
      ∙ sym (reported_behind new.rules (subst AreTypes p.ready.typed.same new_are) p.lines (by_octets (walker new.types) new later))
      ∙ ap reported (sym (left_in_parts new.types new_are old octets later
      ∙ ap (λ (d : Done (Walking K Outcome) ℕ). hearing.behind d.actions (by_octets (walker new.types) d.session later))
      (same ∙ ap (hearing.behind p.lines) still ∙ ap (λ (lines : List ℕ). done lines new) (append-nil p.lines))))
      ∙ ap (λ (t : Types K). reported (left_to_do (walker t) old (octets ++ later))) p.types

  pub rests_at : (w : Walking K Outcome) → w.ended ≡ None → IsReady w → Rests (reports_of w)
  rests_at w unended ready =
      let waiting = subst (λ (o : Option End). IsWaiting (end_by o (length w.held))) (sym unended) tt in
      record { report = closing w; reported = ap reported (sym (waits_still w ready)); none = refl; waiting = waiting }

  pub takes_on : (old new : Walking K Outcome) (t0 t1 octets : List ℕ) → Moves old new t0 t1 octets [] → new.ended ≡ None → Takes (reports_of old) (reports_of new) (IsReady new) t0 t1 octets false
  takes_on old new t0 t1 octets p unended =
      let on = goes_on old new t0 t1 octets [] p (waits_still new p.ready) in
      record { lines = p.lines; told = p.told; goes_on = on; stands = (p.ready, rests_at new unended p.ready) }

  pub takes_over : (old new : Walking K Outcome) (t0 t1 octets rest : List ℕ) → Moves old new t0 t1 octets rest → is_some new.ended ≡ true → Takes (reports_of old) (reports_of new) (IsReady new) t0 t1 octets true
  takes_over old new t0 t1 octets rest p ended =
      let still = over_still new (ap not ended) p.ready in record {
        lines = p.lines;
        told = p.told;
        goes_on = goes_on old new t0 t1 octets rest p (still rest);
        stands = record {
          report = closing new;
          reported = ap reported (sym (still []));
          none = refl;
          over = λ r q. subst (λ (x : Report). IsOver x.end_of) (sym (q ∙ ap reported (still []))) (p.ready.over ended);
          always = λ later more r q. q ∙ ap reported (still later ∙ sym (still more));
        };
      }

  pub walk_total : (w : Walking K Outcome) (later : List ℕ) → AreOctets later → (r : Report) × reports_of w later r
  walk_total w later octets = (reported (left_to_do (walker w.types) w later), refl)

  -- ---- where a stream ends

  pub some_closing : (w : Walking K Outcome) (t0 t1 : List ℕ) → IsReady w → Closes (reports_of w) t0 t1 (Err ToolFault.Memory)
  some_closing w t0 t1 ready = record { report = closing w; reported = ap reported (sym (waits_still w ready)); closes = tt }

  pub closes : (w : Walking K Outcome) (e : End) (t0 t1 : List ℕ) (answer : Result Tally ToolFault) → IsReady w → end_by w.ended (length w.held) ≡ e → IsAnswer answer
      → t1 ≡ t0 ++ (w.rules.last (record w.tally { end = e }) ++ rest_of w.rules w.held e) → answer ≡ w.rules.answer (record w.tally { end = e }) w.place → Closes (reports_of w) t0 t1 answer
  closes w e t0 t1 answer ready ends is told same =
      let stays : w.place + 0 ≡ w.place = omega arith in
      let r = report_of w.rules w.place w.tally w.held [] in
      let by = closes_by (r e) t0 t1 answer is told (ap (w.rules.answer (record w.tally { end = e })) stays ∙ sym same) in
      record {
        report = closing w;
        reported = ap reported (sym (waits_still w ready));
        closes = subst (λ (d : End). ClosesBy (r d) t0 t1 answer) (sym ends) by;
      }

  -- ---- the beginning of a stream

  module _ (rules : RulesIn K Outcome) (types : Types K) (typed : (are : AreTypes types) × (types ≡ rules.types)) where
    abbrev pub begin : Walking K Outcome
    begin = walking types rules [] 0 no_tally None

    pub begin_ready : IsReady begin
    begin_ready = counting_ready begin (record { typed = record { are = typed.0; same = typed.1 }; octets = AreOctets-nil; place = omega arith; counts = omega arith }) refl (nothing_waits types typed.0)

  pub fresh_ready : (w : Walking K Outcome) → IsTyped w → IsFresh w → IsReady w
  fresh_ready w typed fresh = subst IsReady (sym fresh) (begin_ready w.rules w.types (typed.are, typed.same))

  pub fresh_again : (w0 w1 : Walking K Outcome) (types : Types K) (rules : RulesIn K Outcome) → IsFresh w0 → w1 ≡ walking types rules [] w0.place w0.tally w0.ended → IsFresh w1
  fresh_again w0 w1 types rules fresh is = subst IsFresh (sym is) (ap (λ (x : Walking K Outcome). walking types rules [] x.place x.tally x.ended) fresh)

  -- the report of a stream that is read from the beginning
  pub fresh_report : (w : Walking K Outcome) (s : List ℕ) (r : Report) → IsTyped w → IsFresh w → AreOctets s → reports_of w s r → IsReport w.rules 0 no_tally s r
  fresh_report w s r typed fresh octets q =
      let held : w.held ≡ [] = ap (λ (x : Walking K Outcome). x.held) fresh in
      let can : IsHeldIn w.types w.held = subst (IsHeldIn w.types) (sym held) (record { octets = AreOctets-nil; within = omega arith }) in
      subst (λ (x : Walking K Outcome). IsReport w.rules x.place x.tally (x.held ++ s) r) fresh (reports_report w s r typed (ap (λ (x : Walking K Outcome). x.ended) fresh) can octets q)

  -- that of the rest of a stream whose first message was handled
  pub report_on : (w : Walking K Outcome) (s : List ℕ) (r : Report) → IsTyped w → w.held ≡ [] → w.ended ≡ None → AreOctets s → reports_of w s r → IsReport w.rules w.place w.tally s r
  report_on w s r typed held unended octets q =
      let can : IsHeldIn w.types w.held = subst (IsHeldIn w.types) (sym held) (record { octets = AreOctets-nil; within = omega arith }) in
      subst (λ (x : List ℕ). IsReport w.rules w.place w.tally (x ++ s) r) held (reports_report w s r typed unended can octets q)

-- nothing is written of an incomplete message where the stream is over
pub none_wait : {K Outcome : Type 0} (rules : RulesIn K Outcome) (held : List ℕ) (e : End) → IsOver e → rest_of rules held e ≡ []
none_wait rules held End.Reset over = refl
none_wait rules held End.Head over = refl
none_wait rules held (End.Wait n) over = absurd over
