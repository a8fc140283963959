-- Each stream of octets has one reading, found message by message from its front.
use Rattle.bgp_wire.proofs.Std.{◌≡◌, ℕ, zero, suc, ◌+◌, ◌<◌, ◌≤◌, Bool, true, false, cond, ltb, List, [], ◌∷◌, ◌++◌, length, map, take, drop, Result, Ok, Err, refl, sym, ap, subst, ◌∙◌, append_assoc, arith, inl, inr, ◌⊎◌, AllByRecursion, le-ltb, ltb-true, ltb-false, append_cancel_left, take_at, drop_at, take-append-drop}
use Rattle.std.proofs.lemmas.Bool.{lt-ltb}
use Rattle.std.proofs.lemmas.List.{append-nil, length-append, length-drop, length-take}
use Rattle.bgp_wire.specs.Prelude.{AreOctets, Row, IsPrefixFree}
use Rattle.bgp_wire.proofs.OctetLemmas.{AreOctets-take, AreOctets-drop}
use Rattle.bgp_frame.specs.declared.end.End.{End}
use Rattle.bgp_frame.specs.declared.fault.HeadFault.{HeadFault}
use Rattle.bgp_frame.specs.Prelude.{AreTypes, EndsByIn, GivesIn, GoesOn, HasOneReadingIn, HeaderIn, IsFrameIn, MessageIn, StreamRulesIn, Types, WaitsIn, head_of_in, header_in, octets_of_in, outcome_of_in, wanted_by, wanted_in}
use Rattle.bgp_frame.specs.declared.end.End.TheVariants as end
use Rattle.bgp_frame.proofs.HeadLemmas.{said_same}
use Rattle.bgp_frame.proofs.FrameLemmas.{head_at, head_of-append, length-IsFrame, head_of-IsFrame, IsFrame-head_of, wanted_by_head, wanted-append, wanted-bounds, IsFrame-wanted}

module _ {K : Type 0} (ty : Types K) (okay : AreTypes ty) where
  -- ---- frames are prefix free

  same_body : (kind : K) (v w : List ℕ) → length v ≡ length w → octets_of_in ty (record { kind = kind; body = v }) ≡ octets_of_in ty (record { kind = kind; body = w }) → v ≡ w
  same_body kind v w len e =
      append_cancel_left (header_in ty kind (19 + length w)) v w (ap (λ (n : ℕ). header_in ty kind (19 + n) ++ v) (sym len) ∙ e)

  one_frame : (v w : MessageIn K) (a b x y : List ℕ) → IsFrameIn ty v a → IsFrameIn ty w b → a ++ x ≡ b ++ y → (a ≡ b) × (v ≡ w)
  one_frame v w a b x y p q e =
      let len_a = length-IsFrame ty okay v a p in
      let len_b = length-IsFrame ty okay w b q in
      let same : head_at ty okay v.kind (length a) ≡ head_at ty okay w.kind (length b) = said_same ty okay (head_at ty okay v.kind (length a)) (head_at ty okay w.kind (length b))
      (sym (head_of-IsFrame ty okay v a p) ∙ sym (head_of-append ty okay a x (omega arith)) ∙ ap (head_of_in ty) e ∙ head_of-append ty okay b y (omega arith) ∙ head_of-IsFrame ty okay w b q) in
      let kinds : v.kind ≡ w.kind = ap (λ (h : HeaderIn K). h.kind) same in
      let lens : length a ≡ length b = ap (λ (h : HeaderIn K). h.len) same in
      let whole : a ≡ b = sym (take_at a x (length a) refl) ∙ ap (take (length a)) e ∙ take_at b y (length a) (sym lens) in
      let bodies : v.body ≡ w.body = same_body w.kind v.body w.body (omega arith) (ap (λ (k : K). octets_of_in ty (record { kind = k; body = v.body })) (sym kinds) ∙ sym p.octets ∙ whole ∙ q.octets) in
      (whole, ap (λ (k : K). record { kind = k; body = v.body }) kinds ∙ ap (λ (body : List ℕ). record { kind = w.kind; body = body }) bodies)

  pub IsFrame-prefix_free : IsPrefixFree (IsFrameIn ty)
  IsFrame-prefix_free = record {
    not_empty = λ v b p. let len = length-IsFrame ty okay v b p in omega arith;
    one_cut = one_frame;
  }

  -- ---- what a stream begins with

  front_wanted : (m : MessageIn K) (frame rest : List ℕ) → IsFrameIn ty m frame → wanted_in ty (frame ++ rest) ≡ length frame
  front_wanted m frame rest f = let len = length-IsFrame ty okay m frame f in (wanted-append ty okay) frame rest (omega arith) ∙ IsFrame-wanted ty okay m frame f

  faulty_wanted : (s : List ℕ) (f : HeadFault) → 19 ≤ length s → head_of_in ty s ≡ Err f → wanted_in ty s ≡ 19
  faulty_wanted s f long e = wanted_by_head ty okay s long ∙ ap wanted_by e

  module _ (Outcome : Type 0) (j : StreamRulesIn K Outcome) where
    -- ---- a reading, built from the front

    pub gives_wait : (s : List ℕ) → WaitsIn ty s → GivesIn ty j s [] (end.Wait (length s))
    gives_wait s w = record { messages = []; row = []; rest = s; whole = refl; frames = refl; ends = record { go_on = tt; waits = w; count = refl; told = refl } }

    pub gives_fault : (s : List ℕ) (f : HeadFault) → 19 ≤ length s → head_of_in ty s ≡ Err f → GivesIn ty j s ((0, j.of_fault f) ∷ []) end.Head
    gives_fault s f long e = record { messages = []; row = []; rest = s; whole = refl; frames = refl; ends = record { go_on = tt; has_header = long; fault = f; faulty = e; told = refl } }

    one_row : (m : MessageIn K) (frame : List ℕ) → IsFrameIn ty m frame → Row (IsFrameIn ty) (m ∷ []) (frame ++ [])
    one_row m frame f = (frame, [], refl, f, refl)

    pub gives_reset : (m : MessageIn K) (frame rest : List ℕ) → IsFrameIn ty m frame → j.resets (j.of_message m) ≡ true → GivesIn ty j (frame ++ rest) (outcome_of_in ty j m ∷ []) end.Reset
    gives_reset m frame rest f is = record {
      messages = m ∷ [];
      row = frame ++ [];
      rest = rest;
      whole = ap (λ (x : List ℕ). x ++ rest) (sym (append-nil frame));
      frames = one_row m frame f;
      ends = (record { earlier = []; last = m; in_order = refl; go_on = tt; reset = is }, refl);
    }

    more_ends : (m : MessageIn K) (messages : List (MessageIn K)) (rest : List ℕ) (os : List (ℕ × Outcome)) (e : End) → GoesOn j m → EndsByIn ty j messages rest os e → EndsByIn ty j (m ∷ messages) rest (outcome_of_in ty j m ∷ os) e
    more_ends m messages rest os end.Reset on h =
        (record { earlier = m ∷ h.0.earlier; last = h.0.last; in_order = ap (λ (ms : List (MessageIn K)). m ∷ ms) h.0.in_order; go_on = (on, h.0.go_on); reset = h.0.reset }, ap (λ (xs : List (ℕ × Outcome)). outcome_of_in ty j m ∷ xs) h.1)
    more_ends m messages rest os end.Head on h =
        record { go_on = (on, h.go_on); has_header = h.has_header; fault = h.fault; faulty = h.faulty; told = ap (λ (xs : List (ℕ × Outcome)). outcome_of_in ty j m ∷ xs) h.told }
    more_ends m messages rest os (end.Wait n) on h =
        record { go_on = (on, h.go_on); waits = h.waits; count = h.count; told = ap (λ (xs : List (ℕ × Outcome)). outcome_of_in ty j m ∷ xs) h.told }

    pub gives_more : (m : MessageIn K) (frame rest : List ℕ) (os : List (ℕ × Outcome)) (e : End) → IsFrameIn ty m frame → GoesOn j m → GivesIn ty j rest os e → GivesIn ty j (frame ++ rest) (outcome_of_in ty j m ∷ os) e
    gives_more m frame rest os e f on g = record {
      messages = m ∷ g.messages;
      row = frame ++ g.row;
      rest = g.rest;
      whole = ap (λ (x : List ℕ). frame ++ x) g.whole ∙ sym (append_assoc frame g.row g.rest);
      frames = (frame, g.row, refl, f, g.frames);
      ends = more_ends m g.messages g.rest os e on g.ends;
    }

    -- ---- the reading as a function

    abbrev pub Reading : Type 0
    Reading = List (ℕ × Outcome) × End

    abbrev pub with_outcome : ℕ × Outcome → Reading → Reading
    with_outcome o r = (o ∷ r.0, r.1)

    -- the message of a header without fault
    abbrev pub message_at : HeaderIn K → List ℕ → (MessageIn K)
    message_at h s = record { kind = h.kind; body = drop 19 (take h.len s) }

    abbrev pub read_head_of : (List ℕ → Reading) → List ℕ → Result (HeaderIn K) HeadFault → Reading
    read_head_of later s (Err f) = ((0, j.of_fault f) ∷ [], end.Head)
    read_head_of later s (Ok h) =
        cond (j.resets (j.of_message (message_at h s)))
        ((h.len, j.of_message (message_at h s)) ∷ [], end.Reset)
        (with_outcome (h.len, j.of_message (message_at h s)) (later (drop h.len s)))

    abbrev pub read_within : ℕ → List ℕ → Reading
    read_within zero s = ([], end.Reset)
    read_within (suc n) s = cond (ltb (length s) (wanted_in ty s)) ([], end.Wait (length s)) (read_head_of (read_within n) s (head_of_in ty s))

    read_waiting : (n : ℕ) (s : List ℕ) → WaitsIn ty s → read_within (suc n) s ≡ ([], end.Wait (length s))
    read_waiting n s w = rw (lt-ltb _ _ w) refl

    read_fault : (n : ℕ) (s : List ℕ) (f : HeadFault) → 19 ≤ length s → head_of_in ty s ≡ Err f → read_within (suc n) s ≡ ((0, j.of_fault f) ∷ [], end.Head)
    read_fault n s f long e = let enough : wanted_in ty s ≤ length s = omega (arith, faulty_wanted s f long e) in rw (le-ltb (length s) (wanted_in ty s) enough, e) refl

    read_frame : (n : ℕ) (m : MessageIn K) (frame rest : List ℕ) → IsFrameIn ty m frame
        → read_within (suc n) (frame ++ rest) ≡ cond (j.resets (j.of_message m)) (outcome_of_in ty j m ∷ [], end.Reset) (with_outcome (outcome_of_in ty j m) (read_within n rest))
    read_frame n m frame rest f =
        let len = length-IsFrame ty okay m frame f in
        let enough : wanted_in ty (frame ++ rest) ≤ length (frame ++ rest) = omega (arith, front_wanted m frame rest f, length-append frame rest) in
        let says : head_of_in ty (frame ++ rest) ≡ Ok (head_at ty okay m.kind (length frame)) = head_of-append ty okay frame rest (omega arith) ∙ head_of-IsFrame ty okay m frame f in
        let body : drop 19 frame ≡ m.body = ap (drop 19) f.octets in
        let same : message_at (head_at ty okay m.kind (length frame)) (frame ++ rest) ≡ m =
        ap (λ (x : List ℕ). record { kind = m.kind; body = drop 19 x }) (take_at frame rest (length frame) refl) ∙ ap (λ (x : List ℕ). record { kind = m.kind; body = x }) body in
        let count : length frame ≡ length (octets_of_in ty m) = ap length f.octets in
        rw (le-ltb (length (frame ++ rest)) (wanted_in ty (frame ++ rest)) enough, says) (
        ap (λ (k : MessageIn K). cond (j.resets (j.of_message k)) ((length frame, j.of_message k) ∷ [], end.Reset) (with_outcome (length frame, j.of_message k) (read_within n (drop (length frame) (frame ++ rest))))) same
        ∙ ap (λ (x : List ℕ). cond (j.resets (j.of_message m)) ((length frame, j.of_message m) ∷ [], end.Reset) (with_outcome (length frame, j.of_message m) (read_within n x))) (drop_at frame rest (length frame) refl)
        ∙ ap (λ (k : ℕ). cond (j.resets (j.of_message m)) ((k, j.of_message m) ∷ [], end.Reset) (with_outcome (k, j.of_message m) (read_within n rest))) count)

    -- ---- each reading is that of the function

    not_last : (earlier : List (MessageIn K)) (last : MessageIn K) → [] ≡ earlier ++ last ∷ [] → ⊥
    not_last [] last e = absurd cc
    not_last (x ∷ earlier) last e = absurd cc

    read_reset : (n : ℕ) (m : MessageIn K) (frame rest : List ℕ) → IsFrameIn ty m frame → j.resets (j.of_message m) ≡ true → read_within (suc n) (frame ++ rest) ≡ (outcome_of_in ty j m ∷ [], end.Reset)
    read_reset n m frame rest f is = read_frame n m frame rest f ∙ ap (λ (b : Bool). cond b (outcome_of_in ty j m ∷ [], end.Reset) (with_outcome (outcome_of_in ty j m) (read_within n rest))) is

    read_more : (n : ℕ) (m : MessageIn K) (frame rest : List ℕ) → IsFrameIn ty m frame → GoesOn j m → read_within (suc n) (frame ++ rest) ≡ with_outcome (outcome_of_in ty j m) (read_within n rest)
    read_more n m frame rest f on = read_frame n m frame rest f ∙ ap (λ (b : Bool). cond b (outcome_of_in ty j m ∷ [], end.Reset) (with_outcome (outcome_of_in ty j m) (read_within n rest))) on

    read_none : (n : ℕ) (s : List ℕ) (os : List (ℕ × Outcome)) (e : End) → EndsByIn ty j [] s os e → read_within (suc n) s ≡ (os, e)
    read_none n s os end.Reset h = absurd (not_last h.0.earlier h.0.last h.0.in_order)
    read_none n s os end.Head h = read_fault n s h.fault h.has_header h.faulty ∙ ap (λ (xs : List (ℕ × Outcome)). (xs, end.Head)) (sym h.told)
    read_none n s os (end.Wait k) h = read_waiting n s h.waits ∙ ap (λ (m : ℕ). ([], end.Wait m)) (sym h.count) ∙ ap (λ (xs : List (ℕ × Outcome)). (xs, end.Wait k)) (sym h.told)

    -- the outcomes of the messages after the first
    record TailEnds (m : MessageIn K) (ms : List (MessageIn K)) (rest : List ℕ) (os : List (ℕ × Outcome)) (e : End) : Type 0 where
      on : GoesOn j m
      tail : List (ℕ × Outcome)
      told : outcome_of_in ty j m ∷ tail ≡ os
      ends : EndsByIn ty j ms rest tail e

    tail_reset : (m : MessageIn K) (ms : List (MessageIn K)) (rest : List ℕ) (os : List (ℕ × Outcome)) (earlier : List (MessageIn K)) (last : MessageIn K)
        → m ∷ ms ≡ earlier ++ last ∷ [] → AllByRecursion (GoesOn j) earlier → j.resets (j.of_message last) ≡ true → os ≡ map (outcome_of_in ty j) (m ∷ ms)
        → ((j.resets (j.of_message m) ≡ true) × (os ≡ outcome_of_in ty j m ∷ [])) ⊎ TailEnds m ms rest os end.Reset
    tail_reset m ms rest os [] last order on is told =
        let same : m ≡ last = cc in
        let none : ms ≡ [] = cc in
        inl (ap (λ (k : MessageIn K). j.resets (j.of_message k)) same ∙ is, told ∙ ap (λ (ks : List (MessageIn K)). outcome_of_in ty j m ∷ map (outcome_of_in ty j) ks) none)
    tail_reset m ms rest os (x ∷ earlier) last order on is told =
        let same : x ≡ m = cc in
        let later : ms ≡ earlier ++ last ∷ [] = cc in
        inr (record {
          on = subst (GoesOn j) same on.0;
          tail = map (outcome_of_in ty j) ms;
          told = sym told;
          ends = (record { earlier = earlier; last = last; in_order = later; go_on = on.1; reset = is }, refl);
        })

    tail_ends : (m : MessageIn K) (ms : List (MessageIn K)) (rest : List ℕ) (os : List (ℕ × Outcome)) (e : End) → EndsByIn ty j (m ∷ ms) rest os e
        → ((j.resets (j.of_message m) ≡ true) × (os ≡ outcome_of_in ty j m ∷ []) × (e ≡ end.Reset)) ⊎ TailEnds m ms rest os e
    tail_ends m ms rest os end.Reset h =
        elim (tail_reset m ms rest os h.0.earlier h.0.last h.0.in_order h.0.go_on h.0.reset h.1) [
          | inl is ↦ inl (is.0, is.1, refl)
          | inr tail ↦ inr tail
        ]
    tail_ends m ms rest os end.Head h =
        inr (record { on = h.go_on.0; tail = map (outcome_of_in ty j) ms ++ (0, j.of_fault h.fault) ∷ []; told = sym h.told; ends = record { go_on = h.go_on.1; has_header = h.has_header; fault = h.fault; faulty = h.faulty; told = refl } })
    tail_ends m ms rest os (end.Wait k) h =
        inr (record { on = h.go_on.0; tail = map (outcome_of_in ty j) ms; told = sym h.told; ends = record { go_on = h.go_on.1; waits = h.waits; count = h.count; told = refl } })

    read_is : (n : ℕ) (ms : List (MessageIn K)) (s row rest : List ℕ) (os : List (ℕ × Outcome)) (e : End) → length s < n → s ≡ row ++ rest → Row (IsFrameIn ty) ms row → EndsByIn ty j ms rest os e → read_within n s ≡ (os, e)
    read_is zero ms s row rest os e lt whole frames ends = absurd (omega arith)
    read_is (suc n) [] s row rest os e lt whole frames ends =
        ap (read_within (suc n)) (whole ∙ ap (λ (x : List ℕ). x ++ rest) frames) ∙ read_none n rest os e ends
    read_is (suc n) (m ∷ ms) s row rest os e lt whole frames ends =
        let regrouped : s ≡ frames.0 ++ (frames.1 ++ rest) = whole ∙ ap (λ (x : List ℕ). x ++ rest) frames.2 ∙ append_assoc frames.0 frames.1 rest in
        let len = length-IsFrame ty okay m frames.0 frames.3 in
        let shorter : length (frames.1 ++ rest) < n = omega (arith, ap length regrouped, length-append frames.0 (frames.1 ++ rest)) in
        elim (tail_ends m ms rest os e ends) [
          | inl is ↦ ap (read_within (suc n)) regrouped ∙ read_reset n m frames.0 (frames.1 ++ rest) frames.3 is.0 ∙ ap (λ (xs : List (ℕ × Outcome)). (xs, end.Reset)) (sym is.1) ∙ ap (λ (d : End). (os, d)) (sym is.2)
          | inr t ↦
              ap (read_within (suc n)) regrouped ∙ read_more n m frames.0 (frames.1 ++ rest) frames.3 t.on
              ∙ ap (with_outcome (outcome_of_in ty j m)) (read_is n ms (frames.1 ++ rest) frames.1 rest t.tail e shorter refl frames.4 t.ends)
              ∙ ap (λ (xs : List (ℕ × Outcome)). (xs, e)) t.told
        ]

    -- a stream has one reading at the most
    pub one_reading : (s : List ℕ) (os ps : List (ℕ × Outcome)) (e d : End) → GivesIn ty j s os e → GivesIn ty j s ps d → (os ≡ ps) × (e ≡ d)
    one_reading s os ps e d g h =
        let first = read_is (suc (length s)) g.messages s g.row g.rest os e (omega arith) g.whole g.frames g.ends in
        let second = read_is (suc (length s)) h.messages s h.row h.rest ps d (omega arith) h.whole h.frames h.ends in
        let same : (os, e) ≡ (ps, d) = sym first ∙ second in
        (ap (λ (r : Reading). r.0) same, ap (λ (r : Reading). r.1) same)

    -- ---- each stream of octets has a reading

    abbrev GivesRead : List ℕ → Reading → Type 0
    GivesRead s r = GivesIn ty j s r.0 r.1

    gives_message : (n : ℕ) (s : List ℕ) (h : HeaderIn K) → IsFrameIn ty (message_at h s) (take h.len s) → length (take h.len s) ≡ h.len
        → GivesRead (drop h.len s) (read_within n (drop h.len s)) → (b : Bool) → j.resets (j.of_message (message_at h s)) ≡ b
        → GivesRead s (cond b ((h.len, j.of_message (message_at h s)) ∷ [], end.Reset) (with_outcome (h.len, j.of_message (message_at h s)) (read_within n (drop h.len s))))
    gives_message n s h f len later true is =
        let m : MessageIn K = message_at h s in
        let count : length (octets_of_in ty m) ≡ h.len = ap length (sym f.octets) ∙ len in
        subst (λ (k : ℕ). GivesIn ty j s ((k, j.of_message m) ∷ []) end.Reset) count
        (subst (λ (x : List ℕ). GivesIn ty j x (outcome_of_in ty j m ∷ []) end.Reset) (take-append-drop h.len s) (gives_reset m (take h.len s) (drop h.len s) f is))
    gives_message n s h f len later false is =
        let m : MessageIn K = message_at h s in
        let r : Reading = read_within n (drop h.len s) in
        let count : length (octets_of_in ty m) ≡ h.len = ap length (sym f.octets) ∙ len in
        subst (λ (k : ℕ). GivesIn ty j s ((k, j.of_message m) ∷ r.0) r.1) count
        (subst (λ (x : List ℕ). GivesIn ty j x (outcome_of_in ty j m ∷ r.0) r.1) (take-append-drop h.len s) (gives_more m (take h.len s) (drop h.len s) r.0 r.1 f is later))

    -- the message that the stream begins with, whole
    front_frame : (s : List ℕ) (h : HeaderIn K) → AreOctets s → 19 ≤ length s → head_of_in ty s ≡ Ok h → wanted_in ty s ≤ length s → IsFrameIn ty (message_at h s) (take h.len s) × (length (take h.len s) ≡ h.len) × (19 ≤ h.len)
    front_frame s h octets long e enough =
        let is : wanted_in ty s ≡ h.len = wanted_by_head ty okay s long ∙ ap wanted_by e in
        let bounds = wanted-bounds ty okay s in
        let len : length (take h.len s) ≡ h.len = omega (arith, length-take h.len s) in
        let says : head_of_in ty (take h.len s) ≡ Ok h = sym (head_of-append ty okay (take h.len s) (drop h.len s) (omega arith)) ∙ ap (head_of_in ty) (take-append-drop h.len s) ∙ e in
        (IsFrame-head_of ty okay (take h.len s) h (AreOctets-take h.len s octets) says len, len, omega arith)

    gives_head : (n : ℕ) (s : List ℕ) → AreOctets s → 19 ≤ length s → wanted_in ty s ≤ length s → length s < suc n
        → ((t : List ℕ) → length t < n → AreOctets t → GivesRead t (read_within n t)) → (r : Result (HeaderIn K) HeadFault) → head_of_in ty s ≡ r → GivesRead s (read_head_of (read_within n) s r)
    gives_head n s octets long enough lt later (Err f) e = gives_fault s f long e
    gives_head n s octets long enough lt later (Ok h) e =
        let f = front_frame s h octets long e enough in
        let shorter : length (drop h.len s) < n = omega (arith, f.2, length-drop h.len s) in
        gives_message n s h f.0 f.1 (later (drop h.len s) shorter (AreOctets-drop h.len s octets)) (j.resets (j.of_message (message_at h s))) refl

    gives_at : (n : ℕ) (s : List ℕ) → AreOctets s → length s < suc n → ((t : List ℕ) → length t < n → AreOctets t → GivesRead t (read_within n t)) → (b : Bool) → ltb (length s) (wanted_in ty s) ≡ b
        → GivesRead s (cond b ([], end.Wait (length s)) (read_head_of (read_within n) s (head_of_in ty s)))
    gives_at n s octets lt later true w = gives_wait s (ltb-true _ _ w)
    gives_at n s octets lt later false w =
        let enough = ltb-false _ _ w in
        let bounds = wanted-bounds ty okay s in
        gives_head n s octets (omega arith) enough lt later (head_of_in ty s) refl

    gives_within : (n : ℕ) (s : List ℕ) → length s < n → AreOctets s → GivesRead s (read_within n s)
    gives_within zero s lt octets = absurd (omega arith)
    gives_within (suc n) s lt octets = gives_at n s octets lt (gives_within n) (ltb (length s) (wanted_in ty s)) refl

    -- a stream of octets has a reading
    pub some_reading : (s : List ℕ) → AreOctets s → (os : List (ℕ × Outcome)) × (e : End) × GivesIn ty j s os e
    some_reading s octets =
        let r : Reading = read_within (suc (length s)) s in
        (r.0, r.1, gives_within (suc (length s)) s (omega arith) octets)

    pub HasOneReading-octets : (s : List ℕ) → AreOctets s → HasOneReadingIn ty j s
    HasOneReading-octets s octets =
        let some = some_reading s octets in
        record { outcomes = some.0; end_of = some.1; gives = some.2; only = λ os e g. one_reading s os some.0 e some.1 g some.2 }
