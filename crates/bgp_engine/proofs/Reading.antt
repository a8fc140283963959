-- The invariant of a run from one block to the next, and what follows from it where it stops.
use Rattle.bgp_engine.proofs.Prelude.{◌≡◌, ℕ, ◌+◌, ◌-◌, ◌*◌, ◌≤◌, Bool, true, false, List, [], ◌∷◌, ◌++◌, length, take, Option, Some, None, refl, sym, ap}
use Rattle.bgp_engine.proofs.Prelude.{subst, ◌∙◌, append_assoc, arith, inl, inr, option_to_list, Result, Ok, Err, Consumes, Appends, IsAtEnd, Keeps}
use Rattle.bgp_engine.proofs.Prelude.{Consumes-nil, Consumes-trans, Consumes-kept, Appends-nil, Appends-trans, append-nil, AreOctets, AreOctets-nil}
use Rattle.bgp_engine.proofs.Prelude.{AreOctets-append, AreOctets-back, End, is_hex_digit, ToolFault, HexText, Tally, pending, place, IsFront, AppendsFront}
use Rattle.bgp_engine.proofs.Prelude.{FailsWithin, Report, behind, IsWaiting, GoesOn, Rests, IsTotal, OfOctets, IsFaultOf, Io, Reports, stream_of, bad_of}
use Rattle.bgp_engine.proofs.Prelude.{IsAllRead, Finishes, IsBadAt, Fails, Answers, MeetsBlock, MeetsBad, MeetsOver, WritesAll, WritesNone, Finished}
use Rattle.bgp_engine.proofs.HexPairs.{spelled-nil, spelled-digit, spelled-octets, bad_from-nil, bad_from-digit}

module _ (reports0 : Reports) (hex : Bool) (r0 w0 : Option (List ℕ)) where
  -- the text and the octets so far, and what was written for them
  pub record Reading (reports : Reports) (going : Type 0) (r w : Option (List ℕ)) (reader : HexText) (turns : ℕ) : Type 0 where
    pub text : List ℕ
    pub are : AreOctets text
    pub read : Consumes r0 r text
    pub octets : List ℕ
    pub stream : (later : List ℕ) → stream_of hex (text ++ later) ≡ octets ++ stream_of hex (pending reader ++ later)
    pub bad : (later : List ℕ) → bad_of hex 0 (text ++ later) ≡ bad_of hex (place reader) (pending reader ++ later)
    pub raw : hex ≡ false → reader.pending ≡ None
    pub seen : reader.seen ≤ 4096 * turns
    pub lines : List ℕ
    pub goes_on : GoesOn reports0 octets lines reports
    pub wrote : Appends w0 w lines
    pub goes : going
    pub rests : Rests reports

  -- a text was read, this was written and this collected, and a report of what follows it gives a report of the whole
  pub record Reached (reports : Reports) (r w : Option (List ℕ)) (text written told : List ℕ) : Type 0 where
    pub read : Consumes r0 r text
    pub wrote : Appends w0 w written
    pub are : AreOctets text
    pub lifts : (q : Report) → reports [] q → reports0 (stream_of hex text) (behind (written ++ told) q)

abbrev io : Option (List ℕ) → Option (List ℕ) → Option (List ℕ) → Option (List ℕ) → Io
io r0 w0 r w = record { reader_old = r0; reader_new = r; writer_old = w0; writer_new = w }

-- the pending digit has no octets
rest_is_nothing : (h : Bool) (o : Option ℕ) → (h ≡ false → o ≡ None) → stream_of h (option_to_list o ++ []) ≡ []
rest_is_nothing true None raw = spelled-nil
rest_is_nothing true (Some c) raw = spelled-digit c
rest_is_nothing false None raw = refl
rest_is_nothing false (Some c) raw = let bad = raw refl in absurd cc

pub stream_octets : (hex : Bool) (text : List ℕ) → AreOctets text → AreOctets (stream_of hex text)
stream_octets true text are = spelled-octets text
stream_octets false text are = are

-- lines that were collected are written after those before them
pub goes_further : (reports0 reports reports1 : Reports) (octets octets1 lines lines1 : List ℕ) → GoesOn reports0 octets lines reports → GoesOn reports octets1 lines1 reports1 → GoesOn reports0 (octets ++ octets1) (lines ++ lines1) reports1
goes_further reports0 reports reports1 octets octets1 lines lines1 on on1 later r g =
    subst (λ (s : List ℕ). reports0 s (behind (lines ++ lines1) r)) (sym (append_assoc octets octets1 later))
    (subst (λ (l : List ℕ). reports0 (octets ++ (octets1 ++ later)) (record { lines = l; last = r.last; end_of = r.end_of; answer = r.answer })) (sym (append_assoc lines lines1 r.lines))
    (on (octets1 ++ later) (behind lines1 r) (on1 later r g)))

module _ {reports0 : Reports} {hex : Bool} {r0 w0 : Option (List ℕ)} where
  -- ---- where it stops

  module _ {reports : Reports} {r w : Option (List ℕ)} (w1 : Option (List ℕ)) {text written told : List ℕ} (s : Reached reports0 hex r0 w0 reports r w text written told) where
    more_front : (front : List ℕ) (rest : List ℕ) → IsFront written ((written ++ front) ++ rest)
    more_front front rest = (front ++ rest, append_assoc written front rest)

    pub fails_read : (q : Report) → reports [] q → Fails (OfOctets reports0) hex (io r0 w0 r w) ToolFault.Read
    fails_read q g = record { text = text; read = s.read; report = behind (written ++ told) q; reported = (stream_octets hex text s.are, s.lifts q g); written = written; wrote = s.wrote; is_fault = more_front told q.lines }

    -- all collected text was written
    pub fails_bad : (n : ℕ) (q : Report) → reports [] q → q.lines ≡ [] → Appends w w1 told → IsBadAt hex text r q.end_of n → Fails (OfOctets reports0) hex (io r0 w0 r w1) (ToolFault.BadHex n)
    fails_bad n q g none more bad = record {
      text = text;
      read = s.read;
      report = behind (written ++ told) q;
      reported = (stream_octets hex text s.are, s.lifts q g);
      written = written ++ told;
      wrote = Appends-trans w0 w w1 written told s.wrote more;
      is_fault = (sym (ap (λ (x : List ℕ). (written ++ told) ++ x) none ∙ append-nil (written ++ told)), bad);
    }

    all_of : (q : Report) → written ++ (told ++ (q.lines ++ q.last)) ≡ ((written ++ told) ++ q.lines) ++ q.last
    all_of q = sym (append_assoc written told (q.lines ++ q.last)) ∙ sym (append_assoc (written ++ told) q.lines q.last)

    -- a prefix of the collected and the last text was written
    pub fails_write : (q : Report) → reports [] q → AppendsFront w w1 (told ++ (q.lines ++ q.last)) → Fails (OfOctets reports0) hex (io r0 w0 r w1) ToolFault.Write
    fails_write q g a = record {
      text = text;
      read = s.read;
      report = behind (written ++ told) q;
      reported = (stream_octets hex text s.are, s.lifts q g);
      written = written ++ a.front;
      wrote = Appends-trans w0 w w1 written a.front s.wrote a.appends;
      is_fault = (a.is_front.0, sym (all_of q) ∙ ap (λ (x : List ℕ). written ++ x) a.is_front.1 ∙ sym (append_assoc written a.front a.is_front.0));
    }

    -- the collected text wasn't written
    pub fails_put : (q : Report) (f : ToolFault) → reports [] q → FailsWithin w w1 told f → Fails (OfOctets reports0) hex (io r0 w0 r w1) f
    fails_put q f g h =
        subst (λ (x : ToolFault). Fails (OfOctets reports0) hex (io r0 w0 r w1) x) (sym h.is_write)
        (fails_write q g (record {
          front = h.wrote.front;
          is_front = (h.wrote.is_front.0 ++ (q.lines ++ q.last), ap (λ (x : List ℕ). x ++ (q.lines ++ q.last)) h.wrote.is_front.1 ∙ append_assoc h.wrote.front h.wrote.is_front.0 (q.lines ++ q.last));
          appends = h.wrote.appends;
        }))

    -- ---- the answers

    pub finishes : (tally : Tally) → ((q : Report) → reports [] q → IsAllRead hex text r q.end_of) → WritesAll reports told w w1 (Ok tally) → Finishes (OfOctets reports0) hex (io r0 w0 r w1) tally
    finishes tally all_read a = record {
      text = text;
      read = s.read;
      report = behind (written ++ told) a.report;
      reported = (stream_octets hex text s.are, s.lifts a.report a.reported);
      answers = a.answers;
      wrote = subst (Appends w0 w1) (all_of a.report) (Appends-trans w0 w w1 written (told ++ (a.report.lines ++ a.report.last)) s.wrote a.wrote);
      all_read = all_read a.report a.reported;
    }

    -- the stream ended, and all of its report was written
    pub fails_behind : (f : ToolFault)
        → ((report : Report) (all : List ℕ) → all ≡ report.lines ++ report.last → report.answer ≡ Err f → IsAllRead hex text r report.end_of → IsFaultOf hex text r report all f)
        → ((q : Report) → reports [] q → IsAllRead hex text r q.end_of) → WritesAll reports told w w1 (Err f) → Fails (OfOctets reports0) hex (io r0 w0 r w1) f
    fails_behind f is all_read a = record {
      text = text;
      read = s.read;
      report = behind (written ++ told) a.report;
      reported = (stream_octets hex text s.are, s.lifts a.report a.reported);
      written = written ++ (told ++ (a.report.lines ++ a.report.last));
      wrote = Appends-trans w0 w w1 written (told ++ (a.report.lines ++ a.report.last)) s.wrote a.wrote;
      is_fault = is (behind (written ++ told) a.report) (written ++ (told ++ (a.report.lines ++ a.report.last))) (all_of a.report) a.answers (all_read a.report a.reported);
    }

    pub fails_memory : WritesNone reports w w1 → Fails (OfOctets reports0) hex (io r0 w0 r w1) ToolFault.Memory
    fails_memory a = record {
      text = text;
      read = s.read;
      report = behind (written ++ told) a.report;
      reported = (stream_octets hex text s.are, s.lifts a.report a.reported);
      written = written;
      wrote = subst (Appends w0 w1) (append-nil written) (Appends-trans w0 w w1 written [] s.wrote a.wrote);
      is_fault = more_front told a.report.lines;
    }

    pub finished : (answer : Result Tally ToolFault) → ((q : Report) → reports [] q → IsAllRead hex text r q.end_of) → Finished reports told w w1 answer → Answers (OfOctets reports0) hex (io r0 w0 r w1) answer
    finished (Ok tally) all_read a = finishes tally all_read a
    finished (Err ToolFault.Memory) all_read a = fails_memory a
    finished (Err ToolFault.Write) all_read a = fails_write a.report a.reported a.wrote
    finished (Err ToolFault.Read) all_read a = absurd a
    finished (Err (ToolFault.BadHex n)) all_read a = absurd a
    finished (Err (ToolFault.Script n)) all_read a = absurd a
    finished (Err ToolFault.Net) all_read a = absurd a
    finished (Err (ToolFault.Narrow n)) all_read a = fails_behind (ToolFault.Narrow n) (λ report all whole answer read. (whole, answer, read)) all_read a
    finished (Err (ToolFault.Clean n why)) all_read a = fails_behind (ToolFault.Clean n why) (λ report all whole answer read. (a.0, whole, answer, read)) all_read a.1
    finished (Err (ToolFault.NoContext why)) all_read a = fails_behind (ToolFault.NoContext why) (λ report all whole answer read. (whole, answer, read)) all_read a

  -- nothing has been read yet
  pub Reading-none : (going : Type 0) (reader : HexText) → going → Rests reports0 → reader.pending ≡ None → reader.seen ≡ 0 → Reading reports0 hex r0 w0 reports0 going r0 w0 reader 0
  Reading-none going reader goes rests none zeros =
      let nothing : pending reader ≡ [] = ap option_to_list none in
      record {
        text = [];
        are = AreOctets-nil;
        read = Consumes-nil r0;
        octets = [];
        stream = λ later. ap (λ (p : List ℕ). stream_of hex (p ++ later)) (sym nothing);
        bad = λ later. ap (λ (n : ℕ). bad_of hex n later) (let same : 0 ≡ reader.seen - 0 = omega arith in same) ∙ ap (λ (p : List ℕ). bad_of hex (reader.seen - length p) (p ++ later)) (sym nothing);
        raw = λ _. none;
        seen = omega arith;
        lines = [];
        goes_on = λ later r g. g;
        wrote = Appends-nil w0;
        goes = goes;
        rests = rests;
      }

  module _ {reports : Reports} {going : Type 0} {r w : Option (List ℕ)} {reader : HexText} {turns : ℕ} (s : Reading reports0 hex r0 w0 reports going r w reader turns) where
    -- ---- a block was read, processed and written
    module _ (r1 : Option (List ℕ)) (block : List ℕ) (octets : AreOctets block) (more : Consumes r r1 block) where
      more_are : AreOctets (s.text ++ block)
      more_are = AreOctets-append s.text block s.are octets

      more_read : Consumes r0 r1 (s.text ++ block)
      more_read = Consumes-trans r0 r r1 s.text block s.read more

      streams : (later : List ℕ) → stream_of hex ((s.text ++ block) ++ later) ≡ s.octets ++ stream_of hex (pending reader ++ (block ++ later))
      streams later = ap (stream_of hex) (append_assoc s.text block later) ∙ s.stream (block ++ later)

      whole_text : (s.text ++ block) ++ [] ≡ s.text ++ block
      whole_text = append-nil (s.text ++ block)

      all_octets : stream_of hex (s.text ++ block) ≡ s.octets ++ stream_of hex (pending reader ++ (block ++ []))
      all_octets = ap (stream_of hex) (sym whole_text) ∙ streams []

      -- the block was read, and not processed
      pub fails_block : IsTotal reports → Fails (OfOctets reports0) hex (record { reader_old = r0; reader_new = r1; writer_old = w0; writer_new = w }) ToolFault.Memory
      fails_block total =
          let rest : List ℕ = stream_of hex (pending reader ++ (block ++ [])) in
          let all : AreOctets (stream_of hex (s.text ++ block)) = stream_octets hex (s.text ++ block) more_are in
          let found = total rest (AreOctets-back s.octets rest (subst AreOctets all_octets all)) in
          record {
            text = s.text ++ block;
            read = more_read;
            report = behind s.lines found.0;
            reported = (all, subst (λ (x : List ℕ). reports0 x (behind s.lines found.0)) (sym all_octets) (s.goes_on rest found.0 found.1));
            written = s.lines;
            wrote = s.wrote;
            is_fault = (found.0.lines, refl);
          }

      -- a report of what follows the block gives a report of the whole
      lifts : {reports1 : Reports} (told told1 octets lines later : List ℕ) → told ≡ [] → GoesOn reports octets lines reports1 → told1 ≡ told ++ lines → stream_of hex (s.text ++ block) ≡ (s.octets ++ octets) ++ later → (q : Report) → reports1 later q
          → reports0 (stream_of hex (s.text ++ block)) (behind (s.lines ++ told1) q)
      lifts {reports1} told told1 octets lines later none on is same q g =
          subst (λ (x : List ℕ). reports0 x (behind (s.lines ++ told1) q)) (sym same)
          (subst (λ (t : List ℕ). reports0 ((s.octets ++ octets) ++ later) (behind (s.lines ++ t) q)) (sym (is ∙ ap (λ (t : List ℕ). t ++ lines) none))
          (goes_further reports0 reports reports1 s.octets octets s.lines lines s.goes_on on later q g))

      module _ {reports1 : Reports} {going1 : Type 0} {reader1 : HexText} {told told1 : List ℕ} (none : told ≡ []) where
        pub Reading-block : (w1 : Option (List ℕ)) → length block ≤ 4096 → (m : MeetsBlock hex reader reader1 reports reports1 going1 told told1 block) → Appends w w1 told1 → Reading reports0 hex r0 w0 reports1 going1 r1 w1 reader1 (turns + 1)
        Reading-block w1 short m wrote = record {
          text = s.text ++ block;
          are = more_are;
          read = more_read;
          octets = s.octets ++ m.octets;
          stream = λ later.
              streams later ∙ ap (λ (x : List ℕ). s.octets ++ x) (m.spells.stream later) ∙ sym (append_assoc s.octets m.octets (stream_of hex (pending reader1 ++ later)));
          bad = λ later. ap (bad_of hex 0) (append_assoc s.text block later) ∙ s.bad (block ++ later) ∙ m.spells.bad later;
          raw = m.spells.raw;
          seen = omega (arith, m.spells.seen, s.seen);
          lines = s.lines ++ m.takes.lines;
          goes_on = goes_further reports0 reports reports1 s.octets m.octets s.lines m.takes.lines s.goes_on m.takes.goes_on;
          wrote = Appends-trans w0 w w1 s.lines m.takes.lines s.wrote (subst (Appends w w1) (m.takes.told ∙ ap (λ (t : List ℕ). t ++ m.takes.lines) none) wrote);
          goes = m.takes.stands.0;
          rests = m.takes.stands.1;
        }

        block_octets : (m : MeetsBlock hex reader reader1 reports reports1 going1 told told1 block) → stream_of hex (s.text ++ block) ≡ (s.octets ++ m.octets) ++ []
        block_octets m =
            all_octets ∙ ap (λ (x : List ℕ). s.octets ++ x) (m.spells.stream [] ∙ ap (λ (x : List ℕ). m.octets ++ x) (rest_is_nothing hex reader1.pending m.spells.raw)) ∙ sym (append_assoc s.octets m.octets [])

        bad_octets : (n : ℕ) (m : MeetsBad hex reader reader1 reports reports1 going1 told told1 block n) → stream_of hex (s.text ++ block) ≡ (s.octets ++ m.octets) ++ []
        bad_octets n m = all_octets ∙ ap (λ (x : List ℕ). s.octets ++ x) (m.spells.stream []) ∙ sym (append-nil (s.octets ++ m.octets))

        pub Reached-block : MeetsBlock hex reader reader1 reports reports1 going1 told told1 block → Reached reports0 hex r0 w0 reports1 r1 w (s.text ++ block) s.lines told1
        Reached-block m = record { read = more_read; wrote = s.wrote; are = more_are; lifts = lifts told told1 m.octets m.takes.lines [] none m.takes.goes_on m.takes.told (block_octets m) }

        pub Reached-bad : (n : ℕ) → MeetsBad hex reader reader1 reports reports1 going1 told told1 block n → Reached reports0 hex r0 w0 reports1 r1 w (s.text ++ block) s.lines told1
        Reached-bad n m = record { read = more_read; wrote = s.wrote; are = more_are; lifts = lifts told told1 m.octets m.takes.lines [] none m.takes.goes_on m.takes.told (bad_octets n m) }

        pub Reached-over : MeetsOver hex reader reader1 reports reports1 going1 told told1 block → Reached reports0 hex r0 w0 reports1 r1 w (s.text ++ block) s.lines told1
        Reached-over m =
            let front = m.spells [] in
            record {
              read = more_read;
              wrote = s.wrote;
              are = more_are;
              lifts = λ q g. lifts told told1 m.octets m.takes.lines front.0 none m.takes.goes_on m.takes.told (all_octets ∙ ap (λ (x : List ℕ). s.octets ++ x) front.1 ∙ sym (append_assoc s.octets m.octets front.0)) q (m.takes.stands.always [] front.0 q g);
            }

        pub bad_block : (n : ℕ) (e : End) → IsWaiting e → MeetsBad hex reader reader1 reports reports1 going1 told told1 block n → IsBadAt hex (s.text ++ block) r1 e n
        bad_block n e waiting m =
            let at : (later : List ℕ) → bad_of hex 0 ((s.text ++ block) ++ later) ≡ Some n = λ later. ap (bad_of hex 0) (append_assoc s.text block later) ∙ s.bad (block ++ later) ∙ m.spells.bad later in
            record { place = ap (bad_of hex 0) (sym whole_text) ∙ at []; is_certain = inl at; not_over = waiting }

    -- ---- there was no block

    module _ (r1 : Option (List ℕ)) (told : List ℕ) (none : told ≡ []) (more : Consumes r0 r1 s.text) where
      all_spelled : stream_of hex s.text ≡ s.octets ++ []
      all_spelled = ap (stream_of hex) (sym (append-nil s.text)) ∙ s.stream [] ∙ ap (λ (x : List ℕ). s.octets ++ x) (rest_is_nothing hex reader.pending s.raw)

      pub Reached-none : Reached reports0 hex r0 w0 reports r1 w s.text s.lines told
      Reached-none = record {
        read = more;
        wrote = s.wrote;
        are = s.are;
        lifts = λ q g.
            subst (λ (x : List ℕ). reports0 x (behind (s.lines ++ told) q)) (sym all_spelled)
            (subst (λ (l : List ℕ). reports0 (s.octets ++ []) (behind l q)) (sym (append-nil s.lines) ∙ ap (λ (t : List ℕ). s.lines ++ t) (sym none)) (s.goes_on [] q g));
      }

      -- the reader ended with the first digit of a pair
      pub bad_digit : (n c : ℕ) (e : End) → IsWaiting e → IsAtEnd r1 → reader.pending ≡ Some c → is_hex_digit c ≡ true → n ≡ reader.seen - 1 → IsBadAt hex s.text r1 e n
      bad_digit n c e waiting ended is digit at = record {
        place =
            ap (bad_of hex 0) (sym (append-nil s.text)) ∙ s.bad [] ∙ ap (λ (p : List ℕ). bad_of hex (reader.seen - length p) (p ++ [])) (ap option_to_list is)
            ∙ digit_bad hex (reader.seen - 1) c s.raw is digit ∙ ap (λ (m : ℕ). Some m) (sym at);
        is_certain = inr ended;
        not_over = waiting;
      }
        where
          digit_bad : (h : Bool) (m d : ℕ) → (h ≡ false → reader.pending ≡ None) → reader.pending ≡ Some d → is_hex_digit d ≡ true → bad_of h m (d ∷ []) ≡ Some m
          digit_bad true m d raw is digit = bad_from-digit m d digit
          digit_bad false m d raw is digit = let none = raw refl in absurd cc

      -- the reader ended between pairs
      pub none_bad : reader.pending ≡ None → bad_of hex 0 s.text ≡ None
      none_bad none =
          ap (bad_of hex 0) (sym (append-nil s.text)) ∙ s.bad [] ∙ ap (λ (p : List ℕ). bad_of hex (reader.seen - length p) (p ++ [])) (ap option_to_list none) ∙ nothing_bad hex (reader.seen - 0)
        where
          nothing_bad : (h : Bool) (m : ℕ) → bad_of h m [] ≡ None
          nothing_bad true m = bad_from-nil m
          nothing_bad false m = refl

-- what one relation reports another does
pub answers_as : (a b : Reports) (hex : Bool) (io : Io) (answer : Result Tally ToolFault) → ((s : List ℕ) (r : Report) → a s r → b s r) → Answers a hex io answer → Answers b hex io answer
answers_as a b hex io (Ok tally) map f =
    record { text = f.text; read = f.read; report = f.report; reported = map _ f.report f.reported; answers = f.answers; wrote = f.wrote; all_read = f.all_read }
answers_as a b hex io (Err fault) map f =
    record { text = f.text; read = f.read; report = f.report; reported = map _ f.report f.reported; written = f.written; wrote = f.wrote; is_fault = f.is_fault }

-- ---- the result of a read

pub read_nothing : (r0 r r1 : Option (List ℕ)) (n : ℕ) (buf t : List ℕ) → n ≡ 0 → Consumes r r1 (take n buf) → Consumes r0 r t → Consumes r0 r1 t
read_nothing r0 r r1 n buf t none more read =
    subst (Consumes r0 r1) (append-nil t) (Consumes-trans r0 r r1 t [] read (subst (λ (k : ℕ). Consumes r r1 (take k buf)) none more))

pub read_failed : (r0 r r1 : Option (List ℕ)) (t : List ℕ) → Keeps r r1 → Consumes r0 r t → Consumes r0 r1 t
read_failed r0 r r1 t kept read = Consumes-kept r0 r r1 t read kept
