-- Where the reader doesn't offer ROUTE-REFRESH, a stream is reported as by the types of RFC 4271.
use mathlib.Core.Logic.{inl}
use Rattle.bgp_engine.proofs.Prelude.{◌≡◌, ℕ, ◌+◌, ◌<◌, Bool, true, false, cond, not, List, [], ◌∷◌, ◌++◌, length, drop, map, Option, Some, None, Result, Ok, Err, refl, sym, ap, subst, ◌∙◌, arith, eqb, eqb-true, ◌||◌}
use Rattle.bgp_wire.proofs.Std.{ltb, ◌⊎◌, AllByRecursion, option_map}
use Rattle.bgp_wire.specs.Prelude.{Row}
use Rattle.bgp_numbers.specs.declared.message.TheConstants.{ROUTE_REFRESH}
use Rattle.bgp_frame.specs.declared.end.End.{End}
use Rattle.bgp_frame.specs.declared.fault.HeadFault.{HeadFault}
use Rattle.bgp_frame.specs.declared.fault.HeadFault.TheVariants as fault
use Rattle.bgp_frame.specs.declared.kind.Kind.{Kind}
use Rattle.bgp_frame.specs.declared.kind.Kind.TheVariants.{Open, Update, Notification, Keepalive}
use Rattle.bgp_frame.specs.declared.kind.WideKind.{WideKind}
use Rattle.bgp_frame.specs.declared.kind.WideKind.TheVariants as wide
use Rattle.bgp_frame.specs.Prelude.{EndsByIn, GivesIn, GoesOn, HeaderIn, IsFrameIn, IsLengthIn, Message, MessageIn, Types, WaitsIn, has_marker, head_for_in, is_length_in, kind_of, length_field, outcome_of_in, plain, type_field, wanted_by, wide_kind, wide_types}
use Rattle.bgp_frame.specs.Prelude.{head_of_in, wanted_in}
use Rattle.bgp_terms.specs.declared.refreshes.Refreshes.TheVariants as refreshes
use Rattle.bgp_engine.specs.declared.tally.Tally.{Tally}
use Rattle.bgp_engine.specs.Report.{Report}
use Rattle.bgp_engine.specs.Refreshed.{Refreshed, grammar_of}
use Rattle.bgp_engine.specs.Rules.{IsReport, Rules, RulesIn, counted, lines_from, octets_at, passed, report_of, rest_of, tally_from, total}
use Rattle.bgp_engine.specs.Wide.{wide_rules}

abbrev none : Types WideKind
none = wide_types (grammar_of refreshes.None)

abbrev base : Message → MessageIn WideKind
base m = record { kind = wide.Base m.kind; body = m.body }

-- ---- a frame is of a kind of RFC 4271

allowed : (kind : Kind) (n : ℕ) → IsLengthIn none (wide.Base kind) n → IsLengthIn plain kind n
allowed Open n h = record { least = h.least; most = h.most }
allowed Update n h = record { least = h.least; most = h.most }
allowed Notification n h = record { least = h.least; most = h.most }
allowed Keepalive n h = record { least = h.least; most = h.most }

record IsBase (m : MessageIn WideKind) (b : List ℕ) : Type 0 where
  message : Message
  is : m ≡ base message
  frame : IsFrameIn plain message b

is_base : (kind : WideKind) (body b : List ℕ) → IsFrameIn none (record { kind = kind; body = body }) b → IsBase (record { kind = kind; body = body }) b
is_base (wide.Base kind) body b f = record { message = record { kind = kind; body = body }; is = refl; frame = record { octets = f.octets; allowed = allowed kind (length b) f.allowed } }
is_base wide.Refresh body b f = absurd (omega (arith, f.allowed.least, f.allowed.most))

record AreBases (ms : List (MessageIn WideKind)) (row : List ℕ) : Type 0 where
  messages : List Message
  are : ms ≡ map base messages
  frames : Row (IsFrameIn plain) messages row

are_bases : (ms : List (MessageIn WideKind)) (row : List ℕ) → Row (IsFrameIn none) ms row → AreBases ms row
are_bases [] row is = record { messages = []; are = refl; frames = is }
are_bases (m ∷ ms) row (front, back, whole, f, later) =
    let one = is_base m.kind m.body front f in
    let rest = are_bases ms back later in
    record {
      messages = one.message ∷ rest.messages;
      are = ap (λ (x : MessageIn WideKind). x ∷ ms) one.is ∙ ap (λ (xs : List (MessageIn WideKind)). base one.message ∷ xs) rest.are;
      frames = (front, back, whole, one.frame, rest.frames);
    }

-- ---- a header has the same fault, and what is incomplete is so

same_length : (kind : Kind) (n : ℕ) → is_length_in none (wide.Base kind) n ≡ is_length_in plain kind n
same_length Open n = refl
same_length Update n = refl
same_length Notification n = refl
same_length Keepalive n = refl

-- a header without fault, of a kind of RFC 4271
abbrev based : Result (HeaderIn Kind) HeadFault → Result (HeaderIn WideKind) HeadFault
based (Ok h) = Ok (record { kind = wide.Base h.kind; len = h.len })
based (Err f) = Err f

by_length : (kind : Kind) (len : ℕ) (t : Bool) → is_length_in plain kind len ≡ t
    → cond (is_length_in none (wide.Base kind) len) (let h : Result (HeaderIn WideKind) HeadFault = Ok (record { kind = wide.Base kind; len = len }) in h) (Err (fault.Length len))
    ≡ based (cond (is_length_in plain kind len) (Ok (record { kind = kind; len = len })) (Err (fault.Length len)))
by_length kind len true is = rw (same_length kind len, is) refl
by_length kind len false is = rw (same_length kind len, is) refl

by_kind : (o : Option Kind) (code len : ℕ) → head_for_in none (option_map wide.Base o) code len ≡ based (head_for_in plain o code len)
by_kind None code len = refl
by_kind (Some kind) code len = by_length kind len (is_length_in plain kind len) refl

by_code : (code len : ℕ) (t : Bool) → eqb code ROUTE_REFRESH ≡ t → head_for_in none (wide_kind false code) code len ≡ based (head_for_in plain (kind_of code) code len)
by_code code len true is = subst (λ (n : ℕ). head_for_in none (wide_kind false n) n len ≡ based (head_for_in plain (kind_of n) n len)) (sym (eqb-true code ROUTE_REFRESH is)) refl
by_code code len false is = rw is (by_kind (kind_of code) code len)

by_tests : (marked out : Bool) (code len : ℕ)
    → cond (not marked) (Err fault.Marker) (cond out (Err (fault.Length len)) (head_for_in none (wide_kind false code) code len))
    ≡ based (cond (not marked) (Err fault.Marker) (cond out (Err (fault.Length len)) (head_for_in plain (kind_of code) code len)))
by_tests false out code len = refl
by_tests true true code len = refl
by_tests true false code len = by_code code len (eqb code ROUTE_REFRESH) refl

same_head : (b : List ℕ) → head_of_in none b ≡ based (head_of_in plain b)
unfolding head_of_in
same_head b = by_tests (has_marker b) (ltb (length_field b) 19 || ltb 4096 (length_field b)) (type_field b) (length_field b)

is_fault : (r : Result (HeaderIn Kind) HeadFault) (f : HeadFault) → based r ≡ Err f → r ≡ Err f
is_fault (Ok h) f e = absurd cc
is_fault (Err g) f e = let same : g ≡ f = cc in ap (λ (x : HeadFault). Err x) same

same_wanted : (r : Result (HeaderIn Kind) HeadFault) → wanted_by (based r) ≡ wanted_by r
same_wanted (Ok h) = refl
same_wanted (Err f) = refl

waits_plainly : (b : List ℕ) → WaitsIn none b → WaitsIn plain b
unfolding wanted_in
waits_plainly b waits = by_size (ltb (length b) 19) waits
  where
    by_size : (t : Bool) → length b < cond t 19 (wanted_by (head_of_in none b)) → length b < cond t 19 (wanted_by (head_of_in plain b))
    by_size true w = w
    by_size false w = subst (λ (n : ℕ). length b < n) (ap wanted_by (same_head b) ∙ same_wanted (head_of_in plain b)) w

-- ---- the outcomes

module _ {Outcome : Type 0} (rules : Rules Outcome) where
  abbrev wides : RulesIn WideKind (Outcome ⊎ Refreshed)
  wides = wide_rules refreshes.None rules

  abbrev lift : ℕ × Outcome → ℕ × (Outcome ⊎ Refreshed)
  lift o = (o.0, inl o.1)

  same_outcomes : (ms : List Message) → map (outcome_of_in none wides.judge) (map base ms) ≡ map lift (map (outcome_of_in plain rules.judge) ms)
  same_outcomes [] = refl
  same_outcomes (m ∷ ms) = ap (λ (xs : List (ℕ × (Outcome ⊎ Refreshed))). outcome_of_in none wides.judge (base m) ∷ xs) (same_outcomes ms)

  and_fault : (os : List (ℕ × Outcome)) (f : HeadFault) → map lift os ++ (0, wides.judge.of_fault f) ∷ [] ≡ map lift (os ++ (0, rules.judge.of_fault f) ∷ [])
  and_fault [] f = refl
  and_fault (o ∷ os) f = ap (λ (xs : List (ℕ × (Outcome ⊎ Refreshed))). lift o ∷ xs) (and_fault os f)

  all_go_on : (ms : List Message) → AllByRecursion (GoesOn wides.judge) (map base ms) → AllByRecursion (GoesOn rules.judge) ms
  all_go_on [] all = tt
  all_go_on (m ∷ ms) all = (all.0, all_go_on ms all.1)

  record Parts (ms : List Message) (a : List (MessageIn WideKind)) (x : MessageIn WideKind) : Type 0 where
    earlier : List Message
    last : Message
    whole : ms ≡ earlier ++ last ∷ []
    firsts : a ≡ map base earlier
    at_last : x ≡ base last

  head_same : (x y : MessageIn WideKind) (xs ys : List (MessageIn WideKind)) → x ∷ xs ≡ y ∷ ys → (y ≡ x) × (xs ≡ ys)
  head_same x y xs ys e = (let one : y ≡ x = cc in one, let others : xs ≡ ys = cc in others)

  none_left : (ms : List Message) → map base ms ≡ [] → ms ≡ []
  none_left [] e = refl
  none_left (m ∷ ms) e = absurd cc

  parts : (ms : List Message) (a : List (MessageIn WideKind)) (x : MessageIn WideKind) → map base ms ≡ a ++ x ∷ [] → Parts ms a x
  parts [] [] x e = absurd cc
  parts [] (y ∷ a) x e = absurd cc
  parts (m ∷ ms) [] x e =
      let same = head_same (base m) x (map base ms) [] e in
      record { earlier = []; last = m; whole = ap (λ (l : List Message). m ∷ l) (none_left ms same.1); firsts = refl; at_last = same.0 }
  parts (m ∷ ms) (y ∷ a) x e =
      let same = head_same (base m) y (map base ms) (a ++ x ∷ []) e in
      let rest = parts ms a x same.1 in
      record {
        earlier = m ∷ rest.earlier;
        last = rest.last;
        whole = ap (λ (l : List Message). m ∷ l) rest.whole;
        firsts = ap (λ (z : MessageIn WideKind). z ∷ a) same.0 ∙ ap (λ (l : List (MessageIn WideKind)). base m ∷ l) rest.firsts;
        at_last = rest.at_last;
      }

  record Ends (ms : List Message) (rest : List ℕ) (os : List (ℕ × (Outcome ⊎ Refreshed))) (e : End) : Type 0 where
    outcomes : List (ℕ × Outcome)
    are : os ≡ map lift outcomes
    ends : EndsByIn plain rules.judge ms rest outcomes e

  ends_plainly : (ms : List Message) (rest : List ℕ) (os : List (ℕ × (Outcome ⊎ Refreshed))) (e : End) → EndsByIn none wides.judge (map base ms) rest os e → Ends ms rest os e
  ends_plainly ms rest os End.Reset ends =
      let p = parts ms ends.0.earlier ends.0.last ends.0.in_order in
      record {
        outcomes = map (outcome_of_in plain rules.judge) ms;
        are = ends.1 ∙ same_outcomes ms;
        ends = (
          record {
            earlier = p.earlier;
            last = p.last;
            in_order = p.whole;
            go_on = all_go_on p.earlier (subst (AllByRecursion (GoesOn wides.judge)) p.firsts ends.0.go_on);
            reset = subst (λ (m : MessageIn WideKind). wides.judge.resets (wides.judge.of_message m) ≡ true) p.at_last ends.0.reset;
          },
          refl,
        );
      }
  ends_plainly ms rest os End.Head ends = record {
    outcomes = map (outcome_of_in plain rules.judge) ms ++ (0, rules.judge.of_fault ends.fault) ∷ [];
    are = ends.told ∙ ap (λ (xs : List (ℕ × (Outcome ⊎ Refreshed))). xs ++ (0, wides.judge.of_fault ends.fault) ∷ []) (same_outcomes ms) ∙ and_fault (map (outcome_of_in plain rules.judge) ms) ends.fault;
    ends = record { go_on = all_go_on ms ends.go_on; has_header = ends.has_header; fault = ends.fault; faulty = is_fault _ ends.fault (sym (same_head rest) ∙ ends.faulty); told = refl };
  }
  ends_plainly ms rest os (End.Wait n) ends = record {
    outcomes = map (outcome_of_in plain rules.judge) ms;
    are = ends.told ∙ same_outcomes ms;
    ends = record { go_on = all_go_on ms ends.go_on; waits = waits_plainly rest ends.waits; count = ends.count; told = refl };
  }

  -- ---- the report

  same_lines : (place : ℕ) (s : List ℕ) (os : List (ℕ × Outcome)) → lines_from wides place s (map lift os) ≡ lines_from rules place s os
  same_lines place s [] = refl
  same_lines place s (o ∷ os) = ap (λ (l : List ℕ). rules.line place o.0 (octets_at o.0 s) o.1 ++ l) (same_lines (place + passed rules o) (drop (passed rules o) s) os)

  same_tally : (t : Tally) (os : List (ℕ × Outcome)) → tally_from wides t (map lift os) ≡ tally_from rules t os
  same_tally t [] = refl
  same_tally t (o ∷ os) = same_tally (counted t o.0 (rules.class o.1)) os

  same_total : (os : List (ℕ × Outcome)) → total wides (map lift os) ≡ total rules os
  same_total [] = refl
  same_total (o ∷ os) = ap (λ (n : ℕ). passed rules o + n) (same_total os)

  same_rest : (b : List ℕ) (e : End) → rest_of wides b e ≡ rest_of rules b e
  same_rest b End.Reset = refl
  same_rest b End.Head = refl
  same_rest b (End.Wait n) = refl

  same_report : (place : ℕ) (t : Tally) (s : List ℕ) (os : List (ℕ × Outcome)) (e : End) → report_of wides place t s (map lift os) e ≡ report_of rules place t s os e
  same_report place t s os e = rw (same_lines place s os, same_tally t os, same_total os, same_rest (drop (total rules os) s) e) refl

  -- the report is that by the types of RFC 4271
  pub as_plain : rules.types ≡ plain → (place : ℕ) (t : Tally) (s : List ℕ) (r : Report) → IsReport wides place t s r → IsReport rules place t s r
  as_plain plainly place t s r q =
      let g = q.gives in
      let all = are_bases g.messages g.row g.frames in
      let ends = ends_plainly all.messages g.rest q.outcomes q.end_of (subst (λ (ms : List (MessageIn WideKind)). EndsByIn none wides.judge ms g.rest q.outcomes q.end_of) all.are g.ends) in
      record {
        outcomes = ends.outcomes;
        end_of = q.end_of;
        gives = subst (λ (ty : Types Kind). GivesIn ty rules.judge s ends.outcomes q.end_of) (sym plainly)
            (record { messages = all.messages; row = g.row; rest = g.rest; whole = g.whole; frames = all.frames; ends = ends.ends });
        told = q.told ∙ ap (λ (os : List (ℕ × (Outcome ⊎ Refreshed))). report_of wides place t s os q.end_of) ends.are ∙ same_report place t s ends.outcomes q.end_of;
      }
