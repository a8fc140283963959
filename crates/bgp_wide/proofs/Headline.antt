-- A decoder gives the outcomes of its stream, however that is cut.
use Rattle.bgp_wire.proofs.Std.{◌≡◌, ℕ, ◌≤◌, Bool, true, false, not, List, [], ◌∷◌, ◌++◌, length, map, take, drop, Ok, Err, refl, sym, ap, subst, ◌∙◌, append_assoc, arith, AllByRecursion, take-append-drop}
use Rattle.std.proofs.lemmas.List.{append-nil, length-take}
use Rattle.bgp_wire.specs.Prelude.{AreOctets, Row}
use Rattle.bgp_wire.proofs.OctetLemmas.{AreOctets-back, AreOctets-front, AreOctets-take}
use Rattle.bgp_frame.specs.declared.end.End.{End}
use Rattle.bgp_frame.specs.declared.fault.HeadFault.{HeadFault}
use Rattle.bgp_frame.specs.declared.kind.WideKind.{WideKind}
use Rattle.bgp_frame.specs.Hearing.{Done, by_octets, behind}
use Rattle.bgp_frame.specs.Prelude.{EndsByIn, GoesOn, IsFrameIn, IsHeldIn, MessageIn, Run, WaitsIn, all_octets, head_of_in, outcome_of_in, wanted_by, wanted_in}
use Rattle.bgp_frame.specs.steps.AreTypes.{wide-are}
use Rattle.bgp_frame.proofs.FrameLemmas.{head_of-append, IsFrame-wanted, wanted_by_head}
use Rattle.bgp_frame.proofs.Hearings.{drops_all, empty_waits, front_by_octets, in_parts, pull_is_way, rests, rests_empty, runs_settle, settled_by}
use Rattle.bgp_frame.proofs.Streams.{some_reading}
use Rattle.bgp_terms.specs.Prelude.{Agreed}
use Rattle.bgp_wide.specs.Decoder as d
use Rattle.bgp_wide.specs.Prelude.{Decoding, WideOutcome, decoder, fault_in, fresh, grammar_of, holding, out_in, resets_in, rules_in, types_in}
use Rattle.bgp_wide.specs.Pieces.{ArePulled, AreOutcomes, by_pull}
use Rattle.bgp_wide.proofs.Pulls.{is_hearer}

module _ (t : Agreed) where
  abbrev one : MessageIn WideKind → ℕ × WideOutcome
  one = outcome_of_in (types_in t) (rules_in t)

  abbrev run : Decoding → List ℕ → Done Decoding (ℕ × WideOutcome)
  run = by_octets (decoder t)

  abbrev done : List (ℕ × WideOutcome) → Decoding → Done Decoding (ℕ × WideOutcome)
  done actions x = record { actions = actions; session = x }

  -- ---- what is held

  held_frame : (m : MessageIn WideKind) (b : List ℕ) → AreOctets b → IsFrameIn (types_in t) m b → IsHeldIn (types_in t) b
  held_frame m b are f = let whole = IsFrame-wanted (types_in t) (wide-are (grammar_of t.refresh)) m b f in record { octets = are; within = omega (arith, whole) }

  by_frame : (m : MessageIn WideKind) (b : List ℕ) → AreOctets b → IsFrameIn (types_in t) m b → run (fresh t) b ≡ done (one m ∷ []) (d.behind (fresh t) (out_in t m))
  by_frame m b are f =
      front_by_octets (decoder t) (is_hearer t) (fresh t) refl b (empty_waits (decoder t) (is_hearer t) (fresh t) refl) (held_frame m b are f)
      ∙ settled_by (decoder t) (is_hearer t) (holding (fresh t) b) (one m ∷ []) (d.behind (fresh t) (out_in t m))
      (record { up = refl; what = Ok m; is_held = f; does = refl; leaves = refl })

  -- after an outcome that lets the stream go on the decoder is as at its beginning
  again : (o : WideOutcome) → resets_in o ≡ false → d.behind (fresh t) o ≡ fresh t
  again o is = ap (λ (b : Bool). let x : Decoding = record { terms = t; held = []; stopped = b } in x) is

  -- after one that doesn't, nothing is read
  over : (o : WideOutcome) (rest : List ℕ) → resets_in o ≡ true → run (d.behind (fresh t) o) rest ≡ done [] (d.behind (fresh t) o)
  over o rest is = drops_all (decoder t) (is_hearer t) (d.behind (fresh t) o) (ap not is) (empty_waits (decoder t) (is_hearer t) (d.behind (fresh t) o) refl) rest

  -- ---- messages that let the stream go on

  first_then : (m : MessageIn WideKind) (front rest : List ℕ) → AreOctets front → IsFrameIn (types_in t) m front → GoesOn (rules_in t) m
      → run (fresh t) (front ++ rest) ≡ behind (one m ∷ []) (run (fresh t) rest)
  first_then m front rest are f on =
      in_parts (decoder t) (is_hearer t) (fresh t) front rest
      ∙ ap (λ (x : Done Decoding (ℕ × WideOutcome)). behind x.actions (run x.session rest)) (by_frame m front are f)
      ∙ ap (λ (x : Decoding). behind (one m ∷ []) (run x rest)) (again (out_in t m) on)

  all_then : (ms : List (MessageIn WideKind)) (row rest : List ℕ) → AreOctets row → Row (IsFrameIn (types_in t)) ms row → AllByRecursion (GoesOn (rules_in t)) ms
      → run (fresh t) (row ++ rest) ≡ behind (map one ms) (run (fresh t) rest)
  all_then [] row rest are is on = ap (λ (x : List ℕ). run (fresh t) (x ++ rest)) is
  all_then (m ∷ ms) row rest are (front, back, whole, f, later) on =
      let both = subst AreOctets whole are in
      ap (λ (x : List ℕ). run (fresh t) (x ++ rest)) whole
      ∙ ap (run (fresh t)) (append_assoc front back rest)
      ∙ first_then m front (back ++ rest) (AreOctets-front front back both) f on.0
      ∙ ap (behind (one m ∷ [])) (all_then ms back rest (AreOctets-back front back both) later on.1)

  -- ---- the end

  head_same : (x y : MessageIn WideKind) (xs ys : List (MessageIn WideKind)) → x ∷ xs ≡ y ∷ ys → (x ≡ y) × (xs ≡ ys)
  head_same x y xs ys e = (let same : x ≡ y = cc in same, let others : xs ≡ ys = cc in others)

  reset_ends : (ms : List (MessageIn WideKind)) (row rest : List ℕ) (earlier : List (MessageIn WideKind)) (last : MessageIn WideKind) → ms ≡ earlier ++ last ∷ [] → AreOctets row
      → Row (IsFrameIn (types_in t)) ms row → AllByRecursion (GoesOn (rules_in t)) earlier → resets_in (out_in t last) ≡ true → (run (fresh t) (row ++ rest)).actions ≡ map one ms
  reset_ends [] row rest [] last e are is on reset = absurd cc
  reset_ends [] row rest (x ∷ earlier) last e are is on reset = absurd cc
  reset_ends (m ∷ ms) row rest [] last e are (front, back, whole, f, later) on reset =
      let same = head_same m last ms [] e in
      let both = subst AreOctets whole are in
      let ends = subst (λ (x : MessageIn WideKind). resets_in (out_in t x) ≡ true) (sym same.0) reset in
      ap (λ (x : List ℕ). (run (fresh t) (x ++ rest)).actions) whole
      ∙ ap (λ (x : List ℕ). (run (fresh t) x).actions) (append_assoc front back rest)
      ∙ ap (λ (x : Done Decoding (ℕ × WideOutcome)). x.actions) (
      in_parts (decoder t) (is_hearer t) (fresh t) front (back ++ rest)
      ∙ ap (λ (x : Done Decoding (ℕ × WideOutcome)). behind x.actions (run x.session (back ++ rest))) (by_frame m front (AreOctets-front front back both) f)
      ∙ ap (behind (one m ∷ [])) (over (out_in t m) (back ++ rest) ends))
      ∙ ap (λ (xs : List (MessageIn WideKind)). one m ∷ map one xs) (sym same.1)
  reset_ends (m ∷ ms) row rest (x ∷ earlier) last e are (front, back, whole, f, later) on reset =
      let same = head_same m x ms (earlier ++ last ∷ []) e in
      let both = subst AreOctets whole are in
      let goes = subst (GoesOn (rules_in t)) (sym same.0) on.0 in
      ap (λ (y : List ℕ). (run (fresh t) (y ++ rest)).actions) whole
      ∙ ap (λ (y : List ℕ). (run (fresh t) y).actions) (append_assoc front back rest)
      ∙ ap (λ (y : Done Decoding (ℕ × WideOutcome)). y.actions) (first_then m front (back ++ rest) (AreOctets-front front back both) f goes)
      ∙ ap (λ (os : List (ℕ × WideOutcome)). one m ∷ os) (reset_ends ms back rest earlier last same.1 (AreOctets-back front back both) later on.1 reset)

  waiting_rest : (rest : List ℕ) → AreOctets rest → WaitsIn (types_in t) rest → (run (fresh t) rest).actions ≡ []
  waiting_rest rest are waits =
      ap (λ (x : Done Decoding (ℕ × WideOutcome)). x.actions) (
      front_by_octets (decoder t) (is_hearer t) (fresh t) refl rest (empty_waits (decoder t) (is_hearer t) (fresh t) refl) (record { octets = are; within = omega (arith, waits) })
      ∙ rests (decoder t) (is_hearer t) (holding (fresh t) rest) waits)

  faulty_header : (head : List ℕ) (f : HeadFault) → AreOctets head → length head ≡ 19 → head_of_in (types_in t) head ≡ Err f → run (fresh t) head ≡ done ((0, fault_in f) ∷ []) (d.behind (fresh t) (fault_in f))
  faulty_header head f are long is =
      let wanted : wanted_in (types_in t) head ≡ 19 = wanted_by_head (types_in t) (wide-are (grammar_of t.refresh)) head (omega (arith, long)) ∙ ap wanted_by is in
      front_by_octets (decoder t) (is_hearer t) (fresh t) refl head (empty_waits (decoder t) (is_hearer t) (fresh t) refl) (record { octets = are; within = omega (arith, wanted, long) })
      ∙ settled_by (decoder t) (is_hearer t) (holding (fresh t) head) ((0, fault_in f) ∷ []) (d.behind (fresh t) (fault_in f))
      (record { up = refl; what = Err f; is_held = (long, is); does = refl; leaves = refl })

  faulty_rest : (rest : List ℕ) (f : HeadFault) → AreOctets rest → 19 ≤ length rest → head_of_in (types_in t) rest ≡ Err f → (run (fresh t) rest).actions ≡ (0, fault_in f) ∷ []
  faulty_rest rest f are long is =
      let head = take 19 rest in
      let len : length head ≡ 19 = let least = length-take 19 rest in omega (arith, least, long) in
      let cut : head ++ drop 19 rest ≡ rest = take-append-drop 19 rest in
      let same : head_of_in (types_in t) head ≡ Err f =
      sym (head_of-append (types_in t) (wide-are (grammar_of t.refresh)) head (drop 19 rest) (omega (arith, len))) ∙ ap (head_of_in (types_in t)) cut ∙ is in
      ap (λ (x : List ℕ). (run (fresh t) x).actions) (sym cut)
      ∙ ap (λ (x : Done Decoding (ℕ × WideOutcome)). x.actions) (
      in_parts (decoder t) (is_hearer t) (fresh t) head (drop 19 rest)
      ∙ ap (λ (x : Done Decoding (ℕ × WideOutcome)). behind x.actions (run x.session (drop 19 rest))) (faulty_header head f (AreOctets-take 19 rest are) len same)
      ∙ ap (behind ((0, fault_in f) ∷ [])) (over (fault_in f) (drop 19 rest) refl))

  -- ---- a whole stream

  gives : (ms : List (MessageIn WideKind)) (row rest : List ℕ) (os : List (ℕ × WideOutcome)) (e : End) → AreOctets row → AreOctets rest → Row (IsFrameIn (types_in t)) ms row
      → EndsByIn (types_in t) (rules_in t) ms rest os e → (run (fresh t) (row ++ rest)).actions ≡ os
  gives ms row rest os End.Reset are last is (r, told) = reset_ends ms row rest r.earlier r.last r.in_order are is r.go_on r.reset ∙ sym told
  gives ms row rest os End.Head are last is h =
      ap (λ (x : Done Decoding (ℕ × WideOutcome)). x.actions) (all_then ms row rest are is h.go_on)
      ∙ ap (λ (later : List (ℕ × WideOutcome)). map one ms ++ later) (faulty_rest rest h.fault last h.has_header h.faulty) ∙ sym h.told
  gives ms row rest os (End.Wait n) are last is w =
      ap (λ (x : Done Decoding (ℕ × WideOutcome)). x.actions) (all_then ms row rest are is w.go_on)
      ∙ ap (λ (later : List (ℕ × WideOutcome)). map one ms ++ later) (waiting_rest rest last w.waits) ∙ append-nil (map one ms) ∙ sym w.told

  pub outcomes_of_pieces : (runs : List Run) (os : List (ℕ × WideOutcome)) (x : Decoding) → AreOctets (all_octets runs) → ArePulled t runs os x → AreOutcomes t (all_octets runs) os
  outcomes_of_pieces runs os x are pulled =
      let stream = all_octets runs in
      let settles = runs_settle (decoder t) (is_hearer t) (by_pull t) (pull_is_way (decoder t) (is_hearer t)) (fresh t) runs os x (rests_empty (decoder t) (is_hearer t) (fresh t) refl) are pulled in
      let read = some_reading (types_in t) (wide-are (grammar_of t.refresh)) WideOutcome (rules_in t) stream are in
      let g = read.2 in
      let parts = subst AreOctets g.whole are in
      let is : read.0 ≡ os =
      sym (gives g.messages g.row g.rest read.0 read.1 (AreOctets-front g.row g.rest parts) (AreOctets-back g.row g.rest parts) g.frames g.ends)
      ∙ ap (λ (s : List ℕ). (run (fresh t) s).actions) (sym g.whole)
      ∙ ap (λ (y : Done Decoding (ℕ × WideOutcome)). y.actions) settles.0 in
      subst (AreOutcomes t stream) is (read.1, g)
