-- Each reset has a span, within its message.
use Rattle.bgp_fields.proofs.Prelude.{◌≡◌, ℕ, ◌+◌, ◌-◌, ◌<◌, ◌≤◌, ◌&&◌, ◌||◌, ◌==◌, nat_lt, nat_le, Bool, true, false, cond, not, List, [], ◌∷◌, ◌++◌, length}
use Rattle.bgp_fields.proofs.Prelude.{take, drop, Option, Some, None, inl, inr, refl, sym, ap, ap₂, subst, ◌∙◌, arith, list_any, AllByRecursion, option_or}
use Rattle.bgp_fields.proofs.Prelude.{leb-true, or_parts, or_cases, cond_both, length-take-le, option_map, true≢false, eqb-suc-zero, length-append}
use Rattle.bgp_fields.proofs.Prelude.{length-drop, rest_some, AreOctets, also, none_of_them, pieces, Row, when, AreOctets-back, Splits-pieces, nothing_at}
use Rattle.bgp_fields.proofs.Prelude.{CAPABILITIES, Kind, IsFrame, header, IsLength, Notification, length-IsFrame, Capability, Context, OpenFault, Version}
use Rattle.bgp_fields.proofs.Prelude.{Parameter, IsCapability, one_capability, version_of, length_of, parameters_of, hold_of, id_of, is_short_hold}
use Rattle.bgp_fields.proofs.Prelude.{is_zero_id, first_fault, rest_fault, open_fault, open_of, or_fault, IsParameter, one_parameter, Hold, Identifier}
use Rattle.bgp_fields.proofs.Prelude.{capability-reads, parameter-reads, one_parameter-tests, PrefixValue, IsPrefix, one_prefix, run_of, IsPrefix-reads}
use Rattle.bgp_fields.proofs.Prelude.{Judged, TlvValue, IsTlv, one_tlv, tlvs_of, placed_from, IsTlv-reads, Verdict, kept_of, attrs_of, update_of, Mark}
use Rattle.bgp_fields.proofs.Prelude.{malformed, marks_behind, cut_mark, field_marks, marks_of, has_routes, is_reachable, notes_of, routes_of, missing_in}
use Rattle.bgp_fields.proofs.Prelude.{missing_of, is_missing, types_of_field, Parts, attributes_at, behind_two, parts_of, reset_by, first_reset, bad_network}
use Rattle.bgp_fields.proofs.Prelude.{reset_of_run, reset_of, withdraws, is_withdrawn, unless_reset, verdict_on, of_parts, verdict_of, Outcome, of_reading}
use Rattle.bgp_fields.proofs.Prelude.{of_verdict, of_body, out_of, is_reset, has_nlri, parts-body, behind_two-gives, length-body, span, attribute_extent}
use Rattle.bgp_fields.proofs.Prelude.{attribute_place, asks_for, first_asking, asking_place, bad_prefix, run_place, length_place, parts_place, update_place}
use Rattle.bgp_fields.proofs.Prelude.{body_place, reset_place, item_extent, capability_place, parameter_place, parameters_place, open_place, HasPlace}
use Rattle.bgp_numbers.specs.declared.TheConstants.{VERSION}
use Rattle.bgp_frame.specs.Frame as frame
use Rattle.bgp_fields.specs.declared.field.Span.{Span}
use Rattle.bgp_fields.proofs.Extents.{extent-short}
use Rattle.bgp_frame.specs.Kind.{plain}
use Rattle.bgp_frame.specs.steps.AreTypes.{plain-are}

-- ---- OPENs

item-some : (b : List ℕ) → 0 < length b → 0 < item_extent b
item-some [] some = absurd (omega arith)
item-some (x ∷ []) some = omega arith
item-some (x ∷ y ∷ b) some = omega arith

item-short : (b : List ℕ) → item_extent b ≤ length b
item-short [] = omega arith
item-short (x ∷ []) = omega arith
item-short (x ∷ n ∷ b) = omega arith

-- what is left is no longer
left-short : (b : List ℕ) → length (pieces one_capability b).1 ≤ length b
left-short b = let s = Splits-pieces Capability IsCapability one_capability capability-reads b in omega (arith, ap length s.whole, length-append s.row (pieces one_capability b).1)

parameters-short : (b : List ℕ) → length (pieces one_parameter b).1 ≤ length b
parameters-short b = let s = Splits-pieces (List Capability) IsParameter one_parameter parameter-reads b in omega (arith, ap length s.whole, length-append s.row (pieces one_parameter b).1)

-- a complete parameter of capabilities that can't be read contains a capability that can't
bad-capability : (code n : ℕ) (value : List ℕ) → one_parameter (code ∷ n ∷ value) ≡ None → (code == CAPABILITIES) ≡ true → nat_le n (length value) ≡ true
    → 0 < length (pieces one_capability (take n value)).1
bad-capability code n value none is room =
    some-left (pieces one_capability (take n value)).1 refl
  where
    some-left : (r : List ℕ) → (pieces one_capability (take n value)).1 ≡ r → 0 < length r
    some-left (x ∷ r) e = omega arith
    some-left [] e =
        absurd (let found = rw (is, room, ap length e) at (sym (one_parameter-tests code n value) ∙ none) in cc)

parameter-by : (N at code n : ℕ) (value : List ℕ) → one_parameter (code ∷ n ∷ value) ≡ None → at + length (code ∷ n ∷ value) ≤ N
    → (capabilities room : Bool) → (code == CAPABILITIES) ≡ capabilities → nat_le n (length value) ≡ room → HasPlace N (parameter_place at (code ∷ n ∷ value))
parameter-by N at code n value none le true true c r =
    let v = take n value in
    let rest = (pieces one_capability v).1 in
    let long : length v ≡ n = length-take-le n value (leb-true n (length value) r) in
    let held = leb-true n (length value) r in
    subst (λ (t : Bool). HasPlace N (cond t (Some (capability_place (at + 2) v)) (Some (span at (item_extent (code ∷ n ∷ value))))))
    (sym (ap₂ ◌&&◌ c r))
    (item-some rest (bad-capability code n value none c r), omega (arith, le, long, held, item-short rest, left-short v))
parameter-by N at code n value none le true false c r =
    subst (λ (t : Bool). HasPlace N (cond t (Some (capability_place (at + 2) (take n value))) (Some (span at (item_extent (code ∷ n ∷ value))))))
    (sym (ap₂ ◌&&◌ c r)) (omega arith, omega (arith, le, item-short (code ∷ n ∷ value)))
parameter-by N at code n value none le false room c r =
    subst (λ (t : Bool). HasPlace N (cond t (Some (capability_place (at + 2) (take n value))) (Some (span at (item_extent (code ∷ n ∷ value))))))
    (sym (ap₂ ◌&&◌ c r)) (omega arith, omega (arith, le, item-short (code ∷ n ∷ value)))

parameter-placed : (N at : ℕ) (rest : List ℕ) → one_parameter rest ≡ None → 0 < length rest → at + length rest ≤ N → HasPlace N (parameter_place at rest)
parameter-placed N at [] none some le = absurd (omega arith)
parameter-placed N at (code ∷ []) none some le = (omega arith, omega (arith, le))
parameter-placed N at (code ∷ n ∷ value) none some le = parameter-by N at code n value none le (code == CAPABILITIES) (nat_le n (length value)) refl refl

rest-some : (rest : List ℕ) (f : OpenFault) → rest_fault rest ≡ Some f → 0 < length rest
rest-some [] f e = absurd cc
rest-some (x ∷ rest) f e = omega arith

rest-none : (at : ℕ) (rest : List ℕ) → rest_fault rest ≡ None → parameter_place at rest ≡ None
rest-none at [] e = refl
rest-none at (kind ∷ []) e = absurd cc
rest-none at (kind ∷ n ∷ value) e = absurd (rest_some (nat_lt (length value) n) (not (kind == CAPABILITIES)) e)

-- a span that is found comes before later ones
or-placed : (N : ℕ) (p later : Option Span) → HasPlace N p → HasPlace N (option_or p later)
or-placed N (Some s) later placed = placed
or-placed N None later placed = absurd placed

open-by : (N : ℕ) (a b c d : Span) (p : Option Span) → HasPlace N (Some a) → HasPlace N (Some b) → HasPlace N (Some c) → HasPlace N (Some d)
    → (v l h z : Bool) (r : Option OpenFault) (fault : OpenFault) → ((f : OpenFault) → r ≡ Some f → HasPlace N p) → (r ≡ None → p ≡ None)
    → first_fault (when v Version ∷ when l Parameter ∷ r ∷ when h Hold ∷ when z Identifier ∷ []) ≡ Some fault
    → HasPlace N (option_or (when v a) (option_or (when l b) (option_or p (option_or (when h c) (when z d)))))
open-by N a b c d p pa pb pc pd true l h z r fault some none e = pa
open-by N a b c d p pa pb pc pd false true h z r fault some none e = pb
open-by N a b c d p pa pb pc pd false false h z (Some f) fault some none e = or-placed N p (option_or (when h c) (when z d)) (some f refl)
open-by N a b c d p pa pb pc pd false false true z None fault some none e =
    subst (λ (q : Option Span). HasPlace N (option_or q (Some c))) (sym (none refl)) pc
open-by N a b c d p pa pb pc pd false false false true None fault some none e =
    subst (λ (q : Option Span). HasPlace N (option_or q (Some d))) (sym (none refl)) pd
open-by N a b c d p pa pb pc pd false false false false None fault some none e = absurd cc

pub open-placed : (body : List ℕ) (fault : OpenFault) → 10 ≤ length body → open_fault body ≡ Some fault → HasPlace (19 + length body) (open_place body)
unfolding open_fault
open-placed body fault long e =
    let params = parameters_of body in
    let rest = (pieces one_parameter params).1 in
    let at = 29 + (length params - length rest) in
    let held : length params ≡ length body - 10 = length-drop 10 body in
    open-by (19 + length body) (span 19 1) (span 28 1) (span 22 2) (span 24 4) (parameters_place params)
    (omega arith, omega (arith, long)) (omega arith, omega (arith, long)) (omega arith, omega (arith, long)) (omega arith, omega (arith, long))
    (not (version_of body == VERSION)) (not (length_of body == length params)) (is_short_hold (hold_of body)) (is_zero_id (id_of body)) (rest_fault rest) fault
    (λ f is. parameter-placed (19 + length body) at rest (nothing_at (List Capability) IsParameter one_parameter parameter-reads params) (rest-some rest f is)
    (omega (arith, long, held, parameters-short params)))
    (λ is. rest-none at rest is) e

-- ---- an attribute

extent-by : (b : List ℕ) (o : Option (TlvValue × List ℕ)) → one_tlv b ≡ o → 0 < length b → 0 < attribute_extent b o
extent-by b None is some = some
extent-by b (Some (t, rest)) is some =
    let gave = IsTlv-reads.gives b t rest is in
    omega (arith, ap length (gave.2).whole, IsTlv-reads.not_empty t gave.0 gave.2)

pub attribute-placed : (p : Parts) (N at : ℕ) → 23 + (length p.withdrawn + length p.attributes) ≤ N → at < length p.attributes → HasPlace N (Some (attribute_place p at))
attribute-placed p N at le inside =
    let d = drop at p.attributes in
    let long : length d ≡ length p.attributes - at = length-drop at p.attributes in
    (extent-by d (one_tlv d) refl (omega (arith, long, inside)), omega (arith, le, inside, long, extent-short d))

-- each mark is of an attribute in the field
abbrev pub AllIn : ℕ → List Mark → Type 0
AllIn n ms = AllByRecursion (λ m. m.at < n) ms

cut-in : (n at : ℕ) (rest : List ℕ) → at + length rest ≤ n → AllIn n (cut_mark at rest)
cut-in n at [] le = tt
cut-in n at (x ∷ rest) le = (omega (arith, le), tt)

in-append : (n : ℕ) (ms ks : List Mark) → AllIn n ms → AllIn n ks → AllIn n (ms ++ ks)
in-append n [] ks a b = b
in-append n (m ∷ ms) ks a b = (a.0, in-append n ms ks a.1 b)

module _ (ctx : Context) (nlri : Bool) where
  row-in : (n place : ℕ) (seen : ℕ → Bool) (ts : List TlvValue) (row : List ℕ) → Row IsTlv ts row → place + length row ≤ n → AllIn n (marks_behind ctx nlri seen (placed_from place ts))
  row-in n place seen [] row spelled le = tt
  row-in n place seen (t ∷ ts) row spelled le =
      let long = ap length spelled.2 ∙ length-append spelled.0 spelled.1 in
      let some = IsTlv-reads.not_empty t spelled.0 spelled.3 in
      let whole : length t.whole ≡ length spelled.0 = ap length (spelled.3).whole in
      (omega (arith, le, long, some), row-in n (place + length t.whole) (also t.kind seen) ts spelled.1 spelled.4 (omega (arith, le, long, whole)))

  pub field-in : (b : List ℕ) → AllIn (length b) (field_marks ctx nlri b)
  unfolding field_marks
  field-in b =
      let s = Splits-pieces TlvValue IsTlv one_tlv IsTlv-reads b in
      let rest = (tlvs_of b).1 in
      let long = ap length s.whole ∙ length-append s.row rest in
      in-append (length b) (marks_behind ctx nlri none_of_them (placed_from 0 (tlvs_of b).0)) (cut_mark (length b - length rest) rest)
      (row-in (length b) 0 none_of_them (tlvs_of b).0 s.row s.spelled (omega (arith, long)))
      (cut-in (length b) (length b - length rest) rest (omega (arith, long)))

-- the first that calls for it is one of them
some-at : (a b : ℕ) → (let one : Option ℕ = Some a in one ≡ Some b) → a ≡ b
some-at a b e = cc

asking-by : (n at here : ℕ) (later : Option ℕ) (t : Bool) → here < n → (later ≡ Some at → at < n) → cond t (Some here) later ≡ Some at → at < n
asking-by n at here later true inside more e = subst (λ (x : ℕ). x < n) (some-at here at e) inside
asking-by n at here later false inside more e = more e

asking-in : (resets : Bool) (n at : ℕ) (ms : List Mark) → AllIn n ms → first_asking resets ms ≡ Some at → at < n
asking-in resets n at [] all e = absurd cc
asking-in resets n at (m ∷ ms) all e =
    asking-by n at m.at (first_asking resets ms) (asks_for resets m.judged) all.0 (λ later. asking-in resets n at ms all.1 later) e

abbrev Asks : Bool → List Mark → Type 0
Asks resets ms = (at : ℕ) × (first_asking resets ms ≡ Some at)

asks-more : (resets t : Bool) (at : ℕ) (ms : List Mark) → Asks resets ms → (place : ℕ) × (cond t (Some at) (first_asking resets ms) ≡ Some place)
asks-more resets true at ms later = (at, refl)
asks-more resets false at ms later = later

reset-one : (m : Mark) (ms : List Mark) (n : Notification) (j : Judged) → m.judged ≡ j → option_or (reset_by j) (first_reset ms) ≡ Some n
    → (first_reset ms ≡ Some n → Asks true ms) → Asks true (m ∷ ms)
reset-one m ms n (Judged.Reset r) is e later = (m.at, ap (λ (j : Judged). cond (asks_for true j) (Some m.at) (first_asking true ms)) is)
reset-one m ms n (Judged.Keep a) is e later = asks-more true (asks_for true m.judged) m.at ms (later e)
reset-one m ms n (Judged.Discard w) is e later = asks-more true (asks_for true m.judged) m.at ms (later e)
reset-one m ms n (Judged.Withdraw w) is e later = asks-more true (asks_for true m.judged) m.at ms (later e)

resets-ask : (ms : List Mark) (n : Notification) → first_reset ms ≡ Some n → Asks true ms
resets-ask [] n e = absurd cc
resets-ask (m ∷ ms) n e = reset-one m ms n m.judged refl e (λ later. resets-ask ms n later)

none-one : (m : Mark) (ms : List Mark) (j : Judged) → m.judged ≡ j → option_or (reset_by j) (first_reset ms) ≡ None
    → (first_reset ms ≡ None → first_asking true ms ≡ None) → first_asking true (m ∷ ms) ≡ None
none-one m ms (Judged.Reset r) is e later = absurd cc
none-one m ms (Judged.Keep a) is e later = ap (λ (j : Judged). cond (asks_for true j) (Some m.at) (first_asking true ms)) is ∙ later e
none-one m ms (Judged.Discard w) is e later = ap (λ (j : Judged). cond (asks_for true j) (Some m.at) (first_asking true ms)) is ∙ later e
none-one m ms (Judged.Withdraw w) is e later = ap (λ (j : Judged). cond (asks_for true j) (Some m.at) (first_asking true ms)) is ∙ later e

none-asks : (ms : List Mark) → first_reset ms ≡ None → first_asking true ms ≡ None
none-asks [] e = refl
none-asks (m ∷ ms) e = none-one m ms m.judged refl e (λ later. none-asks ms later)

withdraw-one : (m : Mark) (ms : List Mark) (j : Judged) → m.judged ≡ j → (withdraws j || list_any (λ m. withdraws m.judged) ms) ≡ true
    → (list_any (λ m. withdraws m.judged) ms ≡ true → Asks false ms) → Asks false (m ∷ ms)
withdraw-one m ms (Judged.Withdraw w) is e later = (m.at, ap (λ (j : Judged). cond (asks_for false j) (Some m.at) (first_asking false ms)) is)
withdraw-one m ms (Judged.Keep a) is e later = asks-more false (asks_for false m.judged) m.at ms (later e)
withdraw-one m ms (Judged.Discard w) is e later = asks-more false (asks_for false m.judged) m.at ms (later e)
withdraw-one m ms (Judged.Reset n) is e later = asks-more false (asks_for false m.judged) m.at ms (later e)

withdraws-ask : (ms : List Mark) → list_any (λ m. withdraws m.judged) ms ≡ true → Asks false ms
withdraws-ask [] e = absurd (true≢false (sym e))
withdraws-ask (m ∷ ms) e = withdraw-one m ms m.judged refl e (λ later. withdraws-ask ms later)

asking-placed : (resets : Bool) (p : Parts) (ms : List Mark) (N : ℕ) → 23 + (length p.withdrawn + length p.attributes) ≤ N → AllIn (length p.attributes) ms → Asks resets ms
    → HasPlace N (asking_place resets p ms)
asking-placed resets p ms N le all asks =
    subst (λ (o : Option ℕ). HasPlace N (option_map (attribute_place p) o)) (sym asks.1) (attribute-placed p N asks.0 le (asking-in resets (length p.attributes) asks.0 ms all asks.1))

-- ---- prefixes

-- the reset for the rest of a field
abbrev run_reset : List ℕ → Option Notification
run_reset rest = cond (length rest == 0) None (Some bad_network)

bad-placed : (N at : ℕ) (rest : List ℕ) → 0 < length rest → at + length rest ≤ N → HasPlace N (bad_prefix at rest)
bad-placed N at [] some le = absurd (omega arith)
bad-placed N at (l ∷ rest) some le = (omega arith, omega (arith, le))

run-short : (b : List ℕ) → length (run_of 4 b).1 ≤ length b
run-short b = let s = Splits-pieces PrefixValue (IsPrefix 4) (one_prefix 4) (IsPrefix-reads 4) b in omega (arith, ap length s.whole, length-append s.row (run_of 4 b).1)

run-by : (N at : ℕ) (b rest : List ℕ) (n : Notification) → (run_of 4 b).1 ≡ rest → at + length b ≤ N → reset_of_run b ≡ Some n → HasPlace N (run_place at b)
run-by N at b [] n is le e =
    absurd (let none : reset_of_run b ≡ None = ap run_reset is in let both : None ≡ Some n = sym none ∙ e in cc)
run-by N at b (x ∷ rest) n is le e =
    bad-placed N (at + (length b - length (run_of 4 b).1)) (run_of 4 b).1 (omega (arith, ap length is)) (omega (arith, le, run-short b))

run-none : (at : ℕ) (b rest : List ℕ) → (run_of 4 b).1 ≡ rest → reset_of_run b ≡ None → run_place at b ≡ None
run-none at b [] is e = ap (λ (r : List ℕ). bad_prefix (at + (length b - length (run_of 4 b).1)) r) is
run-none at b (x ∷ rest) is e = absurd (let some : reset_of_run b ≡ Some bad_network = ap run_reset is ∙ ap (λ (t : Bool). cond t None (Some bad_network)) (eqb-suc-zero (length rest)) in let both : None ≡ Some bad_network = sym e ∙ some in cc)

-- ---- the body

-- nothing is missing in a message that announces nothing
none-missing : (reaches nlri : Bool) (types : ℕ → Bool) → reaches ≡ false → nlri ≡ false → is_missing (missing_in reaches nlri types) ≡ false
none-missing reaches nlri types r n = rw (r, n) refl

module _ (ctx : Context) (p : Parts) (N : ℕ) (le : 23 + (length p.withdrawn + (length p.attributes + length p.nlri)) ≤ N) where
  abbrev marks : List Mark
  marks = marks_of ctx p

  all-in : AllIn (length p.attributes) marks
  all-in = field-in ctx (has_nlri p) p.attributes

  asks-placed : (resets : Bool) → Asks resets marks → HasPlace N (asking_place resets p marks)
  asks-placed resets asks = asking-placed resets p marks N (omega (arith, le)) all-in asks

  -- an attribute that calls for a reset, a bad prefix of either field, or an attribute that calls for a withdrawal
  parts-by : (a w r : Option Notification) → first_reset marks ≡ a → reset_of_run p.withdrawn ≡ w → reset_of_run p.nlri ≡ r
      → (a ≡ None → w ≡ None → r ≡ None → Asks false marks) → HasPlace N (parts_place p marks)
  parts-by (Some n) w r ea ew er asks =
      or-placed N (asking_place true p marks) _ (asks-placed true (resets-ask marks n ea))
  parts-by None (Some n) r ea ew er asks =
      subst (λ (o : Option ℕ). HasPlace N (option_or (option_map (attribute_place p) o)
      (option_or (run_place 21 p.withdrawn) (option_or (run_place (19 + attributes_at p + length p.attributes) p.nlri) (asking_place false p marks)))))
      (sym (none-asks marks ea))
      (or-placed N (run_place 21 p.withdrawn) _ (run-by N 21 p.withdrawn (run_of 4 p.withdrawn).1 n refl (omega (arith, le)) ew))
  parts-by None None (Some n) ea ew er asks =
      subst (λ (o : Option ℕ). HasPlace N (option_or (option_map (attribute_place p) o)
      (option_or (run_place 21 p.withdrawn) (option_or (run_place (19 + attributes_at p + length p.attributes) p.nlri) (asking_place false p marks)))))
      (sym (none-asks marks ea))
      (subst (λ (o : Option Span). HasPlace N (option_or o (option_or (run_place (19 + attributes_at p + length p.attributes) p.nlri) (asking_place false p marks))))
      (sym (run-none 21 p.withdrawn (run_of 4 p.withdrawn).1 refl ew))
      (or-placed N (run_place (19 + attributes_at p + length p.attributes) p.nlri) (asking_place false p marks)
      (run-by N (19 + attributes_at p + length p.attributes) p.nlri (run_of 4 p.nlri).1 n refl (omega (arith, le)) er)))
  parts-by None None None ea ew er asks =
      subst (λ (o : Option ℕ). HasPlace N (option_or (option_map (attribute_place p) o)
      (option_or (run_place 21 p.withdrawn) (option_or (run_place (19 + attributes_at p + length p.attributes) p.nlri) (asking_place false p marks)))))
      (sym (none-asks marks ea))
      (subst (λ (o : Option Span). HasPlace N (option_or o (option_or (run_place (19 + attributes_at p + length p.attributes) p.nlri) (asking_place false p marks))))
      (sym (run-none 21 p.withdrawn (run_of 4 p.withdrawn).1 refl ew))
      (subst (λ (o : Option Span). HasPlace N (option_or o (asking_place false p marks)))
      (sym (run-none (19 + attributes_at p + length p.attributes) p.nlri (run_of 4 p.nlri).1 refl er))
      (asks-placed false (asks refl refl refl))))

-- ---- the verdict

abbrev reset : Notification → Verdict
reset n = Verdict.Reset n

module _ (ctx : Context) (body : List ℕ) (octets : AreOctets body) (n : Notification) where
  -- where no part causes the reset, the message announces nothing and would be treated as a withdrawal
  asks-by : (p : Parts) (o : Option Notification) (withdrawn reachable : Bool) → o ≡ None → is_withdrawn p (marks_of ctx p) ≡ withdrawn → is_reachable p (marks_of ctx p) ≡ reachable
      → unless_reset o (cond withdrawn (cond reachable (Verdict.Withdraw (routes_of p (marks_of ctx p)) (notes_of p (marks_of ctx p))) (Verdict.Reset malformed))
      (Verdict.Take (update_of p (marks_of ctx p)) (notes_of p (marks_of ctx p)))) ≡ reset n → Asks false (marks_of ctx p)
  asks-by p (Some m) withdrawn reachable none w r e = absurd cc
  asks-by p None true true none w r e = absurd cc
  asks-by p None false reachable none w r e = absurd cc
  asks-by p None true false none w r e =
      let ms = marks_of ctx p in
      let no_nlri = or_parts (has_nlri p) (has_routes (attrs_of (kept_of ms)).mp_reach) r in
      elim (or_cases (list_any (λ (m : Mark). withdraws m.judged) ms) (is_missing (missing_of p ms)) w) [
        | inl asks ↦ withdraws-ask ms asks
        | inr missing ↦ absurd (true≢false (sym missing ∙ none-missing (is_reachable p ms) (has_nlri p) (types_of_field p.attributes) r no_nlri.0))
      ]

  parts-placed : (p : Parts) → parts_of body ≡ Some p → verdict_on p (marks_of ctx p) ≡ reset n → HasPlace (19 + length body) (parts_place p (marks_of ctx p))
  parts-placed p found e =
      let is = parts-body body p octets found in
      let ms = marks_of ctx p in
      let long = ap length is.octets ∙ length-body p.withdrawn p.attributes p.nlri in
      parts-by ctx p (19 + length body) (omega (arith, long)) (first_reset ms) (reset_of_run p.withdrawn) (reset_of_run p.nlri) refl refl refl
      (λ a w r. asks-by p (reset_of p ms) (is_withdrawn p ms) (is_reachable p ms) (rw (a, w, r) refl) refl refl e)

  length-by : (o : Option (List ℕ × List ℕ)) → behind_two body ≡ o → 4 ≤ length body → HasPlace (19 + length body) (Some (length_place o))
  length-by None is long = (omega arith, omega (arith, long))
  length-by (Some (w, rest)) is long =
      let front = behind_two-gives body w rest octets is in
      let whole : length body ≡ 2 + (length w + length rest) = omega (arith, ap length front.octets, length-append w rest) in
      cond_both (nat_le 2 (length rest)) (span (21 + length w) 2) (span 19 2) (λ s. HasPlace (19 + length body) (Some s))
      (λ room. (omega arith, omega (arith, whole, leb-true 2 (length rest) room)))
      (λ no. (omega arith, omega (arith, long)))

  update-by : (o : Option Parts) → parts_of body ≡ o → 4 ≤ length body → of_parts ctx o ≡ reset n → HasPlace (19 + length body) (update_place ctx body o)
  update-by None is long e = length-by (behind_two body) refl long
  update-by (Some p) is long e = parts-placed p is e

-- ---- messages

abbrev out-reset : Notification → Outcome
out-reset n = Outcome.Reset n

verdict-reset : (v : Verdict) (n : Notification) → of_verdict v ≡ out-reset n → v ≡ reset n
verdict-reset (Verdict.Take u notes) n e = absurd cc
verdict-reset (Verdict.Withdraw routes notes) n e = absurd cc
verdict-reset (Verdict.Reset m) n e = cc

reading-by : (body : List ℕ) (f : Option OpenFault) (n : Notification) → open_fault body ≡ f → of_reading (or_fault f (open_of body)) ≡ out-reset n → 10 ≤ length body
    → HasPlace (19 + length body) (open_place body)
reading-by body None n is e long = absurd cc
reading-by body (Some fault) n is e long = open-placed body fault long is

kind-placed : (ctx : Context) (k : Kind) (body : List ℕ) (n : Notification) → AreOctets body → IsLength k (19 + length body) → of_body ctx k body ≡ out-reset n
    → HasPlace (19 + length body) (body_place ctx k body)
kind-placed ctx Kind.Open body n octets allowed e = reading-by body (open_fault body) n refl e (omega (arith, allowed.least))
kind-placed ctx Kind.Update body n octets allowed e =
    update-by ctx body octets n (parts_of body) refl (omega (arith, allowed.least)) (verdict-reset (verdict_of ctx body) n e)
kind-placed ctx Kind.Notification body n octets allowed e = absurd cc
kind-placed ctx Kind.Keepalive body n octets allowed e = absurd cc

pub reset-placed : (ctx : Context) (m : frame.Message) (octets : List ℕ) (n : Notification) → AreOctets octets → IsFrame m octets → out_of ctx m ≡ Outcome.Reset n
    → HasPlace (length octets) (reset_place ctx m)
reset-placed ctx m octets n all is e =
    let head = header m.kind (19 + length m.body) in
    let body : AreOctets m.body = AreOctets-back head m.body (subst AreOctets is.octets all) in
    let long = length-IsFrame plain plain-are m octets is in
    let resets : is_reset (out_of ctx m) ≡ true = ap is_reset e in
    subst (λ (k : ℕ). HasPlace k (reset_place ctx m)) (sym long)
    (subst (λ (t : Bool). HasPlace (19 + length m.body) (cond t (body_place ctx m.kind m.body) None)) (sym resets)
    (kind-placed ctx m.kind m.body n body (subst (IsLength m.kind) long is.allowed) e))
