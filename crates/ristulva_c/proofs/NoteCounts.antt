-- How many notes there are: an attribute has three octets at least.
use Rattle.ristulva_c.proofs.Below.{◌≡◌, ℕ, suc, ◌+◌, ◌-◌, ◌*◌, ◌≤◌, Bool, true, false, cond, List, [], ◌∷◌, ◌++◌, length, refl, ap, ◌∙◌, arith, flat_map, length-map, length-append, none_of_them, also, Row, Context, Judged, is_extended, TlvValue, IsTlv, PlacedTlv, length_width, one_tlv, tlvs_of, placed_from, Missing, UpdateView, parts_value, Mark, marks_behind, cut_mark, placed_tlvs, field_marks, why_not, mark_notes, missing_note, missing_notes, missing_of, attributes_at, view_marks, notes_value, Splits-pieces, IsTlv-reads, has_nlri}
use Rattle.bgp_attr.specs.declared.judged.Judged.TheVariants as judged

-- ---- attributes

wide : (t : TlvValue) → 1 ≤ length_width t.flags
wide t = at (is_extended t.flags)
  where
    at : (b : Bool) → 1 ≤ (cond b 2 1)
    at true = omega arith
    at false = omega arith

three : (t : TlvValue) (b : List ℕ) → IsTlv t b → 3 ≤ length b
three t b is =
    let whole : length b ≡ suc (suc (length (is.size ++ t.value))) = ap length is.octets in
    omega (arith, whole, length-append is.size t.value, is.wide, wide t)

row_count : (ts : List TlvValue) (row : List ℕ) → Row IsTlv ts row → 3 * length ts ≤ length row
row_count [] row p = omega arith
row_count (t ∷ ts) row p =
    let total : length row ≡ length p.0 + length p.1 = ap length p.2 ∙ length-append p.0 p.1 in
    omega (arith, total, three t p.0 p.3, row_count ts p.1 p.4)

length-placed : (at : ℕ) (ts : List TlvValue) → length (placed_from at ts) ≡ length ts
length-placed at [] = refl
length-placed at (t ∷ ts) = ap suc (length-placed (at + length t.whole) ts)

-- ---- marks

length-behind : (ctx : Context) (nlri : Bool) (seen : ℕ → Bool) (ps : List PlacedTlv) → length (marks_behind ctx nlri seen ps) ≡ length ps
length-behind ctx nlri seen [] = refl
length-behind ctx nlri seen (p ∷ ps) = ap suc (length-behind ctx nlri (also p.tlv.kind seen) ps)

one_cut : (at : ℕ) (rest : List ℕ) → length (cut_mark at rest) ≤ 1
one_cut at [] = omega arith
one_cut at (flags ∷ rest) = omega arith

few_marks : (ctx : Context) (nlri : Bool) (field : List ℕ) → length field ≤ 4073 → length (field_marks ctx nlri field) ≤ 1358
unfolding field_marks
few_marks ctx nlri field short =
    let s = Splits-pieces TlvValue IsTlv one_tlv IsTlv-reads field in
    let ts = (tlvs_of field).0 in
    let rest = (tlvs_of field).1 in
    let whole : length field ≡ length s.row + length rest = ap length s.whole ∙ length-append s.row rest in
    let place = length field - length rest in
    let marks : length (marks_behind ctx nlri none_of_them (placed_tlvs field)) ≡ length ts = length-behind ctx nlri none_of_them (placed_tlvs field) ∙ length-placed 0 ts in
    omega (arith, whole, row_count ts s.row s.spelled, marks, one_cut place rest, length-append (marks_behind ctx nlri none_of_them (placed_tlvs field)) (cut_mark place rest))

pub few_view_marks : (v : UpdateView) → length (view_marks v) ≤ 1358
few_view_marks v = let p = parts_value v.body in few_marks v.ctx (has_nlri p) p.attributes (omega (arith, v.short))

-- ---- notes

one_why : (j : Judged) → length (why_not j) ≤ 1
one_why (judged.Keep a) = omega arith
one_why (judged.Discard w) = omega arith
one_why (judged.Withdraw w) = omega arith
one_why (judged.Reset n) = omega arith

mark_count : (at : ℕ) (ms : List Mark) → length (flat_map (mark_notes at) ms) ≤ length ms
mark_count at [] = omega arith
mark_count at (m ∷ ms) =
    let one : length (mark_notes at m) ≡ length (why_not m.judged) = length-map (why_not m.judged) _ in
    omega (arith, one, one_why m.judged, mark_count at ms, length-append (mark_notes at m) (flat_map (mark_notes at) ms))

one_missing : (b : Bool) (kind : ℕ) → length (missing_note b kind) ≤ 1
one_missing true kind = omega arith
one_missing false kind = omega arith

few_missing : (m : Missing) → length (missing_notes m) ≤ 3
few_missing m =
    omega (
      arith,
      one_missing m.origin 1,
      one_missing m.as_path 2,
      one_missing m.next_hop 3,
      length-append (missing_note m.origin 1) (missing_note m.as_path 2 ++ missing_note m.next_hop 3),
      length-append (missing_note m.as_path 2) (missing_note m.next_hop 3),
    )

pub few_notes : (v : UpdateView) → length (notes_value v) ≤ 1361
few_notes v =
    let p = parts_value v.body in
    let ms = view_marks v in
    omega (
      arith,
      few_view_marks v,
      mark_count (attributes_at p) ms,
      few_missing (missing_of p ms),
      length-append (flat_map (mark_notes (attributes_at p)) ms) (missing_notes (missing_of p ms)),
    )
