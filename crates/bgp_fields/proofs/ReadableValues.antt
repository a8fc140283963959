-- Values of attributes that are kept can be read to their end.
use Rattle.bgp_fields.proofs.Prelude.{◌≡◌, ℕ, suc, ◌+◌, ◌-◌, ◌*◌, ◌<◌, ◌≤◌, Bool, true, false, cond, List, [], ◌∷◌, ◌++◌, length, None, refl, sym, ap, subst}
use Rattle.bgp_fields.proofs.Prelude.{◌∙◌, append_assoc, arith, le-leb, lt-ltb, append-nil, length-append, Context, octets_for, PrefixValue, IsPrefix, Row}
use Rattle.bgp_fields.proofs.Prelude.{number_width, IsNumber, WireSegment, IsSegment, FieldKind, ValuePart, is_unread, one, first_of, prefix_len, width_of}
use Rattle.bgp_fields.proofs.Prelude.{numbers_behind, behind_number}
use Rattle.bgp_attr.proofs.NumberRows.{length-number_row}
use Rattle.bgp_fields.proofs.Readable.{ValueRead, value-none, value-front}

-- the length of a prefix's encoding
pub prefix-long : (width : ℕ) (p : PrefixValue) (b : List ℕ) → IsPrefix width p b → length b ≡ prefix_len width p.len
prefix-long width p b is =
    ap length is.octets ∙ ap suc is.least
    ∙ (let there : prefix_len width p.len ≡ 1 + octets_for p.len = rw (le-leb p.len (8 * width) is.allowed) refl in omega (arith, there))

module _ (ctx : Context) where
  -- ---- one field, and rows of fields

  pub one-read : (kind : FieldKind) (n : ℕ) (b : List ℕ) → length b ≡ n → 0 < n → is_unread kind ≡ false → ValueRead ctx (ValuePart.One kind n) b
  one-read kind n b long some known =
      subst (ValueRead ctx (ValuePart.One kind n)) (append-nil b)
      (value-front ctx (ValuePart.One kind n) b [] None kind n (ValuePart.All FieldKind.Unread) refl long some known (value-none ctx (ValuePart.All FieldKind.Unread)))

  pub row-read : (A : Type 0) (R : A → List ℕ → Type 0) (kind : FieldKind) (n : ℕ) → ((v : A) (b : List ℕ) → R v b → length b ≡ n) → 0 < n → is_unread kind ≡ false
      → (vs : List A) (b : List ℕ) → Row R vs b → ValueRead ctx (ValuePart.Row kind n) b
  row-read A R kind n long some known [] b row = subst (ValueRead ctx (ValuePart.Row kind n)) (sym row) (value-none ctx (ValuePart.Row kind n))
  row-read A R kind n long some known (v ∷ vs) b row =
      subst (ValueRead ctx (ValuePart.Row kind n)) (sym row.2)
      (value-front ctx (ValuePart.Row kind n) row.0 row.1 None kind n (ValuePart.Row kind n) refl (long v row.0 row.3) some known
      (row-read A R kind n long some known vs row.1 row.4))

  pub all-read : (kind : FieldKind) (b : List ℕ) → is_unread kind ≡ false → ValueRead ctx (ValuePart.All kind) b
  all-read kind [] known = value-none ctx (ValuePart.All kind)
  all-read kind (x ∷ b) known =
      subst (ValueRead ctx (ValuePart.All kind)) (append-nil (x ∷ b))
      (value-front ctx (ValuePart.All kind) (x ∷ b) [] None kind (length (x ∷ b)) (ValuePart.All FieldKind.Unread)
      (ap (λ (c : List ℕ). one kind (length c) (ValuePart.All FieldKind.Unread)) (append-nil (x ∷ b))) refl (omega arith) known (value-none ctx (ValuePart.All FieldKind.Unread)))

  -- ---- prefixes

  pub prefixes-read : (kind : FieldKind) (ip6 : Bool) → is_unread kind ≡ false → (ps : List PrefixValue) (b : List ℕ) → Row (IsPrefix (width_of ip6)) ps b
      → ValueRead ctx (ValuePart.Prefixes kind ip6) b
  prefixes-read kind ip6 known [] b row = subst (ValueRead ctx (ValuePart.Prefixes kind ip6)) (sym row) (value-none ctx (ValuePart.Prefixes kind ip6))
  prefixes-read kind ip6 known (p ∷ ps) b row =
      let is = row.3 in
      let long = prefix-long (width_of ip6) p row.0 is in
      subst (ValueRead ctx (ValuePart.Prefixes kind ip6)) (sym row.2)
      (value-front ctx (ValuePart.Prefixes kind ip6) row.0 row.1 None kind (prefix_len (width_of ip6) p.len) (ValuePart.Prefixes kind ip6)
      (ap (λ (c : List ℕ). one kind (prefix_len (width_of ip6) (first_of (c ++ row.1))) (ValuePart.Prefixes kind ip6)) is.octets)
      long (omega (arith, sym long, ap length is.octets)) known
      (prefixes-read kind ip6 known ps row.1 row.4))

  -- ---- paths

  pub width-some : (wide : Bool) → 0 < number_width wide
  width-some true = omega arith
  width-some false = omega arith

  numbers-next : (wide confederations : Bool) (m n : ℕ) → m ≡ suc (suc n) → behind_number wide confederations m ≡ ValuePart.Numbers wide confederations (suc n)
  numbers-next wide confederations m n e =
      let less : m - 1 ≡ suc n = omega (arith, e) in
      let more : 1 < m = omega (arith, e) in
      rw (lt-ltb 1 m more, less) refl

  pub numbers-read : (wide confederations : Bool) (ns : List ℕ) (row back : List ℕ) → Row (IsNumber wide) ns row → 0 < length ns
      → ValueRead ctx (ValuePart.Segment wide confederations) back → ValueRead ctx (ValuePart.Numbers wide confederations (length ns)) (row ++ back)
  numbers-read wide confederations [] row back spelled some later = absurd (omega (arith, some))
  numbers-read wide confederations (n ∷ []) row back spelled some later =
      let last : spelled.1 ++ back ≡ back = ap (λ (b : List ℕ). b ++ back) spelled.4 in
      subst (ValueRead ctx (ValuePart.Numbers wide confederations 1)) (sym (ap (λ (b : List ℕ). b ++ back) spelled.2 ∙ append_assoc spelled.0 spelled.1 back))
      (value-front ctx (ValuePart.Numbers wide confederations 1) spelled.0 (spelled.1 ++ back) None FieldKind.AsNumber (number_width wide) (ValuePart.Segment wide confederations)
      refl (spelled.3).as_wide (width-some wide) refl (subst (ValueRead ctx (ValuePart.Segment wide confederations)) (sym last) later))
  numbers-read wide confederations (n ∷ m ∷ ns) row back spelled some later =
      subst (ValueRead ctx (ValuePart.Numbers wide confederations (length (n ∷ m ∷ ns)))) (sym (ap (λ (b : List ℕ). b ++ back) spelled.2 ∙ append_assoc spelled.0 spelled.1 back))
      (value-front ctx (ValuePart.Numbers wide confederations (length (n ∷ m ∷ ns))) spelled.0 (spelled.1 ++ back) None FieldKind.AsNumber (number_width wide)
      (ValuePart.Numbers wide confederations (length (m ∷ ns)))
      (ap (λ (next : ValuePart). one FieldKind.AsNumber (number_width wide) next) (numbers-next wide confederations (length (n ∷ m ∷ ns)) (length ns) refl))
      (spelled.3).as_wide (width-some wide) refl (numbers-read wide confederations (m ∷ ns) spelled.1 back spelled.4 (omega arith) later))

  counted : (wide confederations : Bool) (n k : ℕ) → 0 < n → 1 + n * number_width wide ≤ k → numbers_behind wide confederations n k ≡ ValuePart.Numbers wide confederations n
  counted wide confederations n k some room = rw (lt-ltb 0 n some, le-leb (1 + n * number_width wide) k room) refl

  swapped : (wide : Bool) (n : ℕ) → n * number_width wide ≡ number_width wide * n
  swapped true n = omega arith
  swapped false n = omega arith

  pub segment-read : (wide confederations : Bool) (s : WireSegment) (front back : List ℕ) → IsSegment (record { wide = wide; confederations = confederations }) s front
      → ValueRead ctx (ValuePart.Segment wide confederations) back → ValueRead ctx (ValuePart.Segment wide confederations) (front ++ back)
  segment-read wide confederations s front back is later =
      let c = is.counted in
      let n = length s.numbers in
      let long = length-number_row wide s.numbers c.row c.spelled in
      subst (λ (b : List ℕ). ValueRead ctx (ValuePart.Segment wide confederations) (b ++ back)) (sym (is.octets ∙ ap (λ (b : List ℕ). s.code ∷ b) c.octets))
      (value-front ctx (ValuePart.Segment wide confederations) (s.code ∷ []) (n ∷ (c.row ++ back)) None FieldKind.SegmentType 1 (ValuePart.SegmentCount wide confederations)
      (ap (λ (known : Bool). one FieldKind.SegmentType (cond known 1 0) (ValuePart.SegmentCount wide confederations)) is.known) refl (omega arith) refl
      (value-front ctx (ValuePart.SegmentCount wide confederations) (n ∷ []) (c.row ++ back) None FieldKind.SegmentCount 1 (ValuePart.Numbers wide confederations n)
      (ap (λ (next : ValuePart). one FieldKind.SegmentCount 1 next)
      (counted wide confederations n (length (n ∷ (c.row ++ back))) is.some (omega (arith, long, length-append c.row back, swapped wide n))))
      refl (omega arith) refl
      (numbers-read wide confederations s.numbers c.row back c.spelled is.some later)))

  pub path-read : (wide confederations : Bool) (ss : List WireSegment) (b : List ℕ) → Row (IsSegment (record { wide = wide; confederations = confederations })) ss b
      → ValueRead ctx (ValuePart.Segment wide confederations) b
  path-read wide confederations [] b row = subst (ValueRead ctx (ValuePart.Segment wide confederations)) (sym row) (value-none ctx (ValuePart.Segment wide confederations))
  path-read wide confederations (s ∷ ss) b row =
      subst (ValueRead ctx (ValuePart.Segment wide confederations)) (sym row.2)
      (segment-read wide confederations s row.0 row.1 row.3 (path-read wide confederations ss row.1 row.4))
