-- The prefixes that fields show, a field at a time.
use Rattle.bgp_fields.proofs.Prelude.{◌≡◌, ℕ, ◌+◌, ◌<◌, Bool, true, false, cond, List, [], ◌∷◌, ◌++◌, length, take, drop, Option, Some, None, refl, sym, ap}
use Rattle.bgp_fields.proofs.Prelude.{ap₂, subst, ◌∙◌, arith, drop_at, take_at, take-take, drop-take, flat_map-cons, flat_map-append, append-nil, drop-drop}
use Rattle.bgp_fields.proofs.Prelude.{length-append, PrefixValue, IsPrefix, one_prefix, IsPrefix-reads, Field, Group, FieldKind, octets_in, prefix_width}
use Rattle.bgp_fields.proofs.Prelude.{prefix_alone, prefix_in, prefixes_shown, Plan, fit, group_from, Telling, walk}
use Rattle.std.specs.Prelude.{is_some}
use Rattle.bgp_fields.proofs.Walks.{walk-none, walk-told}
use Rattle.bgp_fields.proofs.Readable.{fit-whole}

-- octets at an offset of a message
abbrev pub At : List ℕ → ℕ → List ℕ → Type 0
At m at b = take (length b) (drop at m) ≡ b

pub at-front : (m : List ℕ) (at : ℕ) (front back : List ℕ) → At m at (front ++ back) → take (length front) (drop at m) ≡ front
at-front m at front back here =
    sym (take-take (length front) (length (front ++ back)) (drop at m) (omega (arith, length-append front back)))
    ∙ ap (take (length front)) here ∙ take_at front back (length front) refl

pub at-back : (m : List ℕ) (at : ℕ) (front back : List ℕ) → At m at (front ++ back) → At m (at + length front) back
at-back m at front back here =
    ap (take (length back)) (sym (drop-drop (length front) at m))
    ∙ sym (drop-take (length front) (length back) (drop at m))
    ∙ ap (λ (n : ℕ). drop (length front) (take n (drop at m))) (sym (length-append front back))
    ∙ ap (drop (length front)) here ∙ drop_at front back (length front) refl

-- a field of this kind is a prefix
abbrev pub is_prefix : FieldKind → Bool
is_prefix kind = is_some (prefix_width kind)

-- no field is a prefix
abbrev pub NonePrefix : List Field → Type 0
NonePrefix [] = Unit {0}
NonePrefix (f ∷ fields) = (is_prefix f.kind ≡ false) × NonePrefix fields

pub none-append : (fs gs : List Field) → NonePrefix fs → NonePrefix gs → NonePrefix (fs ++ gs)
none-append [] gs f g = g
none-append (x ∷ fs) gs f g = (f.0, none-append fs gs f.1 g)

-- a list if it is chosen, else nothing
abbrev pub pick : Bool → List PrefixValue → List PrefixValue
pick b ps = cond b ps []

pub pick-nil : (b : Bool) → pick b [] ≡ []
pick-nil true = refl
pick-nil false = refl

pub pick-append : (b : Bool) (ps qs : List PrefixValue) → pick b ps ++ pick b qs ≡ pick b (ps ++ qs)
pick-append true ps qs = refl
pick-append false ps qs = refl

in-none : (o : Option ℕ) (b : List ℕ) → is_some o ≡ false → prefix_in o b ≡ []
in-none None b e = refl
in-none (Some w) b e = absurd (let no : true ≡ false = e in cc)

pub prefix-in : (width : ℕ) (p : PrefixValue) (b : List ℕ) → IsPrefix width p b → prefix_in (Some width) b ≡ p ∷ []
prefix-in width p b is = ap prefix_alone (ap (one_prefix width) (sym (append-nil b)) ∙ (IsPrefix-reads width).finds p b [] is)

module _ (chosen : FieldKind → Bool) where
  abbrev pub shown_by : List ℕ → Field → List PrefixValue
  shown_by m f = cond (chosen f.kind) (prefix_in (prefix_width f.kind) (octets_in m f)) []

  pub none-shown : (m : List ℕ) (fs : List Field) → NonePrefix fs → prefixes_shown chosen m fs ≡ []
  none-shown m [] none = refl
  none-shown m (f ∷ fs) none =
      flat_map-cons (shown_by m) f fs
      ∙ ap₂ (λ (a b : List PrefixValue). pick (chosen f.kind) a ++ b) (in-none (prefix_width f.kind) (octets_in m f) none.0) (none-shown m fs none.1)
      ∙ ap (λ (a : List PrefixValue). a ++ []) (pick-nil (chosen f.kind))

  -- the octets show these prefixes, at whatever offset
  abbrev pub Shows : Telling → List ℕ → List PrefixValue → Type 0
  Shows tell b ps = (m : List ℕ) (at : ℕ) (group : Option Group) → At m at b → prefixes_shown chosen m (tell at group b) ≡ ps

  module _ (I S : Type 0) (stuck : S) (plan : S → List ℕ → Plan I S) (inside : I → Telling) where
    pub nothing-shows : (part : S) → Shows (walk stuck plan inside part) [] []
    nothing-shows part m at group here = ap (prefixes_shown chosen m) (walk-none I S stuck plan inside part at group)

    -- a field, the octets inside, and what follows
    pub shows-fit : (part : S) (front mid back : List ℕ) (p : Plan I S) (first inner later : List PrefixValue)
        → fit stuck (plan part (front ++ (mid ++ back))) (length (front ++ (mid ++ back))) ≡ p → length front ≡ p.len → 0 < p.len → length mid ≡ p.inner_len
        → pick (chosen p.kind) (prefix_in (prefix_width p.kind) front) ≡ first
        → Shows (inside p.inner) mid inner → Shows (walk stuck plan inside p.next) back later
        → Shows (walk stuck plan inside part) (front ++ (mid ++ back)) (first ++ (inner ++ later))
    shows-fit part front mid back p first inner later is long some held one within behind m at group here =
        let b = front ++ (mid ++ back) in
        let g = group_from at p.begins group in
        let f : Field = record { at = at; len = p.len; kind = p.kind; group = g } in
        let taken : take p.inner_len (drop p.len b) ≡ mid = ap (take p.inner_len) (drop_at front (mid ++ back) p.len long) ∙ take_at mid back p.inner_len held in
        let rest : drop (p.len + p.inner_len) b ≡ back =
        sym (drop-drop p.inner_len p.len b) ∙ ap (drop p.inner_len) (drop_at front (mid ++ back) p.len long) ∙ drop_at mid back p.inner_len held in
        let behind_at = at-back m at front (mid ++ back) here in
        let mid_at : At m (at + p.len) mid = subst (λ (n : ℕ). At m (at + n) mid) long (at-front m (at + length front) mid back behind_at) in
        let back_at : At m (at + p.len + p.inner_len) back =
        subst (λ (n : ℕ). At m n back) (omega (arith, long, held)) (at-back m (at + length front) mid back behind_at) in
        let octets : octets_in m f ≡ front = ap (λ (n : ℕ). take n (drop at m)) (sym long) ∙ at-front m at front (mid ++ back) here in
        let ins = inside p.inner (at + p.len) g mid in
        let outs = walk stuck plan inside p.next (at + p.len + p.inner_len) g back in
        ap (prefixes_shown chosen m)
        (walk-told I S stuck plan inside part at group b p (omega (arith, length-append front (mid ++ back), long)) (sym is)
        ∙ ap₂ (λ (x y : List ℕ). f ∷ (inside p.inner (at + p.len) g x ++ walk stuck plan inside p.next (at + p.len + p.inner_len) g y)) taken rest)
        ∙ flat_map-cons (shown_by m) f (ins ++ outs)
        ∙ ap₂ (λ (x : List ℕ) (y : List PrefixValue). pick (chosen p.kind) (prefix_in (prefix_width p.kind) x) ++ y) octets
        (flat_map-append (shown_by m) ins outs
        ∙ ap₂ (λ (x y : List PrefixValue). x ++ y) (within m (at + p.len) g mid_at) (behind m (at + p.len + p.inner_len) g back_at))
        ∙ ap (λ (x : List PrefixValue). x ++ (inner ++ later)) one

    -- the same where the lengths are equal
    pub shows-step : (part : S) (front mid back : List ℕ) (p : Plan I S) (first inner later : List PrefixValue)
        → plan part (front ++ (mid ++ back)) ≡ p → length front ≡ p.len → 0 < p.len → length mid ≡ p.inner_len
        → pick (chosen p.kind) (prefix_in (prefix_width p.kind) front) ≡ first
        → Shows (inside p.inner) mid inner → Shows (walk stuck plan inside p.next) back later
        → Shows (walk stuck plan inside part) (front ++ (mid ++ back)) (first ++ (inner ++ later))
    shows-step part front mid back p first inner later is long some held one within behind =
        let n = length (front ++ (mid ++ back)) in
        shows-fit part front mid back p first inner later
        (ap (λ (q : Plan I S). fit stuck q n) is ∙ fit-whole I S stuck p n some (omega (arith, length-append front (mid ++ back), length-append mid back, long, held)))
        long some held one within behind

    -- the same for a field that is no prefix and has no octets inside
    pub shows-leaf : (part : S) (front back : List ℕ) (p : Plan I S) (later : List PrefixValue)
        → plan part (front ++ back) ≡ p → length front ≡ p.len → 0 < p.len → 0 ≡ p.inner_len → is_prefix p.kind ≡ false
        → ((at : ℕ) (group : Option Group) → inside p.inner at group [] ≡ []) → Shows (walk stuck plan inside p.next) back later
        → Shows (walk stuck plan inside part) (front ++ back) later
    shows-leaf part front back p later is long some none known empty behind =
        shows-step part front [] back p [] [] later is long some none (ap (pick (chosen p.kind)) (in-none (prefix_width p.kind) front known) ∙ pick-nil (chosen p.kind))
        (λ m at group here. ap (prefixes_shown chosen m) (empty at group)) behind
