-- The head of an attribute in the room for it, in front of its value.
use Rattle.bgp_wire.proofs.Std.{◌≡◌, ℕ, ◌+◌, ◌-◌, ◌<◌, ◌≤◌, Bool, true, false, cond, ltb, List, [], ◌∷◌, ◌++◌, length, take, drop, refl, sym, ap, ap₂, ◌∙◌, append_assoc, drop-drop, arith, w16, to_be_bytes, insert, take-append_seam, drop-append-add}
use Rattle.std.proofs.lemmas.Bool.{le-ltb, lt-ltb}
use Rattle.std.proofs.lemmas.List.{append-nil, length-append, length-take, length-drop}
use Rattle.bgp_attr.specs.declared.class.Class.{Class}
use Rattle.bgp_wire.specs.Prelude.{Extends}
use Rattle.bgp_open.specs.declared.context.Context.{Context}
use Rattle.bgp_attr.specs.declared.attr.Attr.{Attr}
use Rattle.bgp_attr.specs.Prelude.{flags_octet, tlv_octets, value_octets, made, canonical}
use Rattle.bgp_attr.proofs.CanonicalLength.{length-made, length-canonical}
use Rattle.bgp_attr.proofs.WrittenTlv.{head_then_value}

-- a value of more than 255 octets: an octet is inserted, since its length has two
pub finished_long : (class : Class) (partial : Bool) (flags kind k start len high low : ℕ) (old mid new : List ℕ) → start + 3 ≤ length old → 255 < len → len ≡ length (drop (start + 3) old)
    → flags ≡ flags_octet class partial true → k ≡ kind → high ∷ low ∷ [] ≡ to_be_bytes w16 len → mid ≡ insert old start 0
    → new ≡ take start mid ++ (flags ∷ k ∷ high ∷ low ∷ [] ++ drop (start + 4) mid)
    → new ≡ take start old ++ tlv_octets (flags_octet class partial (ltb 255 (length (drop (start + 3) old)))) kind (drop (start + 3) old)
finished_long class partial flags kind k start len high low old mid new room many len_is flags_is kind_is two put set =
    let front : List ℕ = take start old in
    let value : List ℕ = drop (start + 3) old in
    let long : length front ≡ start = omega (arith, length-take start old, room) in
    let taken : take start mid ≡ front = ap₂ (λ (n : ℕ) (l : List ℕ). take n l) (sym long) put ∙ take-append_seam front (0 ∷ drop start old) in
    let rest : drop (start + 4) mid ≡ value =
    ap₂ (λ (n : ℕ) (l : List ℕ). drop (n + 4) l) (sym long) put ∙ drop-append-add front (0 ∷ drop start old) 4 ∙ drop-drop 3 start old in
    let wide : ltb 255 (length value) ≡ true = lt-ltb 255 (length value) (omega (arith, len_is, many)) in
    head_then_value class partial true flags kind len value front (front ++ flags ∷ kind ∷ to_be_bytes w16 len) new flags_is len_is refl
    (set ∙ ap₂ (λ (a b : List ℕ). a ++ (flags ∷ k ∷ high ∷ low ∷ b)) taken rest
    ∙ ap₂ (λ (n : ℕ) (b : List ℕ). front ++ (flags ∷ n ∷ (b ++ value))) kind_is two
    ∙ sym (append_assoc front (flags ∷ kind ∷ to_be_bytes w16 len) value))
    ∙ ap (λ (t : Bool). front ++ tlv_octets (flags_octet class partial t) kind value) (sym wide)

-- a value of at most 255 octets
pub finished_short : (class : Class) (partial : Bool) (flags kind start len : ℕ) (old new : List ℕ) → len ≤ 255 → len ≡ length (drop (start + 3) old)
    → flags ≡ flags_octet class partial false → new ≡ take start old ++ (flags ∷ kind ∷ len ∷ [] ++ drop (start + 3) old)
    → new ≡ take start old ++ tlv_octets (flags_octet class partial (ltb 255 (length (drop (start + 3) old)))) kind (drop (start + 3) old)
finished_short class partial flags kind start len old new few len_is flags_is set =
    let front : List ℕ = take start old in
    let value : List ℕ = drop (start + 3) old in
    let narrow : ltb 255 (length value) ≡ false = le-ltb 255 (length value) (omega (arith, len_is, few)) in
    head_then_value class partial false flags kind len value front (front ++ flags ∷ kind ∷ len ∷ []) new flags_is len_is refl
    (set ∙ sym (append_assoc front (flags ∷ kind ∷ len ∷ []) value))
    ∙ ap (λ (t : Bool). front ++ tlv_octets (flags_octet class partial t) kind value) (sym narrow)

no_less : (t : Bool) → 1 ≤ cond t 2 1
no_less true = omega arith
no_less false = omega arith

pub behind_head : (ctx : Context) (a : Attr) → 3 + length (value_octets ctx a) ≤ length (canonical ctx a)
behind_head ctx a = omega (arith, length-canonical ctx a, no_less (ltb 255 (length (value_octets ctx a))))

-- where one more octet has no room, the whole has none
pub no_octet_more : (class : Class) (partial : Bool) (kind start len room : ℕ) (old : List ℕ) → start + 3 ≤ length old → 255 < len → len ≡ length (drop (start + 3) old) → room < length old + 1
    → room < start + length (made class partial kind (drop (start + 3) old)).whole
no_octet_more class partial kind start len room old within many len_is full =
    let value : List ℕ = drop (start + 3) old in
    let wide : ltb 255 (length value) ≡ true = lt-ltb 255 (length value) (omega (arith, len_is, many)) in
    omega (arith, full, within, length-drop (start + 3) old, length-made class partial kind value, ap {B = ℕ} (λ (t : Bool). cond t 2 1) wide)

pub nothing_begun : (ctx : Context) (a : Attr) (room : ℕ) (old new : List ℕ) → new ≡ old → room < length old + 3 → Extends old new × (room < length old + length (canonical ctx a))
nothing_begun ctx a room old new same full = (([], same ∙ sym (append-nil old)), omega (arith, full, behind_head ctx a))

-- the whole, made of the value after the room for the head
module _ (make : List ℕ → List ℕ) (start : ℕ) (old value mid now : List ℕ) (at : start ≡ length old) (room_is : mid ≡ old ++ 0 ∷ 0 ∷ 0 ∷ []) (now_is : now ≡ mid ++ value) where
  whole_now : now ≡ old ++ 0 ∷ 0 ∷ 0 ∷ value
  whole_now = now_is ∙ ap (λ (b : List ℕ). b ++ value) room_is ∙ append_assoc old (0 ∷ 0 ∷ 0 ∷ []) value

  pub length_now : length now ≡ start + 3 + length value
  length_now = omega (arith, at, ap length whole_now, length-append old (0 ∷ 0 ∷ 0 ∷ value))

  -- more octets than the field can have
  pub too_long : (whole : List ℕ) → 3 + length value ≤ length whole → (room most len : ℕ) → room ≤ most → 3 + most < len - start → len ≡ length now → Extends old now × (room < length old + length whole)
  too_long whole fits room most len low long len_is = ((0 ∷ 0 ∷ 0 ∷ value, whole_now), omega (arith, fits, low, long, len_is, length_now))

  value_now : drop (start + 3) now ≡ value
  value_now = ap₂ (λ (n : ℕ) (b : List ℕ). drop (n + 3) b) at whole_now ∙ drop-append-add old (0 ∷ 0 ∷ 0 ∷ value) 3

  pub made_whole : (new : List ℕ) → new ≡ take start now ++ make (drop (start + 3) now) → new ≡ old ++ make value
  made_whole new e = e ∙ ap₂ (λ (a b : List ℕ). a ++ make b) (ap₂ (λ (n : ℕ) (b : List ℕ). take n b) at whole_now ∙ take-append_seam old (0 ∷ 0 ∷ 0 ∷ value)) value_now

  pub made_refused : (room : ℕ) (new : List ℕ) → new ≡ now → room < start + length (make (drop (start + 3) now)) → Extends old new × (room < length old + length (make value))
  made_refused room new e full = ((0 ∷ 0 ∷ 0 ∷ value, e ∙ whole_now), omega (arith, full, at, ap (λ (b : List ℕ). length (make b)) value_now))
