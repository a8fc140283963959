-- The octets of an UPDATE's parts.
use Rattle.ristulva_c.proofs.Below.{◌≡◌, ℕ, ◌+◌, List, ◌++◌, length, take, drop, Some, append_assoc, refl, sym, ap, subst, ◌∙◌, arith, w16, to_be_bytes, drop_at, take_at, take-append-drop, drop-drop, AreOctets, Message, IsFrame, header, Parts, IsBody, parts_of, AreOctets-take, AreOctets-back, parts-body, length-header}
use Rattle.ristulva_c.specs.Prelude.{parts_told, Lie}
use Rattle.bgp_frame.specs.Kind.{plain}
use Rattle.bgp_frame.specs.steps.AreTypes.{plain-are}

-- what follows a piece
behind : (b pre post : List ℕ) (n m : ℕ) → drop n b ≡ pre ++ post → m ≡ n + length pre → drop m b ≡ post
behind b pre post n m is e = ap (λ (k : ℕ). drop k b) e ∙ sym (drop-drop (length pre) n b) ∙ ap (drop (length pre)) is ∙ drop_at pre post (length pre) refl

-- the piece at this offset
there : (b x post : List ℕ) (n : ℕ) → drop n b ≡ x ++ post → take (length x) (drop n b) ≡ x
there b x post n is = ap (take (length x)) is ∙ take_at x post (length x) refl

two : (n : ℕ) → length (to_be_bytes w16 n) ≡ 2
two n = refl

pub lie : (octets : List ℕ) (n : ℕ) (m : Message) (p : Parts) → AreOctets octets → IsFrame m (take n octets) → parts_of m.body ≡ Some p → Lie octets p (parts_told (Some p))
lie octets n m p are frame is =
    let head = header m.kind (19 + length m.body) in
    let rest = drop n octets in
    let w = p.withdrawn in
    let a = p.attributes in
    let w2 = to_be_bytes w16 (length w) in
    let a2 = to_be_bytes w16 (length a) in
    let nlri = p.nlri in
    let body : IsBody p m.body = parts-body m.body p (AreOctets-back head m.body (subst AreOctets frame.octets (AreOctets-take n octets are))) is in
    let whole : octets ≡ head ++ (m.body ++ rest) = sym (take-append-drop n octets) ∙ ap (λ (x : List ℕ). x ++ rest) frame.octets ∙ append_assoc head m.body rest in
    let spread : m.body ++ rest ≡ w2 ++ (w ++ (a2 ++ (a ++ (nlri ++ rest)))) =
    ap (λ (x : List ℕ). x ++ rest) body.octets
    ∙ append_assoc w2 (w ++ (a2 ++ (a ++ nlri))) rest
    ∙ ap (λ (x : List ℕ). w2 ++ x) (append_assoc w (a2 ++ (a ++ nlri)) rest)
    ∙ ap (λ (x : List ℕ). w2 ++ (w ++ x)) (append_assoc a2 (a ++ nlri) rest)
    ∙ ap (λ (x : List ℕ). w2 ++ (w ++ (a2 ++ x))) (append_assoc a nlri rest) in
    let at19 : drop 19 octets ≡ w2 ++ (w ++ (a2 ++ (a ++ (nlri ++ rest)))) = behind octets head (m.body ++ rest) 0 19 whole (sym (length-header plain plain-are m.kind (19 + length m.body))) ∙ spread in
    let at21 : drop 21 octets ≡ w ++ (a2 ++ (a ++ (nlri ++ rest))) = behind octets w2 (w ++ (a2 ++ (a ++ (nlri ++ rest)))) 19 21 at19 (omega (arith, two (length w))) in
    let past : drop (21 + length w) octets ≡ a2 ++ (a ++ (nlri ++ rest)) = behind octets w (a2 ++ (a ++ (nlri ++ rest))) 21 (21 + length w) at21 refl in
    let at23 : drop (23 + length w) octets ≡ a ++ (nlri ++ rest) = behind octets a2 (a ++ (nlri ++ rest)) (21 + length w) (23 + length w) past (omega (arith, two (length a))) in
    let last : drop (23 + length w + length a) octets ≡ nlri ++ rest = behind octets a (nlri ++ rest) (23 + length w) (23 + length w + length a) at23 refl in
    record {
      withdrawn = there octets w (a2 ++ (a ++ (nlri ++ rest))) 21 at21;
      attributes = there octets a (nlri ++ rest) (23 + length w) at23;
      nlri = there octets nlri rest (23 + length w + length a) last;
    }
