-- What octets begin with that are a whole message, or begin with a header with a fault.
use Rattle.bgp_fields.proofs.Prelude.{◌≡◌, ℕ, ◌+◌, ◌≤◌, List, [], ◌++◌, length, take, drop, Option, Some, Result, Ok, Err, sym, ap, ◌∙◌, arith, drop_at}
use Rattle.bgp_fields.proofs.Prelude.{take-append-drop, nil_from_length, append-nil, length-append, Kind, HeadFault, IsFrame, Waits, wanted, header, head_of}
use Rattle.bgp_fields.proofs.Prelude.{type_field, code_of, kind_of, kind_of-code_of, head_of-append, length-IsFrame, head_of-IsFrame, wanted_by_head}
use Rattle.bgp_fields.proofs.Prelude.{wanted-append, IsFrame-wanted, head_at}
use Rattle.bgp_frame.specs.Frame as frame
use Rattle.bgp_frame.proofs.Headers.{length-header}
use Rattle.bgp_frame.specs.Kind.{plain}
use Rattle.bgp_frame.specs.steps.AreTypes.{plain-are}

pub no-wait : (m : frame.Message) (b : List ℕ) → IsFrame m b → Waits b → ⊥
no-wait m b is waits = absurd (omega (arith, waits, IsFrame-wanted plain plain-are m b is))

pub no-wait-header : (b : List ℕ) (f : HeadFault) → 19 ≤ length b → head_of b ≡ Err f → Waits b → ⊥
no-wait-header b f long is waits = absurd (let n : wanted b ≡ 19 = wanted_by_head plain plain-are b long ∙ ap frame.wanted_by is in omega (arith, waits, n))

some-kind : (k j : Kind) → (let one : Option Kind = Some k in one ≡ Some j) → k ≡ j
some-kind k j e = cc

-- the type octet says the kind
same-kind : (k j : Kind) → code_of k ≡ code_of j → k ≡ j
same-kind k j e = some-kind k j (sym (kind_of-code_of k) ∙ ap kind_of e ∙ kind_of-code_of j)

ok-not : (k : Kind) (n : ℕ) (f : HeadFault) → (let one : Result _ HeadFault = Ok (head_at plain plain-are k n) in one ≡ Err f) → ⊥
ok-not k n f e = absurd cc

pub no-fault : (m : frame.Message) (b : List ℕ) (f : HeadFault) → IsFrame m b → head_of b ≡ Err f → ⊥
no-fault m b f is e = ok-not m.kind (length b) f (sym (head_of-IsFrame plain plain-are m b is) ∙ e)

body-is : (m : frame.Message) (b : List ℕ) → IsFrame m b → m.body ≡ drop 19 b
body-is m b is =
    sym (drop_at (header m.kind (19 + length m.body)) m.body 19 (length-header plain plain-are m.kind (19 + length m.body))) ∙ ap (drop 19) (sym is.octets)

module _ (b : List ℕ) (n : ℕ) (m : frame.Message) (is : IsFrame m (take n b)) where
  long : 19 ≤ length (take n b)
  long = omega (arith, length-IsFrame plain plain-are m (take n b) is)

  whole : take n b ++ drop n b ≡ b
  whole = take-append-drop n b

  pub no-fault-front : (f : HeadFault) → head_of b ≡ Err f → ⊥
  no-fault-front f e = no-fault m (take n b) f is (sym (head_of-append plain plain-are (take n b) (drop n b) long) ∙ ap head_of whole ∙ e)

  -- one message is at the front
  pub one-message : (o : frame.Message) → IsFrame o b → m ≡ o
  one-message o there =
      let same_len : length (take n b) ≡ length b =
      sym (IsFrame-wanted plain plain-are m (take n b) is) ∙ sym (wanted-append plain plain-are (take n b) (drop n b) long) ∙ ap wanted whole ∙ IsFrame-wanted plain plain-are o b there in
      let none : drop n b ≡ [] = nil_from_length (drop n b) (omega (arith, same_len, ap length whole, length-append (take n b) (drop n b))) in
      let all : take n b ≡ b = sym (append-nil (take n b)) ∙ ap (λ (c : List ℕ). take n b ++ c) (sym none) ∙ whole in
      let kinds : m.kind ≡ o.kind = same-kind m.kind o.kind (sym (ap type_field is.octets) ∙ ap type_field all ∙ ap type_field there.octets) in
      let bodies : m.body ≡ o.body = body-is m (take n b) is ∙ ap (drop 19) all ∙ sym (body-is o b there) in
      λ i. record { kind = kinds i; body = bodies i }
