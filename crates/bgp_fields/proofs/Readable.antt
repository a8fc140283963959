-- Octets that can be read to their end.
use Rattle.bgp_fields.proofs.Prelude.{◌≡◌, ℕ, ◌+◌, ◌<◌, ◌≤◌, false, List, [], ◌∷◌, ◌++◌, length, take, drop, Option, refl, sym, ap, subst, ◌∙◌, arith, le-leb}
use Rattle.bgp_fields.proofs.Prelude.{drop_at, take_at, lt-ltb, drop-drop, length-append, Context, Field, Group, FieldKind, Unread, MessagePart, SectionPart}
use Rattle.bgp_fields.proofs.Prelude.{ValuePart, no_fields, value_fields, section_fields, message_fields, is_unread, AllRead, behind, alone, nothing_inside}
use Rattle.bgp_fields.proofs.Prelude.{nothing_in_section, value_plan, section_plan, message_plan, Plan, fit, group_from, Telling, told, walk}
use Rattle.bgp_fields.proofs.Walks.{walk-none, walk-told}

pub read-append : (fs gs : List Field) → AllRead fs → AllRead gs → AllRead (fs ++ gs)
read-append [] gs f g = g
read-append (x ∷ fs) gs f g = (f.0, read-append fs gs f.1 g)

pub fit-whole : (I S : Type 0) (stuck : S) (p : Plan I S) (n : ℕ) → 0 < p.len → p.len + p.inner_len ≤ n → fit stuck p n ≡ p
fit-whole I S stuck p n some room =
    rw (lt-ltb 0 p.len some, le-leb p.len n (omega arith), le-leb (p.len + p.inner_len) n room) refl

module _ (I S : Type 0) (stuck : S) (plan : S → List ℕ → Plan I S) (inside : I → Telling) where
  pub whole-told : (part : S) (at : ℕ) (group : Option Group) (b : List ℕ) (p : Plan I S) → plan part b ≡ p → 0 < p.len → p.len + p.inner_len ≤ length b
      → walk stuck plan inside part at group b ≡ told inside (walk stuck plan inside) p at group b
  whole-told part at group b p is some room =
      walk-told I S stuck plan inside part at group b p (omega arith)
      (sym (ap (λ (q : Plan I S). fit stuck q (length b)) is ∙ fit-whole I S stuck p (length b) some room))

  pub read-step : (part : S) (b : List ℕ) (p : Plan I S) → plan part b ≡ p → 0 < p.len → p.len + p.inner_len ≤ length b → is_unread p.kind ≡ false
      → ((at : ℕ) (group : Option Group) → AllRead (inside p.inner at group (take p.inner_len (drop p.len b))))
      → ((at : ℕ) (group : Option Group) → AllRead (walk stuck plan inside p.next at group (drop (p.len + p.inner_len) b)))
      → (at : ℕ) (group : Option Group) → AllRead (walk stuck plan inside part at group b)
  read-step part b p is some room known inner later at group =
      subst AllRead (sym (whole-told part at group b p is some room)) (
        known,
        read-append (inside p.inner (at + p.len) (group_from at p.begins group) (take p.inner_len (drop p.len b)))
            (walk stuck plan inside p.next (at + p.len + p.inner_len) (group_from at p.begins group) (drop (p.len + p.inner_len) b))
            (inner (at + p.len) (group_from at p.begins group))
            (later (at + p.len + p.inner_len) (group_from at p.begins group)),
      )

module _ (ctx : Context) where
  -- no field of these octets is `Unread`, at whatever offset
  abbrev pub ValueRead : ValuePart → List ℕ → Type 0
  ValueRead part b = (at : ℕ) (group : Option Group) → AllRead (value_fields ctx part at group b)

  abbrev pub SectionRead : SectionPart → List ℕ → Type 0
  SectionRead part b = (at : ℕ) (group : Option Group) → AllRead (section_fields ctx part at group b)

  abbrev pub MessageRead : MessagePart → List ℕ → Type 0
  MessageRead part b = (at : ℕ) (group : Option Group) → AllRead (message_fields ctx part at group b)

  pub value-none : (part : ValuePart) → ValueRead part []
  value-none part at group = subst AllRead (sym (walk-none (Unit {0}) ValuePart (ValuePart.All Unread) (value_plan ctx) no_fields part at group)) tt

  pub section-none : (part : SectionPart) → SectionRead part []
  section-none part at group = subst AllRead (sym (walk-none ValuePart SectionPart (SectionPart.All Unread) (section_plan ctx) (value_fields ctx) part at group)) tt

  pub message-none : (part : MessagePart) → MessageRead part []
  message-none part at group = subst AllRead (sym (walk-none SectionPart MessagePart (MessagePart.All Unread) message_plan (section_fields ctx) part at group)) tt

  -- ---- a field in front of others

  plan_at : (n : ℕ) (b : List ℕ) → drop (n + 0) b ≡ drop n b
  plan_at n b = ap (λ (k : ℕ). drop k b) (omega arith)

  pub value-front : (part : ValuePart) (front back : List ℕ) (begins : Option ℕ) (kind : FieldKind) (n : ℕ) (next : ValuePart)
      → value_plan ctx part (front ++ back) ≡ record { kind = kind; len = n; begins = begins; inner = tt; inner_len = 0; next = next }
      → length front ≡ n → 0 < n → is_unread kind ≡ false → ValueRead next back → ValueRead part (front ++ back)
  value-front part front back begins kind n next is long some known later =
      read-step (Unit {0}) ValuePart (ValuePart.All Unread) (value_plan ctx) no_fields part (front ++ back)
      (record { kind = kind; len = n; begins = begins; inner = tt; inner_len = 0; next = next }) is some (omega (arith, length-append front back, long)) known
      (λ at group. tt)
      (subst (ValueRead next) (sym (plan_at n (front ++ back) ∙ drop_at front back n long)) later)

  pub section-front : (part : SectionPart) (front back : List ℕ) (begins : Option ℕ) (kind : FieldKind) (n : ℕ) (next : SectionPart)
      → section_plan ctx part (front ++ back) ≡ record { kind = kind; len = n; begins = begins; inner = nothing_inside; inner_len = 0; next = next }
      → length front ≡ n → 0 < n → is_unread kind ≡ false → SectionRead next back → SectionRead part (front ++ back)
  section-front part front back begins kind n next is long some known later =
      read-step ValuePart SectionPart (SectionPart.All Unread) (section_plan ctx) (value_fields ctx) part (front ++ back)
      (record { kind = kind; len = n; begins = begins; inner = nothing_inside; inner_len = 0; next = next }) is some (omega (arith, length-append front back, long)) known
      (value-none nothing_inside)
      (subst (SectionRead next) (sym (plan_at n (front ++ back) ∙ drop_at front back n long)) later)

  pub message-front : (part : MessagePart) (front back : List ℕ) (kind : FieldKind) (n : ℕ) (next : MessagePart)
      → message_plan part (front ++ back) ≡ alone kind n next
      → length front ≡ n → 0 < n → is_unread kind ≡ false → MessageRead next back → MessageRead part (front ++ back)
  message-front part front back kind n next is long some known later =
      read-step SectionPart MessagePart (MessagePart.All Unread) message_plan (section_fields ctx) part (front ++ back)
      (alone kind n next) is some (omega (arith, length-append front back, long)) known
      (section-none nothing_in_section)
      (subst (MessageRead next) (sym (plan_at n (front ++ back) ∙ drop_at front back n long)) later)

  -- ---- a length, the octets inside, and what follows

  inside_at : (front inside back : List ℕ) (n k : ℕ) → length front ≡ n → length inside ≡ k → take k (drop n (front ++ (inside ++ back))) ≡ inside
  inside_at front inside back n k f i = ap (take k) (drop_at front (inside ++ back) n f) ∙ take_at inside back k i

  rest_at : (front inside back : List ℕ) (n k : ℕ) → length front ≡ n → length inside ≡ k → drop (n + k) (front ++ (inside ++ back)) ≡ back
  rest_at front inside back n k f i =
      sym (drop-drop k n (front ++ (inside ++ back))) ∙ ap (drop k) (drop_at front (inside ++ back) n f) ∙ drop_at inside back k i

  fits_at : (front inside back : List ℕ) (n k : ℕ) → length front ≡ n → length inside ≡ k → n + k ≤ length (front ++ (inside ++ back))
  fits_at front inside back n k f i = omega (arith, length-append front (inside ++ back), length-append inside back, f, i)

  pub section-behind : (part : SectionPart) (front inside back : List ℕ) (kind : FieldKind) (n : ℕ) (inner : ValuePart) (k : ℕ) (next : SectionPart)
      → section_plan ctx part (front ++ (inside ++ back)) ≡ behind kind n inner k next
      → length front ≡ n → 0 < n → length inside ≡ k → is_unread kind ≡ false → ValueRead inner inside → SectionRead next back
      → SectionRead part (front ++ (inside ++ back))
  section-behind part front inside back kind n inner k next is long some held known within later =
      read-step ValuePart SectionPart (SectionPart.All Unread) (section_plan ctx) (value_fields ctx) part (front ++ (inside ++ back))
      (behind kind n inner k next) is some (fits_at front inside back n k long held) known
      (subst (ValueRead inner) (sym (inside_at front inside back n k long held)) within)
      (subst (SectionRead next) (sym (rest_at front inside back n k long held)) later)

  pub message-behind : (part : MessagePart) (front inside back : List ℕ) (kind : FieldKind) (n : ℕ) (inner : SectionPart) (k : ℕ) (next : MessagePart)
      → message_plan part (front ++ (inside ++ back)) ≡ behind kind n inner k next
      → length front ≡ n → 0 < n → length inside ≡ k → is_unread kind ≡ false → SectionRead inner inside → MessageRead next back
      → MessageRead part (front ++ (inside ++ back))
  message-behind part front inside back kind n inner k next is long some held known within later =
      read-step SectionPart MessagePart (MessagePart.All Unread) message_plan (section_fields ctx) part (front ++ (inside ++ back))
      (behind kind n inner k next) is some (fits_at front inside back n k long held) known
      (subst (SectionRead inner) (sym (inside_at front inside back n k long held)) within)
      (subst (MessageRead next) (sym (rest_at front inside back n k long held)) later)
