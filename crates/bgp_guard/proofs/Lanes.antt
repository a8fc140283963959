-- The messages of a side, as they are passed on.
use Rattle.bgp_guard.proofs.Prelude.{◌≡◌, ℕ, Bool, true, false, List, [], ◌∷◌, ◌++◌, take, drop, Option, Some, None, Result, Ok, refl, sym, ap, subst}
use Rattle.bgp_guard.proofs.Prelude.{◌∙◌, append_assoc, inl, inr, flat_map, AllByRecursion, and_parts, take-append-drop, ◌&&◌, is_some, true≢false}
use Rattle.bgp_guard.proofs.Prelude.{append-nil, has_octet, Row, Kind, WideKind, IsFrameIn, WaitsIn, IsHeldIn, Notification, IsHeld_nil, Agreed, Framed, Open, Spoken, spoken_by}
use Rattle.bgp_guard.proofs.Prelude.{Verdict, verdict_of, Message, WideMessage, base, bases, of_verdict, canonical_in, CleanFault, cleaned_in, cleaned_outcome, WithKeepalives, direction_from, keepalive, reminder, said_then, flat_map-append}
use Rattle.bgp_guard.proofs.Prelude.{Rules, agreed, said_as, IsAllHandedOver, IsHandedOver, IsKept, IsNoNotification, direction, own_octets, nothing_waits}
use Rattle.bgp_guard.proofs.Prelude.{Err, refusal, reading_of, of_reading, of_open_fault, open_notification}
use Rattle.bgp_update.specs.declared.update.Update.{Update}
use Rattle.bgp_open.specs.declared.fault.OpenFault.{OpenFault}
use Rattle.bgp_wire.proofs.Rows.{Row-push}
use Rattle.bgp_frame.specs.declared.kind.WideKind.TheVariants as wide
use Rattle.bgp_terms.specs.declared.refreshes.Refreshes.TheVariants as refreshes
use Rattle.bgp_update.proofs.Lists.{all-append}
use Rattle.bgp_guard.proofs.Keepalives.{with_more, with_one}
use Rattle.bgp_guard.specs.Guard.{types}
use Rattle.bgp_guard.proofs.Types.{types-are}

-- ---- what the passed-on form of a message depends on

-- that of an OPEN on no context, and on no limits
opens_same : (drops : ℕ → Bool) (refuses others : Update → Bool) (first : Bool) (r : Result Open OpenFault)
    → cleaned_outcome refreshes.Plain drops refuses first None (of_reading r) ≡ cleaned_outcome refreshes.Plain drops others first None (of_reading r)
opens_same drops refuses others first (Ok o) = refl
opens_same drops refuses others first (Err fault) = by (open_notification fault)
  where
    by : (n : Option Notification) → cleaned_outcome refreshes.Plain drops refuses first None (of_open_fault n) ≡ cleaned_outcome refreshes.Plain drops others first None (of_open_fault n)
    by None = refl
    by (Some n) = refl

pub open_same : (drops : ℕ → Bool) (refuses others : Update → Bool) (first : Bool) (body : List ℕ) (ctx other : Agreed)
    → cleaned_in refreshes.Plain ctx drops refuses first (record { kind = wide.Base Kind.Open; body = body })
    ≡ cleaned_in refreshes.Plain other drops others first (record { kind = wide.Base Kind.Open; body = body })
open_same drops refuses others first body ctx other = ap bases (opens_same drops refuses others first (reading_of body))

verdict_same : (drops : ℕ → Bool) (refuses : Update → Bool) (family : Option ℕ) (first : Bool) (v : Verdict)
    → cleaned_outcome refreshes.Plain drops refuses first family (of_verdict v) ≡ cleaned_outcome refreshes.Plain drops refuses true family (of_verdict v)
verdict_same drops refuses family first (Verdict.Take u notes) = refl
verdict_same drops refuses family first (Verdict.Withdraw routes notes) = refl
verdict_same drops refuses family first (Verdict.Reset n) = refl

-- that of another message not on its position in the stream
pub place_same : (ctx : Agreed) (drops : ℕ → Bool) (refuses : Update → Bool) (first : Bool) (k : WideKind) (body : List ℕ) → (k ≡ wide.Base Kind.Open → ⊥)
    → cleaned_in refreshes.Plain ctx drops refuses first (record { kind = k; body = body }) ≡ cleaned_in refreshes.Plain ctx drops refuses true (record { kind = k; body = body })
place_same ctx drops refuses first (wide.Base Kind.Open) body not = absurd (not refl)
place_same ctx drops refuses first (wide.Base Kind.Update) body not = ap bases (verdict_same drops refuses _ first (verdict_of ctx.context body))
place_same ctx drops refuses first (wide.Base Kind.Notification) body not = refl
place_same ctx drops refuses first (wide.Base Kind.Keepalive) body not = refl
place_same ctx drops refuses first wide.Refresh body not = refl

module _ (rules : Rules) (silent : Bool) where
  abbrev said_octets : Agreed → WideKind → List WideMessage → List ℕ
  said_octets ctx kind n = flat_map (canonical_in ctx) (said_as silent kind n)

  -- ---- each message is cleaned, by what the OPEN of the side says, and these are passed on

  module _ (kept : Option Spoken) where
    pub record HandsThen (ctx : Agreed) (first : Bool) (m : Framed) (later : List WideMessage → Type 0) (said : List WideMessage) : Type 0 where
      pub message : List WideMessage
      pub is : cleaned_in refreshes.Plain ctx (has_octet rules.drops) (refusal rules ctx.context kept) first m ≡ Ok message
      pub rest : List WideMessage
      pub joined : said ≡ said_as silent m.kind message ++ rest
      pub goes_on : later rest

    abbrev pub Hands : Agreed → Bool → List Framed → List WideMessage → Type 0
    Hands ctx first [] said = said ≡ []
    Hands ctx first (m ∷ later) said = HandsThen ctx first m (Hands ctx false later) said

    -- they are those of the direction
    hands_from : (ctx : Agreed) (first : Bool) (ms : List Framed) (said : List WideMessage) → Hands ctx first ms said → said ≡ direction_from ctx kept rules silent first ms
    hands_from ctx first [] said h = h
    hands_from ctx first (m ∷ later) said h =
        h.joined
        ∙ ap (λ (x : List WideMessage). said_as silent m.kind h.message ++ x) (hands_from ctx false later h.rest h.goes_on)
        ∙ sym (ap (λ (r : Result (List WideMessage) CleanFault). said_then silent m.kind r (direction_from ctx kept rules silent false later)) h.is)

    -- one more
    hands_push : (ctx : Agreed) (first : Bool) (ms : List Framed) (said : List WideMessage) (m : Framed) (n : List WideMessage) → Hands ctx first ms said
        → ((at : Bool) → cleaned_in refreshes.Plain ctx (has_octet rules.drops) (refusal rules ctx.context kept) at m ≡ Ok n) → Hands ctx first (ms ++ m ∷ []) (said ++ said_as silent m.kind n)
    hands_push ctx first [] said m n h is = record {
      message = n;
      is = is first;
      rest = [];
      joined = ap (λ (x : List WideMessage). x ++ said_as silent m.kind n) h ∙ sym (append-nil (said_as silent m.kind n));
      goes_on = refl;
    }
    hands_push ctx first (k ∷ later) said m n h is = record {
      message = h.message;
      is = h.is;
      rest = h.rest ++ said_as silent m.kind n;
      joined = ap (λ (x : List WideMessage). x ++ said_as silent m.kind n) h.joined ∙ append_assoc (said_as silent k.kind h.message) h.rest (said_as silent m.kind n);
      goes_on = hands_push ctx false later h.rest m n h.goes_on is;
    }

    -- ---- octets that were passed on: the messages, interleaved with KEEPALIVEs of the guard's own

    pub record Given (ctx : Agreed) (ms : List Framed) (octets : List ℕ) : Type 0 where
      pub said : List WideMessage
      pub hands : Hands ctx true ms said
      pub handed : List WideMessage
      pub between : WithKeepalives handed said
      pub is : octets ≡ flat_map (canonical_in ctx) handed

    pub given_between : (ctx : Agreed) (ms : List Framed) (octets : List ℕ) (g : Given ctx ms octets) → WithKeepalives g.handed (direction ctx kept rules silent ms)
    given_between ctx ms octets g = subst (WithKeepalives g.handed) (hands_from ctx true ms g.said g.hands) g.between

    given_by : (ctx : Agreed) (ms : List Framed) (octets : List ℕ) (said handed more : List WideMessage) → Hands ctx true ms (said ++ more) → WithKeepalives handed said
        → octets ≡ flat_map (canonical_in ctx) handed → Given ctx ms (octets ++ flat_map (canonical_in ctx) more)
    given_by ctx ms octets said handed more hands between is = record {
      said = said ++ more;
      hands = hands;
      handed = handed ++ more;
      between = with_more handed said more between;
      is = ap (λ (x : List ℕ). x ++ flat_map (canonical_in ctx) more) is ∙ sym (flat_map-append (canonical_in ctx) handed more);
    }

    -- one more message
    pub given_push : (ctx : Agreed) (ms : List Framed) (octets : List ℕ) (m : Framed) (n : List WideMessage) → Given ctx ms octets
        → ((at : Bool) → cleaned_in refreshes.Plain ctx (has_octet rules.drops) (refusal rules ctx.context kept) at m ≡ Ok n) → Given ctx (ms ++ m ∷ []) (octets ++ said_octets ctx m.kind n)
    given_push ctx ms octets m n g is =
        given_by ctx (ms ++ m ∷ []) octets g.said g.handed (said_as silent m.kind n) (hands_push ctx true ms g.said m n g.hands is) g.between g.is

    -- the first
    pub given_first : (ctx : Agreed) (octets : List ℕ) (m : Framed) (n : List WideMessage) → Given ctx [] octets → cleaned_in refreshes.Plain ctx (has_octet rules.drops) (refusal rules ctx.context kept) true m ≡ Ok n
        → Given ctx (m ∷ []) (octets ++ said_octets ctx m.kind n)
    given_first ctx octets m n g is =
        given_by ctx (m ∷ []) octets g.said g.handed (said_as silent m.kind n)
        (record {
          message = n;
          is = is;
          rest = [];
          joined = ap (λ (x : List WideMessage). x ++ said_as silent m.kind n) g.hands ∙ sym (append-nil (said_as silent m.kind n));
          goes_on = refl;
        })
        g.between g.is

    -- a KEEPALIVE of the guard's own
    pub given_own : (ctx : Agreed) (ms : List Framed) (octets : List ℕ) → Given ctx ms octets → Given ctx ms (octets ++ keepalive)
    given_own ctx ms octets g = record {
      said = g.said;
      hands = g.hands;
      handed = g.handed ++ base Message.Keepalive ∷ [];
      between = with_one g.handed g.said g.between;
      is =
          ap (λ (x : List ℕ). x ++ keepalive) g.is
          ∙ ap (λ (x : List ℕ). flat_map (canonical_in ctx) g.handed ++ x) (sym (append-nil keepalive))
          ∙ sym (flat_map-append (canonical_in ctx) g.handed (base Message.Keepalive ∷ []));
    }

  -- where nothing was received, nothing depends on the OPEN
  given_nothing : (one other : Option Spoken) (ctx : Agreed) (octets : List ℕ) → Given one ctx [] octets → Given other ctx [] octets
  given_nothing one other ctx octets g = record { said = g.said; hands = g.hands; handed = g.handed; between = g.between; is = g.is }

  -- ---- a direction while the guard runs

  -- the context that both OPENs agree on, or any while one is missing
  abbrev pub Fits : Option Spoken → Option Spoken → Agreed → Type 0
  Fits kept others ctx = (is_some kept && is_some others) ≡ true → ctx ≡ agreed kept others

  -- the OPEN is the first message
  pub record Opens (messages : List Framed) (said : Spoken) : Type 0 where
    pub first : Framed
    pub later : List Framed
    pub is : messages ≡ first ∷ later
    pub value : Open
    pub handed : (ctx : Agreed) → cleaned_in refreshes.Plain ctx (has_octet rules.drops) (refusal rules ctx.context (Some said)) true first ≡ Ok (base (Message.Open value) ∷ [])
    pub says : said ≡ spoken_by value

  abbrev pub OpenedBy : List Framed → Option Spoken → Type 0
  OpenedBy messages None = messages ≡ []
  OpenedBy messages (Some said) = Opens messages said

  pub record Alive (held : List ℕ) (kept others : Option Spoken) (came given way : List ℕ) : Type 0 where
    pub messages : List Framed
    pub row : List ℕ
    pub whole : came ≡ row ++ held
    pub frames : Row (IsFrameIn types) messages row
    pub can_hold : IsHeldIn types held
    pub waits : WaitsIn types held
    pub opened : OpenedBy messages kept
    pub hands : (ctx : Agreed) → Fits kept others ctx → Given kept ctx messages (given ++ way)
    pub none : AllByRecursion IsNoNotification messages

  kept_first : (ctx : Agreed) (messages : List Framed) (kept : Option Spoken) → OpenedBy messages kept → IsKept rules ctx messages kept
  kept_first ctx messages None o = tt
  kept_first ctx messages (Some said) o = record { first = o.first; later = o.later; is = o.is; value = o.value; handed = o.handed ctx; says = o.says }

  module _ (held : List ℕ) (kept others : Option Spoken) (came given way : List ℕ) (a : Alive held kept others came given way) where
    abbrev ctx : Agreed
    ctx = agreed kept others

    abbrev all : Given kept ctx a.messages (given ++ way)
    all = a.hands ctx (λ both. refl)

    between_all : WithKeepalives all.handed (direction ctx kept rules silent a.messages)
    between_all = given_between kept ctx a.messages (given ++ way) all

    pub alive_all : IsAllHandedOver rules silent ctx kept came given way
    alive_all = record {
      messages = a.messages;
      row = a.row;
      rest = held;
      whole = a.whole;
      frames = a.frames;
      opened = kept_first ctx a.messages kept a.opened;
      waits = a.waits;
      handed = all.handed;
      between = between_all;
      put = all.is;
      none = a.none;
    }

    -- it ends with the guard's NOTIFICATION, or nothing, in the queue: and some of that may be lost
    pub alive_ends : (more now sent gone : List ℕ) (own : Option Notification) → now ≡ came ++ more → sent ++ gone ≡ way ++ own_octets own
        → IsHandedOver rules silent ctx kept now given sent
    alive_ends more now sent gone own grown is = record {
      messages = a.messages;
      row = a.row;
      rest = held ++ more;
      whole = grown ∙ ap (λ (x : List ℕ). x ++ more) a.whole ∙ append_assoc a.row held more;
      frames = a.frames;
      opened = kept_first ctx a.messages kept a.opened;
      lost = gone;
      own = own;
      handed = all.handed;
      between = between_all;
      put =
          ap (λ (x : List ℕ). given ++ x) is
          ∙ sym (append_assoc given way (own_octets own))
          ∙ ap (λ (x : List ℕ). x ++ own_octets own) all.is;
      alone = inr a.none;
    }

    -- a message that became whole is passed on
    module _ (octet : ℕ) (m : Framed) (n : List WideMessage) (f : IsFrameIn types m (held ++ octet ∷ [])) where
      abbrev grown : List ℕ
      grown = held ++ octet ∷ []

      pub whole_row : came ++ octet ∷ [] ≡ (a.row ++ grown) ++ []
      whole_row =
          ap (λ (x : List ℕ). x ++ octet ∷ []) a.whole
          ∙ append_assoc a.row held (octet ∷ [])
          ∙ sym (append-nil (a.row ++ grown))

      pub frames_row : Row (IsFrameIn types) (a.messages ++ m ∷ []) (a.row ++ grown)
      frames_row = Row-push (IsFrameIn types) a.messages m a.row grown a.frames f

      abbrev sent : Agreed → List ℕ
      sent c = way ++ said_octets c m.kind n

      regrouped : (c : Agreed) → (given ++ way) ++ said_octets c m.kind n ≡ given ++ sent c
      regrouped c = append_assoc given way (said_octets c m.kind n)

      -- after both OPENs
      pub pushed : ((at : Bool) → cleaned_in refreshes.Plain ctx (has_octet rules.drops) (refusal rules ctx.context kept) at m ≡ Ok n) → Given kept ctx (a.messages ++ m ∷ []) (given ++ sent ctx)
      pushed is = subst (Given kept ctx (a.messages ++ m ∷ [])) (regrouped ctx) (given_push kept ctx a.messages (given ++ way) m n all is)

      pub alive_on : (is_some kept && is_some others) ≡ true → OpenedBy (a.messages ++ m ∷ []) kept → IsNoNotification m
          → ((at : Bool) → cleaned_in refreshes.Plain ctx (has_octet rules.drops) (refusal rules ctx.context kept) at m ≡ Ok n) → Alive [] kept others (came ++ octet ∷ []) given (sent ctx)
      alive_on both opened silent_kind is = record {
        messages = a.messages ++ m ∷ [];
        row = a.row ++ grown;
        whole = whole_row;
        frames = frames_row;
        can_hold = IsHeld_nil types types-are;
        waits = nothing_waits types types-are;
        opened = opened;
        hands = λ c fits. subst (λ (x : Agreed). Given kept x (a.messages ++ m ∷ []) (given ++ sent ctx)) (sym (fits both)) (pushed is);
        none = all-append IsNoNotification a.messages (m ∷ []) a.none (silent_kind, tt);
      }

      pub notified : IsKept rules ctx (a.messages ++ m ∷ []) kept → ((at : Bool) → cleaned_in refreshes.Plain ctx (has_octet rules.drops) (refusal rules ctx.context kept) at m ≡ Ok n)
          → IsHandedOver rules silent ctx kept (came ++ octet ∷ []) given (sent ctx)
      notified opened is = record {
        messages = a.messages ++ m ∷ [];
        row = a.row ++ grown;
        rest = [];
        whole = whole_row;
        frames = frames_row;
        opened = opened;
        lost = [];
        own = None;
        handed = (pushed is).handed;
        between = given_between kept ctx (a.messages ++ m ∷ []) (given ++ sent ctx) (pushed is);
        put =
            ap (λ (x : List ℕ). given ++ x) (append-nil (sent ctx))
            ∙ (pushed is).is
            ∙ sym (append-nil (flat_map (canonical_in ctx) (pushed is).handed));
        alone = inl refl;
      }

  -- the OPEN comes first
  module _ (held : List ℕ) (others : Option Spoken) (came given way : List ℕ) (a : Alive held None others came given way) (octet : ℕ) (body : List ℕ) (o : Open)
      (f : IsFrameIn types (record { kind = wide.Base Kind.Open; body = body }) (held ++ octet ∷ []))
      (handed : (ctx : Agreed) → cleaned_in refreshes.Plain ctx (has_octet rules.drops) (refusal rules ctx.context (Some (spoken_by o))) true (record { kind = wide.Base Kind.Open; body = body }) ≡ Ok (base (Message.Open o) ∷ [])) where
    abbrev m : Framed
    m = record { kind = wide.Base Kind.Open; body = body }

    abbrev sent_open : Agreed → List ℕ
    sent_open c = way ++ said_octets c (wide.Base Kind.Open) (base (Message.Open o) ∷ [])

    alone : a.messages ++ m ∷ [] ≡ m ∷ []
    alone = ap (λ (ms : List Framed). ms ++ m ∷ []) a.opened

    before : (d : Agreed) → Given (Some (spoken_by o)) d [] (given ++ way)
    before d =
        given_nothing None (Some (spoken_by o)) d (given ++ way)
        (subst (λ (ms : List Framed). Given None d ms (given ++ way)) a.opened (a.hands d (λ both. absurd (true≢false (sym (and_parts (is_some {T = Spoken} None) (is_some others) both).0)))))

    first_given : (c d : Agreed) → Given (Some (spoken_by o)) d (a.messages ++ m ∷ []) (given ++ sent_open c)
    first_given c d =
        subst (λ (x : List ℕ). Given (Some (spoken_by o)) d (a.messages ++ m ∷ []) x) (append_assoc given way (said_octets c (wide.Base Kind.Open) (base (Message.Open o) ∷ [])))
        (subst (λ (ms : List Framed). Given (Some (spoken_by o)) d ms ((given ++ way) ++ said_octets d (wide.Base Kind.Open) (base (Message.Open o) ∷ []))) (sym alone)
        (given_first (Some (spoken_by o)) d (given ++ way) m (base (Message.Open o) ∷ []) (before d) (handed d)))

    pub alive_open : (c : Agreed) → Alive [] (Some (spoken_by o)) others (came ++ octet ∷ []) given (sent_open c)
    alive_open c = record {
      messages = a.messages ++ m ∷ [];
      row = a.row ++ (held ++ octet ∷ []);
      whole = whole_row held None others came given way a octet m (base (Message.Open o) ∷ []) f;
      frames = frames_row held None others came given way a octet m (base (Message.Open o) ∷ []) f;
      can_hold = IsHeld_nil types types-are;
      waits = nothing_waits types types-are;
      opened = record { first = m; later = []; is = alone; value = o; handed = handed; says = refl };
      hands = λ d fits. first_given c d;
      none = all-append IsNoNotification a.messages (m ∷ []) a.none (λ e. absurd cc, tt);
    }

  -- as the other side's OPEN arrives
  pub refit : (held : List ℕ) (kept others now : Option Spoken) (came given way : List ℕ) → is_some others ≡ false → Alive held kept others came given way → Alive held kept now came given way
  refit held kept others now came given way not a = record {
    messages = a.messages;
    row = a.row;
    whole = a.whole;
    frames = a.frames;
    can_hold = a.can_hold;
    waits = a.waits;
    opened = a.opened;
    hands = λ ctx fits. a.hands ctx (λ both. absurd (true≢false (sym (and_parts (is_some kept) (is_some others) both).1 ∙ not)));
    none = a.none;
  }

  -- ---- more messages after the OPEN

  pub opened_push : (messages : List Framed) (m : Framed) (kept : Option Spoken) → is_some kept ≡ true → OpenedBy messages kept → OpenedBy (messages ++ m ∷ []) kept
  opened_push messages m None e o = absurd (true≢false (sym e))
  opened_push messages m (Some said) e o = record {
    first = o.first;
    later = o.later ++ m ∷ [];
    is = ap (λ (ms : List Framed). ms ++ m ∷ []) o.is;
    value = o.value;
    handed = o.handed;
    says = o.says;
  }

  pub kept_push : (ctx : Agreed) (messages : List Framed) (m : Framed) (kept : Option Spoken) → OpenedBy messages kept → IsKept rules ctx (messages ++ m ∷ []) kept
  kept_push ctx messages m None o = tt
  kept_push ctx messages m (Some said) o = record {
    first = o.first;
    later = o.later ++ m ∷ [];
    is = ap (λ (ms : List Framed). ms ++ m ∷ []) o.is;
    value = o.value;
    handed = o.handed ctx;
    says = o.says;
  }

  -- ---- what is sent, and what is consumed

  moved : (n : ℕ) (given way : List ℕ) → (given ++ take n way) ++ drop n way ≡ given ++ way
  moved n given way = append_assoc given (take n way) (drop n way) ∙ ap (λ (x : List ℕ). given ++ x) (take-append-drop n way)

  pub alive_sent : (n : ℕ) (held : List ℕ) (kept others : Option Spoken) (came given way : List ℕ) → Alive held kept others came given way
      → Alive held kept others came (given ++ take n way) (drop n way)
  alive_sent n held kept others came given way a = record {
    messages = a.messages;
    row = a.row;
    whole = a.whole;
    frames = a.frames;
    can_hold = a.can_hold;
    waits = a.waits;
    opened = a.opened;
    hands = λ ctx fits. subst (Given kept ctx a.messages) (sym (moved n given way)) (a.hands ctx fits);
    none = a.none;
  }

  pub over_sent : (n : ℕ) (ctx : Agreed) (kept : Option Spoken) (came given way : List ℕ) → IsHandedOver rules silent ctx kept came given way
      → IsHandedOver rules silent ctx kept came (given ++ take n way) (drop n way)
  over_sent n ctx kept came given way h = record {
    messages = h.messages;
    row = h.row;
    rest = h.rest;
    whole = h.whole;
    frames = h.frames;
    opened = h.opened;
    lost = h.lost;
    own = h.own;
    handed = h.handed;
    between = h.between;
    put =
        append_assoc given (take n way) (drop n way ++ h.lost)
        ∙ ap (λ (x : List ℕ). given ++ x) (sym (append_assoc (take n way) (drop n way) h.lost) ∙ ap (λ (x : List ℕ). x ++ h.lost) (take-append-drop n way))
        ∙ h.put;
    alone = h.alone;
  }

  -- what was queued is lost
  pub over_lost : (ctx : Agreed) (kept : Option Spoken) (came given way : List ℕ) → IsHandedOver rules silent ctx kept came given way → IsHandedOver rules silent ctx kept came given []
  over_lost ctx kept came given way h = record {
    messages = h.messages;
    row = h.row;
    rest = h.rest;
    whole = h.whole;
    frames = h.frames;
    opened = h.opened;
    lost = way ++ h.lost;
    own = h.own;
    handed = h.handed;
    between = h.between;
    put = h.put;
    alone = h.alone;
  }

  -- a KEEPALIVE of the guard's own
  pub alive_own : (due : Bool) (held : List ℕ) (kept others : Option Spoken) (came given way : List ℕ) → Alive held kept others came given way
      → Alive held kept others came given (way ++ reminder due)
  alive_own due held kept others came given way a = record {
    messages = a.messages;
    row = a.row;
    whole = a.whole;
    frames = a.frames;
    can_hold = a.can_hold;
    waits = a.waits;
    opened = a.opened;
    hands = λ ctx fits. subst (Given kept ctx a.messages) (append_assoc given way (reminder due)) (by ctx due (a.hands ctx fits));
    none = a.none;
  }
    where
      by : (ctx : Agreed) (b : Bool) → Given kept ctx a.messages (given ++ way) → Given kept ctx a.messages ((given ++ way) ++ reminder b)
      by ctx true g = given_own kept ctx a.messages (given ++ way) g
      by ctx false g = subst (Given kept ctx a.messages) (sym (append-nil (given ++ way))) g

  -- an octet that completes no message
  pub alive_held : (octet : ℕ) (held : List ℕ) (kept others : Option Spoken) (came given way : List ℕ) → Alive held kept others came given way → IsHeldIn types (held ++ octet ∷ [])
      → WaitsIn types (held ++ octet ∷ []) → Alive (held ++ octet ∷ []) kept others (came ++ octet ∷ []) given way
  alive_held octet held kept others came given way a is waits = record {
    messages = a.messages;
    row = a.row;
    whole = ap (λ (x : List ℕ). x ++ octet ∷ []) a.whole ∙ append_assoc a.row held (octet ∷ []);
    frames = a.frames;
    can_hold = is;
    waits = waits;
    opened = a.opened;
    hands = a.hands;
    none = a.none;
  }
