-- One direction of a connection: what was sent on it, what is in flight, and what was received.
use Rattle.bgp_session.proofs.Prelude.{◌≡◌, ℕ, Bool, true, false, not, List, [], ◌∷◌, ◌++◌, map, Option, None, Some, refl, sym, ap, subst, ◌∙◌, append_assoc}
use Rattle.bgp_session.proofs.Prelude.{AllByRecursion, append-nil, all_push, Waits, Settings, State, listens, PathInfo, Update, heard, IsFrontHeard, flying}
use Rattle.bgp_session.proofs.Sayings.{Said, spelling, spellings, updates_of, updates_in, Fits, Stage, WantsOpen, WantsKeepalive, Runs, next, Follows, EndsAt}

-- ---- the invariant

-- messages from a speaker of the settings s to one of the settings t, which expects them from this stage on
pub record Coming (wide : Bool) (s t : Settings) (from last : Stage) (octets : List ℕ) (sent : List Update) (got : List (Update × PathInfo)) : Type 0 where
  pub pending : List Said
  pub spelled : octets ≡ spellings s pending
  pub follows : Follows (Some from) pending last
  pub fit : AllByRecursion (Fits wide s t) pending
  pub front : List Update
  pub got_so : got ≡ map (heard wide) front
  pub sent_so : sent ≡ front ++ updates_in pending

-- the receiver accepts octets: what it holds is incomplete
pub record IsHearing (wide : Bool) (s t : Settings) (from : Stage) (held rest : List ℕ) (sender : State) (sent : List Update) (got : List (Update × PathInfo)) : Type 0 where
  pub waits : Waits held
  pub last : Stage
  pub ends : EndsAt sender last
  pub coming : Coming wide s t from last (held ++ rest) sent got

-- it has left: nothing is held or in flight
pub record IsDeaf (wide : Bool) (held flight : List ℕ) (sent : List Update) (got : List (Update × PathInfo)) : Type 0 where
  pub holds_none : held ≡ []
  pub none_flies : flight ≡ []
  pub hears : IsFrontHeard wide sent got

-- by the receiver's state. Octets can be in hand that were drawn from the flight and not yet fed
abbrev pub Goes : Bool → Settings → Settings → State → List ℕ → List ℕ → List ℕ → State → List Update → List (Update × PathInfo) → Type 0
Goes wide s t State.OpenSent held hand flight sender sent got = IsHearing wide s t WantsOpen held (hand ++ flight) sender sent got
Goes wide s t State.OpenConfirm held hand flight sender sent got = IsHearing wide s t WantsKeepalive held (hand ++ flight) sender sent got
Goes wide s t State.Established held hand flight sender sent got = IsHearing wide s t Runs held (hand ++ flight) sender sent got
Goes wide s t _ held hand flight sender sent got = IsDeaf wide held flight sent got

-- a message may be sent after what was sent in the old state, and then all that the new state requires has been sent
pub record MaySay (old new : State) (m : Said) (last : Stage) : Type 0 where
  pub behind : Stage
  pub is_next : next last m ≡ Some behind
  pub ends : EndsAt new behind

-- ---- messages in sequence

follows_more : (o : Option Stage) (ms : List Said) (m : Said) (last behind : Stage) → Follows o ms last → next last m ≡ Some behind → Follows o (ms ++ m ∷ []) behind
follows_more None ms m last behind f is = f
follows_more (Some from) [] m last behind f is = subst (λ (o : Option Stage). Follows o [] behind) (sym is ∙ ap (λ (st : Stage). next st m) f) refl
follows_more (Some from) (x ∷ ms) m last behind f is = follows_more (next from x) ms m last behind f is

spellings_more : (s : Settings) (ms : List Said) (m : Said) → spellings s (ms ++ m ∷ []) ≡ spellings s ms ++ spelling s m
spellings_more s [] m = append-nil (spelling s m)
spellings_more s (x ∷ ms) m =
    ap (λ (l : List ℕ). spelling s x ++ l) (spellings_more s ms m) ∙ sym (append_assoc (spelling s x) (spellings s ms) (spelling s m))

updates_more : (ms : List Said) (m : Said) → updates_in (ms ++ m ∷ []) ≡ updates_in ms ++ updates_of m
updates_more [] m = append-nil (updates_of m)
updates_more (x ∷ ms) m =
    ap (λ (l : List Update). updates_of x ++ l) (updates_more ms m) ∙ sym (append_assoc (updates_of x) (updates_in ms) (updates_of m))

module _ (wide : Bool) (s t : Settings) where
  -- ---- the first message

  coming_front : (from last : Stage) (octets : List ℕ) (sent : List Update) (got : List (Update × PathInfo))
      → Coming wide s t from last octets sent got → IsFrontHeard wide sent got
  coming_front from last octets sent got c = record { front = c.front; later = updates_in c.pending; in_order = c.sent_so; hears = c.got_so }

  pub front_of : (hearer : State) (held hand flight : List ℕ) (sender : State) (sent : List Update) (got : List (Update × PathInfo))
      → Goes wide s t hearer held hand flight sender sent got → IsFrontHeard wide sent got
  front_of State.OpenSent held hand flight sender sent got g = coming_front WantsOpen g.last (held ++ (hand ++ flight)) sent got g.coming
  front_of State.OpenConfirm held hand flight sender sent got g = coming_front WantsKeepalive g.last (held ++ (hand ++ flight)) sent got g.coming
  front_of State.Established held hand flight sender sent got g = coming_front Runs g.last (held ++ (hand ++ flight)) sent got g.coming
  front_of State.Idle held hand flight sender sent got g = g.hears
  front_of State.Connect held hand flight sender sent got g = g.hears
  front_of State.Active held hand flight sender sent got g = g.hears

  -- ---- the sender goes to another state, and sends nothing

  module _ (from : Stage) (held rest : List ℕ) (old new : State) (sent : List Update) (got : List (Update × PathInfo)) (goes : (last : Stage) → EndsAt old last → EndsAt new last) where
    hearing_goes : IsHearing wide s t from held rest old sent got → IsHearing wide s t from held rest new sent got
    hearing_goes h = record { waits = h.waits; last = h.last; ends = goes h.last h.ends; coming = h.coming }

  pub sender_goes : (hearer : State) (held hand flight : List ℕ) (old new : State) (sent : List Update) (got : List (Update × PathInfo))
      → ((last : Stage) → EndsAt old last → EndsAt new last) → Goes wide s t hearer held hand flight old sent got → Goes wide s t hearer held hand flight new sent got
  sender_goes State.OpenSent held hand flight old new sent got goes g = hearing_goes WantsOpen held (hand ++ flight) old new sent got goes g
  sender_goes State.OpenConfirm held hand flight old new sent got goes g = hearing_goes WantsKeepalive held (hand ++ flight) old new sent got goes g
  sender_goes State.Established held hand flight old new sent got goes g = hearing_goes Runs held (hand ++ flight) old new sent got goes g
  sender_goes State.Idle held hand flight old new sent got goes g = g
  sender_goes State.Connect held hand flight old new sent got goes g = g
  sender_goes State.Active held hand flight old new sent got goes g = g

  -- ---- the sender sends a message

  module _ (old new : State) (m : Said) (may : (last : Stage) → EndsAt old last → MaySay old new m last) (fits : Fits wide s t m)
      (octets : List ℕ) (spelled : octets ≡ spelling s m) (sent sent_new : List Update) (sends : sent_new ≡ sent ++ updates_of m) (got : List (Update × PathInfo)) where
    hearing_says : (from : Stage) (held rest : List ℕ) → IsHearing wide s t from held rest old sent got → IsHearing wide s t from held (rest ++ octets) new sent_new got
    hearing_says from held rest h =
        let c = h.coming in
        let says = may h.last h.ends in
        record {
          waits = h.waits;
          last = says.behind;
          ends = says.ends;
          coming = record {
            pending = c.pending ++ m ∷ [];
            spelled =
                sym (append_assoc held rest octets)
                ∙ ap (λ (l : List ℕ). l ++ octets) c.spelled
                ∙ ap (λ (l : List ℕ). spellings s c.pending ++ l) spelled
                ∙ sym (spellings_more s c.pending m);
            follows = follows_more (Some from) c.pending m h.last says.behind c.follows says.is_next;
            fit = all_push (Fits wide s t) c.pending m c.fit fits;
            front = c.front;
            got_so = c.got_so;
            sent_so =
                sends
                ∙ ap (λ (l : List Update). l ++ updates_of m) c.sent_so
                ∙ append_assoc c.front (updates_in c.pending) (updates_of m)
                ∙ ap (λ (l : List Update). c.front ++ l) (sym (updates_more c.pending m));
          };
        }

    hearing_flies : (from : Stage) (held hand flight : List ℕ) (left : Bool) → left ≡ false → IsHearing wide s t from held (hand ++ flight) old sent got
        → IsHearing wide s t from held (hand ++ flying left flight octets) new sent_new got
    hearing_flies from held hand flight true is h = absurd (let not : true ≡ false = is in cc)
    hearing_flies from held hand flight false is h =
        subst (λ (rest : List ℕ). IsHearing wide s t from held rest new sent_new got) (append_assoc hand flight octets) (hearing_says from held (hand ++ flight) h)

    deaf_flies : (held flight : List ℕ) (left : Bool) → left ≡ true → IsDeaf wide held flight sent got → IsDeaf wide held (flying left flight octets) sent_new got
    deaf_flies held flight false is d = absurd (let not : false ≡ true = is in cc)
    deaf_flies held flight true is d = record {
      holds_none = d.holds_none;
      none_flies = d.none_flies;
      hears = record {
        front = d.hears.front;
        later = d.hears.later ++ updates_of m;
        in_order = sends ∙ ap (λ (l : List Update). l ++ updates_of m) d.hears.in_order ∙ append_assoc d.hears.front d.hears.later (updates_of m);
        hears = d.hears.hears;
      };
    }

    pub sender_says : (hearer : State) (held hand flight : List ℕ) (left : Bool) → left ≡ not (listens hearer) → Goes wide s t hearer held hand flight old sent got
        → Goes wide s t hearer held hand (flying left flight octets) new sent_new got
    sender_says State.OpenSent held hand flight left is g = hearing_flies WantsOpen held hand flight left is g
    sender_says State.OpenConfirm held hand flight left is g = hearing_flies WantsKeepalive held hand flight left is g
    sender_says State.Established held hand flight left is g = hearing_flies Runs held hand flight left is g
    sender_says State.Idle held hand flight left is g = deaf_flies held flight left is g
    sender_says State.Connect held hand flight left is g = deaf_flies held flight left is g
    sender_says State.Active held hand flight left is g = deaf_flies held flight left is g
