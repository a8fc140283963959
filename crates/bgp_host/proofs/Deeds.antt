-- Actions carried out one after another, and what they required.
use Rattle.bgp_host.proofs.Prelude.{◌≡◌, ℕ, List, [], ◌∷◌, ◌++◌, length, Option, refl, sym, ap, subst, ◌∙◌, append_assoc, arith, flat_map, map-append}
use Rattle.bgp_host.proofs.Prelude.{append-nil, flat_map-append, Action, Link, Call, Grows, ticks_of, notices_of, calls_of, link_of, Deed, all_calls}
use Rattle.bgp_host.proofs.Prelude.{link_behind, Records, Asks, CarriesOut}
use Rattle.bgp_host.proofs.Records.{grows_both, grows_none}

pub calls_both : (own : List ℕ) (link : Link) (a b : List Deed) → all_calls own link (a ++ b) ≡ all_calls own link a ++ all_calls own (link_behind link a) b
calls_both own link [] b = refl
calls_both own link (d ∷ a) b =
    ap (λ (l : List Call). calls_of own link d.action d.answer ++ l) (calls_both own (link_of link d.action d.answer) a b)
    ∙ sym (append_assoc (calls_of own link d.action d.answer) (all_calls own (link_of link d.action d.answer) a) (all_calls own (link_behind (link_of link d.action d.answer) a) b))

pub links_both : (link : Link) (a b : List Deed) → link_behind link (a ++ b) ≡ link_behind (link_behind link a) b
links_both link [] b = refl
links_both link (d ∷ a) b = links_both (link_of link d.action d.answer) a b

-- the result for one more deed is appended to that for the others
grows_flat : {A : Type 0} (f : Deed → List A) (old mid new : Option (List A)) (a : List Deed) (d : Deed)
    → Grows old mid (flat_map f a) → Grows mid new (f d) → Grows old new (flat_map f (a ++ d ∷ []))
grows_flat f old mid new a d first second =
    subst (Grows old new) (sym (flat_map-append f a (d ∷ []) ∙ ap (λ (l : List _). flat_map f a ++ l) (append-nil (f d))))
    (grows_both old mid new (flat_map f a) (f d) first second)

-- no action was carried out so far
pub carried_none : (own : List ℕ) (first : Link) (r : Records) → CarriesOut own first [] r r first
carried_none own first r = record {
  deeds = [];
  in_order = refl;
  asked = grows_none r.calls;
  ticked = grows_none r.ticks;
  noticed = grows_none r.notices;
  became = refl;
}

-- one more action was carried out
pub carried_next : (own : List ℕ) (first : Link) (done : List Action) (action : Action) (old mid new : Records) (link behind : Link)
    → CarriesOut own first done old mid link → Asks own link action mid.calls new.calls behind
    → Grows mid.ticks new.ticks (ticks_of action) → Grows mid.notices new.notices (notices_of action)
    → CarriesOut own first (done ++ action ∷ []) old new behind
carried_next own first done action old mid new link behind so_far asks ticks notices =
    let d : Deed = record { action = action; answer = asks.answer } in
    record {
      deeds = so_far.deeds ++ d ∷ [];
      in_order = map-append (λ (d : Deed). d.action) so_far.deeds (d ∷ []) ∙ ap (λ (l : List Action). l ++ action ∷ []) so_far.in_order;
      asked = subst (Grows old.calls new.calls) (sym (calls_both own first so_far.deeds (d ∷ [])))
          (grows_both old.calls mid.calls new.calls (all_calls own first so_far.deeds) (all_calls own (link_behind first so_far.deeds) (d ∷ [])) so_far.asked
          (subst (λ (l : Link). Grows mid.calls new.calls (all_calls own l (d ∷ []))) so_far.became
          (subst (Grows mid.calls new.calls) (sym (append-nil (calls_of own link action asks.answer))) asks.asked)));
      ticked = grows_flat (λ (d : Deed). ticks_of d.action) old.ticks mid.ticks new.ticks so_far.deeds d so_far.ticked ticks;
      noticed = grows_flat (λ (d : Deed). notices_of d.action) old.notices mid.notices new.notices so_far.deeds d so_far.noticed notices;
      became = asks.became ∙ ap (λ (l : Link). link_of l action asks.answer) so_far.became ∙ sym (links_both first so_far.deeds (d ∷ []));
    }

-- no action is left
pub all_done : (done left all : List Action) → length left ≡ 0 → done ++ left ≡ all → done ≡ all
all_done done [] all none is = sym (append-nil done) ∙ is
all_done done (action ∷ left) all none is = let no_list : ⊥ = omega (arith, none) in absurd no_list
