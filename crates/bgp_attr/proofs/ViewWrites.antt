-- Values written as an iterator returns them.
use Rattle.bgp_wire.proofs.Std.{◌≡◌, ℕ, ◌+◌, ◌<◌, List, [], ◌∷◌, ◌++◌, length, refl, sym, ap, ◌∙◌, append_assoc, flat_map, flat_map-cons}
use Rattle.std.proofs.lemmas.List.{append-nil}
use Rattle.bgp_wire.specs.Prelude.{Extends}
use Rattle.bgp_wire.proofs.Rooms.{extends_more, lacks}

-- what is written, and those left, are what was there and all of them
pub record IsWriting {X : Type 0} (octets : X → List ℕ) (all left : List X) (before now : List ℕ) : Type 0 where
  pub whole : now ++ flat_map octets left ≡ before ++ flat_map octets all
  pub begins : Extends before now

module _ {X : Type 0} (octets : X → List ℕ) (all : List X) where
  pub nothing_yet : (before : List ℕ) → IsWriting octets all all before before
  nothing_yet before = record { whole = refl; begins = ([], sym (append-nil before)) }

  module _ (left : List X) (before now : List ℕ) (so_far : IsWriting octets all left before now) where
    pub one_more : (x : X) (later : List X) (new : List ℕ) → left ≡ x ∷ later → new ≡ now ++ octets x → IsWriting octets all later before new
    one_more x later new are more = record {
      whole = ap (λ (b : List ℕ). b ++ flat_map octets later) more ∙ append_assoc now (octets x) (flat_map octets later)
          ∙ ap (λ (b : List ℕ). now ++ b) (sym (flat_map-cons octets x later) ∙ ap (flat_map octets) (sym are)) ∙ so_far.whole;
      begins = extends_more before now new so_far.begins.0 so_far.begins.1 (octets x, more);
    }

    pub no_more : left ≡ [] → now ≡ before ++ flat_map octets all
    no_more none = sym (append-nil now) ∙ ap (λ (xs : List X). now ++ flat_map octets xs) (sym none) ∙ so_far.whole

    -- where the next has no room, all have none
    pub stopped : (room : ℕ) (x : X) (later : List X) (new : List ℕ) → left ≡ x ∷ later → Extends now new × (room < length now + length (octets x)) → Extends before new × (room < length before + length (flat_map octets all))
    stopped room x later new are p = (
      extends_more before now new so_far.begins.0 so_far.begins.1 p.0,
      lacks room before (flat_map octets all) now (flat_map octets left) (octets x) (flat_map octets later) so_far.whole (ap (flat_map octets) are ∙ flat_map-cons octets x later) p.1,
    )
