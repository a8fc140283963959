-- What the guard reports of received octets.
use Rattle.std.specs.Prelude.{◌≡◌, ◌↔◌, ◌<◌, ℕ, Bool, true, false, List, [], ◌∷◌, ◌++◌, length, take, Option, None, Some, Result, Ok, Err}
use Rattle.std.specs.List.{flat_map}
use Rattle.bgp_frame.specs.declared.fault.HeadFault.{HeadFault}
use Rattle.bgp_frame.specs.declared.kind.WideKind.{WideKind}
use Rattle.bgp_frame.specs.Prelude.{octets_of_in, head_notification, TakesIn, content_of_in}
use Rattle.bgp_frame.specs.declared.notification.Notification.{Notification}
use Rattle.bgp_terms.specs.Prelude.{Agreed}
use Rattle.bgp_clean.specs.Prelude.{WideMessage, canonical_in}
use Rattle.bgp_guard.specs.declared.came.Came.{Came}
use Rattle.bgp_guard.specs.declared.came.Came.TheVariants.{Nothing, HandedOn, Dropped, Answered}
use Rattle.bgp_guard.specs.declared.side.Side.{Side}
use Rattle.bgp_guard.specs.declared.rules.Rules.{Rules}
use Rattle.bgp_guard.specs.Guard.{Framed, Guarding, Sight, types, seen_from, is_silent, listens_in, rules_of}
use Rattle.bgp_guard.specs.Hearing.{terms_in, comes_of, said_as, holding, by_octets}
use Rattle.bgp_guard.specs.Answers.{Answers}

-- the side was answered so
abbrev pub IsAnswered : Notification → Came → Type 0
IsAnswered n (Answered code subcode) = (code ≡ n.code) × (subcode ≡ n.subcode)
IsAnswered n _ = ⊥

-- a message of this kind was passed on, and whether the octets are those received
abbrev pub IsHandedOn : WideKind → List ℕ → List ℕ → Came → Type 0
IsHandedOn k octets passed (HandedOn kind same) = (kind ≡ k) × ((same ≡ true) ↔ (passed ≡ octets))
IsHandedOn k octets passed _ = ⊥

-- nothing was passed on of a message of this kind
abbrev pub IsDropped : WideKind → Came → Type 0
IsDropped k (Dropped kind) = kind ≡ k
IsDropped k _ = ⊥

-- these messages were passed on instead of it
abbrev pub IsPassedOn : Agreed → WideKind → List ℕ → List WideMessage → Came → Type 0
IsPassedOn terms k octets [] came = IsDropped k came
IsPassedOn terms k octets (n ∷ later) came = IsHandedOn k octets (flat_map (canonical_in terms) (n ∷ later)) came

abbrev pub CameBy : Bool → Sight → Framed → Result (List WideMessage) Answers → Came → Type 0
CameBy silent s m (Ok ns) came = IsPassedOn (terms_in s) m.kind (octets_of_in types m) (said_as silent m.kind ns) came
CameBy silent s m (Err answers) came = IsAnswered answers.this came

-- what is reported of what is held
abbrev pub CameOf : Rules → Bool → Sight → Option (Result Framed HeadFault) → Came → Type 0
CameOf rules silent s None came = came ≡ Nothing
CameOf rules silent s (Some (Ok m)) came = CameBy silent s m (comes_of rules s m) came
CameOf rules silent s (Some (Err fault)) came = IsAnswered (head_notification fault) came

abbrev pub CameIn : Rules → Bool → Sight → Came → Type 0
CameIn rules silent s came = CameOf rules silent (holding s []) (content_of_in types s.this.held) came

-- the number of octets of a piece that are consumed: up to the end of a message, and at least one where the side is read
abbrev pub Counts : Bool → List ℕ → List ℕ → ℕ → Type 0
Counts true held piece n = TakesIn types held piece n × (0 < length piece → 0 < n)
Counts false held piece n = n ≡ 0

abbrev pub CameFrom : Bool → Rules → Bool → Sight → List ℕ → Came → Type 0
CameFrom true rules silent s octets came = CameIn rules silent (holding s (s.this.held ++ octets)) came
CameFrom false rules silent s octets came = came ≡ Nothing

-- n octets of a piece are consumed, one after another, with this result
pub record IsHeardBy (rules : Rules) (silent : Bool) (old : Sight) (piece : List ℕ) (n : ℕ) (came : Came) (new : Sight) : Type 0 where
  pub count : Counts (listens_in old) old.this.held piece n
  pub after : new ≡ by_octets rules silent old (take n piece)
  pub told : CameFrom (listens_in old) rules silent old (take n piece) came

-- for a side of the guard
abbrev pub IsHeard : Side → Guarding → List ℕ → ℕ → Came → Guarding → Type 0
IsHeard side old piece n came new =
    IsHeardBy (rules_of side old.rules) (is_silent side old.rules) (seen_from side old) piece n came (seen_from side new) × (new.rules ≡ old.rules)
