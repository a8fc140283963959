-- Steps of the proof that pulling a piece does, and shows, what its octets do one by one. Only private functions cite them.
use Rattle.std.specs.Prelude.{◌≡◌, ◌<◌, ◌≤◌, ℕ, List, ◌++◌, length, drop, Option, None, Some}
use Rattle.bgp_machine.specs.Prelude.{IsAtRest, settled, IsReady, left_to_do, weight, Machine}
use Rattle.bgp_session.specs.declared.side.Side.{Side}
use Rattle.bgp_session.specs.Pair.{with_session, Pair, pair, all_acted}
use Rattle.bgp_session.specs.Sight.{Sight, observed, settled_seen, octets_seen}

abbrev pub with_machine : Pair → Machine → Pair
with_machine p x = pair (with_session p.this x) p.other p.notes

-- the pair once all that is done
abbrev pub fed_on : Side → Pair → List ℕ → Pair
fed_on side p rest = all_acted side (with_machine p (left_to_do p.this.session rest).session) (left_to_do p.this.session rest).actions

-- a pull did something, and the rest of the piece remains
pub record FeedsOn (side : Side) (p : Pair) (piece : List ℕ) (n : ℕ) (q : Pair) : Type 0 where
  pub within : n ≤ length piece
  pub lighter : weight q.this.session (drop n piece) < weight p.this.session piece
  pub ready : IsReady q.this.session
  pub goes_on : fed_on side p piece ≡ fed_on side q (drop n piece)

abbrev pub Feeds : Side → Pair → List ℕ → Pair → Option ℕ → Type 0
Feeds side p piece q None = (fed_on side p piece ≡ q) × IsAtRest q.this.session
Feeds side p piece q (Some n) = FeedsOn side p piece n q

-- ---- what a pull shows, with what is held judged first

abbrev pub left_seen : Side → Machine → List ℕ → List Sight
left_seen side x rest = settled_seen side x ++ octets_seen side (settled x).session rest

-- between two pulls, the observer got its reports of what was consumed
abbrev pub SeesPull : {S : Type 0} → (S → Sight → S) → S → S → Side → Machine → Machine → List ℕ → Option ℕ → Type 0
SeesPull after s t side x y piece None = observed after s (left_seen side x piece) ≡ t
SeesPull after s t side x y piece (Some n) = observed after s (left_seen side x piece) ≡ observed after t (left_seen side y (drop n piece))
