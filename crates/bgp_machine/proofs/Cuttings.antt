-- A session is a receiver of octets: pulls, looks and feeds are ways to receive them, and events leave it at rest.
use Rattle.bgp_machine.proofs.Prelude.{◌≡◌, ℕ, Bool, true, false, List, [], Option, Some, None, refl, sym, subst, Settings, Action, Event, IsAtRest, by_look}
use Rattle.bgp_machine.proofs.Prelude.{by_pull, Machine, fresh, kept, after_event, hearer, Standing, listens, happens, IsFedAndJudged, IsHearer, IsWay}
use Rattle.bgp_machine.proofs.Prelude.{not_both, waits_at, rests_ready, rests_empty, pull_is_way}
use Rattle.bgp_frame.proofs.Hearings as hearings
use Rattle.bgp_frame.specs.Kind.{plain}
use Rattle.bgp_frame.specs.steps.AreTypes.{plain-are}

pub is_hearer : IsHearer hearer
is_hearer = record {
  types = plain-are;
  held_so = λ x held. refl;
  held_same = λ x. refl;
  held_last = λ x a b. refl;
  listens_so = λ x held. refl;
  emptied = λ x step. refl;
}

pub pulls_as_fed : (x : Machine) (piece : List ℕ) (n : ℕ) (found : Option (List Action)) (y : Machine) → by_pull x piece n found y → IsFedAndJudged hearer x piece n found y
pulls_as_fed = hearings.pulls_as_fed hearer is_hearer

-- ---- looks

pub looks_pull : (x : Machine) (piece : List ℕ) (n : ℕ) (found : Option (List Action)) (y : Machine) → by_look x piece n found y → by_pull x piece n found y
looks_pull x piece n None y l = l.finds n y l.feeds
looks_pull x piece n (Some actions) y l =
    subst (λ (k : ℕ). by_pull x piece k (Some actions) y) (sym l.takes)
    (subst (λ (m : Machine). by_pull x piece l.looked.taken (Some actions) m) (sym l.goes) (l.finds.pulls (record { items = actions }) l.does))

pub look_is_way : IsWay hearer is_hearer by_look
look_is_way = record {
  heard = λ x piece n found y l. (pull_is_way hearer is_hearer).heard x piece n found y (looks_pull x piece n found y l);
  ends = λ x piece y ready l. (pull_is_way hearer is_hearer).ends x piece y ready (looks_pull x piece 0 None y l);
}

-- ---- events

pub fresh_rests : (s : Settings) → IsAtRest (fresh s)
fresh_rests s = rests_empty hearer is_hearer (fresh s) refl

kept_rests : (x : Machine) (next : Standing) (up : Bool) → listens next.state ≡ up → IsAtRest x → IsAtRest (record { settings = x.settings; standing = next; held = kept up x.held })
kept_rests x next true is rest =
    rests_ready hearer is_hearer (record { settings = x.settings; standing = next; held = x.held })
    (record { can_hold = rest.can_hold; holds_none = λ deaf. absurd (not_both plain plain-are (listens next.state) is deaf) }) (waits_at hearer is_hearer x rest.nothing_to_do)
kept_rests x next false is rest = rests_empty hearer is_hearer (record { settings = x.settings; standing = next; held = [] }) refl

pub event_rests : (x : Machine) (event : Event) → IsAtRest x → IsAtRest (after_event x event)
event_rests x event rest = kept_rests x (happens x.standing event).next (listens (happens x.standing event).next.state) refl rest
