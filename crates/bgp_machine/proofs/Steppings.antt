-- Steps after a feed, until one gives nothing, do what one step does.
use Rattle.bgp_machine.proofs.Prelude.{◌≡◌, ℕ, zero, suc, List, [], ◌∷◌, ◌++◌, drop, Option, Some, None, refl, sym, ap, subst, ◌∙◌, Action}
use Rattle.bgp_machine.proofs.Prelude.{Machine, hearer, StepsUntilNone, by_steps, by_one_step, Calls, IsReady, Judges, Run, Runs, Way, IsWay, SomeCall}
use Rattle.bgp_machine.proofs.Prelude.{content_stops, not_whole, judged_empty, empty_waits, feed_is_way, can_feed}
use Rattle.std.proofs.lemmas.List.{append-nil}
use Rattle.bgp_wire.specs.Prelude.{AreOctets}
use Rattle.bgp_machine.proofs.Cuttings.{is_hearer}
use Rattle.bgp_frame.specs.Kind.{plain}
use Rattle.bgp_frame.specs.steps.AreTypes.{plain-are}

-- of two steps the second gives nothing, since the first leaves nothing held
pub one_gives : (n : ℕ) (x : Machine) (actions : List Action) (y : Machine) → StepsUntilNone (suc n) x actions y → Judges hearer x actions y
one_gives zero x actions y s =
    let all : actions ≡ s.first = s.in_order ∙ ap (λ (rest : List Action). s.first ++ rest) s.goes_on.1 ∙ append-nil s.first in
    subst (λ (acts : List Action). Judges hearer x acts y) (sym all) (subst (λ (m : Machine). Judges hearer x s.first m) (sym s.goes_on.0.1) s.gives)
one_gives (suc n) x actions y s =
    let none : s.between.held ≡ [] = judged_empty hearer is_hearer x s.first s.between s.gives in
    let second = s.goes_on.gives in
    absurd (not_whole plain plain-are s.between.held (empty_waits hearer is_hearer s.between none) (content_stops plain plain-are second.what s.between.held second.is_held))

pub to_one : (x : Machine) (piece : List ℕ) (n : ℕ) (found : Option (List Action)) (y : Machine) → by_steps x piece n found y → by_one_step x piece n found y
to_one x piece n None y s = (s.0, s.1.0)
to_one x piece n (Some actions) y s = (s.0, one_gives s.1.0 _ actions y s.1.1)

pub from_one : (x : Machine) (piece : List ℕ) (n : ℕ) (found : Option (List Action)) (y : Machine) → by_one_step x piece n found y → by_steps x piece n found y
from_one x piece n None y s = (s.0, (s.1, refl))
from_one x piece n (Some actions) y s =
    let waits = empty_waits hearer is_hearer y (judged_empty hearer is_hearer _ actions y s.1) in
    (s.0, (0, record { first = actions; between = y; gives = s.1; rest = []; goes_on = ((waits, refl), refl); in_order = sym (append-nil actions) }))

-- ---- call after call

module _ (one other : Way Machine Action) (so : (x : Machine) (piece : List ℕ) (n : ℕ) (found : Option (List Action)) (y : Machine) → one x piece n found y → other x piece n found y) where
  calls_as : (calls : ℕ) (piece : List ℕ) (x : Machine) (actions : List Action) (y : Machine) → Calls one calls piece x actions y → Calls other calls piece x actions y
  calls_as zero piece x actions y c = (so x piece 0 None y c.0, c.1)
  calls_as (suc n) piece x actions y c = record {
    count = c.count;
    found = c.found;
    between = c.between;
    call = so x piece c.count c.found c.between c.call;
    rest = c.rest;
    goes_on = calls_as n (drop c.count piece) c.between c.rest y c.goes_on;
    in_order = c.in_order;
  }

  pub runs_as : (x : Machine) (runs : List Run) (actions : List Action) (y : Machine) → Runs one runs x actions y → Runs other runs x actions y
  runs_as x [] actions y r = r
  runs_as x (run ∷ later) actions y r = record {
    first = r.first;
    between = r.between;
    calls = calls_as run.calls run.octets x r.first r.between r.calls;
    rest = r.rest;
    goes_on = runs_as r.between later r.rest y r.goes_on;
    in_order = r.in_order;
  }

-- ---- a way to receive

pub steps_are_way : IsWay hearer is_hearer by_steps
steps_are_way = record {
  heard = λ x piece n found y s. (feed_is_way hearer is_hearer).heard x piece n found y (to_one x piece n found y s);
  ends = λ x piece y ready s. (feed_is_way hearer is_hearer).ends x piece y ready (to_one x piece 0 None y s);
}

pub can_step : (x : Machine) (piece : List ℕ) → IsReady hearer x → AreOctets piece → SomeCall hearer is_hearer by_steps x piece
can_step x piece ready octets =
    let c = can_feed hearer is_hearer x piece ready octets in
    record { count = c.count; found = c.found; session = c.session; call = from_one x piece c.count c.found c.session c.call }
