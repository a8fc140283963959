use Rattle.bgp_wire.proofs.Std.{◌≡◌, ℕ, ◌+◌, ◌<◌, List, ◌++◌, length, sym, ap, ap₂, ◌∙◌, append_assoc, arith, rules, on_ok_weaker, on_err_weaker, err_from_is_err_and}
use Rattle.std.proofs.lemmas.List.{length-append}
use Rattle.bgp_wire.proofs.Walks.{shorter}
use Rattle.bgp_prefix.specs.Prelude.{IsPrefix, PrefixValue, one_prefix}
use Rattle.bgp_prefix.proofs.PrefixLemmas.{IsPrefix-reads}
use Rattle.bgp_paths.specs.Prelude.{first_or_zero, later_of, numbers_left, route_octets, routes_with}
use Rattle.bgp_paths.proofs.PathRoutes.{with_first, with_none}
use Rattle.bgp_paths.proofs.path_routes.put_each.Goals as goal

pub run-smaller : goal.run-smaller
run-smaller g c =
    let less : length c.in-Some.after.now < length c.run.rest.now = shorter PrefixValue (IsPrefix g.row.W) (one_prefix g.row.W) (IsPrefix-reads g.row.W) c.run.rest.now _ _ c.in-Some.ensures in
    search rules

pub run-preserved : goal.run-preserved
run-preserved g c =
    let w = g.row.W in
    let more = with_first w (numbers_left c.run.left) c.run.rest.now _ c.in-Some.after.now c.in-Some.ensures in
    let told : c.put_route.new.out ≡ c.run.out ++ route_octets c.step.result c.in-Some.prefix = search rules in
    let kept : c.put_route.new.out ++ routes_with w (numbers_left c.step.new.self) c.in-Some.after.now ≡ c.args.out.now ++ routes_with w (numbers_left c.args.numbers) c.args.octets.now =
    ap₂ (λ (b : List ℕ) (ns : List ℕ). b ++ routes_with w ns c.in-Some.after.now) (told ∙ ap (λ (n : ℕ). c.run.out ++ route_octets n c.in-Some.prefix) c.step.ensures.number) c.step.ensures.later
    ∙ append_assoc c.run.out (route_octets (first_or_zero (numbers_left c.run.left)) c.in-Some.prefix) (routes_with w (later_of (numbers_left c.run.left)) c.in-Some.after.now)
    ∙ ap (λ (b : List ℕ). c.run.out ++ b) (sym more) ∙ c.run.invariant in
    search rules

pub returns-in_err-put_route-clause-full : goal.returns-in_err-put_route-clause-full
returns-in_err-put_route-clause-full g c =
    let w = g.row.W in
    let p = err_from_is_err_and c.from_residual.result c.from_residual.ensures.1 in
    let more = with_first w (numbers_left c.run.left) c.run.rest.now _ c.in-Some.after.now c.in-Some.ensures in
    let full : 4077 < length c.run.out + length (route_octets c.step.result c.in-Some.prefix) = search rules in
    let number = ap (λ (n : ℕ). length (route_octets n c.in-Some.prefix)) c.step.ensures.number in
    rw p.1 (omega (
      arith,
      full,
      number,
      ap length more,
      length-append (route_octets (first_or_zero (numbers_left c.run.left)) c.in-Some.prefix) (routes_with w (later_of (numbers_left c.run.left)) c.in-Some.after.now),
      ap length c.run.invariant,
      length-append c.run.out (routes_with w (numbers_left c.run.left) c.run.rest.now),
      length-append c.args.out.now (routes_with w (numbers_left c.args.numbers) c.args.octets.now),
    ))

pub returns-clause-ok : goal.returns-clause-ok
returns-clause-ok g c =
    let none = with_none g.row.W (numbers_left c.run.left) c.run.rest.now c.in_default.ensures in
    on_ok_weaker c.put.result (λ e. e ∙ ap (λ (b : List ℕ). c.run.out ++ b) (sym none) ∙ c.run.invariant) c.put.ensures.ok

pub returns-clause-full : goal.returns-clause-full
returns-clause-full g c =
    let w = g.row.W in
    let none = with_none w (numbers_left c.run.left) c.run.rest.now c.in_default.ensures in
    on_err_weaker c.put.result (λ lt. omega (
      arith,
      lt,
      ap length none,
      ap length c.run.invariant,
      length-append c.run.out (routes_with w (numbers_left c.run.left) c.run.rest.now),
      length-append c.args.out.now (routes_with w (numbers_left c.args.numbers) c.args.octets.now),
    )) c.put.ensures.full
