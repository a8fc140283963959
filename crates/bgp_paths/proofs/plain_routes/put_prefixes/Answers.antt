use Rattle.bgp_wire.proofs.Std.{ℕ, ◌+◌, ◌≤◌, List, ◌++◌, length, sym, ap, ◌∙◌, append_assoc, arith, rules}
use Rattle.std.proofs.lemmas.List.{length-append}
use Rattle.bgp_wire.proofs.Walks.{shorter}
use Rattle.bgp_prefix.specs.Prelude.{spelling_of}
use Rattle.bgp_paths.specs.Prelude.{IsPathPrefix, PathPrefixValue, one_path_prefix, path_prefix_value, plain_routes}
use Rattle.bgp_paths.proofs.Routes.{IsPathPrefix-reads, routes_first, routes_none}
use Rattle.bgp_paths.proofs.plain_routes.put_prefixes.Goals as goal

pub first_path_prefix-requires : goal.first_path_prefix-requires
first_path_prefix-requires g c = let small = c.requires.width in search rules

pub put_prefix-requires : goal.put_prefix-requires
put_prefix-requires g c =
    let small = c.requires.width in
    let r : PathPrefixValue = path_prefix_value c.in-Some.route in
    let more = routes_first g.row.W c.run.rest.now r c.in-Some.after.now c.in-Some.ensures in
    let fits : length c.run.out + length (spelling_of r.prefix) ≤ 4077 =
    omega (
      arith,
      c.requires.room,
      ap length c.run.invariant,
      length-append c.run.out (plain_routes g.row.W c.run.rest.now),
      length-append c.args.out.now (plain_routes g.row.W c.args.octets.now),
      ap length more,
      length-append (spelling_of r.prefix) (plain_routes g.row.W c.in-Some.after.now),
    ) in
    search rules

pub run-smaller : goal.run-smaller
run-smaller g c = shorter PathPrefixValue (IsPathPrefix g.row.W) (one_path_prefix g.row.W) (IsPathPrefix-reads g.row.W) c.run.rest.now _ c.in-Some.after.now c.in-Some.ensures

pub run-preserved : goal.run-preserved
run-preserved g c =
    let r : PathPrefixValue = path_prefix_value c.in-Some.route in
    let more = routes_first g.row.W c.run.rest.now r c.in-Some.after.now c.in-Some.ensures in
    ap (λ (b : List ℕ). b ++ plain_routes g.row.W c.in-Some.after.now) c.put_prefix.ensures
    ∙ append_assoc c.run.out (spelling_of r.prefix) (plain_routes g.row.W c.in-Some.after.now)
    ∙ ap (λ (b : List ℕ). c.run.out ++ b) (sym more) ∙ c.run.invariant

pub put_left_over-requires : goal.put_left_over-requires
put_left_over-requires g c =
    let none = routes_none g.row.W c.run.rest.now c.in_default.ensures in
    omega (arith, c.requires.room, ap length c.run.invariant, length-append c.run.out (plain_routes g.row.W c.run.rest.now), length-append c.args.out.now (plain_routes g.row.W c.args.octets.now), ap length none)

pub returns : goal.returns
returns g c =
    let none = routes_none g.row.W c.run.rest.now c.in_default.ensures in
    c.put_left_over.ensures ∙ ap (λ (b : List ℕ). c.run.out ++ b) (sym none) ∙ c.run.invariant
