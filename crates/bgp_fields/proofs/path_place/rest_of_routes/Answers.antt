use Rattle.bgp_fields.proofs.Prelude.{sym, ◌∙◌, arith, all_rest, same_rest, shorter}
use Rattle.bgp_paths.specs.Prelude.{IsPathPrefix, PathPrefixValue, one_path_prefix}
use Rattle.bgp_paths.proofs.Routes.{IsPathPrefix-reads}
use Rattle.bgp_fields.proofs.path_place.rest_of_routes.Goals as goal

pub run-smaller : goal.run-smaller
run-smaller c = shorter PathPrefixValue (IsPathPrefix 4) (one_path_prefix 4) (IsPathPrefix-reads 4) c.run.rest.now _ c.in-Some.after.now c.in-Some.ensures

pub run-preserved : goal.run-preserved
run-preserved c = (
  same_rest PathPrefixValue (IsPathPrefix 4) (one_path_prefix 4) (IsPathPrefix-reads 4) c.run.rest.now _ c.in-Some.after.now c.in-Some.ensures ∙ c.run.invariant.0,
  omega (arith, c.run.invariant.1, shorter PathPrefixValue (IsPathPrefix 4) (one_path_prefix 4) (IsPathPrefix-reads 4) c.run.rest.now _ c.in-Some.after.now c.in-Some.ensures),
)

pub returns-clause-value : goal.returns-clause-value
returns-clause-value c = sym (all_rest PathPrefixValue (IsPathPrefix 4) (one_path_prefix 4) (IsPathPrefix-reads 4) c.run.rest.now c.in_default.ensures) ∙ c.run.invariant.0
