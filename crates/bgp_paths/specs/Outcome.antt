-- The outcome of an UPDATE whose routes have path identifiers (RFC 7911): that of the UPDATE without them. Where the data of its NOTIFICATION are an
-- attribute with routes, they are that which was received.
use Rattle.std.specs.Prelude.{List, ℕ}
use Rattle.bgp_frame.specs.declared.kind.Kind.TheVariants as kind
use Rattle.bgp_open.specs.declared.context.Context.{Context}
use Rattle.bgp_update.specs.Prelude.{parts_of}
use Rattle.bgp_msg.specs.Prelude.{out_of}
use Rattle.bgp_msg.specs.declared.outcome.Outcome.{Outcome}
use Rattle.bgp_msg.specs.declared.outcome.Outcome.TheVariants as outcome
use Rattle.bgp_paths.specs.declared.families.PathFamilies.{PathFamilies}
use Rattle.bgp_paths.specs.Places.{data_in}
use Rattle.bgp_paths.specs.Plain.{plain_body}

abbrev pub as_received : List ℕ → Outcome → Outcome
as_received body (outcome.Took m notes) = outcome.Took m notes
as_received body (outcome.Withdraw routes notes) = outcome.Withdraw routes notes
as_received body (outcome.Reset n) =
    outcome.Reset (record { code = n.code; subcode = n.subcode; info = record { items = data_in (parts_of body) n.info.items } })

abbrev pub outcome_with : Context → PathFamilies → List ℕ → Outcome
outcome_with ctx f body = as_received body (out_of ctx (record { kind = kind.Update; body = plain_body f body }))
