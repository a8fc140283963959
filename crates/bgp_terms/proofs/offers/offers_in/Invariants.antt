use Rattle.std.proofs.Common.{◌≡◌}
use Rattle.bgp_open.specs.Prelude.{capabilities_left, open_value, said_by, said_of}
use Rattle.bgp_terms.specs.Prelude.{offered_by, offered_in, offering_more}
use Rattle.bgp_terms.proofs.offers.offers_in.Given as goal

-- the speaker's own parameters don't change; with what is left, all is collected
abbrev pub invariant-loop-capability : goal.invariant-loop-capability
invariant-loop-capability l =
    (said_of l.offers.peer ≡ said_by (open_value l.view))
    × (offering_more (offered_in l.offers) (capabilities_left l.capability-iterator) ≡ offered_by (open_value l.view).caps)
