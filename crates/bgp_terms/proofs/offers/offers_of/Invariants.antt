use Rattle.std.proofs.Common.{◌≡◌, drop}
use Rattle.bgp_open.specs.Prelude.{said_by, said_of}
use Rattle.bgp_terms.specs.Prelude.{offered_by, offered_in, offering_more}
use Rattle.bgp_terms.proofs.offers.offers_of.Given as goal

-- the speaker's own parameters don't change; with what is left, all is collected
abbrev pub invariant-loop-capability : goal.invariant-loop-capability
invariant-loop-capability l =
    (said_of l.offers.peer ≡ said_by l.message) × (offering_more (offered_in l.offers) (drop l.capability-index l.message.caps) ≡ offered_by l.message.caps)
