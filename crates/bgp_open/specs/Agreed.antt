-- What the two speakers of a session agree on, by the OPENs of both (RFC 4271, section 4.2; RFC 5492).
use Rattle.std.specs.Prelude.{Bool, not, ◌&&◌, ◌||◌, ◌==◌, min, is_some, if◌then◌else◌}
use Rattle.bgp_numbers.specs.declared.TheConstants.{AS_TRANS}
use Rattle.bgp_open.specs.declared.context.Context.{Context}
use Rattle.bgp_open.specs.declared.message.Open.{Open}
use Rattle.bgp_open.specs.Peer.{Said, number_of, said_by}

-- Both are in one AS. Where one alone has AS numbers of four octets, the other knows it by its My Autonomous System (RFC 6793, section 4.1): that
-- field is compared then. AS_TRANS in it means a number that needs four octets, and so equals no AS number of two.
abbrev pub is_one_as : Said → Said → Bool
is_one_as ours theirs =
    if is_some ours.as4 && is_some theirs.as4 then number_of ours == number_of theirs else
    (ours.as_field == theirs.as_field) && ((number_of ours == number_of theirs) || not (ours.as_field == AS_TRANS))

-- the context of a session, from the OPEN parameters of both speakers; neither is refused
abbrev pub agreed_with : Said → Said → Context
agreed_with ours theirs = record {
  internal = is_one_as ours theirs;
  as4 = is_some ours.as4 && is_some theirs.as4;
  ip4 = ours.ip4 && theirs.ip4;
  ip6 = ours.ip6 && theirs.ip6;
  hold = min ours.hold theirs.hold;
}

-- the same, by the OPENs of both
abbrev pub agreed_context : Open → Open → Context
agreed_context ours theirs = agreed_with (said_by ours) (said_by theirs)
