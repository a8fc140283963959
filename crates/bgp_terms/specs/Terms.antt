-- What two speakers agree on for one direction of their session: a context, and what goes beyond it, by the OPENs of the reader and the sender.
use Rattle.std.specs.Prelude.{Bool, false, ◌&&◌, List, [], if◌then◌else◌}
use Rattle.bgp_open.specs.declared.context.Context.{Context}
use Rattle.bgp_terms.specs.declared.family.Family.{Family}
use Rattle.bgp_terms.specs.declared.member.Member.{Member}
use Rattle.bgp_terms.specs.declared.member.Member.TheVariants as member
use Rattle.bgp_open.specs.declared.message.Open.{Open}
use Rattle.bgp_terms.specs.declared.refreshes.Refreshes.{Refreshes}
use Rattle.bgp_terms.specs.declared.refreshes.Refreshes.TheVariants as refreshes
use Rattle.bgp_terms.specs.declared.wide_terms.WideTerms.{WideTerms}
use Rattle.bgp_open.specs.Agreed.{agreed_context, agreed_with}
use Rattle.bgp_terms.specs.Families.{families_in, shared_families}
use Rattle.bgp_terms.specs.Offers.{Offered, offered_by}
use Rattle.bgp_open.specs.Peer.{Said, said_by}

-- what both offer; ROUTE-REFRESH (RFC 2918; RFC 7313); whether messages to the reader, and NOTIFICATIONs to the sender, may pass 4096 octets (RFC
-- 8654); whether IPv4 and IPv6 unicast routes have path identifiers (RFC 7911); whether IPv4 routes may have an IPv6 next hop (RFC 8950); the
-- families beyond these two that both offer (RFC 4760); and whether both are in one confederation (RFC 5065)
pub record Agreed : Type 0 where
  pub context : Context
  pub refresh : Refreshes
  pub long : Bool
  pub long_back : Bool
  pub paths4 : Bool
  pub paths6 : Bool
  pub hop6 : Bool
  pub families : List Family
  pub member : Member

-- nothing beyond the context
abbrev pub plain_terms : Context → Agreed
plain_terms ctx = record {
  context = ctx;
  refresh = refreshes.None;
  long = false;
  long_back = false;
  paths4 = false;
  paths6 = false;
  hop6 = false;
  families = [];
  member = member.None;
}

-- the values of the fields
abbrev pub wide_terms : WideTerms → Agreed
wide_terms w = record {
  context = w.context;
  refresh = w.refresh;
  long = w.long;
  long_back = w.long_back;
  paths4 = w.paths4;
  paths6 = w.paths6;
  hop6 = w.hop6;
  families = families_in w.families;
  member = w.member;
}

-- a speaker that offers ROUTE-REFRESH accepts it; with the demarcation of a refresh where both offer that (RFC 7313, section 3.2)
abbrev pub refreshes_of : Bool → Bool → Refreshes
refreshes_of refresh enhanced = if refresh then (if enhanced then refreshes.Enhanced else refreshes.Plain) else refreshes.None

-- what the reader accepts from the sender, by the OPEN parameters and offers of both
abbrev pub terms_with : Said → Offered → Said → Offered → Agreed
terms_with reader reads sender sends = record {
  context = agreed_with reader sender;
  refresh = refreshes_of reads.refresh (reads.enhanced && sends.enhanced);
  long = reads.long;
  long_back = sends.long;
  paths4 = sends.sends4 && reads.reads4;
  paths6 = sends.sends6 && reads.reads6;
  hop6 = reads.hop6;
  families = shared_families reads.families sends.families;
  member = member.None;
}

-- the same, by the OPENs of both
abbrev pub terms_of : Open → Open → Agreed
terms_of reader sender = terms_with (said_by reader) (offered_by reader.caps) (said_by sender) (offered_by sender.caps)

-- what a speaker finds for what it sends, in the context that it finds itself
abbrev pub terms_sent : Open → Open → Agreed
terms_sent ours theirs = record (terms_of theirs ours) { context = agreed_context ours theirs }
