-- What a speaker's own OPEN says of its settings.
use Rattle.bgp_engine.proofs.Prelude.{◌≡◌, ◌&&◌, eqb, Ok, eqb-true, Context, agreement, context_of, peer_as_of, same_id}
use Rattle.bgp_engine.proofs.Prelude.{Settings, IsAllowed, own_of, agreed_context}
use Rattle.bgp_open.proofs.Agreements.{accepted, finds_ip4, finds_ip6, has_as4, one_as-own}

-- ---- the peer is the one that is configured

pub agrees_as_found : (a b : Settings) (x : Context) → IsAllowed a → agreement a (own_of b) ≡ Ok x → agreed_context (own_of a) (own_of b) ≡ x
agrees_as_found a b x allowed e =
    let p = accepted (eqb (peer_as_of (own_of b)) a.peer_as) (eqb a.local_as a.peer_as && same_id (own_of b).id a.id) (context_of a (own_of b)) x e in
    rw (one_as-own a b allowed, eqb-true _ _ p.0, has_as4 a.ip4 a.ip6 a.as4 a.local_as, finds_ip4 a.ip4 a.ip6 a.as4 a.local_as, finds_ip6 a.ip4 a.ip6 a.as4 a.local_as) p.1
