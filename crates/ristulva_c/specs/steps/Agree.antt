-- What the OPEN that octets begin with says of its speaker, where there is one.
use Rattle.std.specs.Prelude.{◌≡◌, ℕ, List, Result, Ok, Err}
use Rattle.bgp_frame.specs.Step.{Step}
use Rattle.bgp_frame.specs.Prelude.{ShowsFront}
use Rattle.bgp_open.specs.declared.message.Open.{Open}
use Rattle.bgp_open.specs.Prelude.{said_by, said_of}
use Rattle.bgp_open.specs.declared.peer.Peer.{Peer}
use Rattle.ristulva_c.specs.Agree.{open_at}

abbrev pub IsPeer : Result Open ℕ → Result Peer ℕ → Type 0
IsPeer (Ok o) (Ok peer) = said_of peer ≡ said_by o
IsPeer (Ok o) (Err answer) = ⊥
IsPeer (Err why) (Ok peer) = ⊥
IsPeer (Err why) (Err answer) = answer ≡ why

pub record IsPeerAt (octets : List ℕ) (peer : Result Peer ℕ) : Type 0 where
  pub found : Step
  pub shows : ShowsFront octets found
  pub is : IsPeer (open_at found) peer
