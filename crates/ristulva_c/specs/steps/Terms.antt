-- What the OPEN that octets begin with offers, where there is one.
use Rattle.std.specs.Prelude.{◌≡◌, ℕ, List, Result, Ok, Err}
use Rattle.bgp_frame.specs.Step.{Step}
use Rattle.bgp_frame.specs.Prelude.{ShowsFront}
use Rattle.bgp_open.specs.declared.message.Open.{Open}
use Rattle.bgp_open.specs.Prelude.{said_by, said_of}
use Rattle.bgp_terms.specs.declared.offers.Offers.{Offers}
use Rattle.bgp_terms.specs.Prelude.{offered_by, offered_in}
use Rattle.ristulva_c.specs.Agree.{open_at}

abbrev pub AreOffers : Result Open ℕ → Result Offers ℕ → Type 0
AreOffers (Ok o) (Ok offers) = (said_of offers.peer ≡ said_by o) × (offered_in offers ≡ offered_by o.caps)
AreOffers (Ok o) (Err answer) = ⊥
AreOffers (Err why) (Ok offers) = ⊥
AreOffers (Err why) (Err answer) = answer ≡ why

pub record AreOffersAt (octets : List ℕ) (offers : Result Offers ℕ) : Type 0 where
  pub found : Step
  pub shows : ShowsFront octets found
  pub are : AreOffers (open_at found) offers
