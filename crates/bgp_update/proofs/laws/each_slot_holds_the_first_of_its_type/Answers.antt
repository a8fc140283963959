use Rattle.bgp_update.proofs.TakenSlots.{slots-hold, others-rise}
use Rattle.bgp_update.proofs.laws.each_slot_holds_the_first_of_its_type.Goals as goal

pub returns : goal.returns
returns c = record { slots = λ ctx p kind octets. slots-hold ctx p octets kind; others = λ ctx p octets. others-rise ctx p octets }
