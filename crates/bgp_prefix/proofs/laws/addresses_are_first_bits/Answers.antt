use Rattle.bgp_prefix.proofs.LawLemmas.{kept_bits, only_bits}
use Rattle.bgp_prefix.proofs.laws.addresses_are_first_bits.Goals as goal

pub returns : goal.returns
returns c = record { kept = kept_bits; only = only_bits }
