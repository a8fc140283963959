-- How `clap` judges this command line.
use Rattle.bgp_words.proofs.Prelude.{◌≡◌, true, refl, is_simple, is_simple_and_free, clap_on_literals, bgp_command}

pub bgp_command-is_simple : is_simple bgp_command ≡ true
unfolding clap_on_literals
bgp_command-is_simple = refl

pub bgp_command-is_free : is_simple_and_free bgp_command ≡ true
unfolding clap_on_literals
bgp_command-is_free = refl
