use Rattle.bgp_words.proofs.Prelude.{refl, clap_on_literals}
use Rattle.bgp_words.proofs.laws.words_can_be_wrong.Goals as goal

pub returns-clause-nothing : goal.returns-clause-nothing
unfolding clap_on_literals
returns-clause-nothing c = refl

pub returns-clause-help : goal.returns-clause-help
unfolding clap_on_literals
returns-clause-help c = refl

pub returns-clause-version : goal.returns-clause-version
unfolding clap_on_literals
returns-clause-version c = refl

pub returns-clause-no_flag : goal.returns-clause-no_flag
unfolding clap_on_literals
returns-clause-no_flag c = refl

pub returns-clause-no_json : goal.returns-clause-no_json
unfolding clap_on_literals
returns-clause-no_json c = refl

pub returns-clause-no_file : goal.returns-clause-no_file
unfolding clap_on_literals
returns-clause-no_file c = refl

pub returns-clause-both : goal.returns-clause-both
unfolding clap_on_literals
returns-clause-both c = refl

pub returns-clause-both_narrow : goal.returns-clause-both_narrow
unfolding clap_on_literals
returns-clause-both_narrow c = refl

pub returns-clause-no_value : goal.returns-clause-no_value
unfolding clap_on_literals
returns-clause-no_value c = refl

pub returns-clause-both_clean : goal.returns-clause-both_clean
unfolding clap_on_literals
returns-clause-both_clean c = refl

pub returns-clause-no_drop : goal.returns-clause-no_drop
unfolding clap_on_literals
returns-clause-no_drop c = refl

pub returns-clause-drop_twice : goal.returns-clause-drop_twice
unfolding clap_on_literals
returns-clause-drop_twice c = refl

pub returns-clause-pass_alone : goal.returns-clause-pass_alone
unfolding clap_on_literals
returns-clause-pass_alone c = refl

pub returns-clause-no_list : goal.returns-clause-no_list
unfolding clap_on_literals
returns-clause-no_list c = refl

pub returns-clause-empty : goal.returns-clause-empty
unfolding clap_on_literals
returns-clause-empty c = refl

pub returns-clause-no_number : goal.returns-clause-no_number
unfolding clap_on_literals
returns-clause-no_number c = refl

pub returns-clause-sign : goal.returns-clause-sign
unfolding clap_on_literals
returns-clause-sign c = refl

pub returns-clause-space : goal.returns-clause-space
unfolding clap_on_literals
returns-clause-space c = refl

pub returns-clause-too_large : goal.returns-clause-too_large
unfolding clap_on_literals
returns-clause-too_large c = refl

pub returns-clause-empty_word : goal.returns-clause-empty_word
unfolding clap_on_literals
returns-clause-empty_word c = refl

pub returns-clause-recognised : goal.returns-clause-recognised
unfolding clap_on_literals
returns-clause-recognised c = refl

pub returns-clause-pass_recognised : goal.returns-clause-pass_recognised
unfolding clap_on_literals
returns-clause-pass_recognised c = refl

pub returns-clause-both_explain : goal.returns-clause-both_explain
unfolding clap_on_literals
returns-clause-both_explain c = refl

pub returns-clause-both_refresh : goal.returns-clause-both_refresh
unfolding clap_on_literals
returns-clause-both_refresh c = refl

pub returns-clause-both_enhanced : goal.returns-clause-both_enhanced
unfolding clap_on_literals
returns-clause-both_enhanced c = refl

pub returns-clause-no_enhanced : goal.returns-clause-no_enhanced
unfolding clap_on_literals
returns-clause-no_enhanced c = refl

pub returns-clause-both_paths : goal.returns-clause-both_paths
unfolding clap_on_literals
returns-clause-both_paths c = refl

pub returns-clause-both_bad : goal.returns-clause-both_bad
unfolding clap_on_literals
returns-clause-both_bad c = refl

pub returns-clause-paths_twice : goal.returns-clause-paths_twice
unfolding clap_on_literals
returns-clause-paths_twice c = refl

pub returns-clause-no_families : goal.returns-clause-no_families
unfolding clap_on_literals
returns-clause-no_families c = refl

pub returns-clause-empty_families : goal.returns-clause-empty_families
unfolding clap_on_literals
returns-clause-empty_families c = refl

pub returns-clause-no_family : goal.returns-clause-no_family
unfolding clap_on_literals
returns-clause-no_family c = refl

pub returns-clause-family_twice : goal.returns-clause-family_twice
unfolding clap_on_literals
returns-clause-family_twice c = refl

pub returns-clause-families_apart : goal.returns-clause-families_apart
unfolding clap_on_literals
returns-clause-families_apart c = refl

pub returns-clause-paths_clean : goal.returns-clause-paths_clean
unfolding clap_on_literals
returns-clause-paths_clean c = refl

pub returns-clause-paths_to_hex : goal.returns-clause-paths_to_hex
unfolding clap_on_literals
returns-clause-paths_to_hex c = refl
