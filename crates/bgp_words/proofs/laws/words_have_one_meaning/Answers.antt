use Rattle.bgp_words.proofs.Prelude.{refl, clap_on_literals}
use Rattle.bgp_words.proofs.laws.words_have_one_meaning.Goals as goal

pub returns-clause-show : goal.returns-clause-show
unfolding clap_on_literals
returns-clause-show c = record { without_fault = refl; asked = λ drops. refl; left_out = refl }

pub returns-clause-show_hex : goal.returns-clause-show_hex
unfolding clap_on_literals
returns-clause-show_hex c = record { without_fault = refl; asked = λ drops. refl; left_out = refl }

pub returns-clause-show_json : goal.returns-clause-show_json
unfolding clap_on_literals
returns-clause-show_json c = record { without_fault = refl; asked = λ drops. refl; left_out = refl }

pub returns-clause-check : goal.returns-clause-check
unfolding clap_on_literals
returns-clause-check c = record { without_fault = refl; asked = λ drops. refl; left_out = refl }

pub returns-clause-check_hex : goal.returns-clause-check_hex
unfolding clap_on_literals
returns-clause-check_hex c = record { without_fault = refl; asked = λ drops. refl; left_out = refl }

pub returns-clause-narrow : goal.returns-clause-narrow
unfolding clap_on_literals
returns-clause-narrow c = record { without_fault = refl; asked = λ drops. refl; left_out = refl }

pub returns-clause-narrow_paths : goal.returns-clause-narrow_paths
unfolding clap_on_literals
returns-clause-narrow_paths c = record { without_fault = refl; asked = λ drops. refl; left_out = refl }

pub returns-clause-narrow_all : goal.returns-clause-narrow_all
unfolding clap_on_literals
returns-clause-narrow_all c = record { without_fault = refl; asked = λ drops. refl; left_out = refl }

pub returns-clause-to_hex : goal.returns-clause-to_hex
unfolding clap_on_literals
returns-clause-to_hex c = record { without_fault = refl; asked = λ drops. refl; left_out = refl }

pub returns-clause-from_hex : goal.returns-clause-from_hex
unfolding clap_on_literals
returns-clause-from_hex c = record { without_fault = refl; asked = λ drops. refl; left_out = refl }

pub returns-clause-runs : goal.returns-clause-runs
unfolding clap_on_literals
returns-clause-runs c = record { without_fault = refl; asked = λ drops. refl; left_out = refl }

pub returns-clause-runs_tcp : goal.returns-clause-runs_tcp
unfolding clap_on_literals
returns-clause-runs_tcp c = record { without_fault = refl; asked = λ drops. refl; left_out = refl }

pub returns-clause-show_opens : goal.returns-clause-show_opens
unfolding clap_on_literals
returns-clause-show_opens c = record { without_fault = refl; asked = λ drops. refl; left_out = refl }

pub returns-clause-check_opens : goal.returns-clause-check_opens
unfolding clap_on_literals
returns-clause-check_opens c = record { without_fault = refl; asked = λ drops. refl; left_out = refl }

pub returns-clause-narrow_opens : goal.returns-clause-narrow_opens
unfolding clap_on_literals
returns-clause-narrow_opens c = record { without_fault = refl; asked = λ drops. refl; left_out = refl }

pub returns-clause-no_name : goal.returns-clause-no_name
unfolding clap_on_literals
returns-clause-no_name c = record { without_fault = refl; asked = λ drops. refl; left_out = refl }

pub returns-clause-runs_traced : goal.returns-clause-runs_traced
unfolding clap_on_literals
returns-clause-runs_traced c = record { without_fault = refl; asked = λ drops. refl; left_out = refl }

pub returns-clause-runs_both : goal.returns-clause-runs_both
unfolding clap_on_literals
returns-clause-runs_both c = record { without_fault = refl; asked = λ drops. refl; left_out = refl }

pub returns-clause-clean : goal.returns-clause-clean
unfolding clap_on_literals
returns-clause-clean c = record { without_fault = refl; asked = λ drops. refl; left_out = refl }

pub returns-clause-clean_all : goal.returns-clause-clean_all
unfolding clap_on_literals
returns-clause-clean_all c = record { without_fault = refl; asked = λ drops. refl; left_out = refl }

pub returns-clause-clean_opens : goal.returns-clause-clean_opens
unfolding clap_on_literals
returns-clause-clean_opens c = record { without_fault = refl; asked = λ drops. refl; left_out = refl }

pub returns-clause-clean_types : goal.returns-clause-clean_types
unfolding clap_on_literals
returns-clause-clean_types c = record { without_fault = refl; asked = λ drops. refl; left_out = refl }

pub returns-clause-clean_again : goal.returns-clause-clean_again
unfolding clap_on_literals
returns-clause-clean_again c = record { without_fault = refl; asked = λ drops. refl; left_out = refl }

pub returns-clause-clean_unknown : goal.returns-clause-clean_unknown
unfolding clap_on_literals
returns-clause-clean_unknown c = record { without_fault = refl; asked = λ drops. refl; left_out = refl }

pub returns-clause-clean_but : goal.returns-clause-clean_but
unfolding clap_on_literals
returns-clause-clean_but c = record { without_fault = refl; asked = λ drops. refl; left_out = refl }

pub returns-clause-show_faults : goal.returns-clause-show_faults
unfolding clap_on_literals
returns-clause-show_faults c = record { without_fault = refl; asked = λ drops. refl; left_out = refl }

pub returns-clause-explain : goal.returns-clause-explain
unfolding clap_on_literals
returns-clause-explain c = record { without_fault = refl; asked = λ drops. refl; left_out = refl }

pub returns-clause-explain_all : goal.returns-clause-explain_all
unfolding clap_on_literals
returns-clause-explain_all c = record { without_fault = refl; asked = λ drops. refl; left_out = refl }

pub returns-clause-explain_json : goal.returns-clause-explain_json
unfolding clap_on_literals
returns-clause-explain_json c = record { without_fault = refl; asked = λ drops. refl; left_out = refl }

pub returns-clause-explain_paths : goal.returns-clause-explain_paths
unfolding clap_on_literals
returns-clause-explain_paths c = record { without_fault = refl; asked = λ drops. refl; left_out = refl }

pub returns-clause-explain_opens : goal.returns-clause-explain_opens
unfolding clap_on_literals
returns-clause-explain_opens c = record { without_fault = refl; asked = λ drops. refl; left_out = refl }

pub returns-clause-show_refresh : goal.returns-clause-show_refresh
unfolding clap_on_literals
returns-clause-show_refresh c = record { without_fault = refl; asked = λ drops. refl; left_out = refl }

pub returns-clause-show_enhanced : goal.returns-clause-show_enhanced
unfolding clap_on_literals
returns-clause-show_enhanced c = record { without_fault = refl; asked = λ drops. refl; left_out = refl }

pub returns-clause-to_hex_refresh : goal.returns-clause-to_hex_refresh
unfolding clap_on_literals
returns-clause-to_hex_refresh c = record { without_fault = refl; asked = λ drops. refl; left_out = refl }

pub returns-clause-show_paths : goal.returns-clause-show_paths
unfolding clap_on_literals
returns-clause-show_paths c = record { without_fault = refl; asked = λ drops. refl; left_out = refl }

pub returns-clause-show_all : goal.returns-clause-show_all
unfolding clap_on_literals
returns-clause-show_all c = record { without_fault = refl; asked = λ drops. refl; left_out = refl }

pub returns-clause-check_paths : goal.returns-clause-check_paths
unfolding clap_on_literals
returns-clause-check_paths c = record { without_fault = refl; asked = λ drops. refl; left_out = refl }

pub returns-clause-check_both : goal.returns-clause-check_both
unfolding clap_on_literals
returns-clause-check_both c = record { without_fault = refl; asked = λ drops. refl; left_out = refl }
