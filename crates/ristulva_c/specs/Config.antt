-- The settings of a speaker, in C's form.
use Rattle.bgp_open.specs.Prelude.{Settings}
use Rattle.ristulva_c.specs.declared.config.SpeakerConfig.{SpeakerConfig}
use Rattle.ristulva_c.specs.Context.{is_set}

abbrev pub settings_of : SpeakerConfig → Settings
settings_of said = record {
  local_as = said.local_as;
  peer_as = said.peer_as;
  id = said.id;
  hold = said.hold;
  as4 = is_set said.as4;
  ip4 = is_set said.ip4;
  ip6 = is_set said.ip6;
}
