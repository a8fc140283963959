-- What a handle owns is the same for every thread.
use denote.Param.Send.{IsSend}
use Rattle.bgp_wide.specs.contracts.decoder.WideDecoder.{the_row as Body}
use Rattle.bgp_wide.proofs.decoder.WideDecoder.TheSendSync.{the_send}
use Rattle.ristulva_c.proofs.Handles.{owned_keyless}
use Rattle.ristulva_c.specs.contracts.handle.StreamHandle.{the_row}

pub send : IsSend the_row
send = record { owned = λ d vs. ((λ vss. (tt, (tt, tt))), owned_keyless Body the_send d.body d.value); leaving = λ k d w. tt }
