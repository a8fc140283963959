use Rattle.ristulva_c.proofs.Below.{◌≡◌, Option, Some, sym, ap, subst, ◌∙◌, inl}
use Rattle.bgp_wide.specs.Prelude.{Decoding}
use Rattle.ristulva_c.specs.Decoder.{Pulling}
use Rattle.ristulva_c.specs.Stream.{Pulls}
use Rattle.ristulva_c.proofs.stream.ristulva_stream_pull.Goals as goal

pub returns : goal.returns
returns c =
    let piece = c.args.piece.now in
    let before = c.deref_mut.result.now in
    let after = c.pull-status.new.decoder in
    let call : Option Decoding → Option Decoding → Pulling Decoding = λ old new. record {
      judging = record { status = c.pull-status.result; before = c.args.out.now; behind = c.pull-status.new.out; info_before = c.args.info.now; info_behind = c.pull-status.new.info };
      old = old;
      new = new;
      message_before = c.args.message.now;
      message_behind = c.pull-status.new.message;
      taken_before = c.args.taken.now;
      taken_behind = c.pull-status.new.taken;
    } in
    let held : Some before ≡ c.args.stream.now.value = ap (λ (d : Decoding). Some d) c.deref_mut.ensures.value ∙ c.in-Some.ensures.stream in
    let told : Pulls (Some before) piece (call (Some before) (Some after)) = c.pull-status.ensures in
    inl (
      c.if-message-lt-MESSAGE_MAX.false,
      (
        c.if-info-lt-INFO_MAX.false,
        subst (λ (n : Option Decoding). Pulls c.args.stream.now.value piece (call c.args.stream.now.value n)) (sym c.put.ensures)
            (subst (λ (o : Option Decoding). Pulls o piece (call o (Some after))) held told),
      ),
    )
