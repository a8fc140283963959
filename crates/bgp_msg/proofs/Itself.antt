-- A valid message that fits is accepted as itself.
use Rattle.std.proofs.Common.{◌≡◌, ◌+◌, ◌≤◌, Bool, true, false, cond, length, Option, Some, None, refl, ap, arith}
use Rattle.bgp_frame.specs.Prelude.{IsFrame, IsLength}
use Rattle.bgp_frame.proofs.FrameLemmas.{length-octets_of}
use Rattle.bgp_open.specs.declared.context.Context.{Context}
use Rattle.bgp_open.specs.Written as opens
use Rattle.bgp_open.proofs.Spellings.{good-spells}
use Rattle.bgp_attr.specs.Prelude.{run_octets}
use Rattle.bgp_update.specs.declared.invalid.Invalid.{Invalid}
use Rattle.bgp_update.specs.declared.invalid.Invalid.TheVariants as invalid
use Rattle.bgp_update.specs.Written as updates
use Rattle.bgp_update.proofs.Bodies.{length-body}
use Rattle.bgp_update.proofs.ReadBack.{valid-taken}
use Rattle.bgp_msg.specs.declared.message.Message.{Message}
use Rattle.bgp_msg.specs.Prelude.{of_verdict, kind_of, body_of, written, invalid_of, canonical, HasMessageRanges, IsTakenAsItself}
use Rattle.bgp_msg.specs.declared.message.Message.TheVariants as message
use Rattle.bgp_msg.proofs.Encodings.{open_taken}
use Rattle.bgp_frame.specs.Kind.{plain}
use Rattle.bgp_frame.specs.steps.AreTypes.{plain-are}

abbrev some : Invalid → Option Invalid
some why = Some why

good_by : (t : Bool) → cond t (some invalid.BadOpen) None ≡ None → t ≡ false
good_by true e = absurd cc
good_by false e = refl

module _ (ctx : Context) where
  -- a frame, by the length of its body
  frame_of : (m : Message) → IsLength (kind_of m) (19 + length (body_of ctx m)) → IsFrame (written ctx m) (canonical ctx m)
  frame_of m allowed = record {
    octets = refl;
    allowed = record { least = omega (arith, allowed.least, length-octets_of plain plain-are (written ctx m)); most = omega (arith, allowed.most, length-octets_of plain plain-are (written ctx m)) };
  }

  body_short : (m : Message) → length (canonical ctx m) ≤ 4096 → length (body_of ctx m) ≤ 4077
  body_short m le = omega (arith, length-octets_of plain plain-are (written ctx m))

  pub valid-itself : (m : Message) → HasMessageRanges m → invalid_of ctx m ≡ None → length (canonical ctx m) ≤ 4096 → IsTakenAsItself ctx m
  valid-itself (message.Open o) ranges valid le =
      let spelled = good-spells o ranges (good_by (opens.is_bad o) valid) in
      record {
        whole = frame_of (message.Open o) (record { least = omega (arith, spelled.fixed); most = omega (arith, body_short (message.Open o) le) });
        taken = open_taken o spelled;
      }
  valid-itself (message.Update u) ranges valid le =
      let short = body_short (message.Update u) le in
      let long = length-body (run_octets u.withdrawn) (updates.attributes_octets ctx u.attrs) (run_octets u.nlri) in
      record {
        whole = frame_of (message.Update u) (record { least = omega (arith, long); most = omega (arith, short) });
        taken = ap of_verdict (valid-taken ctx u ranges valid short);
      }
  valid-itself (message.Notification n) ranges valid le = record {
    whole = frame_of (message.Notification n) (record { least = omega arith; most = omega (arith, body_short (message.Notification n) le) });
    taken = refl;
  }
  valid-itself message.Keepalive ranges valid le = record { whole = frame_of message.Keepalive (record { least = omega arith; most = omega arith }); taken = refl }
