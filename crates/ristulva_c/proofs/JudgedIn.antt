-- A message of RFC 4271 is judged by terms as in their context.
use Rattle.ristulva_c.proofs.Below.{ℕ, ◌≤◌, List, length, take, AreOctets, Kind}
use denote.Ref.{Bor}
use Rattle.bgp_frame.specs.declared.kind.WideKind.{WideKind}
use Rattle.bgp_frame.specs.declared.kind.WideKind.TheVariants as wide
use Rattle.bgp_frame.specs.declared.step.Step.TheVariants as step
use Rattle.bgp_frame.specs.Prelude.{IsFrameIn, IsLength, IsLengthIn}
use Rattle.bgp_terms.specs.declared.refreshes.Refreshes.{Refreshes}
use Rattle.bgp_terms.specs.Prelude.{Agreed}
use Rattle.bgp_wide.specs.Prelude.{is_offered, types_in}
use Rattle.bgp_wide.proofs.Bases.{allowed_in, base_frame}
use Rattle.ristulva_c.specs.Judge.{Judging}
use Rattle.ristulva_c.specs.JudgeIn.{JudgesFrame}
use Rattle.ristulva_c.specs.steps.JudgeIn.{FrameAnswers, types_for}
use Rattle.ristulva_c.proofs.PartPlaces.{lie}

pub allowed : (accepted : Refreshes) (kind : Kind) (n : ℕ) → IsLengthIn (types_for accepted) (wide.Base kind) n → IsLength kind n
allowed accepted kind n fits = allowed_in (is_offered accepted) kind n fits

pub judges : (t : Agreed) (octets : List ℕ) (kind : WideKind) (len : ℕ) (body : Bor (List ℕ)) (j : Judging) → AreOctets octets
    → (len ≤ length octets) × IsFrameIn (types_in t) (record { kind = kind; body = body.now }) (take len octets)
    → FrameAnswers t.context t.refresh kind len body j → JudgesFrame t octets kind len body.now j
judges t octets (wide.Base kind) len body j are shows answers =
    let frame = base_frame (is_offered t.refresh) kind body.now (take len octets) shows.1 in
    record {
      found = step.Frame (record { kind = kind; body = body; len = len });
      shows = (shows.0, frame);
      answers = answers;
      lie = λ p is. lie octets len (record { kind = kind; body = body.now }) p are frame is;
    }
judges t octets wide.Refresh len body j are shows answers = answers
