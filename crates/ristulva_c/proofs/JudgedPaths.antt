-- A message whose routes may have path identifiers is judged by terms.
use Rattle.ristulva_c.proofs.Below.{ℕ, ◌≡◌, ◌≤◌, ◌&&◌, ◌||◌, Bool, true, false, List, length, refl, subst, take, AreOctets}
use denote.Ref.{Bor}
use Rattle.bgp_frame.specs.declared.kind.Kind.TheVariants as kinds
use Rattle.bgp_frame.specs.declared.kind.WideKind.{WideKind}
use Rattle.bgp_frame.specs.declared.kind.WideKind.TheVariants as wide
use Rattle.bgp_frame.specs.Prelude.{IsFrameIn}
use Rattle.bgp_paths.specs.declared.families.PathFamilies.{PathFamilies}
use Rattle.bgp_terms.specs.Prelude.{Agreed}
use Rattle.bgp_wide.specs.Prelude.{is_offered, types_in}
use Rattle.bgp_wide.proofs.Bases.{base_frame}
use Rattle.ristulva_c.specs.Judge.{Judging}
use Rattle.ristulva_c.specs.JudgePaths.{JudgesWith, is_identified}
use Rattle.ristulva_c.specs.Paths.{is_update}
use Rattle.ristulva_c.specs.steps.JudgePaths.{WithPaths}
use Rattle.ristulva_c.proofs.JudgedIn.{judges}
use Rattle.ristulva_c.proofs.PartPlaces.{lie}

-- an UPDATE whose routes have path identifiers, or another message
pub judges_with : (t : Bool) (agreed : Agreed) (f : PathFamilies) (octets : List ℕ) (kind : WideKind) (len : ℕ) (body : Bor (List ℕ)) (j : Judging) → is_identified f kind ≡ t → AreOctets octets
    → (len ≤ length octets) × IsFrameIn (types_in agreed) (record { kind = kind; body = body.now }) (take len octets)
    → WithPaths t agreed.context f agreed.refresh kind len body j → JudgesWith t agreed f octets kind len body.now j
judges_with false agreed f octets kind len body j is are shows answers = judges agreed octets kind len body j are shows answers
judges_with true agreed f octets kind len body j is are shows answers = record {
  told = answers;
  lie = λ p found. lie octets len (record { kind = kinds.Update; body = body.now }) p are (base_frame (is_offered agreed.refresh) kinds.Update body.now (take len octets) (update_frame kind is shows.1)) found;
}
  where
    identified : (t : Bool) (kind : WideKind) → (t && is_update kind) ≡ true → kind ≡ wide.Base kinds.Update
    identified true (wide.Base kinds.Open) e = absurd cc
    identified true (wide.Base kinds.Update) e = refl
    identified true (wide.Base kinds.Notification) e = absurd cc
    identified true (wide.Base kinds.Keepalive) e = absurd cc
    identified true wide.Refresh e = absurd cc
    identified false kind e = absurd cc

    update_frame : (kind : WideKind) → is_identified f kind ≡ true → IsFrameIn (types_in agreed) (record { kind = kind; body = body.now }) (take len octets)
        → IsFrameIn (types_in agreed) (record { kind = wide.Base kinds.Update; body = body.now }) (take len octets)
    update_frame kind is frame = subst (λ (k : WideKind). IsFrameIn (types_in agreed) (record { kind = k; body = body.now }) (take len octets)) (identified (f.ip4 || f.ip6) kind is) frame
