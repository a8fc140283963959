-- What is passed on is written after what was there, and is clean.
use Rattle.ristulva_c.proofs.Below.{◌≡◌, ℕ, Bool, List, ◌++◌, take, Result, Ok, Err, sym, subst, ◌∙◌, append-nil, AreOctets, Step, ShowsFront, message_in, Context, AreOctets-take}
use Rattle.bgp_frame.specs.declared.step.Step.TheVariants as step
use Rattle.bgp_msg.specs.declared.message.Message.{Message}
use Rattle.bgp_clean.specs.declared.cleaned.Cleaned.{Cleaned}
use Rattle.bgp_clean.specs.declared.cleaned.Cleaned.TheVariants.{HandedOn, Ends}
use Rattle.bgp_clean.specs.declared.fault.CleanFault.{CleanFault}
use Rattle.bgp_clean.specs.Prelude.{IsCleaned, no_limits, refuses_in}
use Rattle.bgp_terms.specs.declared.refreshes.Refreshes.TheVariants as refreshes
use Rattle.bgp_clean.proofs.Handed.{handed-clean}
use Rattle.ristulva_c.specs.Prelude.{handed_octets, Cleaning, Hands, HandsClean, IsHandedOn}

pub appended : (ctx : Context) (handed : Result (List Message) CleanFault) (old new : List ℕ) (what : Cleaned) → IsCleaned ctx handed old new what → new ≡ old ++ handed_octets ctx handed
appended ctx (Ok ns) old new HandedOn is = is
appended ctx (Ok ns) old new (Ends g) is = absurd is
appended ctx (Err f) old new HandedOn is = absurd is
appended ctx (Err f) old new (Ends g) is = is.1 ∙ sym (append-nil old)

hands_clean : (ctx : Context) (drops : ℕ → Bool) (first : Bool) (octets : List ℕ) (found : Step) → AreOctets octets → ShowsFront octets found → HandsClean ctx drops first found
hands_clean ctx drops first octets step.More are shows = tt
hands_clean ctx drops first octets (step.Frame f) are shows = λ ns e. handed-clean refreshes.None ctx drops (refuses_in ctx no_limits) first (message_in f) (take f.len octets) ns (AreOctets-take f.len octets are) shows.1 e
hands_clean ctx drops first octets (step.Fault f) are shows = tt

pub handed_on : (ctx : Context) (drops : ℕ → Bool) (first : Bool) (octets : List ℕ) (found : Step) (c : Cleaning) → AreOctets octets → ShowsFront octets found → Hands ctx drops first found c
    → IsHandedOn ctx drops first octets c
handed_on ctx drops first octets found c are shows hands = record { found = found; shows = shows; hands = hands; clean = hands_clean ctx drops first octets found are shows }

-- the same for an equal context and set
pub handed_on_by : (ctx ctx' : Context) (drops drops' : ℕ → Bool) (first : Bool) (octets : List ℕ) (found : Step) (c : Cleaning) → ctx' ≡ ctx → drops' ≡ drops → AreOctets octets → ShowsFront octets found
    → Hands ctx' drops' first found c → IsHandedOn ctx drops first octets c
handed_on_by ctx ctx' drops drops' first octets found c same_ctx same_drops are shows hands =
    handed_on ctx drops first octets found c are shows
    (subst (λ (x : Context). Hands x drops first found c) same_ctx (subst (λ (set : ℕ → Bool). Hands ctx' set first found c) same_drops hands))
