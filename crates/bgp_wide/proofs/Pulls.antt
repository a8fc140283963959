-- A decoder is a receiver of octets, and a look finds what a pull gives.
use Rattle.bgp_wire.proofs.Std.{◌≡◌, ℕ, ◌<◌, Bool, true, false, not, List, [], ◌∷◌, ◌++◌, length, take, Ok, Err, Option, Some, option_map, refl, sym, ap, ap₂, subst, ◌∙◌}
use Rattle.bgp_frame.specs.declared.fault.HeadFault.{HeadFault}
use Rattle.bgp_frame.specs.declared.grammar.WideGrammar.{WideGrammar}
use Rattle.bgp_frame.specs.declared.kind.WideKind.{WideKind}
use Rattle.bgp_frame.specs.declared.step.Frame as declared
use Rattle.bgp_frame.specs.declared.pull.Pull.TheVariants as pull
use Rattle.bgp_frame.specs.Framer.{FramerValue}
use Rattle.bgp_frame.specs.Hearing.{IsFedAndJudged, Judges}
use Rattle.bgp_frame.specs.Prelude.{CountsFedIn, IsPullIn, IsToFeedIn, TakesIn, WaitsIn, wide_types}
use Rattle.bgp_frame.specs.steps.AreTypes.{wide-are}
use Rattle.bgp_frame.proofs.Hearings as hearings
use Rattle.bgp_terms.specs.declared.wide_terms.WideTerms.{WideTerms}
use Rattle.bgp_terms.specs.Prelude.{Agreed, wide_terms}
use Rattle.bgp_wide.specs.declared.look.WideLook.TheVariants as look
use Rattle.bgp_wide.specs.Prelude.{Decoding, IsFed, IsLook, IsPulled, WideOutcome, behind, decoder, fault_in, given_by, grammar_of, out_in, types_in}

pub is_hearer : (terms : Agreed) → hearings.IsHearer (decoder terms)
is_hearer terms = record {
  types = wide-are (grammar_of terms.refresh);
  held_so = λ d held. refl;
  held_same = λ d. refl;
  held_last = λ d a b. refl;
  listens_so = λ d held. refl;
  emptied = λ d out. refl;
}

pub pulls_as_fed : (old : Decoding) (piece : List ℕ) (n : ℕ) (found : Option (ℕ × WideOutcome)) (new : Decoding) → IsPulled old piece n found new → IsFedAndJudged (decoder old.terms) old piece n (option_map (λ out. out ∷ []) found) new
pulls_as_fed old piece n found new p = hearings.pulls_as_fed (decoder old.terms) (is_hearer old.terms) old piece n (option_map (λ out. out ∷ []) found) new p

-- the one outcome of what is held
pub one_out : (d : Decoding) (out : ℕ × WideOutcome) (new : Decoding) (j : Judges (decoder d.terms) d (out ∷ []) new) → out ≡ given_by d j.what
one_out d out new j = only out (given_by d j.what) j.does
  where
    only : (a b : ℕ × WideOutcome) → a ∷ [] ≡ b ∷ [] → a ≡ b
    only a b same = cc

module _ (d : Decoding) (piece : List ℕ) where
  pub stopped_feeds : d.stopped ≡ true → IsLook d piece look.Feed
  stopped_feeds over n new fed = hearings.to_feed (decoder d.terms) (is_hearer d.terms) d piece n new false (ap not over) (λ up. absurd cc) fed

  waiting_feeds : d.stopped ≡ false → IsToFeedIn (types_in d.terms) d.held piece → IsLook d piece look.Feed
  waiting_feeds going to_feed n new fed = hearings.to_feed (decoder d.terms) (is_hearer d.terms) d piece n new true (ap not going) (λ up. to_feed) fed

  found_message : (n : ℕ) (frame : declared.Frame WideKind) (o : WideOutcome) → d.stopped ≡ false → IsPullIn (types_in d.terms) d.held piece (pull.Frame n frame)
      → o ≡ out_in d.terms (record { kind = frame.kind; body = frame.body.now }) → IsPulled d piece n (Some (frame.len, o)) (behind d o)
  found_message n frame o going found comes = record {
    pulls = found.0;
    next = record {
      up = ap not going;
      what = Ok _;
      is_held = found.1.0;
      does = ap₂ (λ (k : ℕ) (p : WideOutcome). (k, p) ∷ []) (found.1.1 ∙ ap length found.1.0.octets) comes;
      leaves = ap (behind d) comes;
    };
  }

  found_fault : (n : ℕ) (f : HeadFault) → d.stopped ≡ false → IsPullIn (types_in d.terms) d.held piece (pull.Fault n f) → IsPulled d piece n (Some (0, fault_in f)) (behind d (fault_in f))
  found_fault n f going found = record {
    pulls = found.0;
    next = record { up = ap not going; what = Err f; is_held = found.1; does = refl; leaves = refl };
  }

-- ---- a decoder's framer reads the types of its terms

abbrev shown : WideTerms → FramerValue WideGrammar → Bool → Decoding
shown terms framer stopped = record { terms = wide_terms terms; held = framer.octets; stopped = stopped }

module _ (old : Decoding) (terms : WideTerms) (framer : FramerValue WideGrammar) (stopped : Bool) (piece : List ℕ)
    (is : shown terms framer stopped ≡ old) (typed : framer.grammar ≡ grammar_of terms.refresh) (going : stopped ≡ false) where
  pub feeds : (n : ℕ) (new : FramerValue WideGrammar) → TakesIn (wide_types framer.grammar) framer.octets piece n
      → (WaitsIn (wide_types framer.grammar) framer.octets → 0 < length piece → 0 < n)
      → new ≡ record { grammar = framer.grammar; octets = framer.octets ++ take n piece } → IsFed old piece n (shown terms new stopped)
  feeds n new takes progress appends =
      subst (λ (d : Decoding). IsFed d piece n (shown terms new stopped)) is (
        subst (λ (b : Bool). CountsFedIn (types_in (wide_terms terms)) b framer.octets piece n) (sym (ap not going))
            (subst (λ (g : WideGrammar). TakesIn (wide_types g) framer.octets piece n × (WaitsIn (wide_types g) framer.octets → 0 < length piece → 0 < n)) typed (takes, progress)),
        ap (λ (f : FramerValue WideGrammar). shown terms f stopped) appends,
      )

  pub to_feed : IsToFeedIn (wide_types framer.grammar) framer.octets piece → IsLook old piece look.Feed
  to_feed found =
      subst (λ (d : Decoding). IsLook d piece look.Feed) is
      (waiting_feeds (shown terms framer stopped) piece going (subst (λ (g : WideGrammar). IsToFeedIn (wide_types g) framer.octets piece) typed found))

  pub message : (n : ℕ) (frame : declared.Frame WideKind) (o : WideOutcome) → IsPullIn (wide_types framer.grammar) framer.octets piece (pull.Frame n frame)
      → o ≡ out_in (wide_terms terms) (record { kind = frame.kind; body = frame.body.now }) → IsPulled old piece n (Some (frame.len, o)) (behind old o)
  message n frame o found comes =
      subst (λ (d : Decoding). IsPulled d piece n (Some (frame.len, o)) (behind d o)) is
      (found_message (shown terms framer stopped) piece n frame o going (subst (λ (g : WideGrammar). IsPullIn (wide_types g) framer.octets piece (pull.Frame n frame)) typed found) comes)

  pub fault : (n : ℕ) (f : HeadFault) → IsPullIn (wide_types framer.grammar) framer.octets piece (pull.Fault n f) → IsPulled old piece n (Some (0, fault_in f)) (behind old (fault_in f))
  fault n f found =
      subst (λ (d : Decoding). IsPulled d piece n (Some (0, fault_in f)) (behind d (fault_in f))) is
      (found_fault (shown terms framer stopped) piece n f going (subst (λ (g : WideGrammar). IsPullIn (wide_types g) framer.octets piece (pull.Fault n f)) typed found))
