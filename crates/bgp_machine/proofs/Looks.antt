-- A look finds what a pull does.
use Rattle.bgp_machine.proofs.Prelude.{◌≡◌, ℕ, ◌⊎◌, true, false, List, [], ◌++◌, take, Option, Some, None, Result, Ok, Err, refl, sym, ap, subst, ◌∙◌, inl}
use Rattle.bgp_machine.proofs.Prelude.{inr, both_ways, HeadFault, content_of, Message, Waits, Pulls, IsToFeed, IsPull, IsContent, content_of-frame}
use Rattle.bgp_machine.proofs.Prelude.{content_of-fault, Settings, Action, Heard, on_heard, has_routes, IsSaid, Hears, HearsFault, IsAtRest, CanRest, gone}
use Rattle.bgp_machine.proofs.Prelude.{step_of, Finds, Standing, listens, Step, hears, Machine, holding, hearer, IsFed, IsJudged, HeldTakesMemory, IsPulled}
use Rattle.bgp_machine.proofs.Prelude.{FrontTakesMemory, Looked}
use Rattle.arrayvec.specs.ArrayVec.{ArrayVec}
use Rattle.bgp_frame.specs.Step.{Frame}
use Rattle.bgp_frame.specs.declared.pull.Pull.TheVariants as pull
use Rattle.bgp_frame.proofs.Pulls.{held_or_front}
use Rattle.bgp_frame.proofs.Hearings as hearings
use Rattle.bgp_machine.proofs.Cuttings.{is_hearer, pulls_as_fed}
use Rattle.bgp_frame.specs.Kind.{plain}
use Rattle.bgp_frame.specs.steps.AreTypes.{plain-are}

same_content : (m other : Message) (o : Option (Result Message HeadFault)) → o ≡ Some (Ok m) → o ≡ Some (Ok other) → m ≡ other
same_content m other o is also = let same : Some (Ok m) ≡ Some (Ok other) = sym is ∙ also in cc

not_both : (m : Message) (f : HeadFault) (b : List ℕ) → content_of b ≡ Some (Err f) → content_of b ≡ Some (Ok m) → ⊥
not_both m f b is also = let no : Some (Err f) ≡ Some (Ok m) = sym is ∙ also in cc

module _ (s : Settings) (x : Standing) (held piece : List ℕ) (n : ℕ) (h : Heard) where
  abbrev me : Machine
  me = record { settings = s; standing = x; held = held }

  abbrev octets : List ℕ
  octets = held ++ take n piece

  abbrev looked : Looked
  looked = record { taken = n; was = me; heard = h }

  -- the content of the octets is received
  pulls : (what : Result Message HeadFault) → Pulls held piece n → listens x.state ≡ true → IsContent what octets → on_heard x h ≡ hears s x what
      → (actions : ArrayVec Action) → actions.items ≡ (on_heard x h).actions → IsPulled me piece n (Some actions) (gone me (on_heard x h).next)
  pulls what is up content does actions acts = record {
    pulls = is;
    next = record { up = up; what = what; is_held = content; does = acts ∙ ap (λ (t : Step). t.actions) does; leaves = ap (λ (t : Step). gone me t.next) does };
  }

  memory : Pulls held piece n → HeldTakesMemory (holding me octets) → HeldTakesMemory me ⊎ FrontTakesMemory me piece
  memory is takes =
      elim (held_or_front plain plain-are held piece n (λ b. HeldTakesMemory (holding me b)) is takes) [
        | inl p ↦ inl p.1
        | inr p ↦ inr (record { none_held = p.0; n = n; within = is.takes.within; takes = p.1 })
      ]

  pub finds_message : (frame : Frame) → IsPull held piece (pull.Frame n frame) → Hears s x (record { kind = frame.kind; body = frame.body.now }) h → Finds me piece looked
  finds_message frame found is =
      let m : Message = record { kind = frame.kind; body = frame.body.now } in
      let content = content_of-frame plain plain-are m octets found.1.0 in
      record {
        same = refl;
        pulls = pulls (Ok m) found.0 is.up found.1.0 is.does;
        within = found.0.takes.within;
        memory = λ has. memory found.0 (record { message = m; is_held = content; takes = is.memory has });
        said = λ other says. subst (λ (y : Message). IsSaid s x y h) (same_content m other (content_of octets) content says) is.said;
      }

  pub finds_fault : (f : HeadFault) → IsPull held piece (pull.Fault n f) → HearsFault x f h → Finds me piece looked
  finds_fault f found is =
      let content = content_of-fault plain plain-are octets f found.1.0 found.1.1 in
      record {
        same = refl;
        pulls = pulls (Err f) found.0 is.up found.1 (is.does s);
        within = found.0.takes.within;
        memory = λ has. absurd (both_ways (has_routes h) is.none has);
        said = λ other says. absurd (not_both other f octets content says);
      }

-- ---- where nothing is received, a pull does what a feed does

pub feeds : (old : Machine) (piece : List ℕ) → IsToFeed old.held piece → (n : ℕ) (new : Machine) → IsFed old piece n new → IsPulled old piece n None new
feeds old piece to_feed n new fed = hearings.to_feed hearer is_hearer old piece n new (listens old.standing.state) refl (λ up. to_feed) fed

-- ---- as the code has them

pub looked_as : (old : Machine) (piece : List ℕ) (found l : Looked) (here : Machine) → here ≡ old → found ≡ l → Finds here piece l → Finds old piece found
looked_as old piece found l here is same finds = subst (λ (o : Machine). Finds o piece found) is (subst (λ (f : Looked). Finds here piece f) (sym same) finds)

-- ---- the actions of a look

pub looked_pulls : (old : Machine) (piece : List ℕ) (l : Looked) (actions : ArrayVec Action) (n : ℕ) (next : Standing) → Finds old piece l
    → actions.items ≡ (step_of l).actions → n ≡ l.taken → next ≡ (step_of l).next → IsPulled old piece n (Some actions) (gone old next)
looked_pulls old piece l actions n next finds acts takes goes = rw (takes, goes) (finds.pulls actions acts)

-- from a piece without octets, what is held is judged
pub judged_by_pull : (old : Machine) (n : ℕ) (actions : ArrayVec Action) (new : Machine) → IsPulled old [] n (Some actions) new → IsJudged old (Some actions) new
judged_by_pull old n actions new p = hearings.judged_by_pull hearer is_hearer old n actions.items new p

-- where nothing is received from a piece without octets, the held octets are an incomplete message
pub held_waits : (old : Machine) → (listens old.standing.state ≡ false → old.held ≡ []) → ((n : ℕ) (new : Machine) → IsFed old [] n new → IsPulled old [] n None new) → Waits old.held
held_waits old deaf found =
    hearings.pull_waits hearer is_hearer old [] 0 old deaf
    (found 0 old (hearings.counts_nothing plain plain-are (listens old.standing.state) old.held, sym (hearings.took_none hearer is_hearer old [] 0 refl)))

none_rests : (old : Machine) (piece : List ℕ) (n : ℕ) (new : Machine) → (Waits new.held → IsAtRest new) → (listens new.standing.state ≡ false → new.held ≡ [])
    → IsPulled old piece n None new → n ≡ 0 → IsAtRest new
none_rests old piece n new rests deaf pulled nothing =
    let same : new ≡ old = (pulls_as_fed old piece n None new pulled).next ∙ hearings.took_none hearer is_hearer old piece n nothing in
    rests (subst (λ (x : Machine). Waits x.held) (sym same)
    (hearings.pull_waits hearer is_hearer old piece n new (subst (λ (x : Machine). listens x.standing.state ≡ false → x.held ≡ []) same deaf) pulled))

-- where a pull does nothing, the session is at rest, unless it consumed octets that completed what is held
pub fed_rests : (old : Machine) (piece : List ℕ) (n : ℕ) (new : Machine) → (Waits new.held → IsAtRest new) → (listens new.standing.state ≡ false → new.held ≡ [])
    → IsPulled old piece n None new → CanRest n new
fed_rests old piece n new rests deaf pulled = record { none_taken = none_rests old piece n new rests deaf pulled; waiting = rests }
