-- A decoder is a receiver of octets, and a pull gives what a look finds.
use Rattle.bgp_wire.proofs.Std.{◌≡◌, ℕ, ◌≤◌, ◌⊎◌, Bool, true, false, not, List, [], ◌∷◌, ◌++◌, length, take, Result, Ok, Err, OnErr, Option, Some, option_map, refl, sym, ap, ap₂, subst, ◌∙◌, arith, inl, inr, not-true}
use Rattle.bgp_frame.specs.declared.fault.HeadFault.{HeadFault}
use Rattle.bgp_frame.specs.Step.{Frame}
use Rattle.bgp_frame.specs.Prelude.{Message, Waits, ShowsFront, IsToFeed, IsPull, IsContent, Judges}
use Rattle.bgp_frame.specs.declared.pull.Pull.TheVariants as pull
use Rattle.bgp_frame.specs.declared.step.Step.TheVariants as step
use Rattle.bgp_frame.proofs.FrameLemmas.{length-IsFrame}
use Rattle.bgp_frame.proofs.Pulls.{held_or_front, none_held, pull_frame, nothing_waits}
use Rattle.bgp_update.specs.declared.note.Note.{Note}
use Rattle.bgp_update.specs.declared.update.Update.{Update}
use Rattle.bgp_msg.specs.declared.look.Look.TheVariants as look
use Rattle.bgp_msg.specs.declared.message.Message.TheVariants as message
use Rattle.bgp_msg.specs.declared.outcome.Outcome.{Outcome}
use Rattle.bgp_msg.specs.Prelude.{out_of, of_fault, has_lists, Decoding, TakesMemory, FrontTakesMemory, given_by, holding, behind, decoder, IsPulled, IsFedAndNext, IsAtFront, IsLook}
use Rattle.bgp_msg.specs.declared.outcome.Outcome.TheVariants as outcome
use Rattle.bgp_frame.proofs.Hearings as hearings
use Rattle.bgp_msg.proofs.Lists.{lists_have_kinds, lists_go_on}
use Rattle.bgp_frame.specs.Kind.{plain}
use Rattle.bgp_frame.specs.steps.AreTypes.{plain-are}

pub is_hearer : hearings.IsHearer decoder
is_hearer = record {
  types = plain-are;
  held_so = λ d held. refl;
  held_same = λ d. refl;
  held_last = λ d a b. refl;
  listens_so = λ d held. refl;
  emptied = λ d out. refl;
}

pub pulls_as_fed : (old : Decoding) (piece : List ℕ) (n : ℕ) (found : Option (ℕ × Outcome)) (new : Decoding) → IsPulled old piece n found new → IsFedAndNext old piece n found new
pulls_as_fed old piece n found new p = hearings.pulls_as_fed decoder is_hearer old piece n (option_map (λ out. out ∷ []) found) new p

-- the one outcome of what is held
pub one_out : (d : Decoding) (out : ℕ × Outcome) (new : Decoding) (j : Judges decoder d (out ∷ []) new) → out ≡ given_by d j.what
one_out d out new j = only out (given_by d j.what) j.does
  where
    only : (a b : ℕ × Outcome) → a ∷ [] ≡ b ∷ [] → a ≡ b
    only a b same = cc

-- after a reset nothing is held
pub stopped_waits : (held : List ℕ) → held ≡ [] → Waits held
stopped_waits held none = subst Waits (sym none) (nothing_waits plain plain-are)

module _ (d : Decoding) (piece : List ℕ) where
  -- ---- a pull gives what a look finds

  pub stopped_feeds : d.stopped ≡ true → IsLook d piece look.Feed
  stopped_feeds over n new fed = hearings.to_feed decoder is_hearer d piece n new false (ap not over) (λ up. absurd cc) fed

  pub waiting_feeds : d.stopped ≡ false → IsToFeed d.held piece → IsLook d piece look.Feed
  waiting_feeds going to_feed n new fed = hearings.to_feed decoder is_hearer d piece n new true (ap not going) (λ up. to_feed) fed

  pub found_message : (n : ℕ) (frame : Frame) (o : Outcome) → d.stopped ≡ false → IsPull d.held piece (pull.Frame n frame)
      → o ≡ out_of d.ctx (record { kind = frame.kind; body = frame.body.now }) → IsPulled d piece n (Some (frame.len, o)) (behind d o)
  found_message n frame o going found comes = record {
    pulls = found.0;
    next = record {
      up = ap not going;
      what = Ok _;
      is_held = found.1.0;
      does = ap₂ (λ (k : ℕ) (p : Outcome). (k, p) ∷ []) (found.1.1 ∙ ap length found.1.0.octets) comes;
      leaves = ap (behind d) comes;
    };
  }

  pub found_fault : (n : ℕ) (f : HeadFault) → d.stopped ≡ false → IsPull d.held piece (pull.Fault n f) → IsPulled d piece n (Some (0, of_fault f)) (behind d (of_fault f))
  found_fault n f going found = record {
    pulls = found.0;
    next = record { up = ap not going; what = Err f; is_held = found.1; does = refl; leaves = refl };
  }

  -- ---- memory

  -- a header's fault has no lists
  given_takes_memory : (e : Decoding) (what : Result Message HeadFault) → IsContent what e.held → has_lists (given_by e what).1 ≡ true → TakesMemory e
  given_takes_memory e (Ok m) is lists = record { message = m; is_held = is; holds_lists = lists_have_kinds e.ctx m lists; goes_on = lists_go_on (out_of e.ctx m) lists }
  given_takes_memory e (Err f) is lists = absurd cc

  -- a pull of an outcome with lists can need an allocation
  pub pulled_takes_memory : (n k : ℕ) (o : Outcome) (new : Decoding) → has_lists o ≡ true → IsPulled d piece n (Some (k, o)) new → TakesMemory d ⊎ FrontTakesMemory d piece
  pulled_takes_memory n k o new lists p =
      let e = holding d (d.held ++ take n piece) in
      let out : o ≡ (given_by e p.next.what).1 = ap (λ (x : ℕ × Outcome). x.1) (one_out e (k, o) new p.next) in
      let takes = given_takes_memory e p.next.what p.next.is_held (ap has_lists (sym out) ∙ lists) in
      elim (held_or_front plain plain-are d.held piece n (λ h. TakesMemory (holding d h)) p.pulls takes) [
        | inl held ↦ inl held.1
        | inr front ↦ inr (record { going = not-true d.stopped p.next.up; none_held = front.0; n = n; within = p.pulls.takes.within; takes = front.1 })
      ]

pub on_err_any : {T E P : Type 0} (r : Result T E) → P → OnErr r P
on_err_any (Ok x) p = tt
on_err_any (Err e) p = p

-- ---- the first message of a piece

pub whole_at_front : (old inside : Decoding) (piece : List ℕ) (frame : Frame) (n : ℕ) (o : Outcome) → inside ≡ old → inside.stopped ≡ false → n ≡ length inside.held → n ≤ 0
    → ShowsFront piece (step.Frame frame) → o ≡ out_of inside.ctx (record { kind = frame.kind; body = frame.body.now }) → IsAtFront old piece frame.len o
whole_at_front old inside piece frame n o is going count none front comes =
    subst (λ (d : Decoding). IsAtFront d piece frame.len o) is
    (none_held plain plain-are inside.held (omega (arith, count)), found_message inside piece frame.len frame o going (pull_frame plain plain-are piece inside.held n count none frame front) comes)

-- where nothing is held, only the piece can need an allocation
pub front_takes_memory : (old : Decoding) (piece : List ℕ) (n : ℕ) (o : Outcome) → has_lists o ≡ true → IsAtFront old piece n o → FrontTakesMemory old piece
front_takes_memory old piece n o lists f =
    elim (pulled_takes_memory old piece n n o (behind old o) lists f.1) [
      | inl held ↦ absurd (let frame = held.is_held in let none = f.0 in omega (arith, length-IsFrame plain plain-are held.message old.held held.is_held, ap length f.0))
      | inr front ↦ front
    ]

pub update_pulled : (old : Decoding) (piece : List ℕ) (n : ℕ) (u : Update) (notes : List Note) → IsAtFront old piece n (outcome.Took (message.Update u) notes)
    → IsPulled old piece n (Some (n, outcome.Took (message.Update u) notes)) old
update_pulled old piece n u notes f =
    let o = outcome.Took (message.Update u) notes in
    let same : behind old o ≡ old = ap₂ (λ (h : List ℕ) (s : Bool). record { ctx = old.ctx; held = h; stopped = s }) (sym f.0) (sym (not-true old.stopped f.1.next.up)) in
    subst (λ (new : Decoding). IsPulled old piece n (Some (n, o)) new) same f.1
