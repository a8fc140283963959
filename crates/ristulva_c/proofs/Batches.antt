-- Messages of a batch, in sequence.
use Rattle.ristulva_c.proofs.Below.{◌≡◌, ℕ, ◌+◌, ◌-◌, ◌<◌, ◌≤◌, Bool, cond, eqb, List, [], ◌∷◌, ◌++◌, length, drop, refl, sym, ap, subst, ◌∙◌, arith, eq-eqb, ne_eqb, append-nil, append_assoc, length-drop, Waits, wanted_in, Context}
use Rattle.bgp_frame.specs.declared.step.Step.TheVariants as step
use Rattle.ristulva_c.specs.Batch.{Giving, Taken, IsTaken, Stand, octets_taken, rows_taken, EndsAt, TakesAll}
use Rattle.ristulva_c.specs.declared.status.TheConstants.{INCOMPLETE, OK}
use Rattle.ristulva_c.specs.Prelude.{Holds, Takes, Stops}
use Rattle.ristulva_c.proofs.Rows.{hold_length}

module _ {Row : Type 0} (gives : Giving Row) (ctx : Context) (octets : List ℕ) where
  -- the messages up to an offset are accepted
  pub record IsWalk (taken written : ℕ) (before list : List Row) : Type 0 where
    pub messages : List (Taken Row)
    pub stand : Stand gives ctx octets 0 messages
    pub summed : taken ≡ octets_taken messages
    pub within : taken ≤ length octets
    pub holds : Holds (rows_taken messages) written list before

  stand_more : (at : ℕ) (ms : List (Taken Row)) (t : Taken Row) → Stand gives ctx octets at ms → IsTaken gives ctx octets (at + octets_taken ms) t → Stand gives ctx octets at (ms ++ t ∷ [])
  stand_more at [] t s is = (subst (λ (n : ℕ). IsTaken gives ctx octets n t) (omega arith) is, tt)
  stand_more at (m ∷ ms) t s is = (s.0, stand_more (at + m.len) ms t s.1 (subst (λ (n : ℕ). IsTaken gives ctx octets n t) (omega arith) is))

pub octets_more : {Row : Type 0} (ms : List (Taken Row)) (t : Taken Row) → octets_taken (ms ++ t ∷ []) ≡ octets_taken ms + t.len
octets_more [] t = omega arith
octets_more (m ∷ ms) t = omega (arith, octets_more ms t)

pub rows_more : {Row : Type 0} (ms : List (Taken Row)) (t : Taken Row) → rows_taken (ms ++ t ∷ []) ≡ rows_taken ms ++ t.rows
rows_more [] t = append-nil t.rows
rows_more (m ∷ ms) t = ap (λ (rs : List _). m.rows ++ rs) (rows_more ms t) ∙ sym (append_assoc m.rows (rows_taken ms) t.rows)

module _ {Row : Type 0} (gives : Giving Row) (ctx : Context) (octets : List ℕ) where
  pub walk_more : (at len from to : ℕ) (before list next : List Row) → IsWalk gives ctx octets at from before list → Takes gives ctx octets at len from to list next
      → IsWalk gives ctx octets (at + len) to before next
  walk_more at len from to before list next w t =
      let m : Taken Row = record { len = len; rows = t.rows } in
      record {
        messages = w.messages ++ m ∷ [];
        stand = stand_more gives ctx octets 0 w.messages m w.stand (subst (λ (n : ℕ). IsTaken gives ctx octets n m) (omega (arith, w.summed)) t.taken);
        summed = omega (arith, w.summed, octets_more w.messages m);
        within = t.within;
        holds = subst (λ (rs : List Row). Holds rs to next before) (sym (rows_more w.messages m)) (t.adds (rows_taken w.messages) before w.holds);
      }

  pub walk_stops : (status at from : ℕ) (before list next : List Row) (w t : ℕ) → IsWalk gives ctx octets at from before list → Stops gives ctx octets at status from list next
      → TakesAll gives ctx octets (record { status = status; before = before; behind = next; written_before = w; written_behind = from; taken_before = t; taken_behind = at })
  walk_stops status at from before list next w t walk s = record {
    messages = walk.messages;
    stand = walk.stand;
    taken = walk.summed;
    within = walk.within;
    written = sym walk.holds.counted;
    fit = walk.holds.room;
    list = s.same ∙ walk.holds.stand;
    found = s.found;
    shows = s.shows;
    ends = subst (λ (n : ℕ). EndsAt gives ctx octets at (n - from) s.found status) (hold_length (rows_taken walk.messages) from list before walk.holds) s.ends;
  }

-- where nothing remains, there is less than a message
nothing_waits : (b : List ℕ) → length b ≡ 0 → Waits b
unfolding wanted_in
nothing_waits [] none = omega arith
nothing_waits (x ∷ b) none = absurd (omega (arith, none))

module _ {Row : Type 0} (gives : Giving Row) (ctx : Context) (octets : List ℕ) where
  pub walk_ends : (at from : ℕ) (before list : List Row) (w t : ℕ) → IsWalk gives ctx octets at from before list → length octets ≤ at
      → TakesAll gives ctx octets (record { status = OK; before = before; behind = list; written_before = w; written_behind = from; taken_before = t; taken_behind = at })
  walk_ends at from before list w t walk over =
      walk_stops gives ctx octets OK at from before list list w t walk (record {
        same = refl;
        found = step.More;
        shows = nothing_waits (drop at octets) (omega (arith, length-drop at octets, over));
        ends = sym (ap (λ (b : Bool). cond b OK INCOMPLETE) (eq-eqb at (length octets) (omega (arith, over, walk.within))));
      })

-- remaining octets that are less than a message are an incomplete message
pub incomplete : (at n : ℕ) → at < n → INCOMPLETE ≡ cond (eqb at n) OK INCOMPLETE
incomplete at n before = sym (ap (λ (b : Bool). cond b OK INCOMPLETE) (ne_eqb at n (λ (same : at ≡ n). omega (arith, same, before))))
