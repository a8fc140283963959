-- A text that is written in parts.
use Rattle.bgp_engine.proofs.Prelude.{◌≡◌, ℕ, List, [], ◌++◌, take, drop, Option, Some, None, Result, Ok, Err, sym, ap, ◌∙◌, append_assoc}
use Rattle.bgp_engine.proofs.Prelude.{take-append-drop, Keeps, Appends, WriteAppends, Appends-trans, append-nil}
use Rattle.std.specs.Result.{result_unwrap_or}

-- what was written, and what remains of the text
pub record HasWritten (old new : Option (List ℕ)) (text rest : List ℕ) : Type 0 where
  pub front : List ℕ
  pub parts : text ≡ front ++ rest
  pub appends : Appends old new front

Keeps-appends : (old new : Option (List ℕ)) → Keeps old new → Appends old new []
Keeps-appends None new h = tt
Keeps-appends (Some x) None h = h
Keeps-appends (Some x) (Some y) h = h ∙ sym (append-nil x)

-- a write appends the number of octets that it says, none where it failed
pub appends_count : {E : Type 0} (old new : Option (List ℕ)) (r : Result ℕ E) (buf : List ℕ) → WriteAppends old new r buf → Appends old new (take (result_unwrap_or r 0) buf)
appends_count old new (Ok n) buf h = h
appends_count old new (Err e) buf h = Keeps-appends old new h

pub HasWritten-more : (old mid new : Option (List ℕ)) (text rest : List ℕ) (n : ℕ) → HasWritten old mid text rest → Appends mid new (take n rest) → HasWritten old new text (drop n rest)
HasWritten-more old mid new text rest n h more = record {
  front = h.front ++ take n rest;
  parts = h.parts ∙ ap (λ (x : List ℕ). h.front ++ x) (sym (take-append-drop n rest)) ∙ sym (append_assoc h.front (take n rest) (drop n rest));
  appends = Appends-trans old mid new h.front (take n rest) h.appends more;
}
