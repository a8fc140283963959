-- The effect of one character on a reader of hexadecimal text.
use Rattle.bgp_engine.proofs.Prelude.{◌≡◌, ℕ, ◌+◌, ◌-◌, ◌*◌, ◌<◌, ◌≤◌, true, false, List, [], ◌∷◌, ◌++◌, length, Option, Some, None, refl, sym, ap, subst}
use Rattle.bgp_engine.proofs.Prelude.{◌∙◌, append_assoc, add-zero, arith, append-nil, length-append, option_to_list, option_map, is_hex_digit, HexText}
use Rattle.bgp_engine.proofs.Prelude.{is_blank, digit_value, spelled, bad_from, FirstPair, IsPair, pending, place, Continues, Breaks, ReadsPairs, AreOctets}
use Rattle.bgp_engine.proofs.Prelude.{AreOctets-nil, AreOctets-push, AreOctets-append}
use Rattle.bgp_engine.proofs.HexPairs.{spelled-pair, spelled-half, spelled-blank, spelled-bad, bad_from-pair, bad_from-half, bad_from-blank, bad_from-bad}

module _ (old new : HexText) (c : ℕ) where
  pending_is : (reader : HexText) (o : Option ℕ) → reader.pending ≡ o → pending reader ≡ option_to_list o
  pending_is reader o e = ap option_to_list e

  -- the offset at which a text continues, with the pending text p
  bad_on : (n : ℕ) (later : List ℕ) → n ≡ new.seen → new.pending ≡ None → bad_from n later ≡ bad_from (place new) (pending new ++ later)
  bad_on n later count is =
      ap (λ (k : ℕ). bad_from k later) (let same : n ≡ new.seen - 0 = omega arith in same) ∙ ap (λ (p : List ℕ). bad_from (new.seen - length p) (p ++ later)) (sym (pending_is new None is))

  from_seen : (text : List ℕ) → bad_from (old.seen - 0) text ≡ bad_from old.seen text
  from_seen text = ap (λ (k : ℕ). bad_from k text) (let same : old.seen - 0 ≡ old.seen = omega arith in same)

  -- the second digit of a pair
  pub reads_pair : (high octet : ℕ) → old.pending ≡ Some high → new.pending ≡ None → new.seen ≡ old.seen + 1 → 0 < old.seen → is_hex_digit high ≡ true → is_hex_digit c ≡ true → octet ≡ digit_value high * 16 + digit_value c
      → Continues old (c ∷ []) (octet ∷ []) new
  reads_pair high octet was is count some first second value = record {
    spells = λ later.
        ap (λ (p : List ℕ). spelled (p ++ (c ∷ later))) (pending_is old (Some high) was) ∙ spelled-pair high c later first second
        ∙ ap (λ (v : ℕ). v ∷ spelled later) (sym value) ∙ ap (λ (p : List ℕ). octet ∷ spelled (p ++ later)) (sym (pending_is new None is));
    is_bad = λ later.
        ap (λ (p : List ℕ). bad_from (old.seen - length p) (p ++ (c ∷ later))) (pending_is old (Some high) was) ∙ bad_from-pair (old.seen - 1) high c later first second
        ∙ bad_on (old.seen - 1 + 2) later (omega arith) is;
    counts = count;
  }

  -- both digits of a pair
  pub reads_both : (d octet : ℕ) → old.pending ≡ None → new.pending ≡ None → new.seen ≡ old.seen + 2 → is_hex_digit c ≡ true → is_hex_digit d ≡ true → octet ≡ digit_value c * 16 + digit_value d
      → Continues old (c ∷ d ∷ []) (octet ∷ []) new
  reads_both d octet was is count first second value = record {
    spells = λ later.
        ap (λ (p : List ℕ). spelled (p ++ (c ∷ d ∷ later))) (pending_is old None was) ∙ spelled-pair c d later first second
        ∙ ap (λ (v : ℕ). v ∷ spelled later) (sym value) ∙ ap (λ (p : List ℕ). octet ∷ spelled (p ++ later)) (sym (pending_is new None is));
    is_bad = λ later.
        ap (λ (p : List ℕ). bad_from (old.seen - length p) (p ++ (c ∷ d ∷ later))) (pending_is old None was) ∙ from_seen (c ∷ d ∷ later) ∙ bad_from-pair old.seen c d later first second
        ∙ bad_on (old.seen + 2) later (sym count) is;
    counts = count;
  }

  -- a character in a pair that isn't a digit
  pub breaks_pair : (high : ℕ) → old.pending ≡ Some high → 0 < old.seen → is_hex_digit high ≡ true → is_hex_digit c ≡ false → Breaks old (c ∷ []) [] old.seen
  breaks_pair high was some first second = record {
    spells = λ later. ap (λ (p : List ℕ). spelled (p ++ (c ∷ later))) (pending_is old (Some high) was) ∙ spelled-half high c later first second;
    is_bad = λ later.
        ap (λ (p : List ℕ). bad_from (old.seen - length p) (p ++ (c ∷ later))) (pending_is old (Some high) was) ∙ bad_from-half (old.seen - 1) high c later first second
        ∙ ap (λ (n : ℕ). Some n) (let same : old.seen - 1 + 1 ≡ old.seen = omega arith in same);
  }

  -- a blank between pairs
  pub reads_blank : old.pending ≡ None → new.pending ≡ None → new.seen ≡ old.seen + 1 → is_blank c ≡ true → Continues old (c ∷ []) [] new
  reads_blank was is count blank = record {
    spells = λ later.
        ap (λ (p : List ℕ). spelled (p ++ (c ∷ later))) (pending_is old None was) ∙ spelled-blank c later blank ∙ ap (λ (p : List ℕ). spelled (p ++ later)) (sym (pending_is new None is));
    is_bad = λ later.
        ap (λ (p : List ℕ). bad_from (old.seen - length p) (p ++ (c ∷ later))) (pending_is old None was) ∙ from_seen (c ∷ later) ∙ bad_from-blank old.seen c later blank
        ∙ bad_on (old.seen + 1) later (sym count) is;
    counts = count;
  }

  -- a character between pairs that is neither a digit nor a blank
  pub breaks_between : old.pending ≡ None → is_blank c ≡ false → is_hex_digit c ≡ false → Breaks old (c ∷ []) [] old.seen
  breaks_between was blank digit = record {
    spells = λ later. ap (λ (p : List ℕ). spelled (p ++ (c ∷ later))) (pending_is old None was) ∙ spelled-bad c later blank digit;
    is_bad = λ later. ap (λ (p : List ℕ). bad_from (old.seen - length p) (p ++ (c ∷ later))) (pending_is old None was) ∙ from_seen (c ∷ later) ∙ bad_from-bad old.seen c later blank digit;
  }

-- one text after another
pub Continues-then : (a b c : HexText) (text more octets others : List ℕ) → Continues a text octets b → Continues b more others c → Continues a (text ++ more) (octets ++ others) c
Continues-then a b c text more octets others p q = record {
  spells = λ later.
      ap (λ (x : List ℕ). spelled (pending a ++ x)) (append_assoc text more later) ∙ p.spells (more ++ later) ∙ ap (λ (x : List ℕ). octets ++ x) (q.spells later) ∙ sym (append_assoc octets others (spelled (pending c ++ later)));
  is_bad = λ later. ap (λ (x : List ℕ). bad_from (place a) (pending a ++ x)) (append_assoc text more later) ∙ p.is_bad (more ++ later) ∙ q.is_bad later;
  counts = q.counts ∙ ap (λ (n : ℕ). n + length more) p.counts ∙ (let same : a.seen + length text + length more ≡ a.seen + length (text ++ more) = omega (arith, length-append text more) in same);
}

-- ---- pairs from the beginning of a text

-- the reader after n more characters, with the same pending digit
abbrev pub read_on : HexText → ℕ → HexText
read_on a n = record { pending = a.pending; seen = a.seen + n; is_digit = a.is_digit; is_seen = λ c is. omega (arith, a.is_seen c is) }

pub ReadsPairs-starts : (a : HexText) (text was : List ℕ) → ReadsPairs a text text was was (read_on a (length text - length text))
ReadsPairs-starts a text was =
    let none : a.seen + (length text - length text) ≡ a.seen = omega arith in
    record {
      front = [];
      added = [];
      splits = refl;
      puts = sym (append-nil was);
      continues = record {
        spells = λ later. refl;
        is_bad = λ later. ap (λ (n : ℕ). bad_from (n - length (pending a)) (pending a ++ later)) (sym none);
        counts = none ∙ sym (add-zero a.seen);
      };
      waits = refl;
      even = refl;
      are_octets = AreOctets-nil;
    }

pub first_pair_of : (text rest : List ℕ) (high low octet : ℕ) → text ≡ high ∷ low ∷ rest → IsPair high low octet → FirstPair text rest octet
first_pair_of text rest high low octet splits p = record { high = high; low = low; splits = splits; is_pair = p }

pub ReadsPairs-next : (a b c : HexText) (text rest behind was octets last : List ℕ) (octet : ℕ) → ReadsPairs a text rest was octets b → a.pending ≡ None
    → FirstPair rest behind octet → c.pending ≡ b.pending → c.seen ≡ b.seen + 2 → octet < 256 → last ≡ octets ++ octet ∷ [] → ReadsPairs a text behind was last c
ReadsPairs-next a b c text rest behind was octets last octet p none f same count lt put =
    let both : List ℕ = f.high ∷ f.low ∷ [] in
    let read = reads_both b c f.high f.low octet (p.waits ∙ none) (same ∙ p.waits ∙ none) count f.is_pair.first f.is_pair.second f.is_pair.value in
    record {
      front = p.front ++ both;
      added = p.added ++ octet ∷ [];
      splits = p.splits ∙ ap (λ (t : List ℕ). p.front ++ t) f.splits ∙ sym (append_assoc p.front both behind);
      puts = put ∙ ap (λ (o : List ℕ). o ++ octet ∷ []) p.puts ∙ append_assoc was p.added (octet ∷ []);
      continues = Continues-then a b c p.front both p.added (octet ∷ []) p.continues read;
      waits = same ∙ p.waits;
      even = omega (arith, length-append p.front both, length-append p.added (octet ∷ []), p.even);
      are_octets = AreOctets-push p.added octet p.are_octets lt;
    }

pub ReadsPairs-more : (a : HexText) (text rest behind was octets last : List ℕ) (octet : ℕ) → ReadsPairs a text rest was octets (read_on a (length text - length rest)) → a.pending ≡ None
    → FirstPair rest behind octet → octet < 256 → last ≡ octets ++ octet ∷ [] → ReadsPairs a text behind was last (read_on a (length text - length behind))
ReadsPairs-more a text rest behind was octets last octet p none f lt put =
    ReadsPairs-next a (read_on a (length text - length rest)) (read_on a (length text - length behind)) text rest behind was octets last octet p none f refl
    (omega (arith, ap length f.splits, ap length p.splits, length-append p.front rest)) lt put

-- ---- the characters of a block in order

-- the part of a text read so far
pub record Decodes (start : HexText) (text rest octets : List ℕ) (now : HexText) : Type 0 where
  pub front : List ℕ
  pub splits : text ≡ front ++ rest
  pub so_far : Continues start front octets now
  pub few : 2 * length octets + length (pending now) ≤ length front + length (pending start)
  pub are_octets : AreOctets octets

-- a character and then pairs
pub Decodes-next : (start b m c : HexText) (text rest behind later octets more middle last : List ℕ) (ch : ℕ) → Decodes start text rest octets b → rest ≡ ch ∷ behind
    → Continues b (ch ∷ []) more m → 2 * length more + length (pending m) ≤ 1 + length (pending b) → AreOctets more → middle ≡ octets ++ more → ReadsPairs m behind later middle last c → Decodes start text later last c
Decodes-next start b m c text rest behind later octets more middle last ch d next read size small same p =
    let one = Continues-then start b m d.front (ch ∷ []) octets more d.so_far read in
    let all = Continues-then start m c (d.front ++ ch ∷ []) p.front (octets ++ more) p.added one p.continues in
    let put : last ≡ (octets ++ more) ++ p.added = p.puts ∙ ap (λ (o : List ℕ). o ++ p.added) same in
    record {
      front = (d.front ++ ch ∷ []) ++ p.front;
      splits = d.splits ∙ ap (λ (t : List ℕ). d.front ++ t) (next ∙ ap (λ (t : List ℕ). ch ∷ t) p.splits) ∙ sym (append_assoc d.front (ch ∷ []) (p.front ++ later)) ∙ sym (append_assoc (d.front ++ ch ∷ []) p.front later);
      so_far = subst (λ (o : List ℕ). Continues start ((d.front ++ ch ∷ []) ++ p.front) o c) (sym put) all;
      few = omega (arith, d.few, size, p.even, ap length put, length-append (octets ++ more) p.added, length-append octets more, length-append (d.front ++ ch ∷ []) p.front, length-append d.front (ch ∷ []), ap (λ (o : Option ℕ). length (option_to_list o)) p.waits);
      are_octets = subst AreOctets (sym put) (AreOctets-append (octets ++ more) p.added (AreOctets-append octets more d.are_octets small) p.are_octets);
    }

empty : (rest : List ℕ) → length rest ≡ 0 → rest ≡ []
empty [] none = refl
empty (x ∷ rest) none = absurd cc

option_short : (o : Option ℕ) → length (option_to_list o) ≤ 1
option_short None = omega arith
option_short (Some x) = omega arith

pub pending_short : (reader : HexText) → length (pending reader) ≤ 1
pending_short reader = option_short reader.pending

-- ---- the pending digit

pub some_waits : (o : Option ℕ) (m n : ℕ) → option_map (λ (x : ℕ). m) o ≡ Some n → (c : ℕ) × (o ≡ Some c) × (n ≡ m)
some_waits None m n e = absurd cc
some_waits (Some c) m n e = (c, refl, cc)

pub none_waits : (o : Option ℕ) (m : ℕ) → ((n : ℕ) → option_map (λ (x : ℕ). m) o ≡ Some n → ⊥) → o ≡ None
none_waits None m no_digit = refl
none_waits (Some c) m no_digit = absurd (no_digit m refl)
