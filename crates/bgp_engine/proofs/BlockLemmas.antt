-- One block of text: raw octets, or hexadecimal text.
use Rattle.bgp_engine.proofs.Prelude.{◌≡◌, ℕ, Bool, true, false, List, [], ◌++◌, Option, Some, None, sym, ap, subst, ◌∙◌, option_to_list}
use Rattle.bgp_engine.proofs.Prelude.{MatchOption, append-nil, HexText, spelled, pending, Continues, Breaks, IsFront, Takes, Reports, stream_of}
use Rattle.bgp_engine.proofs.Prelude.{MeetsOver}

nothing_pending : (reader : HexText) → reader.pending ≡ None → pending reader ≡ []
nothing_pending reader e = ap option_to_list e

pub front_raw : (hex : Bool) (reader : HexText) (block : List ℕ) → hex ≡ false → (hex ≡ false → reader.pending ≡ None) → (later : List ℕ) → IsFront block (stream_of hex (pending reader ++ (block ++ later)))
front_raw hex reader block raw none later =
    subst (λ (h : Bool). IsFront block (stream_of h (pending reader ++ (block ++ later)))) (sym raw) (later, ap (λ (p : List ℕ). p ++ (block ++ later)) (nothing_pending reader (none raw)))

pub front_hex : (hex : Bool) (old new : HexText) (block octets : List ℕ) (bad : Option ℕ) → hex ≡ true → MatchOption bad (Continues old block octets new) (Breaks old block octets) → (later : List ℕ)
    → IsFront octets (stream_of hex (pending old ++ (block ++ later)))
front_hex hex old new block octets bad is d later = subst (λ (h : Bool). IsFront octets (stream_of h (pending old ++ (block ++ later)))) (sym is) (decodes_front bad d)
  where
    decodes_front : (o : Option ℕ) → MatchOption o (Continues old block octets new) (Breaks old block octets) → IsFront octets (spelled (pending old ++ (block ++ later)))
    decodes_front None c = (spelled (pending new ++ later), c.spells later)
    decodes_front (Some n) b = ([], b.spells later ∙ sym (append-nil octets))

-- ---- a block after which the stream is over

module _ (hex : Bool) (reader reader1 : HexText) (old new : Reports) (going : Type 0) (told0 told1 block : List ℕ) where
  pub MeetsOver-raw : (over : Bool) → hex ≡ false → (hex ≡ false → reader.pending ≡ None) → Takes old new going told0 told1 block over → over ≡ true → MeetsOver hex reader reader1 old new going told0 told1 block
  MeetsOver-raw over raw none takes is = record { octets = block; spells = front_raw hex reader block raw none; takes = subst (λ (b : Bool). Takes old new going told0 told1 block b) is takes }

  pub MeetsOver-hex : (octets given : List ℕ) (bad : Option ℕ) (over : Bool) → hex ≡ true → MatchOption bad (Continues reader block octets reader1) (Breaks reader block octets) → given ≡ octets
      → Takes old new going told0 told1 given over → over ≡ true → MeetsOver hex reader reader1 old new going told0 told1 block
  MeetsOver-hex octets given bad over is_hex decodes same takes is = record {
    octets = octets;
    spells = front_hex hex reader reader1 block octets bad is_hex decodes;
    takes = subst (λ (b : Bool). Takes old new going told0 told1 octets b) is (subst (λ (x : List ℕ). Takes old new going told0 told1 x over) same takes);
  }
