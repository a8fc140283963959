use Rattle.ristulva_c.proofs.Below.{◌≡◌, List, ℕ, false, Some, refl, sym, ap, subst, ◌∙◌, inl, inr}
use Rattle.bgp_frame.specs.Prelude.{WaitsIn}
use Rattle.bgp_wide.specs.Prelude.{Decoding, holding, types_in}
use Rattle.ristulva_c.proofs.Streams.{waits, all_fed}
use Rattle.ristulva_c.proofs.stream.feed.Goals as goal

pub returns-in-None : goal.returns-in-None
returns-in-None c =
    let d = c.args.decoder.now in
    let new = c.feed.new.self in
    let fed = c.feed.ensures in
    let going : new.stopped ≡ false = ap (λ (x : Decoding). x.stopped) fed.1 ∙ c.requires.going in
    let less = subst (λ (x : Decoding). WaitsIn (types_in x.terms) x.held) fed.1 (waits new going c.in-None.ensures.0) in
    let here = subst (λ (x : Decoding). WaitsIn (types_in d.terms) x.held) (sym fed.1) less in
    let all = all_fed d c.args.piece.now c.feed.result new c.requires.going fed here in
    inr (inl (record {
      going = c.requires.going;
      waits = subst (WaitsIn (types_in d.terms)) all.1 less;
      told = record { status = refl; out = c.in-None.ensures.1.0.out; info = c.in-None.ensures.1.0.info };
      decoder = ap (λ (x : Decoding). Some x) (fed.1 ∙ ap (λ (x : List ℕ). holding d x) all.1);
      message = c.in-None.ensures.1.1;
      taken = all.0;
    }))
