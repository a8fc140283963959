use Rattle.ristulva_c.proofs.Below.{◌≡◌, List, ℕ, false, Some, refl, ap, subst, ◌∙◌, inl, inr, Waits, Decoding, holding}
use Rattle.ristulva_c.proofs.Pulled.{waits, all_fed}
use Rattle.ristulva_c.proofs.decoder.feed.Goals as goal

pub returns-in-None : goal.returns-in-None
returns-in-None c =
    let d = c.args.decoder.now in
    let new = c.feed.new.self in
    let fed = c.feed.ensures in
    let going : new.stopped ≡ false = ap (λ (x : Decoding). x.stopped) fed.1 ∙ c.requires.going in
    let less = waits new going c.in-None.ensures.0 in
    let all = all_fed d c.args.piece.now c.feed.result new c.requires.going fed less in
    inr (inl (record {
      going = c.requires.going;
      waits = subst Waits (ap (λ (x : Decoding). x.held) fed.1 ∙ all.1) less;
      told = record { status = refl; out = c.in-None.ensures.1.0.out; info = c.in-None.ensures.1.0.info };
      decoder = ap (λ (x : Decoding). Some x) (fed.1 ∙ ap (λ (x : List ℕ). holding d x) all.1);
      message = c.in-None.ensures.1.1;
      taken = all.0;
    }))
