use Rattle.bgp_engine.proofs.Prelude.{ℕ, Option, length, refl, sym, ap, ◌∙◌, option_to_list}
use Rattle.bgp_engine.proofs.HexReads.{reads_pair, breaks_pair, reads_blank, breaks_between}
use Rattle.bgp_engine.proofs.hex_text.HexText.take.Goals as goal

pub returns-in-Some-pair : goal.returns-in-Some-pair
returns-in-Some-pair c =
    let old = c.args.self.now in (
      reads_pair old _ c.args.character c.in-Some.high c.in-Some-pair.octet c.in-Some.is refl refl (old.is_seen c.in-Some.high c.in-Some.is) (old.is_digit c.in-Some.high c.in-Some.is)
          (sym c.in-Some-pair.ensures.digit) c.in-Some-pair.ensures.value,
      ap (λ (o : Option ℕ). length (option_to_list o)) c.in-Some.is,
      refl,
    )

pub returns-in-None-pair : goal.returns-in-None-pair
returns-in-None-pair c =
    let old = c.args.self.now in
    breaks_pair old old c.args.character c.in-Some.high c.in-Some.is (old.is_seen c.in-Some.high c.in-Some.is) (old.is_digit c.in-Some.high c.in-Some.is) (sym c.in-None-pair.ensures.digit)

pub returns-in-None-2 : goal.returns-in-None-2
returns-in-None-2 c = reads_blank c.args.self.now _ c.args.character c.in-None.is c.in-None.is refl (sym c.is_blank.ensures ∙ c.if-is_blank.true)

pub returns-in-None-3 : goal.returns-in-None-3
returns-in-None-3 c = breaks_between c.args.self.now c.args.self.now c.args.character c.in-None.is (sym c.is_blank.ensures ∙ c.if-is_blank.false) (sym c.is_digit.ensures ∙ c.if-is_digit.false)
