use Rattle.bgp_words.proofs.Prelude.{lit<, sym, ◌∙◌, true≢false}
use Rattle.std.proofs.lemmas.Str.Pattern.{starts_char}
use Rattle.bgp_words.proofs.TypeLists.{parsed}
use Rattle.bgp_words.proofs.type_list.octet_of.Goals as goal

pub returns : goal.returns
returns c =
    let plus = starts_char 43 c.args.word.now c.starts_with.result c.starts_with.ensures.cases (lit< tt) (lit< tt) in
    c.ok.ensures.value ∙ parsed c.args.word.now c.parse.result c.parse.ensures.value.0 (λ is. true≢false (sym (plus.1 is) ∙ c.if-starts_with.false))
