use Rattle.bgp_fields.proofs.Prelude.{ℕ, ◌+◌, [], ◌++◌, length, map, drop, None, refl, sym, ap, ◌∙◌, arith, length-map, append-nil, value_fields_in}
use Rattle.bgp_fields.proofs.Prelude.{section_fields_in, message_fields_in, fields_left}
use Rattle.bgp_fields.proofs.Listings.{listing, more, all_listed}
use Rattle.bgp_fields.proofs.iter.FieldIter.list.Goals as goal

pub returns-clause-list : goal.returns-clause-list
returns-clause-list g c =
    let it = c.args.self in
    let told = g.T.Listed.told in
    let places = c.args.list.now in
    let all = fields_left it in
    let section_at = it.at + length it.value_octets.now in
    let value = value_fields_in it.reading it.value it.at it.value_group it.value_octets.now in
    let section = section_fields_in it.reading it.section section_at it.section_group it.section_octets.now in
    let message = message_fields_in it.reading it.message (section_at + length it.section_octets.now) None it.message_octets.now in
    let valued = more g.row.T.Denot told all all (section ++ message) value 0 0 c.list_value-taken.result places places c.list_value-taken.new.list
    (listing g.row.T.Denot told all 0 places (omega (arith, c.requires))) refl c.list_value-taken.ensures.count c.list_value-taken.ensures.list in
    let sectioned = more g.row.T.Denot told all (section ++ message) message section 0 c.list_value-taken.result c.list_section-taken.result places c.list_value-taken.new.list c.list_section-taken.new.list
    valued refl c.list_section-taken.ensures.count c.list_section-taken.ensures.list in
    let ended = more g.row.T.Denot told all message [] message 0 c.list_section-taken.result c.list_message.result places c.list_section-taken.new.list c.list_message.new.list
    sectioned (sym (append-nil message)) c.list_message.ensures.count c.list_message.ensures.list in
    (all_listed g.row.T.Denot told all [] 0 c.list_message.result places c.list_message.new.list ended refl).0
    ∙ ap (λ (n : ℕ). map told all ++ drop n places) (omega (arith, length-map all told))
