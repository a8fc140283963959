use Rattle.bgp_words.proofs.Prelude.{has_octet}
use Rattle.bgp_words.proofs.TypeLists.{others}
use Rattle.bgp_words.proofs.type_list.all_but.Goals as goal

pub returns : goal.returns
returns c =
    rw (
      c.others.ensures,
      c.insert-13.ensures,
      c.insert-12.ensures,
      c.insert-11.ensures,
      c.insert-10.ensures,
      c.insert-9.ensures,
      c.insert-8.ensures,
      c.insert-7.ensures,
      c.insert-6.ensures,
      c.insert-5.ensures,
      c.insert-4.ensures,
      c.insert-3.ensures,
      c.insert-2.ensures,
      c.insert.ensures,
    )
    (others (has_octet c.args.types))
