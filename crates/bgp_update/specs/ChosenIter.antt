-- The chosen attributes that an iterator has left.
use Rattle.std.specs.Prelude.{List}
use Rattle.std.specs.List.{flat_map}
use Rattle.bgp_attr.specs.declared.attr.Attr.{Attr}
use Rattle.bgp_update.specs.declared.chosen_iter.ChosenIter.{ChosenIter}
use Rattle.bgp_update.specs.Chosen.{chosen_attrs}
use Rattle.bgp_update.specs.Slots.{slot}

-- in the order in which they are written
abbrev pub chosen_left : ChosenIter → List Attr
chosen_left it = flat_map (slot (chosen_attrs it.chosen)) it.kinds.now
