-- The messages that replace an UPDATE, as the code names them.
use Rattle.std.specs.Prelude.{◌≡◌, ◌≤◌, Bool, true, false, length}
use Rattle.std.specs.List.{AllByRecursion}
use Rattle.bgp_open.specs.declared.context.Context.{Context}
use Rattle.bgp_attr.specs.Prelude.{is_writable}
use Rattle.bgp_update.specs.declared.update.Update.{Update}
use Rattle.bgp_update.specs.Prelude.{attr_list, chosen_update, written_body}
use Rattle.bgp_clean.specs.declared.part.Part.{Part}
use Rattle.bgp_clean.specs.declared.part.PartView.{PartView}
use Rattle.bgp_clean.specs.Updates.{withdrawal, gone_routes, nlri_routes, nlri_part, reached_routes, reached_part}

abbrev pub part_update : Part → Update → Update
part_update Part.Gone u = withdrawal (gone_routes u)
part_update Part.Nlri u = nlri_part u
part_update Part.NlriGone u = withdrawal (nlri_routes u)
part_update Part.Reached u = reached_part u
part_update Part.ReachedGone u = withdrawal (reached_routes u)

abbrev pub part_value : PartView → Update
part_value p = part_update p.part (chosen_update p.chosen.now)

-- it announces routes, so that it has the attributes of the UPDATE
abbrev pub is_announcing : Part → Bool
is_announcing Part.Nlri = true
is_announcing Part.Reached = true
is_announcing _ = false

-- it can be written
pub record CanBePut (ctx : Context) (u : Update) : Type 0 where
  pub writable : AllByRecursion (λ a. is_writable ctx a ≡ true) (attr_list u.attrs)
  pub short : length (written_body ctx u) ≤ 4077

abbrev pub PartsCanBePut : Context → Update → Type 0
PartsCanBePut ctx u = (p : Part) → CanBePut ctx (part_update p u)
