-- Bodies that are passed on.
use Rattle.std.specs.Prelude.{◌≡◌, ℕ, List, true}
use Rattle.std.specs.List.{AllByRecursion}
use Rattle.bgp_frame.specs.declared.kind.Kind.{Kind}
use Rattle.bgp_frame.specs.Frame as frame
use Rattle.bgp_open.specs.declared.context.Context.{Context}
use Rattle.bgp_attr.specs.Prelude.{is_writable}
use Rattle.bgp_update.specs.Prelude.{attr_list, chosen_update, routes_value, withdrawal_octets, written_body}
use Rattle.bgp_clean.specs.declared.whole.Body.{Body}
use Rattle.bgp_clean.specs.steps.Parts.{part_value, CanBePut}

abbrev pub kind_in : Body → Kind
kind_in (Body.Same k octets) = k
kind_in _ = Kind.Update

abbrev pub octets_in : Context → Body → List ℕ
octets_in ctx (Body.Part part) = written_body ctx (part_value part.now)
octets_in ctx (Body.Update chosen) = written_body ctx (chosen_update chosen.now)
octets_in ctx (Body.Withdrawal view) = withdrawal_octets (routes_value view.now)
octets_in ctx (Body.Same k octets) = octets.now

abbrev pub message_of : Context → Body → frame.Message
message_of ctx b = record { kind = kind_in b; body = octets_in ctx b }

-- each attribute of it can be written
abbrev pub IsWritable : Context → Body → Type 0
IsWritable ctx (Body.Update chosen) = AllByRecursion (λ a. is_writable ctx a ≡ true) (attr_list (chosen_update chosen.now).attrs)
IsWritable ctx (Body.Part part) = CanBePut ctx (part_value part.now)
IsWritable ctx _ = Unit {0}
