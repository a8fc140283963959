-- The values of a borrowed UPDATE.
use Rattle.std.specs.Prelude.{List}
use Rattle.bgp_attr.specs.declared.opaque.Opaque.{Opaque}
use Rattle.bgp_frame.specs.Prelude.{notification_of_view}
use Rattle.bgp_update.specs.declared.note.Note.{Note}
use Rattle.bgp_update.specs.declared.routes.Routes.{Routes}
use Rattle.bgp_update.specs.declared.update.Update.{Update}
use Rattle.bgp_update.specs.declared.verdict.Verdict.{Verdict}
use Rattle.bgp_update.specs.declared.verdict.Verdict.TheVariants as verdict
use Rattle.bgp_update.specs.declared.view.UpdateView.{UpdateView}
use Rattle.bgp_update.specs.declared.found.Found.{Found}
use Rattle.bgp_update.specs.declared.found.Found.TheVariants as found
use Rattle.bgp_update.specs.declared.view.View.{View}
use Rattle.bgp_update.specs.declared.view.View.TheVariants as view
use Rattle.bgp_update.specs.Body.{parts_value}
use Rattle.bgp_update.specs.KeptView.{with_others}
use Rattle.bgp_update.specs.Marks.{Mark, marks_of}
use Rattle.bgp_update.specs.Notes.{notes_of, routes_of}
use Rattle.bgp_update.specs.Taken.{update_of}

-- the marks of its attributes
abbrev pub view_marks : UpdateView → List Mark
view_marks v = marks_of v.ctx (parts_value v.body)

-- its value with the attributes that are kept
abbrev pub update_value : UpdateView → Update
update_value v = update_of (parts_value v.body) (view_marks v)

-- its value with the attributes of its slots, and these others
abbrev pub update_among : UpdateView → List Opaque → Update
update_among v others = record (update_value v) { attrs = with_others v.summary.kept others }

abbrev pub notes_value : UpdateView → List Note
notes_value v = notes_of (parts_value v.body) (view_marks v)

abbrev pub routes_value : UpdateView → Routes
routes_value v = routes_of (parts_value v.body) (view_marks v)

abbrev pub view_value : View → Verdict
view_value (view.Take v) = verdict.Take (update_value v) (notes_value v)
view_value (view.Withdraw v) = verdict.Withdraw (routes_value v) (notes_value v)
view_value (view.Reset n) = verdict.Reset n

-- the verdict, where the view is in a buffer beside it
abbrev pub found_value : Found → UpdateView → Verdict
found_value found.Take v = verdict.Take (update_value v) (notes_value v)
found_value found.Withdraw v = verdict.Withdraw (routes_value v) (notes_value v)
found_value (found.Reset n) v = verdict.Reset (notification_of_view n)
