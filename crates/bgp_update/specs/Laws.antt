-- What the laws of UPDATEs say of an accepted one.
use Rattle.std.specs.Prelude.{◌≡◌, ◌≤◌, ◌==◌, ℕ, Bool, true, false, List, ◌∷◌, ◌++◌, length, None}
use Rattle.std.specs.List.{list_any}
use Rattle.bgp_open.specs.declared.context.Context.{Context}
use Rattle.bgp_attr.specs.declared.judged.Judged.{Judged}
use Rattle.bgp_attr.specs.Prelude.{PlacedTlv}
use Rattle.bgp_attr.specs.declared.judged.Judged.TheVariants as judged
use Rattle.bgp_attr.specs.declared.why.Why.TheVariants as why
use Rattle.bgp_update.specs.declared.update.Update.{Update}
use Rattle.bgp_update.specs.Marks.{Mark, carries_routes, malformed, field_marks}
use Rattle.bgp_update.specs.Written.{written_body, invalid_of, HasUpdateRanges}

-- the UPDATE can be written in the context, in no more octets than this body has
pub record CanBeWritten (ctx : Context) (u : Update) (body : List ℕ) : Type 0 where
  pub valid : invalid_of ctx u ≡ None
  pub ranges : HasUpdateRanges u
  pub no_longer : length (written_body ctx u) ≤ length body

-- ---- attributes that are repeated (RFC 7606, section 3, item g)

-- a whole attribute of this type is among these
abbrev pub stands_in : ℕ → List PlacedTlv → Bool
stands_in kind ps = list_any (λ p. p.tlv.kind == kind) ps

-- an attribute is discarded because one of its type precedes it
abbrev pub IsRepeated : Judged → Type 0
IsRepeated j = j ≡ judged.Discard why.Repeated

-- The mark of a whole attribute after these others of its field: it is repeated where one of its type precedes it, and only
-- there, except for the two types that carry routes, for which the session is reset then
pub record IsMarkBehind (before : List PlacedTlv) (p : PlacedTlv) (m : Mark) : Type 0 where
  pub at : m.at ≡ p.at
  pub kind : m.kind ≡ p.tlv.kind
  pub repeated : stands_in p.tlv.kind before ≡ true → carries_routes p.tlv.kind ≡ false → IsRepeated m.judged
  pub only : IsRepeated m.judged → (stands_in p.tlv.kind before ≡ true) × (carries_routes p.tlv.kind ≡ false)
  pub routes : stands_in p.tlv.kind before ≡ true → carries_routes p.tlv.kind ≡ true → m.judged ≡ judged.Reset malformed

-- a field has such a mark for the attribute after these others
pub record HasMarkBehind (ctx : Context) (has_nlri : Bool) (field : List ℕ) (before : List PlacedTlv) (p : PlacedTlv) : Type 0 where
  pub earlier : List Mark
  pub mark : Mark
  pub later : List Mark
  pub in_order : field_marks ctx has_nlri field ≡ earlier ++ mark ∷ later
  pub place : length earlier ≡ length before
  pub says : IsMarkBehind before p mark
