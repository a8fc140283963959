-- How far the attributes of a list of types are written.
use Rattle.std.specs.Prelude.{◌≡◌, ℕ, ◌+◌, ◌<◌, List, ◌++◌, length, take, Result, OnOk, OnErr}
use Rattle.std.specs.List.{flat_map}
use Rattle.bgp_wire.specs.Prelude.{Extends}
use Rattle.bgp_attr.specs.declared.attr.Attr.{Attr}

-- those of the first `count` types are written after what was there, or there was no room for all of them
pub record IsSoFar {T E : Type 0} (octets : Attr → List ℕ) (slots : ℕ → List Attr) (kinds : List ℕ) (room : ℕ) (start : List ℕ) (count : ℕ) (now : List ℕ) (result : Result T E) : Type 0 where
  pub ok : OnOk result (now ≡ start ++ flat_map octets (flat_map slots (take count kinds)))
  pub err : OnErr result (Extends start now)
  pub full : OnErr result (room < length start + length (flat_map octets (flat_map slots kinds)))
