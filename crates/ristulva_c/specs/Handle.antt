-- What a handle owns.
use Rattle.std.specs.Prelude.{Option, None, Some}
use base.Fml.{Fml, feq}
use denote.RattleType.{RattleType}
use denote.RawPtr.{Ptr, null_ptr}
use Rattle.std.specs.Box.Ownership.{box_owns}
use Rattle.libc.specs.Heap.{chunk}

-- nothing, where its pointer is null; or the box that it points to, with this value
abbrev pub owned : (R : RattleType) → Ptr → Option R.Denot → Fml
owned R p None = feq Ptr p null_ptr
owned R p (Some x) = box_owns chunk R p x
