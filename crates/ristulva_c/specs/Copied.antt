-- Copying into the caller's buffer or list.
use Rattle.std.specs.Prelude.{List, ◌++◌, length, drop, nat_le, if◌then◌else◌}

-- a buffer that begins with these octets and is unchanged after them, or a list that begins with these elements; one without room for them is
-- unchanged
abbrev pub copied : {A : Type 0} → List A → List A → List A
copied octets buffer = if nat_le (length octets) (length buffer) then octets ++ drop (length octets) buffer else buffer
