-- The kinds of message, their type octets and their lengths (RFC 4271, sections 4.1 to 4.5).
use Rattle.std.specs.Prelude.{ℕ, Bool, ◌&&◌, ◌==◌, nat_le, Option, None, Some, if◌then◌else◌}
use Rattle.bgp_numbers.specs.declared.message.TheConstants.{OPEN, UPDATE, NOTIFICATION, KEEPALIVE}
use Rattle.bgp_frame.specs.declared.kind.Kind.{Kind}
use Rattle.bgp_frame.specs.declared.kind.Kind.TheVariants.{Open, Update, Notification, Keepalive}
use Rattle.bgp_frame.specs.Types.{IsLengthIn, Types}

-- the type octet of a kind
abbrev pub code_of : Kind → ℕ
code_of Open = OPEN
code_of Update = UPDATE
code_of Notification = NOTIFICATION
code_of Keepalive = KEEPALIVE

-- the kind of a type octet
abbrev pub kind_of : ℕ → Option Kind
kind_of n =
    if n == OPEN then Some Open else (
    if n == UPDATE then Some Update else (
    if n == NOTIFICATION then Some Notification else (
    if n == KEEPALIVE then Some Keepalive else None)))

-- the least and the most octets of a whole message
abbrev pub least_length : Kind → ℕ
least_length Open = 29
least_length Update = 23
least_length Notification = 21
least_length Keepalive = 19

abbrev pub most_length : Kind → ℕ
most_length Open = 4096
most_length Update = 4096
most_length Notification = 4096
most_length Keepalive = 19

-- the types of RFC 4271
abbrev pub plain : Types Kind
plain = record { code_of = code_of; kind_of = kind_of; least = least_length; most = most_length; limit = 4096 }

abbrev pub is_length_in : {K : Type 0} → Types K → K → ℕ → Bool
is_length_in ty kind n = nat_le (ty.least kind) n && nat_le n (ty.most kind)

-- a message of this kind may have n octets
abbrev pub IsLength : Kind → ℕ → Type 0
IsLength = IsLengthIn plain

abbrev pub is_length : Kind → ℕ → Bool
is_length = is_length_in plain
