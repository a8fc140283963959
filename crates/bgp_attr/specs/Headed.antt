-- An attribute whose value is written before its head.
use Rattle.std.specs.Prelude.{ℕ, List}
use Rattle.bgp_attr.specs.declared.attr.Attr.{Attr}
use Rattle.bgp_attr.specs.Written.{class_of, partial_of, type_of, made}

-- these octets as the value of an attribute that has the class, the Partial bit and the type of this one
abbrev pub headed : Attr → List ℕ → List ℕ
headed a value = (made (class_of a) (partial_of a) (type_of a) value).whole
