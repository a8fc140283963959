-- Which UPDATE is an End-of-RIB (RFC 4724, section 2).
use Rattle.std.specs.Prelude.{ℕ, ◌&&◌, ◌==◌, List, [], ◌∷◌, length, Option, None, Some, if◌then◌else◌}
use Rattle.bgp_numbers.specs.declared.afi.TheConstants.{IPV4, IPV6}
use Rattle.bgp_open.specs.declared.context.Context.{Context}
use Rattle.bgp_attr.specs.declared.attr.Attr.{Attr}
use Rattle.bgp_attr.specs.declared.attr.Attr.TheVariants as attr
use Rattle.bgp_attr.specs.declared.mp.MpUnreach.TheVariants as unreach
use Rattle.bgp_update.specs.Marks.{Mark, marks_of}
use Rattle.bgp_update.specs.Parts.{Parts}
use Rattle.bgp_update.specs.Taken.{kept_of}

-- the family of an MP_UNREACH_NLRI without routes
abbrev pub bare_family : Attr → Option ℕ
bare_family (attr.MpUnreach (unreach.Ip4 [])) = Some IPV4
bare_family (attr.MpUnreach (unreach.Ip6 [])) = Some IPV6
bare_family _ = None

-- the family of the only attribute that is kept
abbrev pub family_of_kept : List Attr → Option ℕ
family_of_kept [] = None
family_of_kept (a ∷ []) = bare_family a
family_of_kept _ = None

-- the field has no attribute, or a single one, which is kept
abbrev pub family_of_marks : List Mark → Option ℕ
family_of_marks [] = Some IPV4
family_of_marks (m ∷ []) = family_of_kept (kept_of (m ∷ []))
family_of_marks _ = None

-- The family whose End-of-RIB the message is: IPv4 for the empty UPDATE, in every context since its fields are always read; another family in use
-- where MP_UNREACH_NLRI without routes is the only attribute. Neither has anything else.
abbrev pub end_of_rib : Context → Parts → Option ℕ
end_of_rib ctx p =
    if (length p.withdrawn == 0) && (length p.nlri == 0) then family_of_marks (marks_of ctx p) else None

-- the family whose End-of-RIB a body is, where it is one
abbrev pub family_in : Context → Option Parts → Option ℕ
family_in ctx None = None
family_in ctx (Some p) = end_of_rib ctx p
