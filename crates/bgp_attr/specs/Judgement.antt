-- The judgement of one attribute, the first of its type in a message (RFC 4271, section 6.3; RFC 7606, sections 3 to 7; RFC 7607).
-- A row for each type: its tests in their order, each with its answer. The first that applies decides; where none does, the attribute is kept.
use Rattle.std.specs.Prelude.{ℕ, ◌+◌, ◌%◌, Bool, not, ◌||◌, ◌==◌, nat_lt, List, [], ◌∷◌, length, take, map, slice_index, Option, None, Some, option_map}
use Rattle.bgp_numbers.specs.declared.attribute.TheConstants as attribute
use Rattle.bgp_numbers.specs.declared.error.TheConstants.{UPDATE_MESSAGE, OPTIONAL_ATTRIBUTE, UNRECOGNIZED_WELL_KNOWN}
use Rattle.bgp_wire.specs.Prelude.{when}
use Rattle.bgp_open.specs.declared.context.Context.{Context}
use Rattle.bgp_prefix.specs.Prelude.{run_of}
use Rattle.bgp_attr.specs.declared.class.Class.{Class}
use Rattle.bgp_attr.specs.declared.class.Class.TheVariants.{WellKnown, OptionalNonTransitive, OptionalTransitive}
use Rattle.bgp_attr.specs.declared.attr.Attr.{Attr}
use Rattle.bgp_attr.specs.declared.attr.Attr.TheVariants as attr
use Rattle.bgp_attr.specs.declared.judged.Judged.{Judged}
use Rattle.bgp_attr.specs.declared.judged.Judged.TheVariants.{Keep, Discard, Withdraw, Reset}
use Rattle.bgp_attr.specs.declared.why.Why.TheVariants as why
use Rattle.bgp_attr.specs.Flags.{has_class, is_optional}
use Rattle.bgp_attr.specs.Tlv.{TlvValue}
use Rattle.bgp_attr.specs.Numbers.{number_width, number_in}
use Rattle.bgp_attr.specs.Path.{path_of, path_fault, path_has_zero}
use Rattle.bgp_attr.specs.Mp.{family_of, is_in_use, address_width, is_next_hop_length, next_hop_length, reached_of, mp_reach_of, withdrawn_of, mp_unreach_of}
use Rattle.bgp_attr.specs.Table.{has_entry, entry_of}
use Rattle.bgp_attr.specs.Value.{origin_of, as_path_form, as4_path_form, four_of, aggregator_of, communities_of, large_of, as4_path_of, opaque_of}

-- ---- words of the table

-- a reset of code 3 with the whole attribute as it was received (RFC 4271, section 6.3)
abbrev pub reset_with : ℕ → TlvValue → Judged
reset_with subcode t = Reset (record { code = UPDATE_MESSAGE; subcode = subcode; info = record { items = t.whole } })

-- the Optional or the Transitive bit isn't that of the type
abbrev pub has_other_flags : Class → TlvValue → Bool
has_other_flags class t = not (has_class class t.flags)

abbrev pub is_not_long : ℕ → TlvValue → Bool
is_not_long n t = not (length t.value == n)

abbrev pub is_shorter : ℕ → TlvValue → Bool
is_shorter n t = nat_lt (length t.value) n

-- no value at all, or one that isn't a row of n octets each
abbrev pub is_no_row : ℕ → TlvValue → Bool
is_no_row n t = (length t.value == 0) || not (length t.value % n == 0)

-- the octets aren't only prefixes: one is too long, or goes past the end
abbrev pub has_bad_prefix : ℕ → List ℕ → Bool
has_bad_prefix width b = not (length (run_of width b).1 == 0)

-- ---- the table

abbrev pub origin_tests : TlvValue → List (Option Judged)
origin_tests t =
    when (has_other_flags WellKnown t) (Withdraw why.Flags) ∷
    when (is_not_long 1 t) (Withdraw why.Length) ∷
    when (nat_lt 2 (slice_index t.value 0)) (Withdraw why.Value) ∷ []

abbrev pub as_path_tests : Context → TlvValue → List (Option Judged)
as_path_tests ctx t =
    when (has_other_flags WellKnown t) (Withdraw why.Flags) ∷
    option_map (λ fault. Withdraw fault) (path_fault (as_path_form ctx) t.value) ∷
    when (path_has_zero (as_path_form ctx) t.value) (Withdraw why.AsZero) ∷ []

abbrev pub next_hop_tests : Bool → TlvValue → List (Option Judged)
next_hop_tests has_nlri t =
    when (not has_nlri) (Discard why.Unneeded) ∷
    when (has_other_flags WellKnown t) (Withdraw why.Flags) ∷
    when (is_not_long 4 t) (Withdraw why.Length) ∷ []

-- a number of four octets
abbrev pub four_tests : Class → TlvValue → List (Option Judged)
four_tests class t =
    when (has_other_flags class t) (Withdraw why.Flags) ∷
    when (is_not_long 4 t) (Withdraw why.Length) ∷ []

-- the same, for an attribute that stays inside one AS
abbrev pub internal_tests : Context → Class → TlvValue → List (Option Judged)
internal_tests ctx class t =
    when (not ctx.internal) (Discard why.External) ∷
    four_tests class t

abbrev pub atomic_tests : TlvValue → List (Option Judged)
atomic_tests t =
    when (has_other_flags WellKnown t) (Withdraw why.Flags) ∷
    when (is_not_long 0 t) (Discard why.Length) ∷ []

abbrev pub aggregator_tests : Bool → TlvValue → List (Option Judged)
aggregator_tests wide t =
    when (has_other_flags OptionalTransitive t) (Withdraw why.Flags) ∷
    when (is_not_long (number_width wide + 4) t) (Discard why.Length) ∷
    when (number_in wide (take (number_width wide) t.value) == 0) (Discard why.AsZero) ∷ []

abbrev pub communities_tests : TlvValue → List (Option Judged)
communities_tests t =
    when (has_other_flags OptionalTransitive t) (Withdraw why.Flags) ∷
    when (is_no_row 4 t) (Withdraw why.Length) ∷ []

abbrev pub mp_reach_tests : Context → TlvValue → List (Option Judged)
mp_reach_tests ctx t =
    when (has_other_flags OptionalNonTransitive t) (reset_with OPTIONAL_ATTRIBUTE t) ∷
    when (is_shorter 5 t) (reset_with OPTIONAL_ATTRIBUTE t) ∷
    when (not (is_in_use ctx (family_of t.value))) (Discard why.Family) ∷
    when (not (is_next_hop_length (family_of t.value) (next_hop_length t.value))) (reset_with OPTIONAL_ATTRIBUTE t) ∷
    when (is_shorter (5 + next_hop_length t.value) t) (reset_with OPTIONAL_ATTRIBUTE t) ∷
    when (has_bad_prefix (address_width (family_of t.value)) (reached_of t.value)) (reset_with OPTIONAL_ATTRIBUTE t) ∷ []

abbrev pub mp_unreach_tests : Context → TlvValue → List (Option Judged)
mp_unreach_tests ctx t =
    when (has_other_flags OptionalNonTransitive t) (reset_with OPTIONAL_ATTRIBUTE t) ∷
    when (is_shorter 3 t) (reset_with OPTIONAL_ATTRIBUTE t) ∷
    when (not (is_in_use ctx (family_of t.value))) (Discard why.Family) ∷
    when (has_bad_prefix (address_width (family_of t.value)) (withdrawn_of t.value)) (reset_with OPTIONAL_ATTRIBUTE t) ∷ []

-- the last test: nothing is left after the segments of confederations were dropped
abbrev pub as4_path_tests : Context → TlvValue → List (Option Judged)
as4_path_tests ctx t =
    when ctx.as4 (Discard why.FourOctet) ∷
    when (has_other_flags OptionalTransitive t) (Withdraw why.Flags) ∷
    when (not (length t.value % 2 == 0) || is_shorter 6 t) (Discard why.Length) ∷
    option_map (λ fault. Discard fault) (path_fault as4_path_form t.value) ∷
    when (path_has_zero as4_path_form t.value) (Discard why.AsZero) ∷
    when (length (path_of as4_path_form t.value).segments == 0) (Discard why.Emptied) ∷ []

abbrev pub as4_aggregator_tests : Context → TlvValue → List (Option Judged)
as4_aggregator_tests ctx t =
    when ctx.as4 (Discard why.FourOctet) ∷
    aggregator_tests Bool.true t

abbrev pub large_tests : TlvValue → List (Option Judged)
large_tests t =
    when (has_other_flags OptionalTransitive t) (Withdraw why.Flags) ∷
    when (is_no_row 12 t) (Withdraw why.Length) ∷ []

-- a type that isn't recognised: only an optional one may be unknown
abbrev pub other_tests : TlvValue → List (Option Judged)
other_tests t =
    when (not (is_optional t.flags)) (reset_with UNRECOGNIZED_WELL_KNOWN t) ∷ []

-- the tests of a type in their order, and the value of an attribute that is kept
pub record AttributeType : Type 0 where
  pub tests : List (Option Judged)
  pub value : Attr

abbrev pub tested : List (Option Judged) → Attr → AttributeType
tested tests value = record { tests = tests; value = value }

-- a row for each type that is recognised; has_nlri says that the NLRI field of the message isn't empty
abbrev pub recognised : List (ℕ × (Context → Bool → TlvValue → AttributeType))
recognised =
    (attribute.ORIGIN, λ ctx has_nlri t. tested (origin_tests t) (attr.Origin (origin_of t.value))) ∷
    (attribute.AS_PATH, λ ctx has_nlri t. tested (as_path_tests ctx t) (attr.AsPath (path_of (as_path_form ctx) t.value))) ∷
    (attribute.NEXT_HOP, λ ctx has_nlri t. tested (next_hop_tests has_nlri t) (attr.NextHop t.value)) ∷
    (attribute.MULTI_EXIT_DISC, λ ctx has_nlri t. tested (four_tests OptionalNonTransitive t) (attr.Med (four_of t.value))) ∷
    (attribute.LOCAL_PREF, λ ctx has_nlri t. tested (internal_tests ctx WellKnown t) (attr.LocalPref (four_of t.value))) ∷
    (attribute.ATOMIC_AGGREGATE, λ ctx has_nlri t. tested (atomic_tests t) attr.Atomic) ∷
    (attribute.AGGREGATOR, λ ctx has_nlri t. tested (aggregator_tests ctx.as4 t) (attr.Aggregator (aggregator_of ctx.as4 t))) ∷
    (attribute.COMMUNITIES, λ ctx has_nlri t. tested (communities_tests t) (attr.Communities (communities_of t))) ∷
    (attribute.MP_REACH_NLRI, λ ctx has_nlri t. tested (mp_reach_tests ctx t) (attr.MpReach (mp_reach_of t.value))) ∷
    (attribute.MP_UNREACH_NLRI, λ ctx has_nlri t. tested (mp_unreach_tests ctx t) (attr.MpUnreach (mp_unreach_of t.value))) ∷
    (attribute.AS4_PATH, λ ctx has_nlri t. tested (as4_path_tests ctx t) (attr.As4Path (as4_path_of t))) ∷
    (attribute.AS4_AGGREGATOR, λ ctx has_nlri t. tested (as4_aggregator_tests ctx t) (attr.As4Aggregator (aggregator_of Bool.true t))) ∷
    (attribute.LARGE_COMMUNITY, λ ctx has_nlri t. tested (large_tests t) (attr.Large (large_of t))) ∷
    []

abbrev pub is_recognised : ℕ → Bool
is_recognised kind = has_entry kind recognised

-- the rows for one attribute
abbrev pub types : Context → Bool → TlvValue → List (ℕ × AttributeType)
types ctx has_nlri t = map (λ row. (row.0, row.1 ctx has_nlri t)) recognised

-- the tests and the value of all other types
abbrev pub other_type : TlvValue → AttributeType
other_type t = tested (other_tests t) (attr.Opaque (opaque_of t))

unfoldable pub type_row : Context → Bool → TlvValue → AttributeType
type_row ctx has_nlri t = entry_of t.kind (types ctx has_nlri t) (other_type t)

-- ---- the answer

-- the answer of the first test that applies, or the kept value
abbrev pub decided : List (Option Judged) → Attr → Judged
decided [] a = Keep a
decided (None ∷ tests) a = decided tests a
decided (Some answer ∷ tests) a = answer

abbrev pub judgement : Context → Bool → TlvValue → Judged
judgement ctx has_nlri t = decided (type_row ctx has_nlri t).tests (type_row ctx has_nlri t).value
