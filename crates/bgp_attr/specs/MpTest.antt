-- Which test of MP_REACH_NLRI or MP_UNREACH_NLRI decides: the first of its row that applies (RFC 4760; RFC 7606, sections 5.3 and 7.11).
use Rattle.std.specs.Prelude.{◌==◌, List, [], ◌∷◌, Option, None, Some, if◌then◌else◌}
use Rattle.bgp_numbers.specs.declared.attribute.TheConstants.{MP_REACH_NLRI, MP_UNREACH_NLRI}
use Rattle.bgp_open.specs.declared.context.Context.{Context}
use Rattle.bgp_attr.specs.declared.judged.Judged.{Judged}
use Rattle.bgp_attr.specs.declared.mp_test.MpTest.{MpTest}
use Rattle.bgp_attr.specs.declared.mp_test.MpTest.TheVariants.{Flags, Length, Family, NextHop, Prefixes}
use Rattle.bgp_attr.specs.Judgement.{mp_reach_tests, mp_unreach_tests}
use Rattle.bgp_attr.specs.Tlv.{TlvValue}

-- the name beside the first test that applies
abbrev pub deciding : List (Option Judged) → List MpTest → Option MpTest
deciding (None ∷ tests) (name ∷ names) = deciding tests names
deciding (Some answer ∷ tests) (name ∷ names) = Some name
deciding tests names = None

-- the names of the tests of both rows, in their order
abbrev pub reach_names : List MpTest
reach_names = Flags ∷ Length ∷ Family ∷ NextHop ∷ NextHop ∷ Prefixes ∷ []

abbrev pub unreach_names : List MpTest
unreach_names = Flags ∷ Length ∷ Family ∷ Prefixes ∷ []

-- none for an attribute of another type
abbrev pub deciding_test : Context → TlvValue → Option MpTest
deciding_test ctx t =
    if t.kind == MP_REACH_NLRI then deciding (mp_reach_tests ctx t) reach_names else (
    if t.kind == MP_UNREACH_NLRI then deciding (mp_unreach_tests ctx t) unreach_names else None)
