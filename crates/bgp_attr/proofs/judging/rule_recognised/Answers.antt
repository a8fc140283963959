use Rattle.std.proofs.Common.{ap, ◌∙◌}
use Rattle.bgp_numbers.specs.declared.attribute.TheConstants as attribute
use Rattle.bgp_attr.specs.Prelude.{is_recognised, tlv_value}
use Rattle.bgp_attr.proofs.TestRows.{tests_at}
use Rattle.bgp_attr.proofs.judging.rule_recognised.Goals as goal

pub returns-in-2 : goal.returns-in-2
returns-in-2 c = (ap is_recognised c.in-2.is, λ a. c.rule_as_path.ensures a ∙ tests_at c.args.ctx.now c.args.has_nlri (tlv_value c.args.tlv.now) attribute.AS_PATH c.in-2.is a)

pub returns-in-4 : goal.returns-in-4
returns-in-4 c = (ap is_recognised c.in-4.is, λ a. c.rule_four.ensures a ∙ tests_at c.args.ctx.now c.args.has_nlri (tlv_value c.args.tlv.now) attribute.MULTI_EXIT_DISC c.in-4.is a)

pub returns-in-7 : goal.returns-in-7
returns-in-7 c = (ap is_recognised c.in-7.is, λ a. c.rule_aggregator.ensures a ∙ tests_at c.args.ctx.now c.args.has_nlri (tlv_value c.args.tlv.now) attribute.AGGREGATOR c.in-7.is a)

pub returns-in-14 : goal.returns-in-14
returns-in-14 c = (ap is_recognised c.in-14.is, λ a. c.rule_mp_reach.ensures a ∙ tests_at c.args.ctx.now c.args.has_nlri (tlv_value c.args.tlv.now) attribute.MP_REACH_NLRI c.in-14.is a)

pub returns-in-15 : goal.returns-in-15
returns-in-15 c = (ap is_recognised c.in-15.is, λ a. c.rule_mp_unreach.ensures a ∙ tests_at c.args.ctx.now c.args.has_nlri (tlv_value c.args.tlv.now) attribute.MP_UNREACH_NLRI c.in-15.is a)

pub returns-in-17 : goal.returns-in-17
returns-in-17 c = (ap is_recognised c.in-17.is, λ a. c.rule_as4_path.ensures a ∙ tests_at c.args.ctx.now c.args.has_nlri (tlv_value c.args.tlv.now) attribute.AS4_PATH c.in-17.is a)

pub returns-in-18 : goal.returns-in-18
returns-in-18 c = (ap is_recognised c.in-18.is, λ a. c.rule_as4_aggregator.ensures a ∙ tests_at c.args.ctx.now c.args.has_nlri (tlv_value c.args.tlv.now) attribute.AS4_AGGREGATOR c.in-18.is a)

pub returns-in-32 : goal.returns-in-32
returns-in-32 c = (ap is_recognised c.in-32.is, λ a. c.rule_large.ensures a ∙ tests_at c.args.ctx.now c.args.has_nlri (tlv_value c.args.tlv.now) attribute.LARGE_COMMUNITY c.in-32.is a)

pub returns-in-1 : goal.returns-in-1
returns-in-1 c = (ap is_recognised c.in-1.is, λ a. c.rule_origin.ensures a ∙ tests_at c.args.ctx.now c.args.has_nlri (tlv_value c.args.tlv.now) attribute.ORIGIN c.in-1.is a)

pub returns-in-3 : goal.returns-in-3
returns-in-3 c = (ap is_recognised c.in-3.is, λ a. c.rule_next_hop.ensures a ∙ tests_at c.args.ctx.now c.args.has_nlri (tlv_value c.args.tlv.now) attribute.NEXT_HOP c.in-3.is a)

pub returns-in-5 : goal.returns-in-5
returns-in-5 c = (ap is_recognised c.in-5.is, λ a. c.rule_internal.ensures a ∙ tests_at c.args.ctx.now c.args.has_nlri (tlv_value c.args.tlv.now) attribute.LOCAL_PREF c.in-5.is a)

pub returns-in-6 : goal.returns-in-6
returns-in-6 c = (ap is_recognised c.in-6.is, λ a. c.rule_atomic.ensures a ∙ tests_at c.args.ctx.now c.args.has_nlri (tlv_value c.args.tlv.now) attribute.ATOMIC_AGGREGATE c.in-6.is a)

pub returns-in-8 : goal.returns-in-8
returns-in-8 c = (ap is_recognised c.in-8.is, λ a. c.rule_communities.ensures a ∙ tests_at c.args.ctx.now c.args.has_nlri (tlv_value c.args.tlv.now) attribute.COMMUNITIES c.in-8.is a)
