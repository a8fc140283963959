-- The values of plans in the program.
use Rattle.std.specs.Prelude.{None}
use Rattle.bgp_fields.specs.declared.part.MessagePart.{MessagePart}
use Rattle.bgp_fields.specs.declared.part.SectionPart.{SectionPart}
use Rattle.bgp_fields.specs.declared.part.ValuePart.{ValuePart}
use Rattle.bgp_fields.specs.declared.plan.ValuePlan.{ValuePlan}
use Rattle.bgp_fields.specs.declared.plan.SectionPlan.{SectionPlan}
use Rattle.bgp_fields.specs.declared.plan.MessagePlan.{MessagePlan}
use Rattle.bgp_fields.specs.Walk.{Plan}

abbrev pub value_planned : ValuePlan → Plan (Unit {0}) ValuePart
value_planned p = record { kind = p.kind; len = p.len; begins = p.begins; inner = tt; inner_len = 0; next = p.next }

abbrev pub section_planned : SectionPlan → Plan ValuePart SectionPart
section_planned p = record { kind = p.kind; len = p.len; begins = p.begins; inner = p.inner; inner_len = p.inner_len; next = p.next }

abbrev pub message_planned : MessagePlan → Plan SectionPart MessagePart
message_planned p = record { kind = p.kind; len = p.len; begins = None; inner = p.inner; inner_len = p.inner_len; next = p.next }
