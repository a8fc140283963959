use Rattle.bgp_text.proofs.open_lines.put_capability.Goals as goal

pub returns-in-Multi : goal.returns-in-Multi
returns-in-Multi c = rw c.in-Multi.is c.write.ensures.bytes
