use Rattle.ristulva_c.proofs.FieldKindRows.{kind_back}
use Rattle.ristulva_c.proofs.field_kinds.ristulva_field_name.Goals as goal

pub returns-in-Some-clause-each : goal.returns-in-Some-clause-each
returns-in-Some-clause-each c = kind_back

pub returns-in-None-clause-each : goal.returns-in-None-clause-each
returns-in-None-clause-each c = kind_back
