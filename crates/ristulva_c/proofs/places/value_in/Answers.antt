use Rattle.ristulva_c.proofs.Below.{◌∙◌, parts_of}
use Rattle.ristulva_c.proofs.FactPlaces.{value_of_fields}
use Rattle.ristulva_c.proofs.places.value_in.Goals as goal

pub returns-in-Some-clause-value : goal.returns-in-Some-clause-value
returns-in-Some-clause-value c = c.value_at.ensures.value ∙ value_of_fields c.args.kind (parts_of c.args.body.now) c.in-Some.withdrawn _ c.in-Some.field.now _ c.in-Some.ensures.value c.first_of_type.ensures.value
