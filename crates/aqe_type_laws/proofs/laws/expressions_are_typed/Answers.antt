use Rattle.aqe_type_laws.proofs.ExpressionsTyped.{typed_expressions}
use Rattle.aqe_type_laws.proofs.laws.expressions_are_typed.Goals as goal

pub returns : goal.returns
returns c = typed_expressions
