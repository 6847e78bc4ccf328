use Rattle.inside.proofs.Insides.{inside_its_header, one_inside}
use Rattle.inside.proofs.laws.one_inside.Goals as goal

pub returns-clause-one : goal.returns-clause-one
returns-clause-one c = one_inside

pub returns-clause-header : goal.returns-clause-header
returns-clause-header c = inside_its_header
