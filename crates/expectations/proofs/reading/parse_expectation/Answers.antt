use Rattle.std.proofs.Common.{rules}
use Rattle.expectations.proofs.QuotedLaws.{quoted_refused}
use Rattle.expectations.proofs.reading.parse_expectation.Goals as goal

pub returns-clause-refused : goal.returns-clause-refused
returns-clause-refused g c = quoted_refused c.args.words.now c.in-Ok.plain.now c.parse_plain.result (search rules) c.parse_plain.ensures.refused
