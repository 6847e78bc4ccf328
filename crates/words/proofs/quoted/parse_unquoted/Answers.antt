use Rattle.std.proofs.Common.{rules}
use Rattle.words.proofs.QuotedLaws.{quoted_refused}
use Rattle.words.proofs.quoted.parse_unquoted.Goals as goal

pub returns-clause-refused : goal.returns-clause-refused
returns-clause-refused g c =
    quoted_refused c.args.words.now c.in-Ok.plain.now c.parse_request.result (search rules) (search rules) c.parse_request.ensures.refused
