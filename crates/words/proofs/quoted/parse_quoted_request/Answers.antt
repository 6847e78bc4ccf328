use Rattle.std.proofs.Common.{rules}
use Rattle.words.proofs.QuotedLaws.{quoted_refused, unquoted_stays}
use Rattle.words.proofs.quoted.parse_quoted_request.Goals as goal

pub returns-in-None-clause-refused : goal.returns-in-None-clause-refused
returns-in-None-clause-refused g c =
    quoted_refused c.args.words.now c.args.words.now c.parse_request.result (unquoted_stays c.args.words.now (search rules)) c.utf8.words
    c.parse_request.ensures.refused
