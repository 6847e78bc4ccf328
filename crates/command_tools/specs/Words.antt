-- What is known of what is printed, and whether the standard's numbers are printed, or its names.
use Rattle.std.specs.Prelude.{Bool, false, true, None}
use Rattle.console.specs.Answer.{Known}
use Rattle.words.specs.printing.declared.spelling.Spelling.{Spelling}
use Rattle.words.specs.printing.declared.spelling.Spelling.TheVariants.{Numbers, Names}

-- what is known of an output where lines are printed, and of which nothing is said where these are objects of JSON
abbrev pub shown : Bool → Known → Known
shown false known = known
shown true known = None

-- names are printed where they are asked for, and not in objects of JSON
abbrev pub spelling_of : (is_named is_json : Bool) → Spelling
spelling_of true false = Names
spelling_of true true = Numbers
spelling_of false is_json = Numbers
