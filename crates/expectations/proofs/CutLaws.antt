-- Words cut at the first mark.
use Rattle.words.proofs.Marks.{all_front, all_rest, first_front, first_rest}

pub ruleset cut_laws = (first_front, first_rest, all_front, all_rest)
