-- What is judged of parts is judged of the document that they were read of.
use Rattle.std.proofs.Common.{ℕ, Bool, List, Option, Result, Ok, Err, IfOk}
use Rattle.site_check.specs.Judged.{AreJudged, IsJudged}
use Rattle.site_parts.specs.declared.parts.Parts.{Parts}
use Rattle.site_text.specs.Document.{IsDocument}

pub judged_of : {A E : Type 0} (site : List ℕ) (parts : Parts A) (script : Option (List ℕ)) (r : Result Bool E) → IsDocument site → IfOk r (IsJudged A (Ok parts) script) → IfOk r (AreJudged A site script)
judged_of site parts script (Ok b) d j = record { read = Ok parts; as_it_stands = d; judged = j }
judged_of site parts script (Err e) d j = tt
