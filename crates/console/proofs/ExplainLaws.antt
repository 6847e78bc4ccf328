-- Tags one after another, and the text of them.
use Rattle.std.proofs.Common.{◌≡◌, ◌<◌, ◌+◌, ◌*◌, arith, length, refl, ◌⊎◌, subst, List, [], ℕ, ◌∷◌, ◌++◌}
use Rattle.std.specs.Prelude.{codes}
use Rattle.std.specs.Fmt.{decimal}
use Rattle.std.specs.Io.KnownBytes.{Appends}
use Rattle.tags.specs.Tag.{PlainTag, TakesTag, NoTag}
use Rattle.console.specs.Answer.{Known}
use Rattle.console.specs.Explain.{PrintsTags}
use Rattle.console.specs.Summary.{PrintsGist, networks}
use Rattle.parameters.specs.Notes.{gist, known_note}
use Rattle.parameters.specs.Position.{parameter_of}
use Rattle.parameters.specs.Position as position
use Rattle.parameters.specs.declared.productions.Parameter.{Parameter}
use Rattle.parameters.specs.declared.position.Position.{Position}
use Rattle.parameters.specs.declared.productions.Row.{Row}
use Rattle.printing.specs.declared.spelling.Spelling.{Spelling}
use Rattle.header_lines.proofs.LineLaws.{appends_more, appends_nothing}
use Rattle.header_lines.specs.Text.{tag_line, tag_lines}

-- no tag is left
pub no_tags : (s : Spelling) (rows : List Row) (at : Position) (octets : List ℕ) (k : Known) → octets ≡ [] →
    PrintsTags s rows at octets k k
no_tags s rows at octets k e = record { tags = []; taken = e; printed = appends_nothing k }

-- the lines of a tag and of those behind it
lines_before : (s : Spelling) (rows : List Row) (at next : Position) (t : PlainTag) (ts : List PlainTag) (q : Parameter) →
    q ≡ parameter_of rows at t → next ≡ position.behind q t at →
    tag_line s q at t ++ tag_lines s rows next ts ≡ tag_lines s rows at (t ∷ ts)
lines_before s rows at next t ts q is en = rw (en, is) refl

-- a tag before others
pub tag_before : (s : Spelling) (rows : List Row) (at next : Position) (octets rest : List ℕ) (t : PlainTag)
    (q : Parameter) (old mid new : Known) → q ≡ parameter_of rows at t → next ≡ position.behind q t at →
    TakesTag octets t rest → Appends old mid (tag_line s q at t) → PrintsTags s rows next rest mid new →
    PrintsTags s rows at octets old new
tag_before s rows at next octets rest t q old mid new is en taken line all = record {
  tags = t ∷ all.tags;
  taken = (rest, taken, all.taken);
  printed =
      subst (λ (x : List ℕ). Appends old new x) (lines_before s rows at next t all.tags q is en)
      (appends_more old mid new (tag_line s q at t) (tag_lines s rows next all.tags) line all.printed);
}

-- the words of a tag and of those behind it
gist_before : (rows : List Row) (at next : Position) (t : PlainTag) (ts : List PlainTag) (q : Parameter) →
    q ≡ parameter_of rows at t → next ≡ position.behind q t at →
    known_note q at t ++ gist rows next ts ≡ gist rows at (t ∷ ts)
gist_before rows at next t ts q is en = rw (en, is) refl

-- the same of the words of tags
pub words_before : (rows : List Row) (at next : Position) (octets rest : List ℕ) (t : PlainTag) (q : Parameter)
    (old mid new : Known) → q ≡ parameter_of rows at t → next ≡ position.behind q t at → TakesTag octets t rest →
    Appends old mid (known_note q at t) → PrintsGist rows next rest mid new → PrintsGist rows at octets old new
words_before rows at next octets rest t q old mid new is en taken line all = record {
  tags = t ∷ all.tags;
  rest = all.rest;
  taken = (rest, taken, all.taken);
  no_more = all.no_more;
  printed =
      subst (λ (x : List ℕ). Appends old new x) (gist_before rows at next t all.tags q is en)
      (appends_more old mid new (known_note q at t) (gist rows next all.tags) line all.printed);
}

pub no_words : (rows : List Row) (at : Position) (octets : List ℕ) (k : Known) → (octets ≡ []) ⊎ NoTag octets →
    PrintsGist rows at octets k k
no_words rows at octets k e =
    record { tags = []; rest = octets; taken = refl; no_more = e; printed = appends_nothing k }

pub ruleset gist_rules = (no_words)

pub ruleset line_rules = (appends_nothing, appends_more)

-- no network is numbered by less than two octets
pub no_networks : (octets : List ℕ) (k : Known) → length octets < 2 → Appends k k (networks octets)
no_networks [] k short = appends_nothing k
no_networks (a ∷ []) k short = appends_nothing k
no_networks (a ∷ b ∷ rest) k short = absurd (omega (arith, short))

-- a network before others
pub network_before : (high low : ℕ) (rest : List ℕ) (old mid new : Known) →
    Appends old mid (codes " " ++ decimal (high * 256 + low)) → Appends mid new (networks rest) →
    Appends old new (networks (high ∷ low ∷ rest))
network_before high low rest old mid new first others = appends_more old mid new _ (networks rest) first others

pub ruleset network_rules = (no_networks, network_before)
