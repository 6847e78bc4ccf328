-- Octets at the front say one class and one code, or none.
use Rattle.std.proofs.Common.{ℕ, List}
use Rattle.tags.specs.declared.tag.Class.TheVariants.{Application}
use Rattle.tags.specs.Number.{SpellsUnsigned}
use Rattle.apdu_fields.specs.Parameter.{Only, Lacks}
use Rattle.apdu_fields.specs.ClassAndCode.{OnlyClassAndCode, NoClassAndCode}

pub no_class : (octets : List ℕ) → Lacks SpellsUnsigned Application 9 octets → NoClassAndCode octets
no_class octets lacks = record { none = λ c d rest t. lacks.none c t.at_code t.class_taken }

pub no_code : (octets : List ℕ) (class : ℕ) (at_code : List ℕ) → Only SpellsUnsigned Application 9 octets class at_code →
    Lacks SpellsUnsigned Application 9 at_code → NoClassAndCode octets
no_code octets class at_code one lacks = record {
  none = λ c d rest t.
      let p = one.only _ _ t.class_taken in
      lacks.none d rest (rw (p.1) t.code_taken);
}

pub only_class_and_code : (octets : List ℕ) (class : ℕ) (at_code : List ℕ) (code : ℕ) (rest : List ℕ) →
    Only SpellsUnsigned Application 9 octets class at_code → Only SpellsUnsigned Application 9 at_code code rest → OnlyClassAndCode octets class code rest
only_class_and_code octets class at_code code rest one two = record {
  only = λ c d after t.
      let p = one.only _ _ t.class_taken in
      let q = two.only d after (rw (p.1) t.code_taken) in
      (p.0, q.0, q.1);
}

pub ruleset class_and_code_rules = (no_class, no_code, only_class_and_code)
