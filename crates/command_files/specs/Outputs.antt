-- Which files a command writes, next to the others that it names.
use Rattle.std.specs.Prelude.{◌≡◌, ◌⊎◌, ◌≢◌, ℕ, List, [], ◌∷◌, Option, Some, None, bytes_eq, codes, if◌then◌else◌}

-- the name of a file
abbrev pub Name : Type 0
Name = List ℕ

-- the name of standard input where a file is read, and of standard output where one is written
abbrev pub standard : Name
standard = codes "-"

-- the file that is read under a name
abbrev pub source_of : Name → Name
source_of name = if bytes_eq name standard then codes "/dev/stdin" else name

-- two names, each if there is one, may be of one file
abbrev pub MayMeet : (same : Name → Name → Type 0) → Option Name → Option Name → Type 0
MayMeet same None f = ⊥
MayMeet same (Some o) None = ⊥
MayMeet same (Some o) (Some f) = same o f

-- .. may be of two
abbrev pub MayDiffer : (apart : Name → Name → Type 0) → Option Name → Option Name → Type 0
MayDiffer apart None f = Unit {0}
MayDiffer apart (Some o) None = Unit {0}
MayDiffer apart (Some o) (Some f) = apart o f

-- an output may be the file of one of these names
abbrev pub MeetsOne : (same : Name → Name → Type 0) → Option Name → List (Option Name) → Type 0
MeetsOne same o [] = ⊥
MeetsOne same o (f ∷ fs) = MayMeet same o f ⊎ MeetsOne same o fs

-- .. of none of them
abbrev pub MeetsNone : (apart : Name → Name → Type 0) → Option Name → List (Option Name) → Type 0
MeetsNone apart o [] = Unit {0}
MeetsNone apart o (f ∷ fs) = MayDiffer apart o f × MeetsNone apart o fs

-- one of these outputs may be one of these inputs, or another output
abbrev pub Clash : (same : Name → Name → Type 0) → (inputs outputs : List (Option Name)) → Type 0
Clash same inputs [] = ⊥
Clash same inputs (o ∷ os) = MeetsOne same o inputs ⊎ MeetsOne same o os ⊎ Clash same inputs os

-- each of these outputs is judged to be none of these inputs, and no other output
abbrev pub AreApart : (apart : Name → Name → Type 0) → (inputs outputs : List (Option Name)) → Type 0
AreApart apart inputs [] = Unit {0}
AreApart apart inputs (o ∷ os) = MeetsNone apart o inputs × MeetsNone apart o os × AreApart apart inputs os

-- standard output is not among outputs that each are named or not
abbrev pub AreNotStandard : List (Option Name) → Type 0
AreNotStandard [] = Unit {0}
AreNotStandard (o ∷ os) = (o ≢ Some standard) × AreNotStandard os

-- standard input is named for both
abbrev pub AreBothStandard : Name → Name → Type 0
AreBothStandard site script = (site ≡ standard) × (script ≡ standard)

-- the files that are read
abbrev pub sources : Name → Name → List (Option Name)
sources site script = Some (source_of site) ∷ Some (source_of script) ∷ []

-- standard input would be read twice, or a file be written that is read or written besides
abbrev pub AreUnsafe : (same : Name → Name → Type 0) → (site script : Name) → (outputs : List (Option Name)) → Type 0
AreUnsafe same site script outputs = AreBothStandard site script ⊎ Clash same (sources site script) outputs

-- no file is written that is read or written besides
abbrev pub AreSafe : (apart : Name → Name → Type 0) → (site script : Name) → (outputs : List (Option Name)) → Type 0
AreSafe apart site script outputs = AreApart apart (sources site script) outputs
