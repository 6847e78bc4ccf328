-- The carry law: what a link puts out, hands up and keeps (6.1).
use Rattle.std.specs.Prelude.{◌≡◌, ℕ, List, [], ◌∷◌, ◌++◌, Option, Some, None}
use Rattle.history.specs.Lists.{Has}
use Rattle.inside.specs.Inside.{Reaches}
use Rattle.npdu.specs.declared.mac.Mac.{Mac}
use Rattle.npdu.specs.declared.mac.Station.{Station}
use Rattle.npdu.specs.declared.parcel.Parcel.{Parcel}
use Rattle.link.specs.Step.{LinkStep}
use Rattle.link.specs.declared.step.Sent.{Sent}

-- octets from an address to an address, said at a moment, carry a parcel
abbrev pub Carrier : Type 0 → Type 1
Carrier A = Mac → Mac → List ℕ → ℕ → Parcel A → Type 0

-- nothing comes of a call
abbrev pub nothing : {A : Type 0} → LinkStep A
nothing = record { up = None; out = [] }

-- what is put out from this address carries one of these parcels, with its stamp, or none
pub record Puts {A : Type 0} (carries : Carrier A) (from : Mac) (among : List (Parcel A)) (s : Sent A) : Type 0 where
  pub only : (p : Parcel A) → carries from s.to s.octets s.stamp p → Has among p

-- .. so does each of these
pub record PutAll {A : Type 0} (carries : Carrier A) (from : Mac) (among : List (Parcel A)) (out : List (Sent A)) :
    Type 0 where
  pub each : (s : Sent A) → Has out s → Puts carries from among s

-- what is handed up is what octets from an address to this one carry, for a target that reaches this one
pub record HandsUp {A : Type 0} (carries : Carrier A) (from own : Mac) (octets : List ℕ) (stamp : ℕ) (p : Parcel A) :
    Type 0 where
  pub carried : carries from own octets stamp p
  pub reaches : Reaches p.to own

abbrev pub HandsUpIf : {A : Type 0} → Carrier A → (from own : Mac) → (octets : List ℕ) → (stamp : ℕ) →
    Option (Parcel A) → Type 0
HandsUpIf carries from own octets stamp None = Unit {0}
HandsUpIf carries from own octets stamp (Some p) = HandsUp carries from own octets stamp p

-- what waits then is some of what was there
pub record AreKept {A : Type 0} (new old : List (Parcel A)) : Type 0 where
  pub each : (p : Parcel A) → Has new p → Has old p

module _ {A L : Type 0} (carries : Carrier A) (station : L → Station) (moment : L → ℕ)
    (waiting : L → List (Parcel A)) where
  -- where a parcel is handed down: nothing comes up, and what is put out carries it or what waited, or nothing
  pub record CarriesDown (now : ℕ) (p : Parcel A) (old : L) (step : LinkStep A) (new : L) : Type 0 where
    pub puts : PutAll carries (station old).mac (waiting old ++ p ∷ []) step.out
    pub kept : AreKept (waiting new) (waiting old ++ p ∷ [])
    pub silent : step.up ≡ None
    pub place : station new ≡ station old
    pub at : moment new ≡ now

  -- where octets are heard: what comes up is what they carry, and what is put out carries what waited, or nothing
  pub record CarriesUp (now : ℕ) (from : Mac) (octets : List ℕ) (stamp : ℕ) (old : L) (step : LinkStep A) (new : L) :
      Type 0 where
    pub up : HandsUpIf carries from (station old).mac octets stamp step.up
    pub puts : PutAll carries (station old).mac (waiting old) step.out
    pub kept : AreKept (waiting new) (waiting old)
    pub place : station new ≡ station old
    pub at : moment new ≡ now

  -- at any other call: nothing comes up, and what is put out carries what waited, or nothing
  pub record CarriesOn (now : ℕ) (old : L) (step : LinkStep A) (new : L) : Type 0 where
    pub puts : PutAll carries (station old).mac (waiting old) step.out
    pub kept : AreKept (waiting new) (waiting old)
    pub silent : step.up ≡ None
    pub place : station new ≡ station old
    pub at : moment new ≡ now

-- where a link restarts, nothing waits
pub record Restarts {A L : Type 0} (station : L → Station) (moment : L → ℕ) (waiting : L → List (Parcel A)) (now : ℕ)
    (old new : L) : Type 0 where
  pub place : station new ≡ station old
  pub at : moment new ≡ now
  pub none : waiting new ≡ []
