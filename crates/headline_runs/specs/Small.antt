-- A protocol of numbers: the reply is the sum of table and request, the request is the next table.
use Rattle.std.proofs.Common.{◌≡◌, refl, ap, ℕ, ◌+◌, List, [], ◌∷◌, cond}
use Rattle.std.specs.Prelude.{Option, Some, None, ◌==◌}
use Rattle.std.proofs.lemmas.Bool.{eqb-true, eq-eqb}
use Rattle.history.specs.Book.{Answer, Complex}
use Rattle.headline.specs.Protocol.{Protocol, IsLawful, Site}

-- a number in three octets
abbrev pub three : ℕ → List ℕ
three q = q ∷ q ∷ q ∷ []

-- what octets mean as a request, if anything
abbrev pub MeansNumber : List ℕ → Option ℕ → Type 0
MeansNumber octets (Some q) = octets ≡ three q
MeansNumber octets None = (q : ℕ) → octets ≡ three q → ⊥

-- what an answer means, if anything
abbrev pub MeansAnswer : Answer → Option ℕ → Type 0
MeansAnswer a (Some r) = a ≡ Complex (three r)
MeansAnswer a None = (r : ℕ) → a ≡ Complex (three r) → ⊥

-- service 15 for all
abbrev pub small : Protocol ℕ ℕ ℕ ℕ
small =
    record {
      same = λ a b. a == b;
      reply = λ t q. t + q;
      after = λ t q. q;
      service = λ q. 15;
      request_octets = three;
      answer = λ q r. Complex (three r);
      MeansRequest = λ service octets o. MeansNumber octets o;
      MeansReply = λ q a o. MeansAnswer a o;
      IsSound = λ q. Unit {0};
      IsSoundTable = λ t. Unit {0};
    }

back : (q : ℕ) (o : Option ℕ) → MeansNumber (three q) o → o ≡ Some q
back q (Some p) e = let n : p ≡ q = cc e in ap (λ z. Some z) n
back q None e = absurd (e q refl)

back_too : (r : ℕ) (o : Option ℕ) → MeansAnswer (Complex (three r)) o → o ≡ Some r
back_too r (Some p) e = let n : p ≡ r = cc e in ap (λ z. Some z) n
back_too r None e = absurd (e r refl)

-- its laws
pub small_laws : IsLawful small
small_laws =
    record {
      test = record { exact = λ a b e. eqb-true a b e; itself = λ a. eq-eqb a a refl };
      leaves_sound = λ t q _ _. tt;
      request_back = λ q o _ e. back q o e;
      reply_back = λ t q o _ _ e. back_too (t + q) o e;
    }

-- station 9 is device 10, its opening table 0
abbrev pub site : Site ℕ ℕ
site = record { instance_of = λ s. cond (s == 9) (Some 10) None; opening = λ s. 0 }
