-- What the promise knows of stations S, requests Q, replies R and tables T, and of the site.
use Rattle.std.specs.Prelude.{◌≡◌, ℕ, Bool, List, Option, Some}
use Rattle.history.specs.Tests.{IsTest}
use Rattle.history.specs.Book.{Answer}

-- same: whether two stations are one. reply, after: the object machine (12, 15, 19). service, request_octets, answer:
-- how requests and replies are spelled (20.2). MeansRequest: what a service with its octets means, if anything;
-- MeansReply: what an answer to a request means, if anything
pub record Protocol (S Q R T : Type 0) : Type 1 where
  pub same : S → S → Bool
  pub reply : T → Q → R
  pub after : T → Q → T
  pub service : Q → ℕ
  pub request_octets : Q → List ℕ
  pub answer : Q → R → Answer
  pub MeansRequest : ℕ → List ℕ → Option Q → Type 0
  pub MeansReply : Q → Answer → Option R → Type 0
  pub IsSound : Q → Type 0
  pub IsSoundTable : T → Type 0

-- same is equality; a sound request leaves a sound table sound; the octets of a sound request mean it and nothing else;
-- so does the answer with the reply of a sound table to it
pub record IsLawful {S Q R T : Type 0} (p : Protocol S Q R T) : Type 0 where
  pub test : IsTest p.same
  pub leaves_sound : (t : T) (q : Q) → p.IsSoundTable t → p.IsSound q → p.IsSoundTable (p.after t q)
  pub request_back : (q : Q) (o : Option Q) → p.IsSound q →
      p.MeansRequest (p.service q) (p.request_octets q) o → o ≡ Some q
  pub reply_back : (t : T) (q : Q) (o : Option R) → p.IsSoundTable t → p.IsSound q →
      p.MeansReply q (p.answer q (p.reply t q)) o → o ≡ Some (p.reply t q)

-- which stations are devices, by which instance, and their opening tables
pub record Site (S T : Type 0) : Type 0 where
  pub instance_of : S → Option ℕ
  pub opening : S → T

-- no two devices have one instance, and the opening table of each is sound
pub record IsSite {S Q R T : Type 0} (p : Protocol S Q R T) (s : Site S T) : Type 0 where
  pub one : (a b : S) (n : ℕ) → s.instance_of a ≡ Some n → s.instance_of b ≡ Some n → a ≡ b
  pub sound : (d : S) (n : ℕ) → s.instance_of d ≡ Some n → p.IsSoundTable (s.opening d)
