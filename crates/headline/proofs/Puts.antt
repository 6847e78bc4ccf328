-- Lemmas on what holds of the same of all stations, but for one.
use Rattle.std.proofs.Common.{◌≡◌, Bool, true, false, cond, refl, sym, ap}
use Rattle.history.specs.Tests.{IsTest}
use Rattle.headline.specs.Happenings.{put}

put_put_at : {A : Type 0} (t : Bool) (v u x : A) → cond t u (cond t v x) ≡ cond t u x
put_put_at true v u x = refl
put_put_at false v u x = refl

-- what is put twice is what is put last
pub put_put : {S A : Type 0} (same : S → S → Bool) (f : S → A) (s : S) (v u : A) → put same (put same f s v) s u ≡ put same f s u
put_put same f s v u = λ i x. put_put_at (same x s) v u (f x) i

put_self_at : {S A : Type 0} {same : S → S → Bool} (l : IsTest same) (f : S → A) (s x : S) (t : Bool) → same x s ≡ t → cond t (f s) (f x) ≡ f x
put_self_at l f s x true t = ap f (sym (l.exact x s t))
put_self_at l f s x false t = refl

-- what is there already changes nothing
pub put_self : {S A : Type 0} {same : S → S → Bool} (l : IsTest same) (f : S → A) (s : S) → put same f s (f s) ≡ f
put_self {S} {A} {same} l f s = λ i x. put_self_at l f s x (same x s) refl i

-- what is put is there
pub put_here : {S A : Type 0} {same : S → S → Bool} (l : IsTest same) (f : S → A) (s : S) (v : A) → put same f s v s ≡ v
put_here {S} {A} {same} l f s v = ap (λ t. cond t v (f s)) (l.itself s)

put_through_at : {A B : Type 0} (g : A → B) (t : Bool) (v x : A) → g (cond t v x) ≡ cond t (g v) (g x)
put_through_at g true v x = refl
put_through_at g false v x = refl

-- what is put is seen through a view of each
pub put_through : {S A B : Type 0} (same : S → S → Bool) (g : A → B) (f : S → A) (s : S) (v : A) → (λ x. g (put same f s v x)) ≡ put same (λ x. g (f x)) s (g v)
put_through same g f s v = λ i x. put_through_at g (same x s) v (f x) i
