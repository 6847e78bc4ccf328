-- A parcel that is met on a port of a router; and what comes of it is one thing.
use Rattle.std.proofs.Common.{◌≡◌, ◌≢◌, ◌∙◌, sym, ap, subst, inl, inr, ℕ, true, List, Some, None, Result, Ok, Err, IfOk, IfErr, OnErr}
use Rattle.std.specs.Prelude.{slice_get}
use Rattle.npdu.proofs.SpellingLaws.{one_header}
use Rattle.npdu.specs.Header.{Header, Spells}
use Rattle.npdu.specs.declared.mac.Station.{Station}
use Rattle.npdu.specs.declared.parcel.Parcel.{Parcel}
use Rattle.router.specs.Handling.{handling}
use Rattle.router.specs.Hearing.{Comes, Drops, Hears, IsMet, IsOverfull, IsTaken, RouterHears, Teaches, heard}
use Rattle.router.specs.Laws.{HeardOnce}
use Rattle.router.specs.Messages.{Heard}
use Rattle.router.specs.Plan.{parcel_of}
use Rattle.router.specs.Router.{RouterState}
use Rattle.router.specs.Routes.{teaches}
use Rattle.router.specs.Said.{teaches_too_many}
use Rattle.router.specs.declared.handling.Handling.TheVariants.{Discard, Learn}
use Rattle.router.specs.declared.plan.PortParcel.{PortParcel}
use Rattle.router.proofs.Ports.{some_same}

-- what holds of a result holds of what follows from it
module _ {X E : Type 0} where
  pub if_ok : {P Q : X → Type 0} (r : Result X E) → ((x : X) → P x → Q x) → IfOk r P → IfOk r Q
  if_ok (Ok x) f p = f x p
  if_ok (Err e) f p = tt

  pub if_err : {P Q : E → Type 0} (r : Result X E) → ((e : E) → P e → Q e) → IfErr r P → IfErr r Q
  if_err (Ok x) f p = tt
  if_err (Err e) f p = f e p

  pub on_err : {P Q : Type 0} (r : Result X E) → (P → Q) → OnErr r P → OnErr r Q
  on_err (Ok x) f p = tt
  on_err (Err e) f p = f p

-- a parcel is its parts
module _ {A : Type 0} (port : ℕ) (p : Parcel A) (npdu : List ℕ) (st : RouterState) (same : npdu ≡ p.npdu) where
  pub parts_heard : (now : ℕ) (out : List (PortParcel A)) (new : RouterState) →
      RouterHears now port (parcel_of p.from p.to npdu p.stamp) st out new → RouterHears now port p st out new
  parts_heard now out new heard =
      subst (λ (octets : List ℕ). RouterHears now port (parcel_of p.from p.to octets p.stamp) st out new) same heard

  pub parts_overfull : IsOverfull port (parcel_of {A = A} p.from p.to npdu p.stamp) st → IsOverfull port p st
  parts_overfull over =
      subst (λ (octets : List ℕ). IsOverfull port (parcel_of {A = A} p.from p.to octets p.stamp) st) same over

pub ruleset parcel_rules = (parts_heard, parts_overfull)

module _ {A : Type 0} (port : ℕ) (p : Parcel A) (st : RouterState) (at : Station) (h : Header) (there : slice_get st.ports port ≡ Some at)
    (spelled : Spells p.npdu h) where
  abbrev met : IsMet port p st at h
  met = record { there = there; spelled = spelled }

  pub hears_if : (now : ℕ) (out : List (PortParcel A)) (new : RouterState) → Comes (heard now port p at h) st out new →
      RouterHears now port p st out new
  hears_if now out new comes = inl (record { at = at; header = h; met = met; comes = comes })

  pub taken_if : handling st port p.to h ≢ Discard → IsTaken port p st
  taken_if does = record { at = at; header = h; met = met; does = does }

  pub teaches_if : handling st port p.to h ≡ Learn → teaches st.ports h.body ≡ true → Teaches port p st
  teaches_if learns news = record { at = at; header = h; met = met; learns = learns; news = news }

  pub overfull_if : teaches_too_many (heard 0 port p at h) st (handling st port p.to h) ≡ true → IsOverfull port p st
  overfull_if many = record { at = at; header = h; met = met; many = many }

none_some : {X : Type 0} (x : X) → None ≡ Some x → ⊥
none_some x e = cc e

module _ {A : Type 0} (now port : ℕ) (p : Parcel A) (old : RouterState) where
  comes_once : (m n : Heard A) (out other : List (PortParcel A)) (x y : RouterState) → m ≡ n → Comes m old out x → Comes n old other y →
      (out ≡ other) × (x ≡ y)
  comes_once m n out other x y same a b =
      let c = subst (λ (k : Heard A). Comes k old out x) same a in
      (c.says ∙ sym b.says, c.leaves ∙ sym b.leaves)

  one_heard : (out other : List (PortParcel A)) (x y : RouterState) (a : Hears now port p old out x) (b : Hears now port p old other y) →
      heard now port p a.at a.header ≡ heard now port p b.at b.header
  one_heard out other x y a b =
      ap (λ (s : Station). heard now port p s a.header) (some_same a.at b.at (sym a.met.there ∙ b.met.there))
      ∙ ap (λ (h : Header). heard now port p b.at h) (one_header p.npdu a.header b.header a.met.spelled b.met.spelled)

  not_dropped : (out other : List (PortParcel A)) (x y : RouterState) → Hears now port p old out x → Drops now port p old other y → ⊥
  not_dropped out other x y a d = elim d.nothing [
    | inl none ↦ none_some a.at (sym none ∙ a.met.there)
    | inr none ↦ none.none a.header a.met.spelled
  ]

pub heard_once : {A : Type 0} → HeardOnce A
heard_once now port p old x y out other (inl a) (inl b) =
    comes_once now port p old (heard now port p a.at a.header) (heard now port p b.at b.header) out other x y
    (one_heard now port p old out other x y a b) a.comes b.comes
heard_once now port p old x y out other (inl a) (inr d) = absurd (not_dropped now port p old out other x y a d)
heard_once now port p old x y out other (inr d) (inl b) = absurd (not_dropped now port p old other out y x b d)
heard_once now port p old x y out other (inr d) (inr e) = (d.silent ∙ sym e.silent, d.same ∙ sym e.same)
