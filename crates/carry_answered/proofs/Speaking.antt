-- What is said to one station is what is heard there, wherever it was passed on.
use Rattle.std.proofs.Common.{◌≡◌, ◌∙◌, refl, sym, ap, subst, ⊎_elim, ℕ, Bool, List, [], ◌∷◌, Option, Some, None, true, false}
use Rattle.apdu.specs.Apdu.{PlainApdu, Spells}
use Rattle.carry_answered.specs.Answered.{BringsOf}
use Rattle.history.proofs.Lists.{has_cons, none_has}
use Rattle.history.specs.Lists.{Has}
use Rattle.inside.proofs.Insides.{one_inside}
use Rattle.inside.specs.Inside.{HasInside, Inside}
use Rattle.npdu.specs.Header.{PlainDestination}
use Rattle.npdu.specs.declared.mac.Mac.{Mac}
use Rattle.npdu.specs.declared.mac.Station.{Station}
use Rattle.npdu.specs.declared.message.Message.{Message}
use Rattle.npdu.specs.declared.parcel.Parcel.{Parcel}
use Rattle.unitdata.proofs.InsideLaws.{spoken_is_inside}
use Rattle.unitdata.proofs.OnceLaws.{brought_once}
use Rattle.unitdata.specs.Hearing.{Brings, Heard, SpellsContent, is_here, says, way_to}
use Rattle.unitdata.specs.Laws.{spoken_inside}
use Rattle.unitdata.specs.Saying.{Spoken, is_spelled, parcel_if, parcel_of, parcel_to}

-- a list of one has that one
pub only : {X : Type 0} (x y : X) → Has (x ∷ []) y → x ≡ y
only x y there = ⊎_elim (λ (here : x ≡ y). here) (λ (none : Has [] y). absurd (none_has none)) (has_cons x [] there)

-- the parcel in which something is said
pub record IsSaidIn {A : Type 0} (now : ℕ) (mac : Mac) (s : Spoken) (p : Parcel A) : Type 0 where
  pub is : p ≡ parcel_to now mac s
  pub spelled : is_spelled s.way.destination ≡ true

said_if : {A : Type 0} (now : ℕ) (mac : Mac) (s : Spoken) (p : Parcel A) (b : Bool) → is_spelled s.way.destination ≡ b → Has (parcel_if b now mac s) p →
    IsSaidIn now mac s p
said_if now mac s p true e there = record { is = sym (only (parcel_to now mac s) p there); spelled = e }
said_if now mac s p false e there = absurd (none_has there)

pub said_in : {A : Type 0} (now : ℕ) (mac : Mac) (s : Spoken) (p : Parcel A) → Has (parcel_of now mac s) p → IsSaidIn now mac s p
said_in now mac s p there = said_if now mac s p (is_spelled s.way.destination) refl there

-- what a station hears of it, where it comes from this address
abbrev pub heard_from : ℕ → Mac → Station → PlainApdu → Heard
heard_from net from x a = record { station = x; way = way_to net from x; alone = true; content = says a }

module _ {A : Type 0} (net now : ℕ) (mac : Mac) (s : Spoken) (p q : Parcel A) (other : ℕ) (is : IsSaidIn now mac s p) (k : BringsOf net p other q)
    (a : PlainApdu) (spells : Spells s.apdu a) where
  abbrev sayer : Station
  sayer = record { net = net; mac = mac }

  inside_is : k.inside ≡ spoken_inside net mac s
  inside_is = one_inside net p.from p.to p.npdu k.inside (spoken_inside net mac s) k.said
      (subst (λ (z : Parcel A). HasInside net z.from z.to z.npdu (spoken_inside net mac s)) (sym is.is) (spoken_is_inside net mac s is.spelled))

  content_is : (m : Option Message) (octets : List ℕ) → m ≡ None → octets ≡ s.apdu → SpellsContent m octets (says a)
  content_is m octets none same =
      subst (λ (z : Option Message). SpellsContent z octets (says a)) (sym none) (subst (λ (l : List ℕ). Spells l a) (sym same) spells)

  pub brings_it : Brings other q.from q.to q.npdu (heard_from other q.from sayer a)
  brings_it = record {
    header = k.brought.header;
    spelled = k.brought.spelled;
    here = ap (λ (d : Option PlainDestination). is_here d) k.last;
    sent = k.brought.is.source ∙ ap (λ (z : Inside). Some z.source) inside_is;
    way = refl;
    alone = sym k.alone;
    said = content_is k.brought.header.message k.brought.header.body k.brought.is.application
        (k.brought.is.apdu ∙ ap (λ (z : Inside). z.apdu) inside_is);
  }

  pub brings_only : (h : Heard) → Brings other q.from q.to q.npdu h → h ≡ heard_from other q.from sayer a
  brings_only h brings = brought_once other q.from q.to q.npdu h (heard_from other q.from sayer a) brings brings_it
