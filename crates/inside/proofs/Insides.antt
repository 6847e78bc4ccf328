-- There is one thing inside a message.
use Rattle.std.proofs.Common.{◌≡◌, ◌∙◌, sym, ap, subst, ℕ, List, Some, None}
use Rattle.npdu.proofs.SpellingLaws.{one_header}
use Rattle.npdu.specs.Header.{Header}
use Rattle.npdu.specs.declared.mac.Station.{Station}
use Rattle.inside.specs.declared.reach.Reach.{Reach}
use Rattle.inside.specs.Inside.{Inside, IsInside}
use Rattle.inside.specs.Laws.{InsideItsHeader, NetworkMessageHasNothing, OneInside}

pub some_same : {X : Type 0} (x y : X) → Some x ≡ Some y → x ≡ y
some_same x y e = cc

none_some : {X : Type 0} (x : X) → None ≡ Some x → ⊥
none_some x e = cc e

inside_is : (i j : Inside) → i.source ≡ j.source → i.reach ≡ j.reach → i.apdu ≡ j.apdu → i ≡ j
inside_is i j s r a =
    ap (λ (x : Station). record { source = x; reach = i.reach; apdu = i.apdu }) s
    ∙ ap (λ (x : Reach). record { source = j.source; reach = x; apdu = i.apdu }) r
    ∙ ap (λ (x : List ℕ). record { source = j.source; reach = j.reach; apdu = x }) a

pub inside_its_header : InsideItsHeader
inside_its_header net from to npdu h i s has =
    subst (λ (k : Header). IsInside net from to k i) (one_header npdu has.header h has.spelled s) has.is

pub one_inside : OneInside
one_inside net from to npdu i j a b =
    let is = inside_its_header net from to npdu b.header i b.spelled a in
    inside_is i j
    (some_same i.source j.source (sym is.source ∙ b.is.source))
    (some_same i.reach j.reach (sym is.reach ∙ b.is.reach))
    (sym is.apdu ∙ b.is.apdu)

pub network_message_has_nothing : {A : Type 0} → NetworkMessageHasNothing A
network_message_has_nothing net p h m spelled is = record {
  none = λ i has. let in_it = inside_its_header net p.from p.to p.npdu h i spelled has in none_some m (sym in_it.application ∙ is);
}
