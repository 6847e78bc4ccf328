-- What is refused of what is kept is refused in the whole.
use Rattle.std.proofs.Common.{◌≡◌, ◌∙◌, ◌⊎◌, inl, inr, refl, sym, ap, arith, ℕ, suc, ◌+◌, Bool, true, false, List, [], ◌∷◌, Option, Some, None}
use Rattle.std.specs.Prelude.{if◌then◌else◌, is_some, slice_get}
use Rattle.npdu.specs.declared.mac.Station.{Station}
use Rattle.tags.specs.declared.fault.Fault.{Fault}
use Rattle.tags.specs.declared.fault.Fault.TheVariants.{Expired, NoSuch}
use Rattle.traffic.specs.Seeking.{is_young}
use Rattle.traffic.specs.declared.item.Item.{Item}
use Rattle.world.proofs.FindingLaws.{nowhere_at, nowhere_missing, too_old}
use Rattle.world.specs.Refusals.{IsNowhere, IsTooOld, MayBeHeard, RefusesItem}
use Rattle.world.specs.Step.{addressee_of}
use Rattle.world.specs.World.{WorldState}
use Rattle.world.specs.declared.happening.Happening.TheVariants as happening
use Rattle.world.specs.site_node.Node.{NodeState}
use Rattle.world.specs.world_log.Growing.{WorldHistory}
use Rattle.world.specs.world_sites.Finding.{IsNobodyAt, IsNodeAt, is_there, place_from, port_at}
use Rattle.world_past.proofs.EachLaws.{each_back, each_get}
use Rattle.world_past.proofs.ItemLaws.{young_there}
use Rattle.world_past.proofs.KeepingLaws.{over}
use Rattle.world.specs.Keeping.{Keeps}
use Rattle.world.specs.Old.{KeepsItem}
use Rattle.world_past.specs.Refusing.{RefusesIt}

some_same : {X : Type 0} (x y : X) → Some x ≡ Some y → x ≡ y
some_same x y e = cc

-- the first that passes stands where it is found
pub record IsFound {X : Type 0} (n : ℕ) (test : X → Bool) (xs : List X) (place : ℕ) : Type 0 where
  pub behind : ℕ
  pub place_is : place ≡ n + behind
  pub one : X
  pub there : slice_get xs behind ≡ Some one
  pub passes : test one ≡ true

found_by : {X : Type 0} (n : ℕ) (test : X → Bool) (x : X) (xs : List X) (place : ℕ) (b : Bool) → test x ≡ b →
    (place_from (n + 1) test xs ≡ Some place → IsFound (n + 1) test xs place) →
    (if b then Some n else place_from (n + 1) test xs) ≡ Some place → IsFound n test (x ∷ xs) place
found_by n test x xs place true t rest e = let here : n ≡ place = some_same n place e in
    record { behind = 0; place_is = omega (arith, here); one = x; there = refl; passes = t }
found_by n test x xs place false t rest e = let r = rest e in let is = r.place_is in
    record { behind = suc r.behind; place_is = omega (arith, is); one = r.one; there = r.there; passes = r.passes }

found_from : {X : Type 0} (n : ℕ) (test : X → Bool) (xs : List X) (place : ℕ) → place_from n test xs ≡ Some place →
    IsFound n test xs place
found_from n test [] place e = absurd (cc e)
found_from n test (x ∷ xs) place e =
    found_by n test x xs place (test x) refl (λ later. found_from (n + 1) test xs place later) e

-- a node is at an address
pub record HasNodeAt {A : Type 0} (x : Station) (nodes : List (NodeState A)) : Type 0 where
  pub place : ℕ
  pub port : ℕ
  pub n : NodeState A
  pub at : IsNodeAt x nodes place port n

has_port : {A : Type 0} (x : Station) (n : NodeState A) → is_there x n ≡ true → is_some (port_at x n) ≡ true
unfolding is_there
has_port x n e = e

with_port : {A : Type 0} (x : Station) (nodes : List (NodeState A)) (place : ℕ) (n : NodeState A) (o : Option ℕ) →
    port_at x n ≡ o → is_some o ≡ true → slice_get nodes place ≡ Some n →
    place_from 0 (is_there x) nodes ≡ Some place → HasNodeAt x nodes
with_port x nodes place n None e some there at = absurd (cc some)
with_port x nodes place n (Some port) e some there at = record {
  place = place;
  port = port;
  n = n;
  at = record { at_address = at; there = there; port_is = e };
}

some_at : {A : Type 0} (x : Station) (nodes : List (NodeState A)) (place : ℕ) →
    place_from 0 (is_there x) nodes ≡ Some place → HasNodeAt x nodes
some_at x nodes place e =
    let f = found_from 0 (is_there x) nodes place e in
    let is = f.place_is in
    let same : place ≡ f.behind = omega (arith, is) in
    with_port x nodes place f.one (port_at x f.one) refl (has_port x f.one f.passes)
    (ap (λ (m : ℕ). slice_get nodes m) same ∙ f.there) e

by_place : {A : Type 0} (x : Station) (nodes : List (NodeState A)) (o : Option ℕ) →
    place_from 0 (is_there x) nodes ≡ o → HasNodeAt x nodes ⊎ IsNobodyAt x nodes
by_place x nodes None e = inr (record {
  none = λ place port n at. absurd (let no : None ≡ Some place = sym e ∙ at.at_address in cc no);
})
by_place x nodes (Some place) e = inl (some_at x nodes place e)

-- somebody is at an address, or nobody
pub either_at : {A : Type 0} (x : Station) (nodes : List (NodeState A)) → HasNodeAt x nodes ⊎ IsNobodyAt x nodes
either_at x nodes = by_place x nodes (place_from 0 (is_there x) nodes) refl

module _ {A : Type 0} (past : WorldHistory A) (w k : WorldState A) (p : Keeps past w k) (number : ℕ) where
  the_same : (i : Item A) (fault : Fault) → fault ≡ NoSuch → IsNowhere number (over w k) →
      slice_get w.items number ≡ Some i → slice_get k.items number ≡ Some i →
      RefusesIt (happening.Deliver number) w fault
  the_same i fault e nowhere there kept = record {
    whole = fault;
    refused = inr (inl (
      e,
      record {
        none = λ item place port n is at. nowhere.none item place port n
            (kept ∙ ap (λ (x : Item A). Some x) (some_same i item (sym there ∙ is))) at;
      },
    ));
    named = inl refl;
  }

  -- nobody is at the address of what is kept of an old item
  no_longer : (i : Item A) (fault : Fault) → fault ≡ NoSuch → slice_get w.items number ≡ Some i →
      is_young w.moment i ≡ false → HasNodeAt (addressee_of i) w.nodes ⊎ IsNobodyAt (addressee_of i) w.nodes →
      RefusesIt (happening.Deliver number) w fault
  no_longer i fault e there old (inl at) = record {
    whole = Expired;
    refused = inr (too_old number w i at.place at.port at.n Expired refl there at.at old);
    named = inr (record {
      forgotten = record { item = i; there = there; old = old };
      named = inl (e, refl);
    });
  }
  no_longer i fault e there old (inr nobody) = record {
    whole = NoSuch;
    refused = inr (nowhere_at number w i there nobody);
    named = inl (sym e);
  }

  -- somebody is
  too_long : (i : Item A) (fault : Fault) → fault ≡ Expired → slice_get w.items number ≡ Some i →
      is_young w.moment i ≡ false → HasNodeAt (addressee_of i) w.nodes ⊎ IsNobodyAt (addressee_of i) w.nodes →
      RefusesIt (happening.Deliver number) w fault
  too_long i fault e there old (inl at) = record {
    whole = Expired;
    refused = inr (too_old number w i at.place at.port at.n Expired refl there at.at old);
    named = inl (sym e);
  }
  too_long i fault e there old (inr nobody) = record {
    whole = NoSuch;
    refused = inr (nowhere_at number w i there nobody);
    named = inr (record {
      forgotten = record { item = i; there = there; old = old };
      named = inr (e, refl);
    });
  }

  nowhere_one : (i j : Item A) (fault : Fault) → fault ≡ NoSuch → IsNowhere number (over w k) →
      slice_get w.items number ≡ Some i → slice_get k.items number ≡ Some j → KeepsItem w.moment i j →
      RefusesIt (happening.Deliver number) w fault
  nowhere_one i j fault e nowhere there kept (inl same) =
      the_same i fault e nowhere there (kept ∙ ap (λ (x : Item A). Some x) same)
  nowhere_one i j fault e nowhere there kept (inr o) =
      no_longer i fault e there o.old (either_at (addressee_of i) w.nodes)

  nowhere_over : (fault : Fault) → fault ≡ NoSuch → IsNowhere number (over w k) → (o : Option (Item A)) →
      slice_get w.items number ≡ o → RefusesIt (happening.Deliver number) w fault
  nowhere_over fault e nowhere None none = record {
    whole = fault;
    refused = inr (nowhere_missing number w fault e none);
    named = inl refl;
  }
  nowhere_over fault e nowhere (Some i) there =
      let back = each_get (λ y x. KeepsItem w.moment x y) k.items w.items number i
      (each_back (KeepsItem w.moment) w.items k.items p.items) there in
      nowhere_one i back.one fault e nowhere there back.there back.keeps

  old_one : (i j : Item A) → KeepsItem w.moment i j → is_young w.moment j ≡ false → is_young w.moment i ≡ false
  old_one i j (inl e) old = sym (ap (λ (x : Item A). is_young w.moment x) e) ∙ old
  old_one i j (inr o) old = o.old

  old_over : (fault : Fault) → fault ≡ Expired → IsTooOld number (over w k) →
      RefusesIt (happening.Deliver number) w fault
  old_over fault e t =
      let at = each_get (KeepsItem w.moment) w.items k.items number t.goes.item p.items t.goes.there in
      too_long at.one fault e at.there (old_one at.one t.goes.item at.keeps t.old)
      (either_at (addressee_of at.one) w.nodes)

  pub item_over : (fault : Fault) → RefusesItem number (over w k) fault → RefusesIt (happening.Deliver number) w fault
  item_over fault (inl n) = nowhere_over fault n.0 n.1 (slice_get w.items number) refl
  item_over fault (inr (inl t)) = old_over fault t.0 t.1
  item_over fault (inr (inr r)) = record {
    whole = fault;
    refused = inr (inr (inr (record {
      goes = record {
        item = r.goes.item;
        place = r.goes.place;
        port = r.goes.port;
        n = r.goes.n;
        there = young_there w.moment w.items k.items number r.goes.item p.items r.goes.there r.young;
        addressee = r.goes.addressee;
      };
      young = r.young;
      refuses = r.refuses;
    })));
    named = inl refl;
  }

  pub heard_over : MayBeHeard number (over w k) → MayBeHeard number w
  heard_over m = record {
    goes = record {
      item = m.goes.item;
      place = m.goes.place;
      port = m.goes.port;
      n = m.goes.n;
      there = young_there w.moment w.items k.items number m.goes.item p.items m.goes.there m.young;
      addressee = m.goes.addressee;
    };
    young = m.young;
  }
