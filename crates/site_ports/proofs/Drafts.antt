-- What an event changes of ports, port by port.
use Rattle.std.proofs.Common.{◌≡◌, ◌∙◌, ◌⊎◌, ◌≤◌, inl, inr, refl, sym, ap, subst, arith, ℕ, zero, suc, ◌+◌, List, [], ◌∷◌, ◌++◌, map, Some, None, length}
use Rattle.std.proofs.lemmas.List.{append-nil}
use Rattle.std.specs.Prelude.{slice_get, slice_index_or, slice_set, ◌<◌, Option, take, drop}
use Rattle.link.proofs.Putting.{put_behind}
use Rattle.link.specs.Step.{LinkStep, PortSent, PutsOver, over_port, put_out, step_of}
use Rattle.link.specs.declared.step.Change.{Change}
use Rattle.link.specs.declared.step.Change.TheVariants.{Nothing}
use Rattle.link_site.specs.CarryLaws.{stands}
use Rattle.link.specs.Carrying.{nothing}
use Rattle.link_site.specs.Port.{changed, moment_of}
use Rattle.link_site.specs.declared.port.SitePort.{SitePort}
use Rattle.npdu.specs.declared.parcel.Parcel.{Parcel}
use Rattle.site_ports.proofs.PortSteps.{before_at}
use Rattle.site_ports.specs.Drafts.{PortsState, SameLeft, left_of}
use Rattle.site_ports.specs.Ports.{AreBefore, Steps}

some_same : {X : Type 0} (x y : X) → Some x ≡ Some y → x ≡ y
some_same x y e = cc

cells : {X : Type 0} (x y : X) (xs ys : List X) → x ≡ y → xs ≡ ys → x ∷ xs ≡ y ∷ ys
cells x y xs ys a b = cc

module _ {A : Type 0} where
  pub none_left : (now : ℕ) (ports : List (SitePort A)) → left_of now ports [] ≡ ports
  none_left now [] = refl
  none_left now (l ∷ ls) = refl

  -- nothing of one more port changes nothing
  one_more : (now : ℕ) (ports : List (SitePort A)) (cs : List (Change (SitePort A))) →
      left_of now ports (cs ++ Nothing ∷ []) ≡ left_of now ports cs
  one_more now [] cs = refl
  one_more now (l ∷ ls) [] = cells (changed now l Nothing) l (left_of now ls []) ls (stands now l) (none_left now ls)
  one_more now (l ∷ ls) (c ∷ cs) = ap (λ xs. changed now l c ∷ xs) (one_more now ls cs)

  pub same_more : (old cs new : List (Change (SitePort A))) → SameLeft old cs → new ≡ cs ++ Nothing ∷ [] →
      SameLeft old new
  same_more old cs new so e = record {
    same = λ now ports. ap (λ xs. left_of now ports xs) e ∙ one_more now ports cs ∙ so.same now ports;
  }

  pub same_left : (cs : List (Change (SitePort A))) → SameLeft cs cs
  same_left cs = record { same = λ now ports. refl }

  drop_none : (i : ℕ) → drop {A = Change (SitePort A)} i [] ≡ []
  drop_none zero = refl
  drop_none (suc i) = refl

  -- there are as many ports as before
  pub left_misses : (now : ℕ) (ports : List (SitePort A)) (cs : List (Change (SitePort A))) (i : ℕ) →
      slice_get ports i ≡ None → slice_get (left_of now ports cs) i ≡ None
  left_misses now [] cs i e = e
  left_misses now (k ∷ ls) [] i e = e
  left_misses now (k ∷ ls) (c ∷ cs) zero e = absurd (cc e)
  left_misses now (k ∷ ls) (c ∷ cs) (suc i) e = left_misses now ls cs i e

  pub left_count : (now : ℕ) (ports : List (SitePort A)) (cs : List (Change (SitePort A))) →
      length (left_of now ports cs) ≡ length ports
  left_count now [] cs = refl
  left_count now (l ∷ ls) [] = refl
  left_count now (l ∷ ls) (c ∷ cs) = ap (λ n. suc n) (left_count now ls cs)

  -- the port of a number, as a change leaves it
  pub left_at : (now : ℕ) (ports : List (SitePort A)) (cs : List (Change (SitePort A))) (i : ℕ) (l : SitePort A)
      (c : Change (SitePort A)) → slice_get ports i ≡ Some l → i < length cs → c ≡ slice_index_or cs i c →
      slice_get (left_of now ports cs) i ≡ Some (changed now l c)
  left_at now [] cs i l c e lt is = absurd (cc e)
  left_at now (k ∷ ls) [] i l c e lt is = absurd (omega (arith, lt))
  left_at now (k ∷ ls) (d ∷ cs) zero l c e lt is =
      ap (λ x. Some (changed now x d)) (some_same k l e) ∙ ap (λ x. Some (changed now l x)) (sym is)
  left_at now (k ∷ ls) (d ∷ cs) (suc i) l c e lt is = left_at now ls cs i l c e (omega (arith, lt)) is

  -- .. and all where it is another
  pub left_set : (now : ℕ) (ports : List (SitePort A)) (cs : List (Change (SitePort A))) (i : ℕ) (l : SitePort A)
      (d : Change (SitePort A)) → slice_get ports i ≡ Some l → i < length cs →
      left_of now ports (slice_set cs i d) ≡ slice_set (left_of now ports cs) i (changed now l d)
  left_set now [] cs i l d e lt = absurd (cc e)
  left_set now (k ∷ ls) [] i l d e lt = absurd (omega (arith, lt))
  left_set now (k ∷ ls) (c ∷ cs) zero l d e lt =
      ap (λ x. changed now x d ∷ left_of now ls cs) (some_same k l e)
  left_set now (k ∷ ls) (c ∷ cs) (suc i) l d e lt =
      ap (λ xs. changed now k c ∷ xs) (left_set now ls cs i l d e (omega (arith, lt)))

  -- the port of a number goes on from what changed so far
  pub record Goes (now port : ℕ) (ports : List (SitePort A)) (l : SitePort A) (start cs : List (Change (SitePort A)))
      (c : Change (SitePort A)) : Type 0 where
    pub there : slice_get ports port ≡ Some l
    pub same : SameLeft start cs
    pub within : port < length cs
    pub is : c ≡ slice_index_or cs port c

  pub goes_at : (now port : ℕ) (ports : List (SitePort A)) (l : SitePort A) (start cs : List (Change (SitePort A)))
      (c : Change (SitePort A)) → Goes now port ports l start cs c →
      slice_get (left_of now ports start) port ≡ Some (changed now l c)
  goes_at now port ports l start cs c g =
      ap (λ xs. slice_get xs port) (sym (g.same.same now ports)) ∙ left_at now ports cs port l c g.there g.within g.is

  -- so it has seen no later moment
  pub goes_before : (now port : ℕ) (ports : List (SitePort A)) (l : SitePort A) (start cs : List (Change (SitePort A)))
      (c : Change (SitePort A)) → Goes now port ports l start cs c → AreBefore now (left_of now ports start) →
      moment_of (changed now l c) ≤ now
  goes_before now port ports l start cs c g before =
      before_at now (left_of now ports start) port (changed now l c) before (goes_at now port ports l start cs c g)

  -- .. and its step is one of the ports
  pub goes_on : (does : SitePort A → LinkStep A → SitePort A → Type 0) (now port : ℕ) (ports : List (SitePort A))
      (l : SitePort A) (start cs : List (Change (SitePort A))) (c d : Change (SitePort A)) →
      Goes now port ports l start cs c → (out : List (PortSent A)) (step : LinkStep A) (out2 : List (PortSent A)) →
      does (changed now l c) step (changed now l d) → out2 ≡ out ++ over_port port step.out →
      Steps does port (record { ports = left_of now ports start; out = out })
      (record { ports = left_of now ports (slice_set cs port d); out = out2 })
  goes_on does now port ports l start cs c d g out step out2 made puts = record {
    link = changed now l c;
    there = goes_at now port ports l start cs c g;
    step = step;
    left = changed now l d;
    made = made;
    ports = left_set now ports cs port l d g.there g.within
        ∙ ap (λ xs. slice_set xs port (changed now l d)) (g.same.same now ports);
    puts = puts;
  }

  -- what a call appended stands behind the rest
  pub put_on : (port : ℕ) (up : Option (Parcel A)) (out middle out2 : List (PortSent A)) → middle ≡ out →
      PutsOver port middle out2 → out2 ≡ out ++ over_port port (step_of up middle out2).out
  put_on port up out middle out2 same over = over.behind
      ∙ ap (λ ss. middle ++ over_port port ss) (sym (put_behind port middle out2 over.more over.behind))
      ∙ ap (λ xs. xs ++ over_port port (put_out middle out2)) same

  -- nothing was appended
  pub put_none : (port : ℕ) (out middle : List (PortSent A)) → middle ≡ out →
      middle ≡ out ++ over_port port (nothing {A = A}).out
  put_none port out middle same = same ∙ sym (append-nil out)

  -- one more port is as its change leaves it
  settled : (now i : ℕ) (ports : List (SitePort A)) (cs : List (Change (SitePort A))) (p : SitePort A)
      (c d : Change (SitePort A)) → i < length ports → i < length cs → p ≡ slice_index_or ports i p →
      c ≡ slice_index_or cs i c →
      take (suc i) (slice_set ports i (changed now p c))
      ++ left_of now (drop (suc i) (slice_set ports i (changed now p c))) (drop (suc i) (slice_set cs i d))
      ≡ take i ports ++ left_of now (drop i ports) (drop i cs)
  settled now i [] cs p c d a b is_p is_c = absurd (omega (arith, a))
  settled now i (q ∷ qs) [] p c d a b is_p is_c = absurd (omega (arith, b))
  settled now zero (q ∷ qs) (e ∷ es) p c d a b is_p is_c =
      ap (λ x. changed now x c ∷ left_of now qs es) is_p ∙ ap (λ x. changed now q x ∷ left_of now qs es) is_c
  settled now (suc i) (q ∷ qs) (e ∷ es) p c d a b is_p is_c =
      ap (λ xs. q ∷ xs) (settled now i qs es p c d (omega (arith, a)) (omega (arith, b)) is_p is_c)

  pub settled_next : (now i : ℕ) (ports : List (SitePort A)) (cs : List (Change (SitePort A))) (p : SitePort A)
      (c d : Change (SitePort A)) (all : List (SitePort A)) → i < length ports → i < length cs →
      p ≡ slice_index_or ports i p → c ≡ slice_index_or cs i c →
      take i ports ++ left_of now (drop i ports) (drop i cs) ≡ all →
      take (i + 1) (slice_set ports i (changed now p c))
      ++ left_of now (drop (i + 1) (slice_set ports i (changed now p c))) (drop (i + 1) (slice_set cs i d)) ≡ all
  settled_next now i ports cs p c d all a b is_p is_c so_far =
      let next : suc i ≡ i + 1 = omega arith in
      subst (λ (n : ℕ). take n (slice_set ports i (changed now p c))
      ++ left_of now (drop n (slice_set ports i (changed now p c))) (drop n (slice_set cs i d)) ≡ all) next
      (settled now i ports cs p c d a b is_p is_c ∙ so_far)

  -- none is left
  pub settled_all : (now i : ℕ) (ports : List (SitePort A)) (cs : List (Change (SitePort A)))
      (all : List (SitePort A)) → (length ports ≤ i) ⊎ (length cs ≤ i) →
      take i ports ++ left_of now (drop i ports) (drop i cs) ≡ all → ports ≡ all
  settled_all now i ports cs all end so_far = sym (done now i ports cs end) ∙ so_far
    where
      done : (now i : ℕ) (ports : List (SitePort A)) (cs : List (Change (SitePort A))) →
          (length ports ≤ i) ⊎ (length cs ≤ i) → take i ports ++ left_of now (drop i ports) (drop i cs) ≡ ports
      done now zero [] cs end = refl
      done now (suc i) [] cs end = refl
      done now zero (q ∷ qs) [] end = refl
      done now zero (q ∷ qs) (e ∷ es) (inl short) = absurd (omega (arith, short))
      done now zero (q ∷ qs) (e ∷ es) (inr short) = absurd (omega (arith, short))
      done now (suc i) (q ∷ qs) [] end =
          ap (λ cs. q ∷ (take i qs ++ left_of now (drop i qs) cs)) (sym (drop_none i))
          ∙ ap (λ xs. q ∷ xs) (done now i qs [] (inr (omega arith)))
      done now (suc i) (q ∷ qs) (e ∷ es) (inl short) = ap (λ xs. q ∷ xs) (done now i qs es (inl (omega (arith, short))))
      done now (suc i) (q ∷ qs) (e ∷ es) (inr short) = ap (λ xs. q ∷ xs) (done now i qs es (inr (omega (arith, short))))
