-- Why a parcel has nothing inside.
use Rattle.std.proofs.Common.{◌≡◌, ◌≢◌, ◌∙◌, sym, ap, ℕ, Some, None}
use Rattle.npdu.specs.Header.{Header, NoHeader, OnlyHeader}
use Rattle.npdu.specs.Sender.{sender}
use Rattle.npdu.specs.declared.parcel.Parcel.{Parcel}
use Rattle.inside.specs.Inside.{HasInside, HasNothingInside, Inside, reach_of}

none_some : {X : Type 0} (x : X) → None ≡ Some x → ⊥
none_some x e = cc e

module _ {A : Type 0} (net : ℕ) (p : Parcel A) (h : Header) (one : OnlyHeader p.npdu h) where
  same_header : (i : Inside) (has : HasInside net p.from p.to p.npdu i) → h ≡ has.header
  same_header i has = one.only has.header has.spelled

  pub network_message : h.message ≢ None → HasNothingInside net p
  network_message is = record {
    none = λ i has. is (ap (λ (k : Header). k.message) (same_header i has) ∙ has.is.application);
  }

  pub no_sender : sender net p.from h.source ≡ None → HasNothingInside net p
  no_sender other = record {
    none = λ i has. none_some i.source (sym other ∙ ap (λ (k : Header). sender net p.from k.source) (same_header i has) ∙ has.is.source);
  }

  pub no_reach : reach_of net p.to h.destination ≡ None → HasNothingInside net p
  no_reach other = record {
    none = λ i has. none_some i.reach (sym other ∙ ap (λ (k : Header). reach_of net p.to k.destination) (same_header i has) ∙ has.is.reach);
  }

pub no_header : {A : Type 0} (net : ℕ) (p : Parcel A) → NoHeader p.npdu → HasNothingInside net p
no_header net p lacks = record { none = λ i has. lacks.none has.header has.spelled }

pub ruleset nothing_rules = (network_message, no_sender, no_reach, no_header)
