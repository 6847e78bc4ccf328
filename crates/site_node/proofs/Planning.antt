-- What is planned of a node, put together of what its part plans and what its ports do.
use Rattle.std.proofs.Common.{◌≡◌, ◌⊎◌, ◌∙◌, inl, inr, refl, sym, ap, subst, ℕ, List, [], Option, Some, None}
use Rattle.link.specs.Step.{PortSent, over_port}
use Rattle.link.specs.Up.{parcel_if, parcel_of}
use Rattle.link.specs.declared.up.Up.{Up}
use Rattle.site_ports.specs.link_site.Steps as site
use Rattle.site_ports.specs.link_site.declared.port.SitePort.{SitePort}
use Rattle.npdu.specs.declared.mac.Mac.{Mac}
use Rattle.npdu.specs.declared.mac.Station.{Station}
use Rattle.npdu.specs.declared.parcel.Parcel.{Parcel}
use Rattle.router.specs.declared.plan.PortParcel.{PortParcel}
use Rattle.site_node.specs.Part.{PartHears, RefusesMessage, silence}
use Rattle.site_node.specs.Refusals.{RefusesOn, UpIsRefused}
use Rattle.site_node.specs.Steps.{HearsOn}
use Rattle.site_node.specs.declared.part.Part.{Part}
use Rattle.site_node.specs.declared.told.PartTold.{PartTold}
use Rattle.site_ports.proofs.Drafts.{none_left}
use Rattle.site_ports.specs.Drafts.{PortsState, drafted, left_of}
use Rattle.site_ports.specs.Ports.{AreBefore, DownsEach, HearsAt, IsOneTooLong, places_of}
use Rattle.site_ports.specs.declared.draft.Draft.{Draft}
use Rattle.tags.specs.declared.fault.Fault.{Fault}
use Rattle.tags.specs.declared.fault.Fault.TheVariants.{Memory, TableFull, TooLong}

module _ {A : Type 0} where
  -- an empty draft leaves ports as they are
  pub drafted_none : (now : ℕ) (ports : List (SitePort A)) (d : Draft A) → d.changes.items ≡ [] → d.out ≡ [] →
      drafted now ports d ≡ record { ports = ports; out = [] }
  drafted_none now ports d none silent =
      ap (λ (ls : List (SitePort A)). record { ports = ls; out = d.out })
      (ap (λ cs. left_of now ports cs) none ∙ none_left now ports)
      ∙ ap (λ (o : List (PortSent A)). record { ports = ports; out = o }) silent

  pub begun_before : (now : ℕ) (ports : List (SitePort A)) (d : Draft A) → d.changes.items ≡ [] → AreBefore now ports →
      AreBefore now (drafted now ports d).ports
  begun_before now ports d none before = subst (λ (ls : List (SitePort A)). AreBefore now ls)
      (sym (ap (λ cs. left_of now ports cs) none ∙ none_left now ports)) before

-- why what is said can't go down: want of memory, or it is too long
abbrev pub IsStopped : {A : Type 0} → List Station → List (PortParcel A) → Fault → Type 0
IsStopped places downs fault = (fault ≡ Memory) ⊎ ((fault ≡ TooLong) × IsOneTooLong places downs)

module _ {A : Type 0} (now port : ℕ) (from : Mac) (octets : List ℕ) (stamp : ℕ) (start middle : PortsState A)
    (part : Part A) (up : Option Up) (heard : HearsAt now port from octets stamp start (parcel_if up) middle) where
  -- nothing came up
  pub heard_in_vain : up ≡ None → HearsOn now port from octets stamp start part silence part middle
  heard_in_vain none = record {
    up = None;
    middle = middle;
    heard = subst (λ (u : Option Up). HearsAt now port from octets stamp start (parcel_if u) middle) none heard;
    answers = (refl, refl, refl);
  }

  module _ (u : Up) (one : up ≡ Some u) where
    -- what came up
    begun : HearsAt now port from octets stamp start (Some (parcel_of u)) middle
    begun = subst (λ (v : Option Up). HearsAt now port from octets stamp start (parcel_if v) middle) one heard

    -- it is answered
    pub heard_is_answered : (told : PartTold A) (downs : List (PortParcel A)) (left : Part A) (end : PortsState A) →
        PartHears now port (parcel_of u) part told downs left → DownsEach now downs middle end →
        HearsOn now port from octets stamp start part told left end
    heard_is_answered told downs left end does down = record {
      up = Some (parcel_of u);
      middle = middle;
      heard = begun;
      answers = record { downs = downs; hears = does; goes_down = down };
    }

    -- it is refused, whatever was put out so far
    is_refused : (fault : Fault) → UpIsRefused (places_of start.ports) now port (parcel_of u) part fault →
        RefusesOn now port from octets stamp start.ports part fault
    is_refused fault refused = by_case begun
      where
        by_case : HearsAt now port from octets stamp start (Some (parcel_of u)) middle →
            RefusesOn now port from octets stamp start.ports part fault
        by_case (inl s) = inr (record {
          up = parcel_of u;
          middle = record { ports = middle.ports; out = over_port port s.step.out };
          heard = inl (record {
            link = s.link;
            there = s.there;
            step = s.step;
            left = s.left;
            made = s.made;
            ports = s.ports;
            puts = refl;
          });
          refused = refused;
        })
        by_case (inr m) = absurd (cc (m.1))

    -- .. by the part
    pub part_is_refused : (fault : Fault) →
        (fault ≡ Memory) ⊎ ((fault ≡ TableFull) × RefusesMessage port (parcel_of u) part) →
        (fault ≡ Memory) ⊎ RefusesOn now port from octets stamp start.ports part fault
    part_is_refused fault (inl memory) = inl memory
    part_is_refused fault (inr full) = inr (is_refused fault (inl full))

    -- .. or what is said of it can't go down
    pub answer_is_stopped : (told : PartTold A) (downs : List (PortParcel A)) (left : Part A) (fault : Fault) →
        places_of middle.ports ≡ places_of start.ports → PartHears now port (parcel_of u) part told downs left →
        IsStopped (places_of middle.ports) downs fault →
        (fault ≡ Memory) ⊎ RefusesOn now port from octets stamp start.ports part fault
    answer_is_stopped told downs left fault places does (inl memory) = inl memory
    answer_is_stopped told downs left fault places does (inr long) = inr (is_refused fault (inr (
      long.0,
      record {
        told = told;
        downs = downs;
        left = left;
        hears = does;
        long = subst (λ (xs : List Station). IsOneTooLong xs downs) places (long.1);
      },
    )))

-- a port refuses octets
pub port_refuses : {A : Type 0} (now port : ℕ) (from : Mac) (octets : List ℕ) (stamp : ℕ) (start : PortsState A)
    (part : Part A) (fault : Fault) → (fault ≡ Memory) ⊎ site.IsRefused fault from octets →
    (fault ≡ Memory) ⊎ RefusesOn now port from octets stamp start.ports part fault
port_refuses now port from octets stamp start part fault (inl memory) = inl memory
port_refuses now port from octets stamp start part fault (inr r) = inr (inl r)
