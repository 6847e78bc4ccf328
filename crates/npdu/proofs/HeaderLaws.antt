-- From the fields to the whole header, and back.
use Rattle.std.proofs.Common.{◌≡◌, ℕ, ◌/◌, ◌%◌, ◌<◌, ◌==◌, Bool, false, List, [], ◌∷◌, ◌++◌, ◌∙◌, length, Option, Some, None, inl, inr, refl, sym, ap, subst}
use Rattle.std.proofs.Common.{get_or, ◌≤◌, zero, suc, arith, append_assoc}
use Rattle.std.specs.Prelude.{option_map, is_some, IfSome}
use Rattle.npdu.specs.Header.{Header, PlainDestination, PlainSource, Spells, NoHeader, fields, dnet_octets, IsDestination, snet_octets, hop_octets}
use Rattle.npdu.specs.Header.{message_octets}
use Rattle.npdu.specs.Fields.{Takes, Only, Lacks, Begins, Place, place_in, place_octets, IsPlaceIf, IsSourceIf, IsDestinationAt, IsMessageIf, SpellsFields}
use Rattle.npdu.specs.Fields.{IsCutFields, NoFields}
use Rattle.npdu.specs.Refusals.{IsCut, RefusesPlace, RefusesSource, RefusesFields}
use Rattle.tags.specs.declared.fault.Fault.{Fault}
use Rattle.tags.specs.declared.fault.Fault.TheVariants.{Short, BadLength}
use Rattle.npdu.proofs.FieldLaws.{source_begins, hops_begin, message_begins}
use Rattle.npdu.specs.Priority.{priority_number}
use Rattle.npdu.specs.declared.priority.Priority.{Priority}
use Rattle.npdu.specs.declared.priority.Priority.TheVariants.{Normal, Urgent, CriticalEquipment, LifeSafety}

-- octets behind what is left
pub longer : {A : Type 0} (IsField : A → Type 0) (spelling : A → List ℕ) (octets : List ℕ) (a : A) (rest more : List ℕ) →
    Takes IsField spelling octets a rest → Takes IsField spelling (octets ++ more) a (rest ++ more)
longer IsField spelling octets a rest more t = record { fits = t.fits; parts = ap (λ (x : List ℕ). x ++ more) t.parts ∙ append_assoc (spelling a) rest more }

priority_at : (n : ℕ) → n < 4 → (p : Priority) × (priority_number p ≡ n)
priority_at zero low = (Normal, refl)
priority_at (suc zero) low = (Urgent, refl)
priority_at (suc (suc zero)) low = (CriticalEquipment, refl)
priority_at (suc (suc (suc zero))) low = (LifeSafety, refl)
priority_at (suc (suc (suc (suc n)))) low = absurd (omega arith)

-- a header that is cut behind some fields can be completed
cut_more : (control : ℕ) (octets more : List ℕ) → IsCutFields control (octets ++ more) → IsCutFields control octets
cut_more control octets more cut = record { more = more ++ cut.more; header = cut.header; whole = rw (← append_assoc octets more cut.more) cut.whole }

pub cut_at_message : (control : ℕ) (octets : List ℕ) (o : Option Place) (a : List ℕ) (s : Option PlainSource) (b : List ℕ) (d : Option PlainDestination)
    (c : List ℕ)
    → Takes (IsPlaceIf (control / 32 % 2 == 1)) place_octets octets o a
    → Takes (IsSourceIf (control / 8 % 2 == 1)) snet_octets a s b
    → Takes (IsDestinationAt o) hop_octets b d c
    → Begins (IsMessageIf (control / 128 % 2 == 1)) message_octets c
    → IsCutFields control octets
cut_at_message control octets o a s b d c place source hops cut =
    let p = priority_at (control % 4) (omega arith) in
    record {
      more = cut.more;
      header = record { expects_reply = control / 4 % 2 == 1; priority = p.0; destination = d; source = s; message = cut.field; body = [] };
      whole = record {
        reply = refl;
        priority = p.1;
        at_source = a ++ cut.more;
        at_hops = b ++ cut.more;
        at_message = c ++ cut.more;
        place = rw hops.fits.place (longer _ _ octets o a cut.more place);
        source = longer _ _ a s b cut.more source;
        hops = rw hops.fits.place (longer _ _ b d c cut.more hops);
        message = cut.whole;
      };
    }

pub cut_at_hops : (control : ℕ) (octets : List ℕ) (o : Option Place) (a : List ℕ) (s : Option PlainSource) (b : List ℕ)
    → Takes (IsPlaceIf (control / 32 % 2 == 1)) place_octets octets o a
    → Takes (IsSourceIf (control / 8 % 2 == 1)) snet_octets a s b
    → Begins (IsDestinationAt o) hop_octets b
    → IsCutFields control octets
cut_at_hops control octets o a s b place source cut =
    cut_more control octets cut.more (cut_at_message control (octets ++ cut.more) o (a ++ cut.more) s (b ++ cut.more) cut.field []
    (longer _ _ octets o a cut.more place) (longer _ _ a s b cut.more source) cut.whole (message_begins (control / 128 % 2 == 1)))

pub cut_at_source : (control : ℕ) (octets : List ℕ) (o : Option Place) (a : List ℕ)
    → Takes (IsPlaceIf (control / 32 % 2 == 1)) place_octets octets o a
    → Begins (IsSourceIf (control / 8 % 2 == 1)) snet_octets a
    → IsCutFields control octets
cut_at_source control octets o a place cut =
    cut_more control octets cut.more (cut_at_hops control (octets ++ cut.more) o (a ++ cut.more) cut.field []
    (longer _ _ octets o a cut.more place) cut.whole (hops_begin o))

pub cut_at_place : (control : ℕ) (octets : List ℕ) → Begins (IsPlaceIf (control / 32 % 2 == 1)) place_octets octets → IsCutFields control octets
cut_at_place control octets cut =
    cut_more control octets cut.more (cut_at_source control (octets ++ cut.more) cut.field [] cut.whole (source_begins (control / 8 % 2 == 1)))

-- a field that is refused, and so the fields
pub refuses_place : (fault : Fault) (control : ℕ) (octets : List ℕ) → RefusesPlace fault (control / 32 % 2 == 1) octets → RefusesFields fault control octets
refuses_place Short control octets r = cut_at_place control octets r
refuses_place BadLength control octets r = inl r
refuses_place fault control octets r = absurd r

pub refuses_source : (fault : Fault) (control : ℕ) (octets : List ℕ) (o : Option Place) (a : List ℕ)
    → Takes (IsPlaceIf (control / 32 % 2 == 1)) place_octets octets o a
    → RefusesSource fault (control / 8 % 2 == 1) a
    → RefusesFields fault control octets
refuses_source Short control octets o a place r = cut_at_source control octets o a place r
refuses_source BadLength control octets o a place r = inr (record { place = o; rest = a; behind = place; source = r })
refuses_source fault control octets o a place r = absurd r

-- the message is lacking behind the fields that alone stand there
pub no_message : (control : ℕ) (octets : List ℕ) (o : Option Place) (a : List ℕ) (s : Option PlainSource) (b : List ℕ) (d : Option PlainDestination)
    (c : List ℕ)
    → Only (IsPlaceIf (control / 32 % 2 == 1)) place_octets octets o a
    → Only (IsSourceIf (control / 8 % 2 == 1)) snet_octets a s b
    → Only (IsDestinationAt o) hop_octets b d c
    → Lacks (IsMessageIf (control / 128 % 2 == 1)) message_octets c
    → NoFields control octets
no_message control octets o a s b d c place source hops lacks = record {
  none = λ h spelled.
      let p = place.only _ _ spelled.place in
      let at_a : Takes (IsSourceIf (control / 8 % 2 == 1)) snet_octets a h.source spelled.at_hops = rw (p.1) spelled.source in
      let q = source.only _ _ at_a in
      let at_b : Takes (IsDestinationAt o) hop_octets b h.destination spelled.at_message = rw (p.0, q.1) spelled.hops in
      let r = hops.only _ _ at_b in
      lacks.none h.message h.body (rw (r.1) spelled.message);
}

dnet_is : (d : Option PlainDestination) → dnet_octets d ≡ place_octets (option_map place_in d)
dnet_is None = refl
dnet_is (Some d) = refl

place_fits : (present : Bool) (d : Option PlainDestination) → present ≡ is_some d → IfSome d IsDestination → IsPlaceIf present (option_map place_in d)
place_fits present None e sound = record { announced = e; sound = tt }
place_fits present (Some d) e sound = record { announced = e; sound = (sound.0, sound.1) }

hops_fit : (d : Option PlainDestination) → IfSome d IsDestination → IsDestinationAt (option_map place_in d) d
hops_fit None sound = record { place = refl; sound = tt }
hops_fit (Some d) sound = record { place = refl; sound = sound.2 }

-- the fields of a header that is spelled, one after another
pub fields_in : (octets : List ℕ) (h : Header) (s : Spells octets h) → SpellsFields s.control (fields h) h
fields_in octets h s = record {
  reply = sym s.bits.reply;
  priority = sym s.bits.priority;
  at_source = snet_octets h.source ++ (hop_octets h.destination ++ (message_octets h.message ++ h.body));
  at_hops = hop_octets h.destination ++ (message_octets h.message ++ h.body);
  at_message = message_octets h.message ++ h.body;
  place = record {
    fits = place_fits _ h.destination s.bits.destination s.sound.destination;
    parts =
        ap (λ (x : List ℕ). x ++ (snet_octets h.source ++ (hop_octets h.destination ++ (message_octets h.message ++ h.body)))) (dnet_is h.destination);
  };
  source = record { fits = record { announced = s.bits.source; sound = s.sound.source }; parts = refl };
  hops = record { fits = hops_fit h.destination s.sound.destination; parts = refl };
  message = record { fits = record { announced = s.bits.message; sound = s.sound.message }; parts = refl };
}

pub no_header : (octets : List ℕ) (control : ℕ) (rest : List ℕ) → octets ≡ 1 ∷ (control ∷ rest) → NoFields control rest → NoHeader octets
no_header octets control rest e none = record {
  none = λ h s.
      let control-is : s.control ≡ control = cc (e, s.parts) in
      let rest-is : fields h ≡ rest = cc (e, s.parts) in
      none.none h (subst (λ (c : ℕ). SpellsFields c rest h) control-is (subst (λ (r : List ℕ). SpellsFields s.control r h) rest-is (fields_in octets h s)));
}

abbrev plain : Header
plain = record { expects_reply = false; priority = Normal; destination = None; source = None; message = None; body = [] }

plain_spelled : Spells (1 ∷ 0 ∷ []) plain
plain_spelled = record {
  sound = record { destination = tt; source = tt; message = tt };
  control = 0;
  bits = record { fits = omega arith; message = refl; destination = refl; source = refl; reply = refl; priority = refl };
  parts = refl;
}

pub cut_none : (octets : List ℕ) → length octets < 1 → IsCut octets
cut_none (a ∷ octets) short = absurd (omega arith)
cut_none [] short = record { more = 1 ∷ 0 ∷ []; header = plain; whole = plain_spelled }

pub cut_version : (octets : List ℕ) → 1 ≤ length octets → length octets < 2 → get_or octets 0 0 ≡ 1 → IsCut octets
cut_version [] some short one = absurd (omega arith)
cut_version (a ∷ b ∷ octets) some short one = absurd (omega arith)
cut_version (a ∷ []) some short one = record { more = 0 ∷ []; header = plain; whole = rw one plain_spelled }
