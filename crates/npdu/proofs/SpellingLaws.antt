-- What octets spell is one header, and its canonical spelling is as short as any.
use Rattle.std.proofs.Common.{◌≡◌, ℕ, ◌/◌, ◌%◌, ◌==◌, Bool, List, ◌∷◌, ◌++◌, ◌∙◌, length, Option, Some, None, inl, inr, refl, sym, ap, subst, arith}
use Rattle.std.specs.Prelude.{option_map}
use Rattle.npdu.specs.Header.{Header, PlainDestination, PlainSource, Spells, OnlyHeader, fields, snet_octets, hop_octets, message_octets}
use Rattle.npdu.specs.Fields.{Takes, Place, place_in, place_octets, IsPlaceIf, IsSourceIf, IsDestinationAt, IsMessageIf, SpellsFields}
use Rattle.byteorder.specs.Endian.{big_bytes}
use Rattle.npdu.specs.Dnet.{dnet_number, IsDnet}
use Rattle.npdu.specs.Refusals.{IsBadPlace, IsBadSource, IsMisfit, IsOtherVersion, IsCut, Refuses}
use Rattle.npdu.specs.declared.view.Dnet.{Dnet}
use Rattle.npdu.specs.declared.view.Dnet.TheVariants.{Network, Global}
use Rattle.tags.specs.declared.fault.Fault.{Fault}
use Rattle.tags.specs.declared.fault.Fault.TheVariants.{Short, BadVersion, BadLength}
use Rattle.npdu.specs.Message.{IsMessage, type_octets}
use Rattle.npdu.specs.Priority.{priority_number}
use Rattle.npdu.specs.declared.message.Message.{Message}
use Rattle.npdu.specs.declared.message.Message.TheVariants.{WhoIsRouterToNetwork, IAmRouterToNetwork, RejectMessageToNetwork, Other, Proprietary}
use Rattle.npdu.specs.declared.priority.Priority.{Priority}
use Rattle.npdu.specs.declared.priority.Priority.TheVariants.{Normal, Urgent, CriticalEquipment, LifeSafety}
use Rattle.npdu.proofs.FieldLaws.{dnet-lt, one_number, one_place, one_source}
use Rattle.npdu.proofs.HeaderLaws.{fields_in, longer}

one_priority : (p q : Priority) → priority_number p ≡ priority_number q → p ≡ q
one_priority Normal Normal e = refl
one_priority Urgent Urgent e = refl
one_priority CriticalEquipment CriticalEquipment e = refl
one_priority LifeSafety LifeSafety e = refl
one_priority p q e = absurd (omega arith)

one_type : (m n : Message) (a b : List ℕ) → IsMessage m → IsMessage n → type_octets m ++ a ≡ type_octets n ++ b → (m ≡ n) × (a ≡ b)
one_type (Other k) (Other l) a b s t e = (cc, cc)
one_type (Proprietary k v) (Proprietary l w) a b s t e =
    let n = one_number v w a b s.2 t.2 cc in
    let kind : k ≡ l = cc in
    (cc, n.1)
one_type WhoIsRouterToNetwork WhoIsRouterToNetwork a b s t e = (refl, cc)
one_type IAmRouterToNetwork IAmRouterToNetwork a b s t e = (refl, cc)
one_type RejectMessageToNetwork RejectMessageToNetwork a b s t e = (refl, cc)
one_type m n a b s t e = absurd (grind arith)

one_message : (present : Bool) (octets : List ℕ) (o q : Option Message) (a b : List ℕ) → Takes (IsMessageIf present) message_octets octets o a →
    Takes (IsMessageIf present) message_octets octets q b → (o ≡ q) × (a ≡ b)
one_message present octets None None a b s t = (refl, cc)
one_message present octets None (Some q) a b s t = absurd (cc (s.fits.announced, t.fits.announced))
one_message present octets (Some p) None a b s t = absurd (cc (s.fits.announced, t.fits.announced))
one_message present octets (Some p) (Some q) a b s t = let m = one_type p q a b s.fits.sound t.fits.sound (sym s.parts ∙ t.parts) in
    (ap (λ (x : Message). Some x) m.0, m.1)

destined : Dnet → List ℕ → ℕ → Option PlainDestination
destined net mac hops = Some (record { net = net; mac = mac; hops = hops })

destined_again : (p : PlainDestination) → destined p.net p.mac p.hops ≡ Some p
unfolding destined
destined_again p = refl

some_destination_is : (p q : PlainDestination) → p.net ≡ q.net → p.mac ≡ q.mac → p.hops ≡ q.hops → Some p ≡ Some q
some_destination_is p q e f g = cc (destined_again p, destined_again q)

one_destination : (at : Option Place) (octets : List ℕ) (o q : Option PlainDestination) (a b : List ℕ) → Takes (IsDestinationAt at) hop_octets octets o a →
    Takes (IsDestinationAt at) hop_octets octets q b → (o ≡ q) × (a ≡ b)
one_destination at octets None None a b s t = (refl, cc)
one_destination at octets None (Some q) a b s t = absurd (cc (s.fits.place, t.fits.place))
one_destination at octets (Some p) None a b s t = absurd (cc (s.fits.place, t.fits.place))
one_destination at octets (Some p) (Some q) a b s t =
    let e : Some (place_in p) ≡ Some (place_in q) = s.fits.place ∙ sym t.fits.place in
    let f : place_in p ≡ place_in q = cc in
    let hops : p.hops ≡ q.hops = cc (s.parts, t.parts) in
    let rest : a ≡ b = cc (s.parts, t.parts) in
    let net : p.net ≡ q.net = ap (λ (x : Place). x.net) f in
    let mac : p.mac ≡ q.mac = ap (λ (x : Place). x.mac) f in
    (some_destination_is p q net mac hops, rest)

made : Bool → Priority → Option PlainDestination → Option PlainSource → Option Message → List ℕ → Header
made expects_reply priority destination source message body =
    record { expects_reply = expects_reply; priority = priority; destination = destination; source = source; message = message; body = body }

made_again : (h : Header) → made h.expects_reply h.priority h.destination h.source h.message h.body ≡ h
unfolding made
made_again h = refl

one_fields : (control : ℕ) (octets : List ℕ) (h k : Header) → SpellsFields control octets h → SpellsFields control octets k → h ≡ k
one_fields control octets h k s t =
    let p = one_place _ octets _ _ _ _ s.place t.place in
    let from_source : Takes (IsSourceIf (control / 8 % 2 == 1)) snet_octets s.at_source k.source t.at_hops = rw (p.1) t.source in
    let q = one_source _ s.at_source h.source k.source s.at_hops t.at_hops s.source from_source in
    let from_hops : Takes (IsDestinationAt (option_map place_in h.destination)) hop_octets s.at_hops k.destination t.at_message = rw (p.0, q.1) t.hops in
    let r = one_destination _ s.at_hops h.destination k.destination s.at_message t.at_message s.hops from_hops in
    let from_message : Takes (IsMessageIf (control / 128 % 2 == 1)) message_octets s.at_message k.message k.body = rw (r.1) t.message in
    let m = one_message _ s.at_message h.message k.message h.body k.body s.message from_message in
    let reply : h.expects_reply ≡ k.expects_reply = s.reply ∙ sym t.reply in
    let priority = one_priority h.priority k.priority (s.priority ∙ sym t.priority) in
    cc (made_again h, made_again k, q.0, r.0, m.0, m.1)

-- the fields behind a control octet
fields_behind : (octets : List ℕ) (h : Header) (control : ℕ) (rest : List ℕ) → Spells octets h → octets ≡ 1 ∷ (control ∷ rest) → SpellsFields control rest h
fields_behind octets h control rest s e =
    let control-is : s.control ≡ control = cc (s.parts, e) in
    let rest-is : fields h ≡ rest = cc (s.parts, e) in
    subst (λ (c : ℕ). SpellsFields c rest h) control-is (subst (λ (r : List ℕ). SpellsFields s.control r h) rest-is (fields_in octets h s))

pub one_header : (octets : List ℕ) (h k : Header) → Spells octets h → Spells octets k → h ≡ k
one_header octets h k s t = one_fields t.control (fields k) h k (fields_behind octets h t.control (fields k) s t.parts) (fields_in octets k t)

pub only_header : (octets : List ℕ) (control : ℕ) (rest : List ℕ) (h : Header) → octets ≡ 1 ∷ (control ∷ rest) → SpellsFields control rest h →
    OnlyHeader octets h
only_header octets control rest h e s = record { only = λ k t. one_fields control rest h k s (fields_behind octets k control rest t e) }

not_zero : (net : Dnet) → IsDnet net → 0 ≡ dnet_number net → ⊥
not_zero (Network n) sound e = absurd (omega arith)
not_zero Global sound e = absurd (omega arith)

-- no octets behind mend a destination or a source that there is not
mends_place : (present : Bool) (octets more : List ℕ) (o : Option Place) (a : List ℕ) → IsBadPlace present octets →
    Takes (IsPlaceIf present) place_octets (octets ++ more) o a → ⊥
mends_place present octets more None a bad t = absurd (cc (bad.is, t.fits.announced))
mends_place present octets more (Some p) a bad t =
    let n = one_number 0 (dnet_number p.net) (bad.rest ++ more) (length p.mac ∷ (p.mac ++ a)) (omega arith) (dnet-lt p.net t.fits.sound.0)
    (sym (ap (λ (x : List ℕ). x ++ more) bad.front) ∙ t.parts) in
    not_zero p.net t.fits.sound.0 n.0

mends_source : (present : Bool) (octets more : List ℕ) (o : Option PlainSource) (a : List ℕ) → IsBadSource present octets →
    Takes (IsSourceIf present) snet_octets (octets ++ more) o a → ⊥
mends_source present octets more None a bad t = absurd (cc (bad.is, t.fits.announced))
mends_source present octets more (Some p) a bad t =
    let e : (big_bytes 2 bad.net ++ bad.rest) ++ more ≡ (big_bytes 2 p.net ++ (length p.mac ∷ p.mac)) ++ a =
    sym (ap (λ (x : List ℕ). x ++ more) bad.front) ∙ t.parts in
    elim bad.cause [
      | inl zero-is ↦ absurd (omega (
        arith,
        t.fits.sound,
        (one_number bad.net p.net (bad.rest ++ more) (length p.mac ∷ (p.mac ++ a)) (omega arith) (omega (arith, t.fits.sound)) e).0,
      ))
      | inr other ↦ elim other [
        | inl global ↦ absurd (omega (
          arith,
          t.fits.sound,
          (one_number bad.net p.net (bad.rest ++ more) (length p.mac ∷ (p.mac ++ a)) (omega arith) (omega (arith, t.fits.sound)) e).0,
        ))
        | inr none ↦ let empty : length p.mac ≡ 0 = cc (e, none.front) in absurd (omega (arith, t.fits.sound))
      ]
    ]

cut_misfit : (octets : List ℕ) → IsCut octets → IsMisfit octets → ⊥
cut_misfit octets cut misfit =
    let s = fields_behind (octets ++ cut.more) cut.header misfit.control (misfit.rest ++ cut.more) cut.whole
    (ap (λ (x : List ℕ). x ++ cut.more) misfit.front) in
    elim misfit.cause [
      | inl place ↦ mends_place _ misfit.rest cut.more _ _ place s.place
      | inr behind ↦
          let p = one_place _ (misfit.rest ++ cut.more) _ _ _ _ (longer _ _ misfit.rest behind.place behind.rest cut.more behind.behind) s.place in
          let from_source : Takes (IsSourceIf (misfit.control / 8 % 2 == 1)) snet_octets (behind.rest ++ cut.more) cut.header.source s.at_hops =
          rw (p.1) s.source in
          mends_source _ behind.rest cut.more _ _ behind.source from_source
    ]

cut_other : (octets : List ℕ) → IsCut octets → IsOtherVersion octets → ⊥
cut_other octets cut other = other.other (cc (ap (λ (x : List ℕ). x ++ cut.more) other.front, cut.whole.parts))

misfit_other : (octets : List ℕ) → IsMisfit octets → IsOtherVersion octets → ⊥
misfit_other octets misfit other = other.other (cc (misfit.front, other.front))

pub one_fault : (octets : List ℕ) (d e : Fault) → Refuses d octets → Refuses e octets → d ≡ e
one_fault octets Short Short s t = refl
one_fault octets BadVersion BadVersion s t = refl
one_fault octets BadLength BadLength s t = refl
one_fault octets Short BadVersion s t = absurd (cut_other octets s t)
one_fault octets BadVersion Short s t = absurd (cut_other octets t s)
one_fault octets Short BadLength s t = absurd (cut_misfit octets s t)
one_fault octets BadLength Short s t = absurd (cut_misfit octets t s)
one_fault octets BadLength BadVersion s t = absurd (misfit_other octets s t)
one_fault octets BadVersion BadLength s t = absurd (misfit_other octets t s)
one_fault octets d e s t = absurd (grind arith)
