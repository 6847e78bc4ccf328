-- The octets begin with at most one field of a kind, and what completes a field that is cut.
use Rattle.std.proofs.Common.{◌≡◌, ℕ, ◌+◌, ◌*◌, ◌-◌, ◌<◌, ◌≤◌, ◌^◌, Bool, true, false, List, [], ◌∷◌, ◌++◌, ◌∙◌, length, Option, Some, None, refl, sym, ap}
use Rattle.std.proofs.Common.{get_or, arith, append_assoc}
use Rattle.std.specs.Prelude.{replicate}
use Rattle.std.proofs.lemmas.Grind.{common_steps}
use Rattle.std.proofs.lemmas.List.{length-append, length-replicate, append-nil}
use Rattle.byteorder.specs.Endian.{big_bytes}
use Rattle.npdu.specs.Dnet.{dnet_number, IsDnet}
use Rattle.npdu.specs.Header.{PlainSource, snet_octets, hop_octets, message_octets}
use Rattle.npdu.specs.Fields.{Takes, Only, Lacks, Begins, Place, place_octets, IsNet, IsMac, IsAddress, address_octets, IsPlaceIf, IsSourceIf, IsDestinationAt}
use Rattle.npdu.specs.Fields.{IsMessageIf}
use Rattle.npdu.specs.declared.message.Message.TheVariants.{WhoIsRouterToNetwork, Proprietary}
use Rattle.npdu.specs.declared.view.Dnet.{Dnet}
use Rattle.npdu.specs.declared.view.Dnet.TheVariants.{Network, Global}

cell : (a b : ℕ) (xs ys : List ℕ) → a ≡ b → xs ≡ ys → a ∷ xs ≡ b ∷ ys
cell a b xs ys e f = cc

-- two octets are one number
pub one_number : (m n : ℕ) (a b : List ℕ) → m < 2 ^ 16 → n < 2 ^ 16 → big_bytes 2 m ++ a ≡ big_bytes 2 n ++ b → (m ≡ n) × (a ≡ b)
one_number m n a b u v e = (grind (arith, common_steps), cc)

-- lists of one length in front of others
pub one_front : (a b x y : List ℕ) → length a ≡ length b → a ++ x ≡ b ++ y → (a ≡ b) × (x ≡ y)
one_front [] [] x y n e = (refl, e)
one_front [] (b ∷ d) x y n e = absurd (omega arith)
one_front (a ∷ c) [] x y n e = absurd (omega arith)
one_front (a ∷ c) (b ∷ d) x y n e =
    let t : c ++ x ≡ d ++ y = cc in
    let p = one_front c d x y (omega arith) t in
    (cc, p.1)

-- a length and as many octets are one address
pub one_mac : (m n x y : List ℕ) → length m ∷ (m ++ x) ≡ length n ∷ (n ++ y) → (m ≡ n) × (x ≡ y)
one_mac m n x y e =
    let len : length m ≡ length n = cc in
    let front : m ++ x ≡ n ++ y = cc in
    one_front m n x y len front

-- a number is one network
pub one_dnet : (m n : Dnet) → IsDnet m → IsDnet n → dnet_number m ≡ dnet_number n → m ≡ n
one_dnet (Network a) (Network b) u v e = cc
one_dnet (Network a) Global u v e = absurd (omega arith)
one_dnet Global (Network b) u v e = absurd (omega arith)
one_dnet Global Global u v e = refl

pub dnet-lt : (net : Dnet) → IsDnet net → dnet_number net < 2 ^ 16
dnet-lt (Network n) sound = omega arith
dnet-lt Global sound = omega arith

abbrev placed : Dnet → List ℕ → Option Place
placed net mac = Some (record { net = net; mac = mac })

some_place_is : (p q : Place) → p.net ≡ q.net → p.mac ≡ q.mac → Some p ≡ Some q
some_place_is p q e f = ap (λ (n : Dnet). placed n p.mac) e ∙ ap (λ (m : List ℕ). placed q.net m) f

pub one_place : (present : Bool) (octets : List ℕ) (o q : Option Place) (a b : List ℕ) → Takes (IsPlaceIf present) place_octets octets o a →
    Takes (IsPlaceIf present) place_octets octets q b → (o ≡ q) × (a ≡ b)
one_place present octets None None a b s t = (refl, cc)
one_place present octets None (Some q) a b s t = absurd (cc (s.fits.announced, t.fits.announced))
one_place present octets (Some p) None a b s t = absurd (cc (s.fits.announced, t.fits.announced))
one_place present octets (Some p) (Some q) a b s t =
    let n = one_number (dnet_number p.net) (dnet_number q.net) (length p.mac ∷ (p.mac ++ a)) (length q.mac ∷ (q.mac ++ b)) (dnet-lt p.net s.fits.sound.0)
    (dnet-lt q.net t.fits.sound.0) (sym s.parts ∙ t.parts) in
    let m = one_mac p.mac q.mac a b n.1 in
    let net = one_dnet p.net q.net s.fits.sound.0 t.fits.sound.0 n.0 in
    (some_place_is p q net m.0, m.1)

abbrev sourced : ℕ → List ℕ → Option PlainSource
sourced net mac = Some (record { net = net; mac = mac })

some_source_is : (p q : PlainSource) → p.net ≡ q.net → p.mac ≡ q.mac → Some p ≡ Some q
some_source_is p q e f = ap (λ (n : ℕ). sourced n p.mac) e ∙ ap (λ (m : List ℕ). sourced q.net m) f

pub one_source : (present : Bool) (octets : List ℕ) (o q : Option PlainSource) (a b : List ℕ) → Takes (IsSourceIf present) snet_octets octets o a →
    Takes (IsSourceIf present) snet_octets octets q b → (o ≡ q) × (a ≡ b)
one_source present octets None None a b s t = (refl, cc)
one_source present octets None (Some q) a b s t = absurd (cc (s.fits.announced, t.fits.announced))
one_source present octets (Some p) None a b s t = absurd (cc (s.fits.announced, t.fits.announced))
one_source present octets (Some p) (Some q) a b s t =
    let n = one_number p.net q.net (length p.mac ∷ (p.mac ++ a)) (length q.mac ∷ (q.mac ++ b)) (omega (arith, s.fits.sound)) (omega (arith, t.fits.sound))
    (sym s.parts ∙ t.parts) in
    let m = one_mac p.mac q.mac a b n.1 in
    (some_source_is p q n.0 m.0, m.1)

pub only_place : (present : Bool) (octets : List ℕ) (o : Option Place) (rest : List ℕ) → Takes (IsPlaceIf present) place_octets octets o rest →
    Only (IsPlaceIf present) place_octets octets o rest
only_place present octets o rest t = record { only = λ q after u. one_place present octets o q rest after t u }

pub only_source : (present : Bool) (octets : List ℕ) (o : Option PlainSource) (rest : List ℕ) → Takes (IsSourceIf present) snet_octets octets o rest →
    Only (IsSourceIf present) snet_octets octets o rest
only_source present octets o rest t = record { only = λ q after u. one_source present octets o q rest after t u }

-- what completes a number of which one octet stands there, or none
pub begins_number : (octets : List ℕ) → length octets < 2 → ((i : ℕ) → get_or octets i 0 < 256) → Begins IsNet (big_bytes 2) octets
begins_number [] short fits = record { more = 0 ∷ 1 ∷ []; field = 1; whole = record { fits = (omega arith, omega arith); parts = refl } }
begins_number (a ∷ []) short fits = record {
  more = 1 ∷ [];
  field = 256 * a + 1;
  whole =
      record { fits = (omega arith, omega (arith, fits 0)); parts = cell _ _ _ _ (omega (arith, fits 0)) (cell _ _ _ _ (omega arith) refl) };
}
begins_number (a ∷ b ∷ rest) short fits = absurd (omega arith)

-- what completes an address
pub address_begins : Begins IsAddress address_octets []
address_begins = record { more = 1 ∷ 0 ∷ []; field = 0 ∷ []; whole = record { fits = (omega arith, omega arith); parts = refl } }

pub begins_address : (len : ℕ) (rest : List ℕ) → length rest < len → len < 256 → Begins IsAddress address_octets (len ∷ rest)
begins_address len rest lacks fits =
    let more = replicate (len - length rest) 0 in
    let full : length (rest ++ more) ≡ len = simp (length-append, length-replicate) (omega arith) in
    record {
      more = more;
      field = rest ++ more;
      whole =
          record { fits = (omega arith, omega arith); parts = cell len _ _ _ (sym full) (sym (append-nil (rest ++ more))) };
    }

pub lacks_mac : (len : ℕ) (rest : List ℕ) → length rest < len → Lacks IsMac address_octets (len ∷ rest)
lacks_mac len rest lacks = record {
  none = λ mac after t.
      let same : len ≡ length mac = cc (t.parts) in
      let tail : rest ≡ mac ++ after = cc (t.parts) in
      absurd (omega (arith, simp length-append at (ap length tail)));
}

-- a number, and behind it a completed address
completed : (n : ℕ) (octets rest more mac : List ℕ) → octets ≡ big_bytes 2 n ++ rest → rest ++ more ≡ address_octets mac ++ [] →
    octets ++ more ≡ (big_bytes 2 n ++ (length mac ∷ mac)) ++ []
completed n octets rest more mac e f = ap (λ (x : List ℕ). x ++ more) e ∙ ap (λ (x : List ℕ). big_bytes 2 n ++ x) f

-- a completed number, and an address behind it
lengthened : (n : ℕ) (octets more mac : List ℕ) → octets ++ more ≡ big_bytes 2 n ++ [] →
    octets ++ (more ++ (length mac ∷ mac)) ≡ (big_bytes 2 n ++ (length mac ∷ mac)) ++ []
lengthened n octets more mac e = sym (append_assoc octets more (length mac ∷ mac)) ∙ ap (λ (x : List ℕ). x ++ (length mac ∷ mac)) e
    ∙ sym (append-nil (big_bytes 2 n ++ (length mac ∷ mac)))

pub begins_place-number : (octets : List ℕ) → Begins IsNet (big_bytes 2) octets → Begins (IsPlaceIf true) place_octets octets
begins_place-number octets b = record {
  more = b.more ++ (0 ∷ []);
  field = Some (record { net = Network b.field; mac = [] });
  whole =
      record { fits = record { announced = refl; sound = (b.whole.fits, omega arith) }; parts = lengthened b.field octets b.more [] b.whole.parts };
}

pub begins_place-mac : (octets : List ℕ) (net : Dnet) (rest : List ℕ) → IsDnet net → octets ≡ big_bytes 2 (dnet_number net) ++ rest →
    Begins IsAddress address_octets rest → Begins (IsPlaceIf true) place_octets octets
begins_place-mac octets net rest sound e b =
    record {
      more = b.more;
      field = Some (record { net = net; mac = b.field });
      whole =
          record {
            fits = record { announced = refl; sound = (sound, b.whole.fits.1) };
            parts =
                completed (dnet_number net) octets rest b.more b.field e b.whole.parts;
          };
    }

not_place : (octets : List ℕ) (n : ℕ) (rest : List ℕ) → octets ≡ big_bytes 2 n ++ rest → Lacks IsMac address_octets rest →
    (o : Option Place) (after : List ℕ) → Takes (IsPlaceIf true) place_octets octets o after → ⊥
not_place octets n rest e none None after t = absurd (cc (t.fits.announced))
not_place octets n rest e none (Some p) after t =
    let behind : rest ≡ length p.mac ∷ (p.mac ++ after) = cc (e, t.parts) in
    none.none p.mac after (record { fits = t.fits.sound.1; parts = behind })

pub lacks_place-mac : (octets : List ℕ) (n : ℕ) (rest : List ℕ) → octets ≡ big_bytes 2 n ++ rest → Lacks IsMac address_octets rest →
    Lacks (IsPlaceIf true) place_octets octets
lacks_place-mac octets n rest e none = record { none = λ o after t. not_place octets n rest e none o after t }

pub begins_source-number : (octets : List ℕ) → Begins IsNet (big_bytes 2) octets → Begins (IsSourceIf true) snet_octets octets
begins_source-number octets b = record {
  more = b.more ++ (1 ∷ 0 ∷ []);
  field = Some (record { net = b.field; mac = 0 ∷ [] });
  whole =
      record {
        fits = record { announced = refl; sound = (b.whole.fits.0, b.whole.fits.1, omega arith, omega arith) };
        parts =
            lengthened b.field octets b.more (0 ∷ []) b.whole.parts;
      };
}

pub begins_source-mac : (octets : List ℕ) (net : ℕ) (rest : List ℕ) → IsNet net → octets ≡ big_bytes 2 net ++ rest → Begins IsAddress address_octets rest →
    Begins (IsSourceIf true) snet_octets octets
begins_source-mac octets net rest sound e b =
    record {
      more = b.more;
      field = Some (record { net = net; mac = b.field });
      whole =
          record {
            fits = record { announced = refl; sound = (sound.0, sound.1, b.whole.fits.0, b.whole.fits.1) };
            parts =
                completed net octets rest b.more b.field e b.whole.parts;
          };
    }

not_source : (octets : List ℕ) (n : ℕ) (rest : List ℕ) → octets ≡ big_bytes 2 n ++ rest → Lacks IsMac address_octets rest →
    (o : Option PlainSource) (after : List ℕ) → Takes (IsSourceIf true) snet_octets octets o after → ⊥
not_source octets n rest e none None after t = absurd (cc (t.fits.announced))
not_source octets n rest e none (Some p) after t =
    let behind : rest ≡ length p.mac ∷ (p.mac ++ after) = cc (e, t.parts) in
    none.none p.mac after (record { fits = t.fits.sound.3; parts = behind })

pub lacks_source-mac : (octets : List ℕ) (n : ℕ) (rest : List ℕ) → octets ≡ big_bytes 2 n ++ rest → Lacks IsMac address_octets rest →
    Lacks (IsSourceIf true) snet_octets octets
lacks_source-mac octets n rest e none = record { none = λ o after t. not_source octets n rest e none o after t }

pub begins_message-vendor : (octets : List ℕ) (kind : ℕ) (rest : List ℕ) → octets ≡ kind ∷ rest → 128 ≤ kind → kind < 256 → Begins IsNet (big_bytes 2) rest →
    Begins (IsMessageIf true) message_octets octets
begins_message-vendor octets kind rest e low high b =
    record {
      more = b.more;
      field = Some (Proprietary kind b.field);
      whole =
          record {
            fits = record { announced = refl; sound = (low, high, omega arith) };
            parts =
                ap (λ (x : List ℕ). x ++ b.more) e ∙ ap (λ (x : List ℕ). kind ∷ x) b.whole.parts;
          };
    }

-- where nothing stands, each field begins
pub no_octet : (octets : List ℕ) → length octets < 1 → octets ≡ []
no_octet [] short = refl
no_octet (a ∷ octets) short = absurd (omega arith)

pub source_begins : (present : Bool) → Begins (IsSourceIf present) snet_octets []
source_begins false = record { more = []; field = None; whole = record { fits = record { announced = refl; sound = tt }; parts = refl } }
source_begins true = record {
  more = 0 ∷ 1 ∷ 1 ∷ 0 ∷ [];
  field = Some (record { net = 1; mac = 0 ∷ [] });
  whole =
      record { fits = record { announced = refl; sound = (omega arith, omega arith, omega arith, omega arith) }; parts = refl };
}

pub hops_begin : (place : Option Place) → Begins (IsDestinationAt place) hop_octets []
hops_begin None = record { more = []; field = None; whole = record { fits = record { place = refl; sound = tt }; parts = refl } }
hops_begin (Some p) = record {
  more = 0 ∷ [];
  field = Some (record { net = p.net; mac = p.mac; hops = 0 });
  whole =
      record { fits = record { place = refl; sound = omega arith }; parts = refl };
}

pub message_begins : (present : Bool) → Begins (IsMessageIf present) message_octets []
message_begins false = record { more = []; field = None; whole = record { fits = record { announced = refl; sound = tt }; parts = refl } }
message_begins true = record {
  more = 0 ∷ [];
  field = Some WhoIsRouterToNetwork;
  whole =
      record { fits = record { announced = refl; sound = tt }; parts = refl };
}

pub ruleset mac_steps = (begins_address, lacks_mac)

pub ruleset place_steps = (only_place, begins_place-number, begins_place-mac, lacks_place-mac)

pub ruleset source_steps = (only_source, begins_source-number, begins_source-mac, lacks_source-mac)
