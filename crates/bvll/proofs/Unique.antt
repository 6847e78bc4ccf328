-- Octets spell one datagram, and the canonical ones spell it.
use Rattle.std.proofs.Common.{◌≡◌, ℕ, ◌≤◌, List, [], ◌∷◌, ◌++◌, length, take, drop, refl, ap, sym, arith, ◌∙◌, flat_map, append_assoc, length-append}
use Rattle.std.specs.List.{AllByRecursion}
use Rattle.std.proofs.lemmas.List.{append-nil, take_at, drop_at, drop-drop}
use Rattle.byteorder.specs.Endian.{big_bytes, big_number}
use Rattle.byteorder.specs.Numbers.{big_number-reads_back}
use Rattle.bvll.specs.declared.address.Address.{Address}
use Rattle.bvll.specs.declared.entry.DistributionEntry.{DistributionEntry}
use Rattle.bvll.specs.declared.entry.ForeignDevice.{ForeignDevice}
use Rattle.bvll.specs.declared.function.Function.{Function}
use Rattle.bvll.specs.declared.function.Function.TheVariants as f
use Rattle.bvll.specs.Address.{address_octets, address_at, IsAddress}
use Rattle.bvll.specs.Datagram.{Datagram, outcome, write_distribution, read_distribution, distribution, forwarded, register, read_foreign, foreign}
use Rattle.bvll.specs.Datagram.{delete_foreign, distribute, unicast, broadcast, function, contents, HasFields, whole_length, datagram_of, Spells, OnlyDatagram}
use Rattle.bvll.specs.declared.datagram.Bvll.{Bvll}
use Rattle.tags.specs.declared.fault.Fault.{Fault}
use Rattle.std.specs.Prelude.{Result, Ok, Err, IfOk}
use Rattle.bvll.specs.Entry.{distribution_octets, distribution_at, IsDistributionEntry, foreign_octets, foreign_at, IsForeignDevice}
use Rattle.bvll.specs.Laws.{SpellOne, CanonicalSpells}
use Rattle.bvll.specs.Table.{entries_at}
use Rattle.bvll.proofs.Refusals.{header_parts, length-contents}
use Rattle.bvll.proofs.Tables.{entries_at-more}

same_address : (a : Address) (ip : List ℕ) (port : ℕ) → ip ≡ a.ip → port ≡ a.port → record { ip = ip; port = port } ≡ a
same_address a ip port e g = rw (e, g) refl

address_again : (a : Address) (rest : List ℕ) → IsAddress a → address_at (address_octets a ++ rest) ≡ a
address_again a rest fits =
    let front : address_octets a ++ rest ≡ a.ip ++ (big_bytes 2 a.port ++ rest) = append_assoc a.ip (big_bytes 2 a.port) rest in
    let ip = take_at a.ip (big_bytes 2 a.port ++ rest) 4 fits.ip in
    let port = drop_at a.ip (big_bytes 2 a.port ++ rest) 4 fits.ip in
    ap address_at front ∙ same_address a _ _ ip (ap (big_number 2) port ∙ big_number-reads_back 2 a.port rest fits.port)

length-address : (a : Address) → IsAddress a → length (address_octets a) ≡ 6
length-address a fits = simp length-append (omega (arith, fits.ip))

same_distribution : (e : DistributionEntry) (address : Address) (mask : List ℕ) → address ≡ e.address → mask ≡ e.mask →
    record { address = address; mask = mask } ≡ e
same_distribution e address mask p q = rw (p, q) refl

distribution_again : (e : DistributionEntry) (rest : List ℕ) → IsDistributionEntry e → distribution_at (distribution_octets e ++ rest) ≡ e
distribution_again e rest fits =
    let front : distribution_octets e ++ rest ≡ address_octets e.address ++ (e.mask ++ rest) = append_assoc (address_octets e.address) e.mask rest in
    let behind = drop_at (address_octets e.address) (e.mask ++ rest) 6 (length-address e.address fits.address) in
    ap distribution_at front ∙ same_distribution e _ _ (address_again e.address (e.mask ++ rest) fits.address)
    (ap (take 4) behind ∙ take_at e.mask rest 4 fits.mask)

same_foreign : (e : ForeignDevice) (address : Address) (to_live left : ℕ) → address ≡ e.address → to_live ≡ e.seconds_to_live → left ≡ e.seconds_left →
    record { address = address; seconds_to_live = to_live; seconds_left = left } ≡ e
same_foreign e address to_live left p q r = rw (p, q, r) refl

foreign_again : (e : ForeignDevice) (rest : List ℕ) → IsForeignDevice e → foreign_at (foreign_octets e ++ rest) ≡ e
foreign_again e rest fits =
    let times : List ℕ = big_bytes 2 e.seconds_to_live ++ big_bytes 2 e.seconds_left in
    let front : foreign_octets e ++ rest ≡ address_octets e.address ++ (times ++ rest) = append_assoc (address_octets e.address) times rest in
    let long = length-address e.address fits.address in
    let behind = drop_at (address_octets e.address) (times ++ rest) 6 long in
    let last : drop 8 (address_octets e.address ++ (times ++ rest)) ≡ big_bytes 2 e.seconds_left ++ rest =
    sym (drop-drop 2 6 (address_octets e.address ++ (times ++ rest))) ∙ ap (λ (x : List ℕ). drop 2 x) behind in
    ap foreign_at front ∙ same_foreign e _ _ _ (address_again e.address (times ++ rest) fits.address)
    (ap (big_number 2) behind ∙ big_number-reads_back 2 e.seconds_to_live (big_bytes 2 e.seconds_left ++ rest) fits.to_live)
    (ap (big_number 2) last ∙ big_number-reads_back 2 e.seconds_left rest fits.left)

-- entries are read again from their octets
again : {E : Type 0} (entry_at : List ℕ → E) (octets_of : E → List ℕ) (IsEntry : E → Type 0) →
    ((e : E) (rest : List ℕ) → IsEntry e → (entry_at (octets_of e ++ rest) ≡ e) × (length (octets_of e) ≡ 10)) → (es : List E) → AllByRecursion IsEntry es →
    entries_at entry_at (flat_map octets_of es) ≡ es
again entry_at octets_of IsEntry back [] all = refl
again entry_at octets_of IsEntry back (e ∷ es) all =
    let one = back e (flat_map octets_of es) all.0 in
    let enough : 10 ≤ length (octets_of e ++ flat_map octets_of es) = omega (arith, one.1, length-append (octets_of e) (flat_map octets_of es)) in
    entries_at-more entry_at (octets_of e ++ flat_map octets_of es) enough
    ∙ rw (one.0, drop_at (octets_of e) (flat_map octets_of es) 10 one.1, again entry_at octets_of IsEntry back es all.1) refl

distributions_again : (es : List DistributionEntry) → AllByRecursion IsDistributionEntry es → entries_at distribution_at (flat_map distribution_octets es) ≡ es
distributions_again es all = again distribution_at distribution_octets IsDistributionEntry
    (λ e rest fits. (distribution_again e rest fits, simp length-append (omega (arith, fits.address.ip, fits.mask)))) es all

foreigns_again : (es : List ForeignDevice) → AllByRecursion IsForeignDevice es → entries_at foreign_at (flat_map foreign_octets es) ≡ es
foreigns_again es all = again foreign_at foreign_octets IsForeignDevice
    (λ e rest fits. (foreign_again e rest fits, simp length-append (omega (arith, fits.address.ip)))) es all

-- the datagram of a function and its contents
datagram_at : Function → List ℕ → Datagram
datagram_at f.Result octets = outcome (big_number 2 octets)
datagram_at f.WriteBroadcastDistributionTable octets = write_distribution (entries_at distribution_at octets)
datagram_at f.ReadBroadcastDistributionTable octets = read_distribution
datagram_at f.ReadBroadcastDistributionTableAck octets = distribution (entries_at distribution_at octets)
datagram_at f.ForwardedNpdu octets = forwarded (address_at octets) (drop 6 octets)
datagram_at f.RegisterForeignDevice octets = register (big_number 2 octets)
datagram_at f.ReadForeignDeviceTable octets = read_foreign
datagram_at f.ReadForeignDeviceTableAck octets = foreign (entries_at foreign_at octets)
datagram_at f.DeleteForeignDeviceTableEntry octets = delete_foreign (address_at octets)
datagram_at f.DistributeBroadcastToNetwork octets = distribute octets
datagram_at f.OriginalUnicastNpdu octets = unicast octets
datagram_at f.OriginalBroadcastNpdu octets = broadcast octets

whole_address_again : (a : Address) → IsAddress a → address_at (address_octets a) ≡ a
whole_address_again a fits = ap address_at (sym (append-nil (address_octets a))) ∙ address_again a [] fits

datagram_again : (d : Datagram) → HasFields d → datagram_at (function d) (contents d) ≡ d
unfolding datagram_at
datagram_again (outcome code) fits = ap outcome (big_number-reads_back 2 code [] fits)
datagram_again (write_distribution entries) fits = ap write_distribution (distributions_again entries fits)
datagram_again read_distribution fits = refl
datagram_again (distribution entries) fits = ap distribution (distributions_again entries fits)
datagram_again (forwarded origin npdu) fits = rw (address_again origin npdu fits, drop_at (address_octets origin) npdu 6 (length-address origin fits)) refl
datagram_again (register seconds) fits = ap register (big_number-reads_back 2 seconds [] fits)
datagram_again read_foreign fits = refl
datagram_again (foreign entries) fits = ap foreign (foreigns_again entries fits)
datagram_again (delete_foreign address) fits = ap delete_foreign (whole_address_again address fits)
datagram_again (distribute npdu) fits = refl
datagram_again (unicast npdu) fits = refl
datagram_again (broadcast npdu) fits = refl

pub one_datagram : SpellOne
one_datagram octets d e s t =
    let p = header_parts (function d) (function e) (whole_length d) (whole_length e) (contents d) (contents e) s.sound.fits t.sound.fits
    (sym s.parts ∙ t.parts) in
    sym (datagram_again d s.sound.fields) ∙ rw (p.0, p.2) (datagram_again e t.sound.fields)

-- what was read is the only datagram that is spelled
pub only_datagram : (octets : List ℕ) (r : Result Bvll Fault) → IfOk r (λ b. Spells octets (datagram_of b)) → IfOk r (λ b. OnlyDatagram octets (datagram_of b))
only_datagram octets (Ok b) s = record { only = λ e t. one_datagram octets (datagram_of b) e s t }
only_datagram octets (Err fault) s = tt

pub canonical_spells : CanonicalSpells
canonical_spells d sound = record { sound = sound; whole = omega (arith, length-contents d sound.fields); parts = refl }
