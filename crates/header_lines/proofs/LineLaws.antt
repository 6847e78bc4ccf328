-- The lines of fields and messages, one text after another.
use Rattle.std.proofs.Common.{◌≡◌, refl, ◌∙◌, sym, ap, subst, List, [], ℕ, ◌++◌, Option, None, Some, Result, Ok, Err, OnOk, append_assoc}
use Rattle.std.proofs.lemmas.List.{append-nil}
use Rattle.std.specs.Io.KnownBytes.{Appends}
use Rattle.std.specs.Prelude.{codes}
use Rattle.byteorder.specs.Endian.{big_bytes}
use Rattle.header_lines.specs.Text.{dashed, field, message_text, named, number, octets_text}
use Rattle.names.specs.Headers.{network_messages}
use Rattle.npdu.specs.declared.message.Message.{Message}
use Rattle.npdu.specs.declared.message.Message.TheVariants.{IAmRouterToNetwork, Other, Proprietary}
use Rattle.npdu.specs.declared.message.Message.TheVariants.{RejectMessageToNetwork, WhoIsRouterToNetwork}
use Rattle.npdu.specs.Message.{message_type}
use Rattle.printing.specs.declared.spelling.Spelling.{Spelling}

-- nothing is appended where nothing is written
pub appends_nothing : (k : Option (List ℕ)) → Appends k k []
appends_nothing None = tt
appends_nothing (Some xs) = sym (append-nil xs)

-- one text after another
pub appends_more : (old mid new : Option (List ℕ)) (a b : List ℕ) → Appends old mid a → Appends mid new b → Appends old new (a ++ b)
appends_more None mid new a b p q = tt
appends_more (Some xs) None new a b p q = absurd p
appends_more (Some xs) (Some ys) None a b p q = absurd q
appends_more (Some xs) (Some ys) (Some zs) a b p q = q ∙ ap (λ (l : List ℕ). l ++ b) p ∙ append_assoc xs a b

-- a vendor's message is its type, and its identifier before its octets
pub vendor_printed : {T E : Type 0} (s : Spelling) (r : Result T E) (old mid new : Option (List ℕ)) (m : Message) (kind vendor : ℕ) (front body : List ℕ) →
    m ≡ Proprietary kind vendor → front ≡ big_bytes 2 vendor → Appends old mid (number (codes "message ") kind) →
    OnOk r (Appends mid new (octets_text front body)) → OnOk r (Appends old new (message_text s m body))
vendor_printed s (Ok x) old mid new m kind vendor front body is bytes type rest =
    rw (is) (appends_more old mid new (number (codes "message ") kind) (octets_text (big_bytes 2 vendor) body) type
    (subst (λ (f : List ℕ). Appends mid new (octets_text f body)) bytes rest))
vendor_printed s (Err e) old mid new m kind vendor front body is bytes type rest = tt

-- a field with its name, by what its table and its number are
pub named_so : {T E : Type 0} (r : Result T E) (old new : Option (List ℕ)) (name : List ℕ) (s : Spelling)
    (t u : List (ℕ × List ℕ)) (m n : ℕ) → t ≡ u → m ≡ n → OnOk r (Appends old new (named name s t m)) →
    OnOk r (Appends old new (named name s u n))
named_so r old new name s t u m n e f h = rw (← e, ← f) h

-- a message of the standard's range is its type, and its octets
pub other_printed : {T E : Type 0} (s : Spelling) (r : Result T E) (old mid new : Option (List ℕ)) (m : Message) (body : List ℕ) →
    ((kind vendor : ℕ) → m ≡ Proprietary kind vendor → ⊥) → Appends old mid (named (codes "message ") s network_messages (message_type m)) →
    OnOk r (Appends mid new (field (codes "octets ") (dashed body))) → OnOk r (Appends old new (message_text s m body))
other_printed s (Err e) old mid new m body standard type rest = tt
other_printed s (Ok x) old mid new WhoIsRouterToNetwork body standard type rest =
    appends_more old mid new (named (codes "message ") s network_messages 0) (field (codes "octets ") (dashed body)) type rest
other_printed s (Ok x) old mid new IAmRouterToNetwork body standard type rest =
    appends_more old mid new (named (codes "message ") s network_messages 1) (field (codes "octets ") (dashed body)) type rest
other_printed s (Ok x) old mid new RejectMessageToNetwork body standard type rest =
    appends_more old mid new (named (codes "message ") s network_messages 3) (field (codes "octets ") (dashed body)) type rest
other_printed s (Ok x) old mid new (Other kind) body standard type rest =
    appends_more old mid new (named (codes "message ") s network_messages kind) (field (codes "octets ") (dashed body)) type rest
other_printed s (Ok x) old mid new (Proprietary kind vendor) body standard type rest = absurd (standard kind vendor refl)
