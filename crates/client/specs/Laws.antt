-- What holds of any client and its bindings, for the proofs of the layers above (5.4.4, 6.4.4, 16.10.3).
use Rattle.std.specs.Prelude.{◌≡◌, ◌≢◌, ℕ, List, [], ◌∷◌, map, option_map, Some, None}
use Rattle.bindings.specs.Binding.{binding_of, marked, put_binding}
use Rattle.bindings.specs.declared.binding.Binding.{Binding}
use Rattle.client.specs.Client.{ClientState}
use Rattle.client.specs.Hearing.{ClientHears}
use Rattle.client.specs.ClientTold.{ClientTold}
use Rattle.npdu.specs.declared.mac.Mac.{Mac}
use Rattle.npdu.specs.declared.mac.Target.{Target}

-- a binding that is put is that of its instance
abbrev pub PutIsHeld : Type 0
PutIsHeld = (b : Binding) (bs : List Binding) → binding_of b.instance (put_binding b bs) ≡ Some b

-- where a binding is put, those of all other instances are as before
abbrev pub OthersStay : Type 0
OthersStay = (b : Binding) (bs : List Binding) (instance : ℕ) → instance ≢ b.instance →
    binding_of instance (put_binding b bs) ≡ binding_of instance bs

-- the binding of an instance after a router refused a network is the one before, marked where it is on that network
abbrev pub MarkedAlone : Type 0
MarkedAlone = (net : ℕ) (bs : List Binding) (instance : ℕ) →
    binding_of instance (map (marked net) bs) ≡ option_map (marked net) (binding_of instance bs)

-- no instance has two bindings
abbrev pub IsOnce : List Binding → Type 0
IsOnce [] = Unit {0}
IsOnce (b ∷ bs) = (binding_of b.instance bs ≡ None) × IsOnce bs

-- where no instance has two bindings, none has two after one is put
abbrev pub PutIsOnce : Type 0
PutIsOnce = (b : Binding) (bs : List Binding) → IsOnce bs → IsOnce (put_binding b bs)

-- where no instance has two bindings, none has two after a router refused a network
abbrev pub MarkedIsOnce : Type 0
MarkedIsOnce = (net : ℕ) (bs : List Binding) → IsOnce bs → IsOnce (map (marked net) bs)

-- what comes of an NPDU is one thing: what is said and told, and what the client is then
abbrev pub HeardOnce : Type 0 → Type 0
HeardOnce A = (now : ℕ) (from : Mac) (to : Target) (npdu : List ℕ) (old x y : ClientState A)
    (told other : ClientTold A) → ClientHears now from to npdu old told x → ClientHears now from to npdu old other y →
    (told ≡ other) × (x ≡ y)
