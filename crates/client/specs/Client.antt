-- A client on its network: what it knows (5.4.4, 16.10).
use Rattle.std.specs.Prelude.{ℕ, Bool, List, []}
use Rattle.apdu.specs.declared.sizes.MaxApdu.{MaxApdu}
use Rattle.bindings.specs.Accepts.{accepts_of}
use Rattle.client_tsm.specs.Client.{ClientTsmState}
use Rattle.client_tsm.specs.Client as tsm
use Rattle.npdu.specs.declared.mac.Mac.{Mac}
use Rattle.npdu.specs.declared.mac.Station.{Station}
use Rattle.bindings.specs.declared.binding.Binding.{Binding}

-- its client of transactions; the devices that it is bound to, in the order of their first I-Ams; its network and its
-- address there
pub record ClientState (A : Type 0) : Type 0 where
  pub machine : ClientTsmState A
  pub bindings : List Binding
  pub net : ℕ
  pub mac : Mac

-- a client at an address that is bound to no device and has asked nothing
abbrev pub new_client : {A : Type 0} → Station → (segmented : Bool) → MaxApdu → ClientState A
new_client address segmented max_apdu =
    record {
      machine = tsm.new_client (accepts_of segmented max_apdu);
      bindings = [];
      net = address.net;
      mac = address.mac;
    }
