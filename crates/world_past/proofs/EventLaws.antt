-- What happens to what is kept happens to the whole.
use Rattle.std.proofs.Common.{◌∙◌, refl, sym, ap, subst, arith, ℕ, ◌+◌, true, [], ◌∷◌, ◌++◌, length}
use Rattle.std.proofs.lemmas.List.{append_assoc}
use Rattle.history.specs.declared.Entry.TheVariants.{Issue}
use Rattle.npdu.specs.declared.mac.Mac.{Mac}
use Rattle.npdu.specs.declared.mac.Mac.TheVariants.{One, Six}
use Rattle.npdu.specs.declared.mac.Station.{Station}
use Rattle.primitives.specs.declared.plain_data.Request.{Request}
use Rattle.traffic.specs.declared.item.Item.{Item}
use Rattle.world.specs.Step.{Asks, Delivers, Issues, Registers, Restarts, Ticks, Wakes, deafened_at, delivered, issued, restart_entry, restarted}
use Rattle.world.specs.World.{WorldState}
use Rattle.world.specs.site_node.Node.{home_of}
use Rattle.world.specs.site_node.declared.part.Part.{Part}
use Rattle.world.specs.site_ports.Ports.{Then}
use Rattle.world.specs.world_log.Growing.{WorldHistory}
use Rattle.buses.specs.Puts.{BusesState}
use Rattle.world_past.proofs.BusLaws.{buses_anew, buses_later}
use Rattle.world_past.proofs.ItemLaws.{items_later, items_set, young_there}
use Rattle.world_past.proofs.KeepingLaws.{acts_keep, over}
use Rattle.world_past.proofs.KeyLaws.{keys_more}
use Rattle.world.specs.Keeping.{Keeps}
use Rattle.buses.specs.Forgetting.{KeepsBuses}

deaf_keeps : {A : Type 0} (now net : ℕ) (mac : Mac) (b c : BusesState A) → KeepsBuses now b c →
    KeepsBuses now (deafened_at now net mac b) (deafened_at now net mac c)
deaf_keeps now net (One octet) b c p = buses_anew now net octet b c p
deaf_keeps now net (Six octets) b c p = p

module _ {A : Type 0} (past : WorldHistory A) (w k : WorldState A) (p : Keeps past w k) where
  -- an item that may still be heard is delivered
  delivered_keeps : (number : ℕ) (i : Item A) → Keeps past (delivered number i w) (delivered number i k)
  delivered_keeps number i = record {
    site = p.site;
    moment = p.moment;
    nodes = p.nodes;
    items = items_set w.moment w.items k.items number (record i { is_delivered = true }) p.items;
    buses = p.buses;
    keys = p.keys;
    history = p.history;
    first_entry = p.first_entry;
    gone = p.gone;
    said = p.said;
    first_said = p.first_said;
  }

  -- a client has issued
  issued_keeps : (client : Station) (id instance : ℕ) (request : Request A) →
      Keeps past (issued client id instance request w) (issued client id instance request (over w k))
  issued_keeps client id instance request = record {
    site = refl;
    moment = refl;
    nodes = refl;
    items = p.items;
    buses = p.buses;
    keys = keys_more w.keys k.keys (record { client = client; invoke_id = id }) p.keys;
    history = ap (λ (h : WorldHistory A). h ++ Issue (length w.keys) client instance request w.moment ∷ []) p.history
        ∙ append_assoc past k.history (Issue (length w.keys) client instance request w.moment ∷ [])
        ∙ ap (λ (n : ℕ). past ++ (k.history ++ Issue n client instance request w.moment ∷ [])) (sym p.keys.count);
    first_entry = p.first_entry;
    gone = p.gone;
    said = p.said;
    first_said = p.first_said;
  }

  -- a device has restarted
  restarted_keeps : (part : Part A) → Keeps past (restarted part w) (restarted part (over w k))
  restarted_keeps part = record {
    site = refl;
    moment = refl;
    nodes = refl;
    items = p.items;
    buses = deaf_keeps w.moment (home_of part).net (home_of part).mac w.buses k.buses p.buses;
    keys = p.keys;
    history = ap (λ (h : WorldHistory A). h ++ restart_entry w.moment part) p.history
        ∙ append_assoc past k.history (restart_entry w.moment part);
    first_entry = p.first_entry;
    gone = p.gone;
    said = p.said;
    first_said = p.first_said;
  }

-- each as it happens to what is kept, in the words of the whole
module _ {A : Type 0} (past : WorldHistory A) (w k l : WorldState A) (p : Keeps past w k) where
  pub tick_over : (n : ℕ) → Ticks n (over w k) l → Then (Ticks n w) (λ v. Keeps past v l)
  tick_over n s = record {
    middle = record w { moment = w.moment + n };
    first = record { passes = s.passes; is = refl };
    rest = subst (λ (x : WorldState A). Keeps past (record w { moment = w.moment + n }) x) (sym s.is) (record {
      site = refl;
      moment = refl;
      nodes = refl;
      items = items_later w.moment (w.moment + n) w.items k.items (omega arith) p.items;
      buses = buses_later w.moment (w.moment + n) w.buses k.buses (omega arith) p.buses;
      keys = p.keys;
      history = p.history;
      first_entry = p.first_entry;
      gone = p.gone;
      said = p.said;
      first_said = p.first_said;
    });
  }

  pub deliver_over : (number : ℕ) → Delivers number (over w k) l → Then (Delivers number w) (λ v. Keeps past v l)
  deliver_over number s =
      let a = acts_keep past (delivered number s.item w) (delivered number s.item k)
      (delivered_keeps past w k p number s.item) l s.place s.n s.next s.told s.acts in record {
        middle = a.middle;
        first = record {
          item = s.item;
          place = s.place;
          port = s.port;
          n = s.n;
          next = s.next;
          told = s.told;
          there = young_there w.moment w.items k.items number s.item p.items s.there s.young;
          addressee = s.addressee;
          young = s.young;
          hears = s.hears;
          acts = a.first;
        };
        rest = a.rest;
      }

  pub wake_over : (place : ℕ) → Wakes place (over w k) l → Then (Wakes place w) (λ v. Keeps past v l)
  wake_over place s = let a = acts_keep past w k p l place s.n s.next s.told s.acts in record {
    middle = a.middle;
    first = record { n = s.n; next = s.next; told = s.told; wakes = s.wakes; acts = a.first };
    rest = a.rest;
  }

  pub register_over : (place : ℕ) → Registers place (over w k) l → Then (Registers place w) (λ v. Keeps past v l)
  register_over place s = let a = acts_keep past w k p l place s.n s.next s.told s.acts in record {
    middle = a.middle;
    first = record { n = s.n; next = s.next; told = s.told; registers = s.registers; acts = a.first };
    rest = a.rest;
  }

  pub ask_over : (place : ℕ) (limits : _) → Asks place limits (over w k) l →
      Then (Asks place limits w) (λ v. Keeps past v l)
  ask_over place limits s = let a = acts_keep past w k p l place s.n s.next s.told s.acts in record {
    middle = a.middle;
    first = record { n = s.n; next = s.next; told = s.told; asks = s.asks; acts = a.first };
    rest = a.rest;
  }

  pub issue_over : (place instance : ℕ) (request : Request A) → Issues place instance request (over w k) l →
      Then (Issues place instance request w) (λ v. Keeps past v l)
  issue_over place instance request s =
      let a = acts_keep past (issued (home_of s.n.part) s.id instance request w)
      (issued (home_of s.n.part) s.id instance request (over w k))
      (issued_keeps past w k p (home_of s.n.part) s.id instance request) l place s.n s.next s.told s.acts in record {
        middle = a.middle;
        first = record { n = s.n; next = s.next; told = s.told; id = s.id; issues = s.issues; acts = a.first };
        rest = a.rest;
      }

  pub restart_over : (place : ℕ) → Restarts place (over w k) l → Then (Restarts place w) (λ v. Keeps past v l)
  restart_over place s =
      let a = acts_keep past (restarted s.n.part w) (restarted s.n.part (over w k))
      (restarted_keeps past w k p s.n.part) l place s.n s.next s.told s.acts in record {
        middle = a.middle;
        first = record { n = s.n; next = s.next; told = s.told; restarts = s.restarts; acts = a.first };
        rest = a.rest;
      }
