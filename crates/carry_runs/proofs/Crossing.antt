-- The run across the router: the client asks who is there, hears it, and its request is executed and answered.
use Rattle.std.proofs.Common.{inl, inr, refl, ℕ, true, false, [], ◌∷◌, ◌++◌, None, Some, Ok, arith}
use Rattle.apdu.specs.Unconfirmed.{i_am_octets}
use Rattle.apdu.specs.declared.sizes.MaxApdu.TheVariants.{UpTo1476}
use Rattle.bindings.specs.Binding.{introduced}
use Rattle.bindings.specs.declared.binding.Binding.{Binding}
use Rattle.bvll.specs.Datagram.{broadcast, unicast}
use Rattle.carry.specs.Ports.{Member, Port, datagram_to, down}
use Rattle.carry_runs.proofs.Fresh.{is_fresh}
use Rattle.carry_runs.proofs.Parcels.{answer_spells, announcing_spells, asked_spoken, asks, asks_short, handed_over, handed_over_spells}
use Rattle.carry_runs.proofs.Parcels.{i_am_is_spelled, i_am_spells, on_its_way, on_its_way_spells, request_short, request_spells}
use Rattle.carry_runs.proofs.Parcels.{tells, tells_on, tells_on_short, tells_short, tells_who, tells_who_on, tells_who_on_short, tells_who_short, to_all}
use Rattle.carry_runs.proofs.Parcels.{to_one, to_one_spells, told_spoken, who_is, who_is_on, who_is_on_short, who_is_short, who_is_spells}
use Rattle.carry_runs.proofs.Puts.{bears_all, bears_one, none_put, one_put, passed, routes}
use Rattle.carry_answered.specs.Answered.{Exchange}
use Rattle.carry_runs.specs.Crossing.{HasExchange, IsAnswered, answer_apdu, asker, begun, far, i_am_apdu, near, request_apdu, request_from, said_by, who_is_apdu}
use Rattle.carry_world.specs.PlainSteps.{ClientHearsIt, ClientIssues, DeviceHearsIt, PlainStep, client_asks, client_hears, client_issues, device_hears, something_passes}
use Rattle.carry_world.specs.PlainWorld.{PlainWorld}
use Rattle.client.specs.Client.{ClientState, new_client}
use Rattle.client_tsm.specs.Client as client_tsm
use Rattle.client_tsm.specs.Client.{never_given}
use Rattle.client_tsm.specs.Hearing as client_hearing
use Rattle.client_tsm.specs.Issuing.{issued}
use Rattle.client_tsm.specs.Steps as client_steps
use Rattle.client_tsm.specs.declared.plan.ClientTsmPlan.{ClientTsmPlan}
use Rattle.client_tsm.specs.declared.plan.Outcome.TheVariants as outcome
use Rattle.device.specs.Device.{DeviceState, new_device}
use Rattle.device.specs.Hearing.{says_who}
use Rattle.headline_site_runs.specs.Heard.{answer, name_read, request}
use Rattle.headline_site_runs.specs.Small.{device, i_am, objects, reads_name, site}
use Rattle.history.proofs.Lists.{has}
use Rattle.history.specs.declared.Entry.TheVariants.{Answered, Executed, Issue}
use Rattle.inside.specs.Inside.{Said}
use Rattle.inside.specs.declared.reach.Reach.TheVariants as reach
use Rattle.npdu.specs.declared.parcel.Parcel.{Parcel}
use Rattle.server_answers.specs.Answering.{answer_of}
use Rattle.server_answers.specs.Said as server_said
use Rattle.server_tsm.specs.Hearing as server_hearing
use Rattle.server_tsm.specs.Server as server_tsm
use Rattle.server_tsm.specs.Steps as server_steps
use Rattle.server_answers.specs.Plan.{ServerPlan}
use Rattle.services.proofs.CanonicalBody.{request_spelled}
use Rattle.services.proofs.Contents.{reply_is_meant}
use Rattle.services.specs.Asked.{left_by, replied, request_octets, service_asked}
use Rattle.tags.specs.Canonical as canonical
use Rattle.tags.specs.Number as number
use Rattle.unitdata.proofs.InsideLaws.{announced_is_inside, spoken_is_inside}
use Rattle.unitdata.specs.Hearing.{says}
use Rattle.unitdata.specs.Laws.{spoken_inside}
use Rattle.unitdata.specs.Saying.{destination_to, everywhere}

-- one parcel more is said, and a port puts it out
abbrev saying : {A : Type 0} → PlainWorld A → ℕ → Port → Parcel A → Said → PlainWorld A
saying w net port p s = record w { things = w.things ++ down net port p; said = w.said ++ s ∷ [] }

-- the plain steps of such saying and routing need no more than that
module _ (A : Type 0) where
  -- the stations as they are, and as they become
  abbrev server : DeviceState A
  server = new_device objects device

  abbrev client : ClientState A
  client = new_client asker true UpTo1476

  abbrev binding : Binding
  binding = introduced device (record { to = near; destination = Some device }) i_am

  abbrev bound : ClientState A
  bound = record client { bindings = binding ∷ [] }

  abbrev issuing : ClientTsmPlan A
  issuing = issued 0 reads_name binding.bound client.machine

  abbrev waiting : ClientState A
  waiting = record bound { machine = client_tsm.committed 0 issuing.change client.machine }

  abbrev executing : ServerPlan A
  executing = server_hearing.planned 0 (record { station = asker; way = record { to = far; destination = Some asker }; by_broadcast = false })
      (server_hearing.heard_of (request A)) (Some (Ok reads_name)) server.server

  abbrev done : DeviceState A
  done = record server { server = server_tsm.committed 0 executing.change server.server }

  abbrev answering : ClientTsmPlan A
  answering = client_hearing.finished (client_hearing.reached 0 device (client_hearing.heard_of (answer A)) waiting.machine) (Some (name_read A))

  abbrev satisfied : ClientState A
  satisfied = record waiting { machine = client_tsm.committed 0 answering.change waiting.machine }

  -- the world after each step
  abbrev w1 : PlainWorld A
  w1 = saying (begun A asker) 2 (Member (near ∷ [])) (who_is A) (said_by asker reach.All who_is_apdu)

  abbrev w2 : PlainWorld A
  w2 = passed w1 1 (Member (device.mac ∷ [])) (who_is_on A)

  abbrev w3 : PlainWorld A
  w3 = saying w2 1 (Member (far ∷ [])) (tells_who A) (said_by device reach.All i_am_apdu)

  abbrev w4 : PlainWorld A
  w4 = passed w3 2 (Member (asker.mac ∷ [])) (tells_who_on A)

  abbrev w5 : PlainWorld A
  w5 = record w4 { clients = bound ∷ [] }

  abbrev w6 : PlainWorld A
  w6 = record (saying w5 2 (Member (near ∷ [])) (asks A) (said_by asker (reach.One device) (request_apdu A))) {
    clients = waiting ∷ [];
    keys = record { client = asker; invoke_id = 0 } ∷ [];
    history = Issue 0 asker 10 reads_name 0 ∷ [];
  }

  abbrev w7 : PlainWorld A
  w7 = passed w6 1 (Member (device.mac ∷ [])) (request_from A 2)

  abbrev w8 : PlainWorld A
  w8 = record (saying w7 1 (Member (far ∷ [])) (tells A) (said_by device (reach.One asker) (answer_apdu A))) {
    devices = done ∷ [];
    history = Issue 0 asker 10 reads_name 0 ∷ Executed 0 (name_read A) 0 ∷ [];
  }

  abbrev w9 : PlainWorld A
  w9 = passed w8 2 (Member (asker.mac ∷ [])) (tells_on A)

  abbrev w10 : PlainWorld A
  w10 = record w9 {
    clients = satisfied ∷ [];
    history = Issue 0 asker 10 reads_name 0 ∷ Executed 0 (name_read A) 0 ∷ Answered 0 (name_read A) 0 ∷ [];
  }

  -- the client asks who is there
  asks_who : PlainStep (site A) (begun A asker) w1
  asks_who = client_asks (record {
    place = 0;
    c = client;
    limits = None;
    there = refl;
    moment = refl;
    clients = refl;
    devices = refl;
    keys = refl;
    history = refl;
    puts = one_put (begun A asker) w1 2 (Member (near ∷ [])) (who_is A) _ (announced_is_inside 2 asker.mac _ 8 []) (who_is_short A) refl refl;
  })

  who_is_crosses : PlainStep (site A) w1 w2
  who_is_crosses = something_passes (routes w1 (datagram_to 2 (who_is A) near (broadcast (who_is A).npdu)) (who_is A) (who_is_on A) 1 (Member (device.mac ∷ []))
      (has 0 refl) (bears_all 2 asker.mac near (who_is A).npdu 0 (who_is_short A)) refl (omega arith) (omega arith) (record {
        header = to_all who_is_apdu;
        spelled = announcing_spells 8 [];
        destination = everywhere;
        is = refl;
        stamp = refl;
        how = inl (record { npdu = refl });
      }) (who_is_on_short A))

  -- the device says who it is
  says_who_it_is : PlainStep (site A) w2 w3
  says_who_it_is = device_hears (record {
    place = 0;
    d = server;
    left = server;
    p = who_is_on A;
    told = says_who 0 server;
    there = refl;
    delivered = record {
      thing = datagram_to 1 (who_is_on A) device.mac (broadcast (who_is_on A).npdu);
      there = has 1 refl;
      on = refl;
      bears = bears_all 1 far device.mac (who_is_on A).npdu 0 (who_is_on_short A);
      reaches = tt;
      young = omega arith;
    };
    hears =
        inl (record {
          heard = record { station = asker; way = record { to = far; destination = Some asker }; alone = false; content = says who_is_apdu };
          brings = record {
            header = on_its_way asker who_is_apdu;
            spelled = on_its_way_spells asker who_is_apdu (omega arith) (omega arith) (omega arith) (omega arith);
            here = refl;
            sent = refl;
            way = refl;
            alone = refl;
            said = who_is_spells;
          };
          does = (inl (record { limits = None; who_is = refl; spelled = refl; covered = tt }, refl), refl);
        });
    moment = refl;
    clients = refl;
    devices = refl;
    keys = refl;
    history = refl;
    puts = one_put w2 w3 1 (Member (far ∷ [])) (tells_who A) _ (announced_is_inside 1 device.mac _ 0 (i_am_octets i_am)) (tells_who_short A) refl refl;
  })

  i_am_crosses : PlainStep (site A) w3 w4
  i_am_crosses = something_passes (routes w3 (datagram_to 1 (tells_who A) far (broadcast (tells_who A).npdu)) (tells_who A) (tells_who_on A) 2
      (Member (asker.mac ∷ []))
      (has 2 refl) (bears_all 1 device.mac far (tells_who A).npdu 0 (tells_who_short A)) refl (omega arith) (omega arith) (record {
        header = to_all i_am_apdu;
        spelled = announcing_spells 0 (i_am_octets i_am);
        destination = everywhere;
        is = refl;
        stamp = refl;
        how = inl (record { npdu = refl });
      }) (tells_who_on_short A))

  -- the client is bound to the device, behind the router
  learns : PlainStep (site A) w4 w5
  learns = client_hears (record {
    place = 0;
    c = client;
    next = bound;
    p = tells_who_on A;
    told = record { said = []; outcomes = [] };
    there = refl;
    delivered = record {
      thing = datagram_to 2 (tells_who_on A) asker.mac (broadcast (tells_who_on A).npdu);
      there = has 3 refl;
      on = refl;
      bears = bears_all 2 near asker.mac (tells_who_on A).npdu 0 (tells_who_on_short A);
      reaches = tt;
      young = omega arith;
    };
    hears =
        inl (record {
          heard = record { station = device; way = record { to = near; destination = Some device }; alone = false; content = says i_am_apdu };
          brings = record {
            header = on_its_way device i_am_apdu;
            spelled = on_its_way_spells device i_am_apdu (omega arith) (omega arith) (omega arith) (omega arith);
            here = refl;
            sent = refl;
            way = refl;
            alone = refl;
            said = i_am_spells;
          };
          does = record {
            bindings = binding ∷ [];
            learns = inl (record { i_am = i_am; is = record { i_am = refl; spelled = i_am_is_spelled }; place = refl; bound = refl });
            holds = record { silent = refl; left = refl };
          };
        });
    moment = refl;
    clients = refl;
    devices = refl;
    keys = refl;
    history = refl;
    puts = none_put w4 w5 2 refl refl;
  })

  -- it issues its request
  issuing_it : ClientIssues w5 w6
  unfolding request_octets service_asked never_given canonical.shortest number.width
  issuing_it = record {
    place = 0;
    instance = 10;
    request = reads_name;
    c = bound;
    next = waiting;
    told = record { invoke_id = 0; said = asks A ∷ [] };
    there = refl;
    sound = ((omega arith, omega arith), omega arith, tt);
    free = refl;
    issues = record { binding = binding; held = refl; id = refl; said = refl; left = refl };
    moment = refl;
    clients = refl;
    devices = refl;
    keys = refl;
    history = refl;
    puts = one_put w5 w6 2 (Member (near ∷ [])) (asks A) _ (spoken_is_inside 2 asker.mac (asked_spoken A) refl) (asks_short A) refl refl;
  }

  issues : PlainStep (site A) w5 w6
  issues = client_issues issuing_it

  request_crosses : PlainStep (site A) w6 w7
  request_crosses = something_passes (routes w6 (datagram_to 2 (asks A) near (unicast (asks A).npdu)) (asks A) (request_from A 2) 1 (Member (device.mac ∷ []))
      (has 4 refl) (bears_one 2 asker.mac near (asks A).npdu 0 (asks_short A)) refl (omega arith) (omega arith) (record {
        header = to_one true device (request_apdu A);
        spelled = to_one_spells true device (request_apdu A) (omega arith) (omega arith) (omega arith);
        destination = destination_to device;
        is = refl;
        stamp = refl;
        how = inr (record { last = refl; target = refl; npdu = refl });
      }) (request_short A 2))

  -- the device executes it
  executing_it : DeviceHearsIt w7 w8
  unfolding request_octets service_asked never_given replied left_by answer_of server_said.said_octets canonical.shortest number.width
  executing_it = record {
    place = 0;
    d = server;
    left = done;
    p = request_from A 2;
    told = record {
      said = tells A ∷ [];
      executed = Some (record { asker = record { station = asker; invoke_id = 0 }; request = reads_name; reply = name_read A });
    };
    there = refl;
    delivered = record {
      thing = datagram_to 1 (request_from A 2) device.mac (unicast (request_from A 2).npdu);
      there = has 5 refl;
      on = refl;
      bears = bears_one 1 far device.mac (request_from A 2).npdu 0 (request_short A 2);
      reaches = refl;
      young = omega arith;
    };
    hears =
        inl (record {
          heard = record { station = asker; way = record { to = far; destination = Some asker }; alone = true; content = says (request_apdu A) };
          brings = record {
            header = handed_over true asker device (request_apdu A);
            spelled = handed_over_spells true asker device (request_apdu A) (omega arith) (omega arith) (omega arith) (omega arith);
            here = refl;
            sent = refl;
            way = refl;
            alone = refl;
            said = request_spells A;
          };
          does = record {
            apdu = request A;
            named = tt;
            is = refl;
            server_told = server_steps.told_of_plan executing;
            left = done.server;
            step = record {
              plan = executing;
              planned = record {
                found = Some (Ok reads_name);
                means = request_spelled reads_name ((omega arith, omega arith), omega arith, tt);
                is = refl;
              };
              told_is = refl;
              left_is = refl;
            };
            told_is = refl;
            new_is = refl;
          };
        });
    moment = refl;
    clients = refl;
    devices = refl;
    keys = refl;
    history = refl;
    puts = one_put w7 w8 1 (Member (far ∷ [])) (tells A) _ (spoken_is_inside 1 device.mac (told_spoken A) refl) (tells_short A) refl refl;
  }

  executes : PlainStep (site A) w7 w8
  executes = device_hears executing_it

  answer_crosses : PlainStep (site A) w8 w9
  answer_crosses = something_passes (routes w8 (datagram_to 1 (tells A) far (unicast (tells A).npdu)) (tells A) (tells_on A) 2 (Member (asker.mac ∷ []))
      (has 6 refl) (bears_one 1 device.mac far (tells A).npdu 0 (tells_short A)) refl (omega arith) (omega arith) (record {
        header = to_one false asker (answer_apdu A);
        spelled = to_one_spells false asker (answer_apdu A) (omega arith) (omega arith) (omega arith);
        destination = destination_to asker;
        is = refl;
        stamp = refl;
        how = inr (record { last = refl; target = refl; npdu = refl });
      }) (tells_on_short A))

  -- the client hears its answer
  hearing_it : ClientHearsIt w9 w10
  unfolding request_octets service_asked never_given replied left_by answer_of canonical.shortest number.width
  hearing_it = record {
    place = 0;
    c = waiting;
    next = satisfied;
    p = tells_on A;
    told = record { said = []; outcomes = record { invoke_id = 0; outcome = outcome.Answered (name_read A) } ∷ [] };
    there = refl;
    delivered = record {
      thing = datagram_to 2 (tells_on A) asker.mac (unicast (tells_on A).npdu);
      there = has 7 refl;
      on = refl;
      bears = bears_one 2 near asker.mac (tells_on A).npdu 0 (tells_on_short A);
      reaches = refl;
      young = omega arith;
    };
    hears =
        inl (record {
          heard = record { station = device; way = record { to = near; destination = Some device }; alone = true; content = says (answer_apdu A) };
          brings = record {
            header = handed_over false device asker (answer_apdu A);
            spelled = handed_over_spells false device asker (answer_apdu A) (omega arith) (omega arith) (omega arith) (omega arith);
            here = refl;
            sent = refl;
            way = refl;
            alone = refl;
            said = answer_spells A;
          };
          does = record {
            apdu = answer A;
            named = tt;
            is = refl;
            tsm_told = client_steps.told_of_plan answering;
            left = satisfied.machine;
            step = record {
              plan = answering;
              planned = record {
                found = Some (name_read A);
                means = reply_is_meant reads_name (name_read A) ((omega arith, omega arith), omega arith, tt) (omega arith, tt) tt;
                is = refl;
              };
              told_is = refl;
              left_is = refl;
            };
            told_is = refl;
            new_is = refl;
          };
        });
    moment = refl;
    clients = refl;
    devices = refl;
    keys = refl;
    history = refl;
    puts = none_put w9 w10 2 refl refl;
  }

  hears_answer : PlainStep (site A) w9 w10
  hears_answer = client_hears hearing_it

pub is_answered : {A : Type 0} → IsAnswered A
is_answered {A} = record {
  fresh = is_fresh A asker;
  world = w10 A;
  steps = record {
    between = w1 A ∷ w2 A ∷ w3 A ∷ w4 A ∷ w5 A ∷ w6 A ∷ w7 A ∷ w8 A ∷ w9 A ∷ w10 A ∷ [];
    steps = (
      asks_who A,
      (
        who_is_crosses A,
        (
          says_who_it_is A,
          (i_am_crosses A, (learns A, (issues A, (request_crosses A, (executes A, (answer_crosses A, (hears_answer A, tt))))))),
        ),
      ),
    );
    last = refl;
  };
  said = refl;
  crossed = has 5 refl;
  history = refl;
}

-- what follows the client's binding is an exchange in which nothing is lost
pub exchange : {A : Type 0} → Exchange (w5 A) (w10 A)
unfolding issuing_it executing_it hearing_it request_octets service_asked never_given replied answer_of canonical.shortest number.width
exchange {A} = record {
  asked = w6 A;
  issues = issuing_it A;
  request = asks A;
  says = has 0 refl;
  arriving = w7 A;
  way_there = record { later = omega arith; clients = refl; devices = refl; keys = refl; history = refl };
  served = w8 A;
  executes = executing_it A;
  brings = record {
    inside = spoken_inside 2 asker.mac (asked_spoken A);
    said = spoken_is_inside 2 asker.mac (asked_spoken A) refl;
    brought = record {
      header = handed_over true asker device (request_apdu A);
      spelled = handed_over_spells true asker device (request_apdu A) (omega arith) (omega arith) (omega arith) (omega arith);
      is = record { application = refl; source = refl; reach = refl; apdu = refl };
    };
    last = refl;
    alone = refl;
    stamp = refl;
  };
  bound = refl;
  whole = record { asked = refl; answered = refl };
  ready = record { listens = omega arith; place = refl };
  answer = tells A;
  answers = has 0 refl;
  returning = w9 A;
  way_back = record { later = omega arith; clients = refl; devices = refl; keys = refl; history = refl };
  hears = hearing_it A;
  same = refl;
  returns = record {
    inside = spoken_inside 1 device.mac (told_spoken A);
    said = spoken_is_inside 1 device.mac (told_spoken A) refl;
    brought = record {
      header = handed_over false device asker (answer_apdu A);
      spelled = handed_over_spells false device asker (answer_apdu A) (omega arith) (omega arith) (omega arith) (omega arith);
      is = record { application = refl; source = refl; reach = refl; apdu = refl };
    };
    last = refl;
    alone = refl;
    stamp = refl;
  };
}

pub has_exchange : {A : Type 0} → HasExchange A
has_exchange {A} = record {
  before = w5 A;
  steps = record {
    between = w1 A ∷ w2 A ∷ w3 A ∷ w4 A ∷ w5 A ∷ [];
    steps = (asks_who A, (who_is_crosses A, (says_who_it_is A, (i_am_crosses A, (learns A, tt)))));
    last = refl;
  };
  after = w10 A;
  exchange = exchange;
}
