-- The steps of a port on a bus, by what its node does and what is put out.
use Rattle.std.proofs.Common.{◌≡◌, ◌∙◌, ◌≤◌, ◌<◌, refl, ap, sym, ℕ, Bool, false, subst, List, [], ◌∷◌, ◌++◌, length, None}
use Rattle.std.proofs.lemmas.List.{append_assoc}
use Rattle.link.proofs.Putting.{none_comes, none_out, none_over, one_more, over_these, put_behind}
use Rattle.link.specs.Carrying.{nothing}
use Rattle.link.specs.Limits.{max_npdu_at}
use Rattle.link.specs.Step.{LinkStep, PortSent, over_port, put_out, step_of}
use Rattle.link.specs.declared.step.Change.{Change}
use Rattle.link.specs.declared.step.Sent.{Sent}
use Rattle.mstp_table.proofs.Hearing.{idles_until_due}
use Rattle.mstp_table.specs.Node.{NamedFrame, NodeState, Outcome, all_sent}
use Rattle.mstp_table.specs.Table.{after_frame, after_tick, step}
use Rattle.npdu.specs.declared.parcel.Parcel.{Parcel}
use Rattle.link_bus.specs.Port.{BusPortState, at_moment, changed, station_of, with_node}
use Rattle.link_bus.specs.Steps.{Downs, HearsIt, Idles, Wakes, handed_up, is_due}
use Rattle.std.specs.Prelude.{Option}

module _ {A : Type 0} where
  pub puts_these : (n : ℕ) (out out2 : List (PortSent A)) (frames all : List (Sent A)) → out2 ≡ out ++ over_port n frames →
      frames ≡ all → put_out out out2 ≡ all
  puts_these n out out2 frames all e f = put_behind n out out2 frames e ∙ f

  -- one more of those that are left is put out
  pub next_sent : (n : ℕ) (start middle new : List (PortSent A)) (s : Sent A) (rest left all : List (Sent A)) →
      middle ++ over_port n left ≡ start ++ over_port n all → left ≡ s ∷ rest →
      new ≡ middle ++ record { port = n; sent = s } ∷ [] → new ++ over_port n rest ≡ start ++ over_port n all
  next_sent n start middle new s rest left all before is e =
      ap (λ xs. xs ++ over_port n rest) e
      ∙ append_assoc middle (record { port = n; sent = s } ∷ []) (over_port n rest)
      ∙ ap (λ ss. middle ++ over_port n ss) (sym is)
      ∙ before

  pub idles_it : (now : ℕ) (old : BusPortState A) (out : List (PortSent A)) →
      Idles now old (step_of None out out) (at_moment now old)
  idles_it now old out = record { nothing = none_comes out; left = refl }

  pub rests : (now : ℕ) (old new : BusPortState A) → is_due now old ≡ false → new ≡ at_moment now old →
      Wakes now old nothing new
  rests now old new none later =
      let quiet = idles_until_due old.node now none in
      record {
        up = refl;
        puts = sym (ap (λ (o : Outcome A). all_sent o.frames) quiet);
        left = later ∙ sym (ap (λ (o : Outcome A). with_node old o.left) quiet);
      }

  pub wakes_none : (now : ℕ) (old new : BusPortState A) (out : List (PortSent A)) → Wakes now old nothing new →
      Wakes now old (step_of None out out) new
  wakes_none now old new out w = record { up = w.up; puts = none_out out ∙ w.puts; left = w.left }

  -- what its node does at a tick it does
  pub wakes_it : (now n net : ℕ) (node left : NodeState A) (old : BusPortState A) (frames : List (Sent A))
      (out out2 : List (PortSent A)) → record { net = net; node = node } ≡ old →
      frames ≡ all_sent (after_tick node now).frames → left ≡ (after_tick node now).left →
      out2 ≡ out ++ over_port n frames → Wakes now old (step_of None out out2) (record { net = net; node = left })
  unfolding step
  wakes_it now n net node left old frames out out2 e f l p =
      subst (λ (o : BusPortState A). Wakes now o (step_of None out out2) (record { net = net; node = left })) e
      (record {
        up = refl;
        puts = put_behind n out out2 frames p ∙ f;
        left = ap (λ (s : NodeState A). with_node (record { net = net; node = node }) s) l;
      })

  -- .. and on a frame
  pub hears_it : (now stamp n net : ℕ) (frame : NamedFrame) (hands_up : Bool) (up : Option (Parcel A))
      (node left : NodeState A) (old : BusPortState A) (frames : List (Sent A)) (out out2 : List (PortSent A)) →
      record { net = net; node = node } ≡ old → hands_up ≡ (after_frame frame node now).up →
      frames ≡ all_sent (after_frame frame node now).frames → left ≡ (after_frame frame node now).left →
      out2 ≡ out ++ over_port n frames → up ≡ handed_up hands_up stamp frame →
      HearsIt now frame stamp old (step_of up out out2) (record { net = net; node = left })
  unfolding step
  hears_it now stamp n net frame hands_up up node left old frames out out2 e h f l p u =
      subst (λ (o : BusPortState A). HearsIt now frame stamp o (step_of up out out2) (record { net = net; node = left }))
      e
      (record {
        up = u ∙ ap (λ b. handed_up b stamp frame) h;
        puts = put_behind n out out2 frames p ∙ f;
        left = ap (λ (s : NodeState A). with_node (record { net = net; node = node }) s) l;
      })

  pub downs_none : (now : ℕ) (p : Parcel A) (old new : BusPortState A) (out : List (PortSent A)) →
      Downs now p old nothing new → Downs now p old (step_of None out out) new
  downs_none now p old new out d = record { fits = d.fits; nothing = none_comes out; left = d.left }

  -- a bus carries as long NPDUs at any node
  pub too_long : (now : ℕ) (port : BusPortState A) (c : Change (BusPortState A)) (n : ℕ) →
      max_npdu_at (station_of port).mac < n → max_npdu_at (station_of (changed now port c)).mac < n
  too_long now port c n long = long

  pub fits_it : (a b : BusPortState A) (n : ℕ) → n ≤ max_npdu_at (station_of a).mac → n ≤ max_npdu_at (station_of b).mac
  fits_it a b n fits = fits

pub ruleset doing_rules = (puts_these, idles_it, none_over, over_these, one_more, next_sent)

pub ruleset link_rules = (downs_none, idles_it, wakes_none, none_over, over_these, too_long, fits_it)
