-- Keys of which only the last issues are kept, and what is told by them.
use Rattle.std.proofs.Common.{◌≡◌, ◌∙◌, refl, sym, ap, arith, ℕ, suc, ◌+◌, Bool, true, false, cond, List, [], ◌∷◌, ◌++◌, length, length-append, Option, Some, None}
use Rattle.std.proofs.lemmas.List.{append_assoc}
use Rattle.std.specs.Prelude.{◌==◌, ◌&&◌}
use Rattle.history.specs.Lists.{first_of}
use Rattle.history.specs.declared.Entry.{Entry}
use Rattle.history.specs.declared.Entry.TheVariants.{Executed}
use Rattle.npdu.specs.Mac.{same_station}
use Rattle.npdu.specs.declared.mac.Station.{Station}
use Rattle.primitives.specs.declared.plain_data.Reply.{Reply}
use Rattle.primitives.specs.declared.plain_data.Request.{Request}
use Rattle.world.specs.carry_world.PlainWorld.{Key, executed_told, last_key, last_key_from, outcomes_told}
use Rattle.world.specs.headline_client.Told.{outcome_of}
use Rattle.world.specs.site_node.declared.told.PartTold.{PartTold}
use Rattle.world.specs.world_log.Growing.{WorldHistory, told_in}
use Rattle.world.specs.world_log.carry_said.client_tsm.declared.plan.TransactionOutcome.{TransactionOutcome}
use Rattle.world.specs.world_log.carry_said.headline_site.headline.Happenings as core
use Rattle.world.specs.world_log.carry_said.server_answers.Executed as told
use Rattle.world.specs.world_log.Issues.{KeepsKeys}

abbrev pub under : Station → ℕ → Key → Bool
under client id k = same_station k.client client && (k.invoke_id == id)

first_by : (b : Bool) (m n : ℕ) (o : Option ℕ) (other : Option ℕ) →
    first_of (cond b (Some m) o) other ≡ cond b (Some m) (first_of o other)
first_by true m n o other = refl
first_by false m n o other = refl

none_by : (b : Bool) (n : ℕ) → cond b (Some n) None ≡ cond b (Some (n + 0)) None
none_by b n = let none : n ≡ n + 0 = omega arith in ap (λ (m : ℕ). cond b (Some m) None) none

-- the last issue where there is one more
one_more : (n : ℕ) (client : Station) (id : ℕ) (ks : List Key) (k : Key) → last_key_from n client id (ks ++ k ∷ [])
    ≡ cond (under client id k) (Some (n + length ks)) (last_key_from n client id ks)
one_more n client id [] k = none_by (under client id k) n
one_more n client id (x ∷ ks) k =
    let more : suc n + length ks ≡ n + suc (length ks) = omega arith in
    ap (λ (o : Option ℕ). first_of o (cond (under client id x) (Some n) None)) (one_more (suc n) client id ks k)
    ∙ first_by (under client id k) (suc n + length ks) n (last_key_from (suc n) client id ks)
    (cond (under client id x) (Some n) None)
    ∙ ap (λ (m : ℕ). cond (under client id k) (Some m) (last_key_from n client id (x ∷ ks))) more

pub keys_same : (ks : List Key) → KeepsKeys ks ks
keys_same ks = record { count = refl; last = λ client id. refl }

pub keys_on : (a b c : List Key) → KeepsKeys a b → KeepsKeys b c → KeepsKeys a c
keys_on a b c p q = record { count = q.count ∙ p.count; last = λ client id. q.last client id ∙ p.last client id }

pub keys_more : (all kept : List Key) (k : Key) → KeepsKeys all kept → KeepsKeys (all ++ k ∷ []) (kept ++ k ∷ [])
keys_more all kept k p = record {
  count = length-append kept (k ∷ []) ∙ ap (λ (n : ℕ). n + 1) p.count ∙ sym (length-append all (k ∷ []));
  last = λ client id. one_more 0 client id kept k
      ∙ ap (λ (n : ℕ). cond (under client id k) (Some (0 + n)) (last_key client id kept)) p.count
      ∙ ap (λ (o : Option ℕ). cond (under client id k) (Some (0 + length all)) o) (p.last client id)
      ∙ sym (one_more 0 client id all k);
}

-- an entry is told behind those that were handed out
told_behind : {A : Type 0} (entry : ℕ → Entry Station (Request A) (Reply A)) (past h : WorldHistory A) (o : Option ℕ) →
    core.told entry o (past ++ h) ≡ past ++ core.told entry o h
told_behind entry past h None = refl
told_behind entry past h (Some i) = append_assoc past h (entry i ∷ [])

module _ {A : Type 0} (now : ℕ) (past : WorldHistory A) (all kept : List Key) (p : KeepsKeys all kept) where
  executed_behind : (x : Option (told.Executed A)) (h : WorldHistory A) →
      executed_told now x all (past ++ h) ≡ past ++ executed_told now x kept h
  executed_behind None h = refl
  executed_behind (Some x) h =
      ap (λ (o : Option ℕ). core.told (λ i. Executed i x.reply now) o (past ++ h))
      (sym (p.last x.asker.station x.asker.invoke_id))
      ∙ told_behind (λ i. Executed i x.reply now) past h (last_key x.asker.station x.asker.invoke_id kept)

  outcomes_behind : (c : Station) (ts : List (TransactionOutcome A)) (h : WorldHistory A) →
      outcomes_told c now all ts (past ++ h) ≡ past ++ outcomes_told c now kept ts h
  outcomes_behind c [] h = refl
  outcomes_behind c (t ∷ ts) h =
      ap (λ (o : Option ℕ). outcomes_told c now all ts
      (core.told (core.closing (outcome_of t.outcome) now) o (past ++ h)))
      (sym (p.last c t.invoke_id))
      ∙ ap (λ (g : WorldHistory A). outcomes_told c now all ts g)
      (told_behind (core.closing (outcome_of t.outcome) now) past h (last_key c t.invoke_id kept))
      ∙ outcomes_behind c ts (core.told (core.closing (outcome_of t.outcome) now) (last_key c t.invoke_id kept) h)

  -- all that a node tells stands behind what was handed out
  pub tells_behind : (x : Station) (t : PartTold A) (g h : WorldHistory A) → g ≡ past ++ h →
      told_in x now all t g ≡ past ++ told_in x now kept t h
  tells_behind x t g h e =
      ap (λ (f : WorldHistory A). told_in x now all t f) e
      ∙ ap (λ (f : WorldHistory A). outcomes_told x now all t.outcomes f) (executed_behind t.executed h)
      ∙ outcomes_behind x t.outcomes (executed_told now t.executed kept h)
