-- Where an issue stands in a history.
use Rattle.std.proofs.Common.{◌≡◌, ◌∙◌, refl, sym, ap, ℕ, ◌+◌, ◌<◌, ◌%◌, List, [], ◌∷◌, ◌++◌, length, take, drop, Option, Some, None, slice_get}
use Rattle.std.proofs.lemmas.List.{take-append-drop, drop_more}
use Rattle.std.proofs.lemmas.Option.{slice_get_within, get_or_from_slice_get}
use Rattle.history.specs.declared.Entry.{Entry}
use Rattle.last_hop.specs.Issues.{IsKeyOf, count_of, issued}
use Rattle.last_hop.specs.declared.issues.IssueKey.{IssueKey}
use Rattle.npdu.specs.declared.mac.Station.{Station}

module _ {Q R : Type 0} where
  -- what stands before a place, at it and behind it
  cut_at : (place : ℕ) (h : List (Entry Station Q R)) (e : Entry Station Q R) → slice_get h place ≡ Some e →
      h ≡ take place h ++ e ∷ drop (place + 1) h
  cut_at place h e there =
      sym (take-append-drop place h)
      ∙ ap (λ (l : List (Entry Station Q R)). take place h ++ l) (drop_more h place e (slice_get_within h place e there)
      ∙ ap (λ (x : Entry Station Q R). x ∷ drop (place + 1) h) (get_or_from_slice_get h place e e there))

  pub key_at : (n place : ℕ) (h : List (Entry Station Q R)) (e : Entry Station Q R) (k : IssueKey) →
      slice_get h place ≡ Some e → issued n e ≡ Some (k.client, k.instance) →
      k.invoke_id ≡ count_of k.client (take place h) % 256 → count_of k.client (drop (place + 1) h) < 256 →
      IsKeyOf n h k
  key_at n place h e k there is id latest = record {
    before = take place h;
    issue = e;
    after = drop (place + 1) h;
    parts = cut_at place h e there;
    issue_is = is;
    id = id;
    latest = latest;
  }

pub ruleset key_laws = (key_at)
