-- What windows stand for after a call.
use Rattle.std.proofs.Common.{◌≡◌, ℕ, Bool, List, [], ◌∷◌, ◌++◌, refl, sym, subst}
use Rattle.sketch_frequencies.specs.History.{FrequentHistory}
use Rattle.sketch_frequencies.specs.History.FrequentHistory.{Update}
use Rattle.sketch_frequencies.specs.Stands.{StandsFor, KeepsTailBudget, Extends, ExtendsBudget}
use Rattle.sketch_frequencies.specs.State.{FrequentState}
use Rattle.heavy_windows.specs.Fresh.{fresh_history}
use Rattle.heavy_windows.specs.Histories.{added_history, turned_history}
use Rattle.heavy_windows.specs.Newest.{turned}
use Rattle.heavy_windows.specs.Stands.{IsWindowOf, WindowsStandFor, ExtendsEach}
use Rattle.heavy_windows.proofs.Newest.{newest_last, with_newest_last}
use Rattle.heavy_windows.proofs.Zips.{ends, zip_push, zip_turned}

module _ {T : Type 0} (eq : T → T → Bool) where
  -- an update of a window
  pub window_updated : (max_map_size : ℕ) (s s' : FrequentState T) (item : T) (weight : ℕ) (h : FrequentHistory T)
      → Extends eq s s' (λ g. Update g item weight) → ExtendsBudget eq s s' (λ g. Update g item weight)
      → IsWindowOf eq max_map_size s h → IsWindowOf eq max_map_size s' (Update h item weight)
  window_updated max_map_size s s' item weight h stands budget is = record {
    stands = stands h is.stands;
    budget = budget h is.stands is.budget;
    sample = is.sample;
  }

  added_last : (max_map_size : ℕ) (item : T) (weight : ℕ) (hs front : List (FrequentHistory T)) (last : FrequentHistory T)
      → hs ≡ front ++ last ∷ [] → added_history max_map_size item weight hs ≡ front ++ Update last item weight ∷ []
  added_last max_map_size item weight hs front last e =
      rw (e, newest_last (fresh_history max_map_size) front last, with_newest_last front last (Update last item weight)) refl

  -- the newest window was updated
  pub newest_updated : (max_map_size : ℕ) (older : List (FrequentState T)) (s s' : FrequentState T) (item : T) (weight : ℕ)
      → Extends eq s s' (λ g. Update g item weight) → ExtendsBudget eq s s' (λ g. Update g item weight)
      → ExtendsEach eq max_map_size (older ++ s ∷ []) (older ++ s' ∷ []) (added_history max_map_size item weight)
  newest_updated max_map_size older s s' item weight stands budget hs z =
      let e = ends (IsWindowOf eq max_map_size) older s hs z in
      subst (λ gs. WindowsStandFor eq max_map_size (older ++ s' ∷ []) gs) (sym (added_last max_map_size item weight hs e.front e.last e.whole))
      (zip_push (IsWindowOf eq max_map_size) older e.front s' (Update e.last item weight) e.zip
      (window_updated max_map_size s s' item weight e.last stands budget e.related))

  -- a first window
  pub first_updated : (max_map_size : ℕ) (s s' : FrequentState T) (item : T) (weight : ℕ)
      → Extends eq s s' (λ g. Update g item weight) → ExtendsBudget eq s s' (λ g. Update g item weight)
      → IsWindowOf eq max_map_size s (fresh_history max_map_size)
      → ExtendsEach eq max_map_size [] (s' ∷ []) (added_history max_map_size item weight)
  first_updated max_map_size s s' item weight stands budget fresh [] z =
      (window_updated max_map_size s s' item weight (fresh_history max_map_size) stands budget fresh, tt)
  first_updated max_map_size s s' item weight stands budget fresh (h ∷ hs) z = absurd z

  -- a window that was opened
  pub opened : (limit max_map_size : ℕ) (s : FrequentState T) (windows : List (FrequentState T))
      → IsWindowOf eq max_map_size s (fresh_history max_map_size)
      → ExtendsEach eq max_map_size windows (turned limit s windows) (turned_history limit max_map_size)
  opened limit max_map_size s windows fresh hs z =
      zip_turned (IsWindowOf eq max_map_size) limit s (fresh_history max_map_size) windows hs z fresh

  -- the same of windows by what they are
  pub opened_at : (limit max_map_size : ℕ) (s : FrequentState T) (windows before after : List (FrequentState T))
      → before ≡ windows → after ≡ turned limit s windows → IsWindowOf eq max_map_size s (fresh_history max_map_size)
      → ExtendsEach eq max_map_size before after (turned_history limit max_map_size)
  opened_at limit max_map_size s windows before after b a fresh =
      subst (λ ws. ExtendsEach eq max_map_size ws after (turned_history limit max_map_size)) (sym b)
      (subst (λ ws. ExtendsEach eq max_map_size windows ws (turned_history limit max_map_size)) (sym a)
      (opened limit max_map_size s windows fresh))

  -- a new sketch is one of a fresh window
  pub fresh_window : (max_map_size : ℕ) (s : FrequentState T) → StandsFor eq s (fresh_history max_map_size)
      → KeepsTailBudget eq s (fresh_history max_map_size) → IsWindowOf eq max_map_size s (fresh_history max_map_size)
  fresh_window max_map_size s stands budget = record { stands = stands; budget = budget; sample = refl }

  -- a first window, by what the windows are
  pub first_at : (max_map_size : ℕ) (s s' : FrequentState T) (item : T) (weight : ℕ) (before after : List (FrequentState T))
      → before ≡ [] → after ≡ s' ∷ []
      → Extends eq s s' (λ g. Update g item weight) → ExtendsBudget eq s s' (λ g. Update g item weight)
      → IsWindowOf eq max_map_size s (fresh_history max_map_size)
      → ExtendsEach eq max_map_size before after (added_history max_map_size item weight)
  first_at max_map_size s s' item weight before after b a stands budget fresh =
      subst (λ ws. ExtendsEach eq max_map_size ws after (added_history max_map_size item weight)) (sym b)
      (subst (λ ws. ExtendsEach eq max_map_size [] ws (added_history max_map_size item weight)) (sym a)
      (first_updated max_map_size s s' item weight stands budget fresh))
