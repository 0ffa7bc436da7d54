-- Recent uses of a cache's items, which fade, and a sketch of them. An item is the bytes that its `Hash` feeds.
use Rattle.std.specs.Prelude.{◌≡◌, ℕ, ◌+◌, ◌/◌, ◌<◌, ◌==◌, cond, if◌then◌else◌, List, fold, pos}
use Rattle.std.specs.Str.{bytes_eq}
use Rattle.sketch_countmin.specs.History.{CountHistory, absolute_weight}
use Rattle.sketch_countmin.specs.History.CountHistory.{New, Update, Halve}
use Rattle.sketch_countmin.specs.Stands.{StandsFor}
use Rattle.sketch_countmin.specs.State.{CountState, Counts, halved_state}

-- the sketch of the recent uses, and the number of uses after which all counts are halved
pub record AdmissionState : Type 0 where
  pub recent : CountState
  pub window : ℕ

-- the invariant: the window is never full
abbrev pub IsAdmission : AdmissionState → Type 0
IsAdmission s = s.recent.total < s.window

-- ---- uses as they age

-- the number of uses of one item, and of all items
pub record Aged : Type 0 where
  pub own : ℕ
  pub all : ℕ

-- the numbers after one more use. If the window is then full, both are halved, rounded down
abbrev pub aged_by : ℕ → List ℕ → Aged → List ℕ → Aged
aged_by window item a used =
    let own = a.own + cond (bytes_eq item used) 1 0 in
    let all = a.all + 1 in
    if all == window then record { own = own / 2; all = all / 2 } else record { own = own; all = all }

-- the numbers after these uses
abbrev pub aged : ℕ → List (List ℕ) → List ℕ → Aged
aged window uses item = fold (aged_by window item) (record { own = 0; all = 0 }) uses

-- the number of recent uses of an item
abbrev pub aged_share : ℕ → List (List ℕ) → List ℕ → ℕ
aged_share window uses item = (aged window uses item).own

-- ---- the sketch of the uses

-- the history after one more use. If the window is then full, all counts are halved
abbrev pub after_use : ℕ → CountHistory → List ℕ → CountHistory
after_use window h used =
    let counted = Update h used (pos 1) in
    if absolute_weight counted == window then Halve counted else counted

-- the sketch is that of these uses, the first one first
pub record HasSeen (s : AdmissionState) (uses : List (List ℕ)) : Type 0 where
  pub stands :
      StandsFor s.recent (fold (after_use s.window) (New s.recent.hashes s.recent.buckets s.recent.seed) uses)

-- new is old after one more use, which was counted. If the window was then full, all counts were halved
pub record Touches (old : AdmissionState) (used : List ℕ) (new : AdmissionState) : Type 0 where
  pub window : new.window ≡ old.window
  pub counted : CountState
  pub counts : Counts old.recent used (pos 1) counted
  pub aged : new.recent ≡ (if counted.total == old.window then halved_state counted else counted)
