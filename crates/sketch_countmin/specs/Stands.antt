-- The relation of a sketch to its history.
use Rattle.std.specs.Prelude.{◌≡◌, ℕ, ◌<◌, List}
use Rattle.std.specs.List.{AllZip}
use Rattle.sketch_countmin.specs.Rows.{cell_at}
use Rattle.sketch_countmin.specs.State.{CountState}
use Rattle.sketch_countmin.specs.History.{CountHistory, hashes_of, buckets_of, seed_of, absolute_weight, cell_share}

-- the sketch stands for this history: it has its shape and seed, its total is the absolute weight, and each cell is the
-- share of its bucket
pub record StandsFor (s : CountState) (h : CountHistory) : Type 0 where
  pub hashes : s.hashes ≡ hashes_of h
  pub buckets : s.buckets ≡ buckets_of h
  pub seed : s.seed ≡ seed_of h
  pub total : s.total ≡ absolute_weight h
  pub cells : (r : ℕ) → r < s.hashes → (b : ℕ) → b < s.buckets → cell_at s.rows r b ≡ cell_share s.buckets s.seed h r b

-- if the old sketch stands for a history, the new one stands for the history with the call after it
abbrev pub Extends : CountState → CountState → (CountHistory → CountHistory) → Type 0
Extends old new f = (h : CountHistory) → StandsFor old h → StandsFor new (f h)

-- if a sketch and another stand for two histories, the new sketch stands for the history that the call makes of both
abbrev pub ExtendsBoth : CountState → CountState → CountState → (CountHistory → CountHistory → CountHistory) → Type 0
ExtendsBoth old other new f = (g h : CountHistory) → StandsFor old g → StandsFor other h → StandsFor new (f g h)

-- if a sketch stands for a history, and each of others for its own, the new sketch stands for the history that the call
-- makes of all of them
abbrev pub ExtendsByAll :
    CountState → List CountState → CountState → (CountHistory → List CountHistory → CountHistory) → Type 0
ExtendsByAll old others new f =
    (g : CountHistory) (hs : List CountHistory) → StandsFor old g → AllZip StandsFor others hs → StandsFor new (f g hs)
