-- The relation of a filter to its history.
use Rattle.std.specs.Prelude.{◌≡◌, List}
use Rattle.std.specs.List.{AllZip}
use Rattle.sketch_bloom.specs.State.{FilterState}
use Rattle.sketch_bloom.specs.History.{BloomHistory, words_of, hashes_of, seed_of, denoted_set}

-- the filter stands for this history: it has its shape, its seed and the set that it denotes
pub record StandsFor (s : FilterState) (h : BloomHistory) : Type 0 where
  pub num_words : s.num_words ≡ words_of h
  pub num_hashes : s.num_hashes ≡ hashes_of h
  pub seed : s.seed ≡ seed_of h
  pub set : s.set ≡ denoted_set h

-- if the old filter stands for a history, the new one stands for the history with the call after it
abbrev pub Extends : FilterState → FilterState → (BloomHistory → BloomHistory) → Type 0
Extends old new f = (h : BloomHistory) → StandsFor old h → StandsFor new (f h)

-- if a filter and another stand for two histories, the new filter stands for the history that the call makes of both
abbrev pub ExtendsBoth : FilterState → FilterState → FilterState → (BloomHistory → BloomHistory → BloomHistory) → Type 0
ExtendsBoth old other new f = (g h : BloomHistory) → StandsFor old g → StandsFor other h → StandsFor new (f g h)

-- if a filter stands for a history, and each of others for its own, the new filter stands for the history that the call
-- makes of all of them
abbrev pub ExtendsByAll :
    FilterState → List FilterState → FilterState → (BloomHistory → List BloomHistory → BloomHistory) → Type 0
ExtendsByAll old others new f =
    (g : BloomHistory) (hs : List BloomHistory) → StandsFor old g → AllZip StandsFor others hs → StandsFor new (f g hs)
