-- When a sketch stands for a history, and how a command preserves that.
use Rattle.std.specs.Prelude.{◌≡◌, ◌≤◌, ℕ, Bool, true, false, length}
use Rattle.sketch_bloom.specs.Building.{words_for}
use Rattle.sketch_bloom.specs.History.{BloomHistory}
use Rattle.sketch_bloom.specs.Stands as bloom
use Rattle.sketch_bloom.specs.State.{FilterState, IsFilterState}
use Rattle.sketch_countmin.specs.History.{CountHistory}
use Rattle.sketch_countmin.specs.Stands as count
use Rattle.sketch_countmin.specs.State.{CountState, IsCountState}
use Rattle.sketch_frequencies.specs.History.{FrequentHistory, own_size}
use Rattle.sketch_frequencies.specs.Stands as frequent
use Rattle.sketch_frequencies.specs.State.{FrequentState, IsState, capacity}
use Rattle.datasketches.specs.Actions.{Shape, Shape as shape}
use Rattle.datasketches.specs.Histories.{History}
use Rattle.datasketches.specs.Histories.History.{OfFrequent, OfCountI64, OfCountU64, OfBloom, OfStranger}
use Rattle.datasketches.specs.Replies.{is_refused, max_signed, max_unsigned}
use Rattle.datasketches.specs.declared.reply.Reply.{Reply}
use Rattle.datasketches.specs.declared.sketch.Sketch.{Sketch}
use Rattle.datasketches.specs.declared.sketch.Sketch.TheVariants.{Frequent, CountI64, CountU64, Bloom}

-- a reset leaves the empty sketch of this shape. Of a Count-Min sketch, which has no reset, only the kind is stated
abbrev pub HasShape : {T : Type 0} → Sketch T → Shape → Type 0
HasShape (Frequent s) (shape.Frequent sizes) =
    (s.max_size ≡ sizes.max_map_size) × (s.sample_size ≡ sizes.sample_size)
HasShape (CountI64 s) (shape.CountI64 sizes) = Unit {0}
HasShape (CountU64 s) (shape.CountU64 sizes) = Unit {0}
HasShape (Bloom s) (shape.Bloom request) =
    (s.num_words ≡ words_for request.num_bits) × (s.num_hashes ≡ request.num_hashes) × (s.seed ≡ request.seed)
HasShape _ _ = ⊥

-- the Count-Min sketch is valid and stands for this history. `greatest` is the maximum of the weight type
pub record KeepsCounts (greatest : ℕ) (s : CountState) (h : CountHistory) : Type 0 where
  pub state : IsCountState greatest s
  pub stands : count.StandsFor s h

-- the filter is valid and stands for this history
pub record KeepsPositions (s : FilterState) (h : BloomHistory) : Type 0 where
  pub state : IsFilterState s
  pub stands : bloom.StandsFor s h

module _ {T : Type 0} (eq : T → T → Bool) where
  -- the frequent items sketch is valid, and its number of counters is at most 3/4 of its maximum size. It encloses every true
  -- weight within its error, has the sample size of its history, and keeps the tail budget
  pub record KeepsPromise (s : FrequentState T) (h : FrequentHistory T) : Type 0 where
    pub state : IsState eq s
    pub few : length s.counters ≤ capacity (own_size h)
    pub stands : frequent.StandsFor eq s h
    pub budget : frequent.KeepsTailBudget eq s h

  -- the sketch is valid
  abbrev pub IsSketch : Sketch T → Type 0
  IsSketch (Frequent s) = IsState eq s
  IsSketch (CountI64 s) = IsCountState max_signed s
  IsSketch (CountU64 s) = IsCountState max_unsigned s
  IsSketch (Bloom s) = IsFilterState s

  -- the sketch is valid and stands for this history. A sketch from an untrusted image is only known to be valid, and has a shape
  abbrev pub StandsFor : Sketch T → History T → Type 0
  StandsFor (Frequent s) (OfFrequent h) = KeepsPromise s h
  StandsFor (CountI64 s) (OfCountI64 h) = KeepsCounts max_signed s h
  StandsFor (CountU64 s) (OfCountU64 h) = KeepsCounts max_unsigned s h
  StandsFor (Bloom s) (OfBloom h) = KeepsPositions s h
  StandsFor sketch (OfStranger known) = IsSketch sketch × HasShape sketch known
  StandsFor _ _ = ⊥

  -- for each history that the old sketch stood for, the new one stands for the history after the command
  abbrev pub Carries : (History T → History T) → Sketch T → Sketch T → Type 0
  Carries grown old new = (h : History T) → StandsFor old h → StandsFor new (grown h)

  -- a command acted on a sketch as its own call does. If it was accepted, `grown` extends each history of the sketch; if it was
  -- rejected, the sketch is unchanged
  pub record Does (DoesOwn : Sketch T → Reply T → Sketch T → Type 0) (grown : History T → History T)
      (old : Sketch T) (reply : Reply T) (new : Sketch T) : Type 0 where
    pub own : DoesOwn old reply new
    pub carries : is_refused reply ≡ false → Carries grown old new
    pub refused : is_refused reply ≡ true → new ≡ old

  -- for any histories that the two sketches stood for, the new sketch stands for their combination by the command
  abbrev pub CarriesBoth : (History T → History T → History T) → Sketch T → Sketch T → Sketch T → Type 0
  CarriesBoth joined old other new =
      (g h : History T) → StandsFor old g → StandsFor other h → StandsFor new (joined g h)

  -- the same as `Does`, of a command with another sketch
  pub record DoesWith (DoesOwn : Sketch T → Reply T → Sketch T → Type 0) (joined : History T → History T → History T)
      (other old : Sketch T) (reply : Reply T) (new : Sketch T) : Type 0 where
    pub own : DoesOwn old reply new
    pub carries : is_refused reply ≡ false → CarriesBoth joined old other new
    pub refused : is_refused reply ≡ true → new ≡ old
