-- What a named sketch stands for, and what follows for each kind.
use Rattle.std.proofs.Common.{◌≡◌, ℕ, ◌<◌, Bool, true, List, Option, Some, subst, inl, inr, arith}
use Rattle.std.specs.Prelude.{◌↔◌}
use Rattle.std.proofs.lemmas.Cmp.{nat_cmp_total}
use Rattle.std.specs.FinSet as set
use Rattle.sketch_bloom.specs.BitSet.{Numbers}
use Rattle.sketch_bloom.specs.History.{BloomHistory, denoted_set}
use Rattle.sketch_bloom.specs.State.{FilterState, item_positions, contains_item}
use Rattle.sketch_countmin.specs.History.{CountHistory}
use Rattle.sketch_countmin.specs.Stands as count
use Rattle.sketch_countmin.specs.State.{CountState, IsCountState}
use Rattle.sketch_frequencies.specs.Items.{Codec}
use Rattle.datasketches.specs.SessionStandsFor.{Paired}
use Rattle.datasketches.specs.Actions.{Shape}
use Rattle.datasketches.specs.Histories.{History}
use Rattle.datasketches.specs.Histories.History.{OfStranger}
use Rattle.datasketches.specs.Laws.{IsNamed, IsCounted}
use Rattle.datasketches.specs.Replies.{max_signed, max_unsigned}
use Rattle.datasketches.specs.Stands.{StandsFor, IsSketch}
use Rattle.datasketches.specs.declared.sketch.Sketch.{Sketch}
use Rattle.datasketches.specs.declared.sketch.Sketch.TheVariants.{Frequent, CountI64, CountU64, Bloom}

module _ {T C : Type 0} (eq : T → T → Bool) (codec : Codec C) (content : T → C) where
  -- a named sketch stands for the history of the name
  pub named_stands : (sketch : Sketch T) (h : History T) → IsNamed eq codec content sketch h → StandsFor eq sketch h
  named_stands sketch h is =
      subst (λ (o : Option (History T)). Paired (StandsFor eq) (Some sketch) o) is.history_is
      (subst (λ (o : Option (Sketch T)). Paired (StandsFor eq) o (is.histories.sketches is.name)) is.sketch_is
      (is.fits.sketches is.name))

  -- one that came from a stranger is a sketch that may be
  stranger_case : (sketch : Sketch T) (known : Shape) → StandsFor eq sketch (OfStranger known) → IsSketch eq sketch
  stranger_case (Frequent s) known stands = stands.0
  stranger_case (CountI64 s) known stands = stands.0
  stranger_case (CountU64 s) known stands = stands.0
  stranger_case (Bloom s) known stands = stands.0

  pub stranger_is : (sketch : Sketch T) (known : Shape) → IsNamed eq codec content sketch (OfStranger known) → IsSketch eq sketch
  stranger_is sketch known is = stranger_case sketch known (named_stands sketch (OfStranger known) is)

  -- a Count-Min sketch of either kind
  pub counted_stands : (s : CountState) (h : CountHistory) → IsCounted eq codec content s h → count.StandsFor s h
  counted_stands s h (inl is) = (named_stands _ _ is).stands
  counted_stands s h (inr is) = (named_stands _ _ is).stands

  -- is one that may be, over its type of numbers
  pub counted_state : (s : CountState) (h : CountHistory) → IsCounted eq codec content s h → (greatest : ℕ) × IsCountState greatest s
  counted_state s h (inl is) = (max_signed, (named_stands _ _ is).state)
  counted_state s h (inr is) = (max_unsigned, (named_stands _ _ is).state)

  -- so it has buckets
  pub counted_buckets : (s : CountState) (h : CountHistory) → IsCounted eq codec content s h → 0 < s.buckets
  counted_buckets s h is = let state = counted_state s h is in omega (arith, state.1.some_buckets)

-- a set is part of another where that one has each of its members
part_by_members : (s t : Numbers) → (set.is_subset s t ≡ true) ↔ ((p : ℕ) → set.contains s p ≡ true → set.contains t p ≡ true)
part_by_members s t = (set.is_subset-contains nat_cmp_total s t, set.contains-is_subset nat_cmp_total s t)

-- a filter whose set is denoted by a history contains an item where that has all positions
pub contains_denoted : (s : FilterState) (h : BloomHistory) (bytes : List ℕ) → s.set ≡ denoted_set h
    → (contains_item s bytes ≡ true) ↔ ((p : ℕ) → set.contains (item_positions s bytes) p ≡ true → set.contains (denoted_set h) p ≡ true)
contains_denoted s h bytes e =
    subst (λ (t : Numbers). (contains_item s bytes ≡ true) ↔ ((p : ℕ) → set.contains (item_positions s bytes) p ≡ true → set.contains t p ≡ true)) e
    (part_by_members (item_positions s bytes) s.set)
