-- Strings that were added to a sketch.
use Rattle.std.specs.Prelude.{◌≡◌, ℕ, ◌+◌, List, [], length, map}
use Rattle.std.specs.Global.{Global}
use Rattle.std.specs.String.{string_bytes, string_eq}
use Rattle.std.specs.declared.string.String.{String}
use Rattle.sketch_frequencies.specs.Batches.{StepsEqualAlong, all_updated}
use Rattle.sketch_frequencies.specs.Stands.{Extends, ExtendsBudget}
use Rattle.sketch_frequencies.specs.State.{FrequentState}
use Rattle.sketch_frequencies.specs.WeightedBatches.{StepsEqualWeighed, all_weighed}
use Rattle.sketches.specs.Weighed.{Weighed, total_of, unweighed_of, unweighed_of_line, weighed_of, weighed_of_line}
use Rattle.sketches.specs.declared.item.weighing.Weighing.{Weighing}

-- a sketch of strings
abbrev pub Sketch : Type 0
Sketch = FrequentState (String Global)

-- Each string was added with a weight of 1, by a step of its own, in order: the total grew by their number, and the sketch represents each history that
-- it represented before, with these updates, and keeps its tail budget. Its table hashes under the same key.
pub record AddsStrings (old : Sketch) (strings : List (List ℕ)) (new : Sketch) : Type 0 where
  pub items : List (String Global)
  pub are : map string_bytes items ≡ strings
  pub steps : StepsEqualAlong string_eq old items new
  pub total : new.total ≡ old.total + length strings
  pub key : new.key ≡ old.key
  pub stands : Extends string_eq old new (λ h. all_updated h items)
  pub budget : ExtendsBudget string_eq old new (λ h. all_updated h items)

-- The weight of each item was added by a step of its own, in order: the total grew by their sum, and the sketch represents each history that it
-- represented before, with these updates, and keeps its tail budget. Its table hashes under the same key.
pub record AddsWeighed (old : Sketch) (pairs : Weighed) (new : Sketch) : Type 0 where
  pub items : List (String Global × ℕ)
  pub are : map (λ pair. (string_bytes pair.0, pair.1)) items ≡ pairs
  pub steps : StepsEqualWeighed string_eq old items new
  pub total : new.total ≡ old.total + total_of pairs
  pub key : new.key ≡ old.key
  pub stands : Extends string_eq old new (λ h. all_weighed h items)
  pub budget : ExtendsBudget string_eq old new (λ h. all_weighed h items)

-- the items of lines were added with their weights, and each line with an item has a weight
abbrev pub AddsLines : Weighing → Sketch → List ℕ → Sketch → Type 0
AddsLines chosen old bytes new = AddsWeighed old (weighed_of chosen bytes) new × (unweighed_of chosen bytes ≡ [])

-- the same for one line
abbrev pub AddsLine : Weighing → Sketch → List ℕ → Sketch → Type 0
AddsLine chosen old line new = AddsWeighed old (weighed_of_line chosen line) new × (unweighed_of_line chosen line ≡ [])
