-- Replies to queries, for each kind of sketch.
use Rattle.std.specs.Prelude.{◌≡◌, ℕ, ◌+◌, ◌⊎◌, Bool, List, length, ℤ, pos}
use Rattle.std.specs.FinSet as set
use Rattle.std.specs.declared.vec.Vec.{Vec}
use Rattle.std.specs.Global.{Global}
use Rattle.sketch_base.specs.Hashes.{fed_bytes}
use Rattle.sketch_base.specs.Errors.{no_memory}
use Rattle.sketch_frequencies.specs.declared.error_type.ErrorType.{ErrorType}
use Rattle.sketch_frequencies.specs.RowValue.{RowValue}
use Rattle.sketch_frequencies.specs.Rows.{ShowsExactly, Descends}
use Rattle.sketch_frequencies.specs.State.{FrequentState, estimate_of, capacity}
use Rattle.counter_table.specs.Tables.{count_of}
use Rattle.sketch_countmin.specs.State.{CountState, IsMinCell, upper_bound_of}
use Rattle.sketch_bloom.specs.State.{contains_item, capacity_of}
use Rattle.datasketches.specs.declared.reply.Reply.{Reply}
use Rattle.datasketches.specs.declared.reply.Reply.TheVariants.{Bounds, Contains, Rows, Refused}
use Rattle.datasketches.specs.declared.reply.Refusal.TheVariants.{WrongKind}
use Rattle.datasketches.specs.declared.reply.Status.{Status}
use Rattle.datasketches.specs.declared.reply.Status.TheVariants as status
use Rattle.datasketches.specs.declared.sketch.Sketch.{Sketch}
use Rattle.datasketches.specs.declared.sketch.Sketch.TheVariants.{Frequent, CountI64, CountU64, Bloom}
use Rattle.datasketches.specs.Replies.{refused, max_signed, max_unsigned}

module _ {T : Type 0} (eq : T → T → Bool) where
  -- the reply with an item's estimate and bounds in a frequent items sketch
  abbrev pub bounds : T → FrequentState T → Reply T
  bounds item s =
      Bounds (pos (estimate_of eq s item)) (pos (count_of eq s.counters item))
      (pos (count_of eq s.counters item + s.error))

module _ {T : Type 0} where
  -- the reply has the minimum of the item's cells as estimate and as lower bound, and its upper bound. `greatest` is the maximum
  -- of the weight type
  abbrev pub TellsCount : ℕ → List ℕ → CountState → Reply T → Type 0
  TellsCount greatest bytes s reply =
      (least : ℤ) × IsMinCell s bytes least × (reply ≡ Bounds least least (upper_bound_of greatest s least))

module _ {T : Type 0} (eq : T → T → Bool) (input : T → List (List ℕ)) where
  -- the reply of a sketch to a query for an item
  abbrev pub Tells : T → Sketch T → Reply T → Type 0
  Tells item (Frequent s) reply = reply ≡ bounds eq item s
  Tells item (CountI64 s) reply = TellsCount max_signed (fed_bytes input item) s reply
  Tells item (CountU64 s) reply = TellsCount max_unsigned (fed_bytes input item) s reply
  Tells item (Bloom s) reply = reply ≡ Contains (contains_item s (fed_bytes input item))

module _ {T : Type 0} where
  -- the numbers of a sketch
  abbrev pub status_of : Sketch T → Status
  status_of (Frequent s) = status.Frequent (length s.counters) s.error s.total s.size s.max_size (capacity s.size)
  status_of (CountI64 s) = status.CountI64 (pos s.total) s.hashes s.buckets s.seed
  status_of (CountU64 s) = status.CountU64 s.total s.hashes s.buckets s.seed
  status_of (Bloom s) =
      status.Bloom (set.len s.set) (capacity_of s) s.num_hashes s.seed

module _ {T : Type 0} (eq : T → T → Bool) where
  -- the reply lists the items that pass, each once, by descending estimate; or allocation failed. Sketches of other kinds reject
  -- it
  abbrev pub Lists : ErrorType → ℕ → Sketch T → Reply T → Type 0
  Lists error_type threshold (Frequent s) reply =
      ((rows : Vec (RowValue T) Global) × (reply ≡ Rows rows)
      × ShowsExactly eq error_type threshold s rows.items × Descends rows.items)
      ⊎ (reply ≡ refused no_memory)
  Lists error_type threshold s reply = reply ≡ Refused WrongKind
