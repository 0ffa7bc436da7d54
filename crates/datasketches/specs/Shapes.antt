-- Shapes, by which sketches are created.
use Rattle.std.specs.Prelude.{Option}
use Rattle.counter_table.specs.declared.table_key.TableKey.{TableKey}
use Rattle.sketch_base.specs.declared.fault.Fault.{Fault}
use Rattle.sketch_frequencies.specs.Sizes.{sizes_fault}
use Rattle.sketch_frequencies.specs.State as frequent
use Rattle.sketch_countmin.specs.Shapes.{shape_fault}
use Rattle.sketch_countmin.specs.State as count
use Rattle.sketch_bloom.specs.Building.{request_fault, words_for}
use Rattle.sketch_bloom.specs.State as bloom
use Rattle.datasketches.specs.Actions.{Shape, Shape as shape}
use Rattle.datasketches.specs.declared.sketch.Sketch.{Sketch}
use Rattle.datasketches.specs.declared.sketch.Sketch.TheVariants.{Frequent, CountI64, CountU64, Bloom}

-- the fault of a shape, if any
abbrev pub fault_of : Shape → Option Fault
fault_of (shape.Frequent sizes) = sizes_fault sizes.max_map_size sizes.sample_size
fault_of (shape.CountI64 sizes) = shape_fault sizes.num_hashes sizes.num_buckets sizes.seed
fault_of (shape.CountU64 sizes) = shape_fault sizes.num_hashes sizes.num_buckets sizes.seed
fault_of (shape.Bloom request) = request_fault request

-- the empty sketch of a shape. That of frequent items hashes under the key
abbrev pub empty_sketch : {T : Type 0} → TableKey → Shape → Sketch T
empty_sketch key (shape.Frequent sizes) = Frequent (frequent.empty_state sizes.max_map_size sizes.sample_size key)
empty_sketch key (shape.CountI64 sizes) = CountI64 (count.empty_state sizes.num_hashes sizes.num_buckets sizes.seed)
empty_sketch key (shape.CountU64 sizes) = CountU64 (count.empty_state sizes.num_hashes sizes.num_buckets sizes.seed)
empty_sketch key (shape.Bloom request) =
    Bloom (bloom.empty_state (words_for request.num_bits) request.num_hashes request.seed)
