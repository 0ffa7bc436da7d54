use Rattle.std.proofs.Common.{◌≡◌, ◌≢◌, ℕ, Option, None, ◌*◌, ◌<◌, ◌≤◌, ◌^◌, refl, sym, subst, ◌∙◌, arith}
use Rattle.std.specs.Prelude.{IfErr}
use Rattle.std.proofs.lemmas.Bool.{ne_eqb, le-ltb, lt-leb}
use Rattle.sketch_base.specs.Errors.{refusal_of}
use Rattle.sketch_base.specs.Hashes.{seed_hash}
use Rattle.sketch_base.specs.declared.fault.Fault.{Fault}
use Rattle.sketch_countmin.specs.Shapes.{shape_fault}
use Rattle.sketch_countmin.proofs.Numbers.{cells_fit}
use Rattle.sketch_countmin.proofs.count_min_sketch.CountMinSketch.with_seed.Given as given
use Rattle.sketch_countmin.proofs.count_min_sketch.CountMinSketch.with_seed.Goals as goal
use Rattle.sketch_countmin.proofs.count_min_sketch.CountMinSketch.with_seed.Goals.{After-empty}

-- a shape that passes each test has no fault
no_fault : (hashes buckets seed : ℕ) → hashes ≢ 0 → 3 ≤ buckets → hashes * buckets < 2 ^ 30 → seed_hash seed ≢ 0 → shape_fault hashes buckets seed ≡ None
no_fault hashes buckets seed some wide few seeded = rw (ne_eqb hashes 0 some, le-ltb buckets 3 wide, lt-leb (2 ^ 30) (hashes * buckets) few, ne_eqb (seed_hash seed) 0 seeded) refl

passes : (g : given.Over) (c : After-empty g) → shape_fault c.args.num_hashes c.args.num_buckets c.args.seed ≡ None
passes g c = no_fault c.args.num_hashes c.args.num_buckets c.args.seed c.if-num_hashes-eq0.false c.if-num_buckets-lt-MIN_NUM_BUCKETS.false c.if-size-ge-MAX_TABLE_ENTRIES.false (λ zero. c.in_ok-compute_seed_hash.ensures.value.1 (c.in_ok-compute_seed_hash.ensures.value.0 ∙ zero))

pub overflow_mul-size : goal.overflow_mul-size
overflow_mul-size g c = record { fits = cells_fit c.args.num_hashes c.args.num_buckets c.ranges.num_hashes.fits c.ranges.num_buckets.fits }

pub returns-clause-accepted : goal.returns-clause-accepted
returns-clause-accepted g c = λ made. passes g c

pub returns-clause-refused : goal.returns-clause-refused
returns-clause-refused g c = subst (λ (fault : Option Fault). IfErr c.empty.result (λ e. e ≡ refusal_of fault)) (sym (passes g c)) c.empty.ensures.err

pub empty-requires : goal.empty-requires
empty-requires g c = record {
  some_hashes = omega (arith, c.if-num_hashes-eq0.false);
  some_buckets = c.if-num_buckets-lt-MIN_NUM_BUCKETS.false;
  few_cells = c.if-size-ge-MAX_TABLE_ENTRIES.false;
  seeded = λ zero. c.in_ok-compute_seed_hash.ensures.value.1 (c.in_ok-compute_seed_hash.ensures.value.0 ∙ zero);
}

pub returns-clause-ok : goal.returns-clause-ok
returns-clause-ok g c = c.empty.ensures.ok

pub returns-clause-state : goal.returns-clause-state
returns-clause-state g c = c.empty.ensures.state

pub returns-clause-stands : goal.returns-clause-stands
returns-clause-stands g c = c.empty.ensures.stands
