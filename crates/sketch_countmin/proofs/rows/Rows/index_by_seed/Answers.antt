use Rattle.std.proofs.Common.{arith, refl, ◌+◌, ◌*◌, ◌<◌, length}
use Rattle.sketch_countmin.proofs.Places.{inside_wide}
use Rattle.sketch_countmin.proofs.rows.Rows.index_by_seed.Goals as goal

pub overflow_mul-result : goal.overflow_mul-result
overflow_mul-result g c =
    let cells = length c.args.self.now.seeds.now * c.args.self.now.buckets in
    let start : c.args.row * c.divisor.result + 0 < cells = inside_wide c.args.self.now.buckets (length c.args.self.now.seeds.now) c.args.row 0 cells c.divisor.result c.divisor.ensures.value refl c.requires.row (omega (arith, c.divisor.ensures.above_one, c.divisor.ensures.value)) in
    omega (arith, start, c.args.self.now.fits)

pub overflow_add-result : goal.overflow_add-result
overflow_add-result g c =
    let cells = length c.args.self.now.seeds.now * c.args.self.now.buckets in
    let index : c.args.row * c.divisor.result + c.bucket_in-bucket.result < cells = inside_wide c.args.self.now.buckets (length c.args.self.now.seeds.now) c.args.row c.bucket_in-bucket.result cells c.divisor.result c.divisor.ensures.value refl c.requires.row c.bucket_in-bucket.ensures.below in
    omega (arith, index, c.args.self.now.fits)

pub returns-clause-inside : goal.returns-clause-inside
returns-clause-inside g c =
    let cells = length c.args.self.now.seeds.now * c.args.self.now.buckets in
    inside_wide c.args.self.now.buckets (length c.args.self.now.seeds.now) c.args.row c.bucket_in-bucket.result cells c.divisor.result c.divisor.ensures.value refl c.requires.row c.bucket_in-bucket.ensures.below
