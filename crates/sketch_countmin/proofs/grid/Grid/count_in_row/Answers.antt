use Rattle.std.proofs.Common.{arith, ap, subst, take, ◌∙◌, ◌≡◌, ℕ, ◌+◌, ◌*◌, ◌<◌, ◌≤◌, List, [], map, length, get_or, set, ℤ, pos, ◌+ℤ◌, unsigned_abs}
use Rattle.std.proofs.lemmas.List.{length-map, take_all}
use Rattle.std.specs.Prelude.{slice_index}
use Rattle.sketch_base.specs.Hashes.{fed_bytes}
use Rattle.sketch_countmin.specs.Buckets.{bucket_by}
use Rattle.sketch_countmin.specs.Cells.{RowCounted, flat_at}
use Rattle.sketch_countmin.proofs.Grids.{slice_size, of_slice, row_written}
use Rattle.sketch_countmin.proofs.RowCounts.{row_start, row_counted, room_in_row, read_item}
use Rattle.sketch_countmin.proofs.grid.Grid.count_in_row.Given as given
use Rattle.sketch_countmin.proofs.grid.Grid.count_in_row.Goals as goal
use Rattle.sketch_countmin.proofs.grid.Grid.count_in_row.Goals.{After-ONE}

-- the bytes of all items
abbrev fed : (g : given.Over) → After-ONE g → List (List ℕ)
fed g c = map (fed_bytes g.I.Hash.hash_input) c.args.items.now

-- the bucket of bytes in the row
abbrev bucket : (g : given.Over) → After-ONE g → List ℕ → ℕ
bucket g c = bucket_by c.self.inside.buckets (slice_index c.deref.result.now c.args.row)

-- the item's bytes
read : (g : given.Over) (c : After-ONE g) → fed_bytes g.I.Hash.hash_input c.item-item.result ≡ get_or (fed g c) c.loop-item.item-index []
read g c = read_item (fed_bytes g.I.Hash.hash_input) c.args.items.now c.loop-item.item-index c.item-item.result c.loop-item-test.true c.item-item.is

-- where its cell lies
index : (g : given.Over) (c : After-ONE g) → c.index_by_seed-index.result ≡ c.args.row * c.self.inside.buckets + bucket g c (get_or (fed g c) c.loop-item.item-index [])
index g c = subst (λ (bytes : List ℕ). c.index_by_seed-index.result ≡ c.args.row * c.self.inside.buckets + bucket g c bytes) (read g c) c.index_by_seed-index.ensures.index

in_row : (g : given.Over) (c : After-ONE g) → bucket g c (get_or (fed g c) c.loop-item.item-index []) < c.self.inside.buckets
in_row g c = subst (λ (bytes : List ℕ). bucket g c bytes < c.self.inside.buckets) (read g c) c.index_by_seed-index.ensures.bucket

more : (g : given.Over) (c : After-ONE g) → c.loop-item.item-index < length (fed g c)
more g c = omega (arith, length-map c.args.items.now (fed_bytes g.I.Hash.hash_input), c.loop-item-test.true)

-- the room in the row's cells
room : (g : given.Over) (c : After-ONE g) → let number = g.T.CountMinValue.number in
    (b : ℕ) → b < c.self.inside.buckets → unsigned_abs (flat_at c.self.inside.buckets (map number c.as_mut_slice-counts.result.now) c.args.row b) + length c.args.items.now ≤ g.T.CountMinValue.greatest
room g c =
    of_slice g.T.CountMinValue.number (λ buckets cells. (b : ℕ) → b < buckets → unsigned_abs (flat_at buckets cells c.args.row b) + length c.args.items.now ≤ g.T.CountMinValue.greatest)
    _ _ _ _ _ c.self.view_is c.as_mut_slice-counts.ensures.value c.requires.room

pub loop-item-init : goal.loop-item-init
loop-item-init g c = row_start _ _ _ _

pub add_at-requires-clause-room : goal.add_at-requires-clause-room
add_at-requires-clause-room g c =
    let one : g.T.CountMinValue.number c.ONE.result ≡ pos 1 = ap g.T.CountMinValue.number c.ONE.ensures ∙ g.met.T.CountMinValue.one_is in
    rw one (room_in_row _ _ g.T.CountMinValue.greatest _ (fed g c) c.loop-item.item-index _ (map g.T.CountMinValue.number c.loop-item.counts) _ _ c.loop-item.invariant (more g c) (in_row g c) (index g c)
    (omega (arith, length-map c.args.items.now (fed_bytes g.I.Hash.hash_input), room g c _ (in_row g c))))

pub loop-item-preserved : goal.loop-item-preserved
loop-item-preserved g c =
    let now = (goal.at.loop-item-preserved g c).After-ONE in
    let number = g.T.CountMinValue.number in
    let one : number c.ONE.result ≡ pos 1 = ap number c.ONE.ensures ∙ g.met.T.CountMinValue.one_is in
    let k : ℕ = c.index_by_seed-index.result in
    let mid : List ℤ = map number c.loop-item.counts in
    row_counted _ _ _ (fed g now) c.loop-item.item-index _ mid _ c.loop-item.invariant (more g now) k (in_row g now) (index g now)
    (omega (arith, c.index_by_seed-index.ensures.inside, length-map c.loop-item.counts number, c.loop-item.auto.counts, slice_size number _ _ _ c.self.inside.counts _ c.self.invariant c.deref.ensures.value c.as_mut_slice-counts.ensures.value))
    (c.add_at.ensures ∙ ap (λ (z : ℤ). set mid k (get_or mid k (pos 0) +ℤ z)) one)

pub returns : goal.returns
returns g c =
    let number = g.T.CountMinValue.number in
    let items : List (List ℕ) = map (fed_bytes g.I.Hash.hash_input) c.args.items.now in
    let all : take c.loop-item.item-index items ≡ items = take_all c.loop-item.item-index items (omega (arith, length-map c.args.items.now (fed_bytes g.I.Hash.hash_input), c.loop-item-test.false)) in
    let d : ℕ = c.self.inside.buckets in
    let counts = c.as_mut_slice-counts.result.now in
    row_written number items c.args.row _ _ _ d c.self.inside.counts counts _ c.self.view_is c.deref.ensures.value c.as_mut_slice-counts.ensures.value c.as_mut_slice-counts.ensures.len c.loop-item.auto.counts
    (subst (λ (items : List (List ℕ)). RowCounted d (bucket_by d (slice_index c.deref.result.now c.args.row)) items c.args.row (map number counts) (map number c.loop-item.counts)) all c.loop-item.invariant)
