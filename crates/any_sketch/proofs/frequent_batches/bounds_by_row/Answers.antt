use Rattle.any_sketch.proofs.Places.{places_again}
use Rattle.any_sketch.proofs.frequent_batches.bounds_by_row.Goals as goal

-- all other places are as before
pub spread-requires : goal.spread-requires
spread-requires g c = places_again c.args.validity.now c.args.bounds.now c.bounds_of_all.new.bounds c.first_place-from.result c.first_place-from.ensures c.bounds_of_all.auto.bounds
