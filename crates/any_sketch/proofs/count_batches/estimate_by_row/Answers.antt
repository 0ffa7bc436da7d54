use Rattle.std.proofs.Common.{sym}
use Rattle.any_sketch.specs.ManyItems.{rows_in}
use Rattle.any_sketch.proofs.Places.{place_count, places_again}
use Rattle.any_sketch.proofs.count_batches.estimate_by_row.Goals as goal

-- there is a place for each item
pub estimate_valid-requires : goal.estimate_valid-requires
estimate_valid-requires g c = sym (place_count c.args.items.validity c.copy_of-validity.result (rows_in c.args.items.rows) c.args.estimates.now c.first_place-from.result c.copy_of-validity.ensures c.first_place-from.ensures c.requires)

-- all other places are as before
pub spread-requires : goal.spread-requires
spread-requires g c = places_again c.copy_of-validity.result c.args.estimates.now c.estimate_valid.new.estimates c.first_place-from.result c.first_place-from.ensures c.estimate_valid.auto.estimates
