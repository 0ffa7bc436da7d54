use Rattle.any_sketch.specs.ManyItems.{rows_in}
use Rattle.any_sketch.proofs.Places.{place_count, places_again}
use Rattle.any_sketch.proofs.filter_batches.contains_by_row.Goals as goal

-- there is a place for each item
pub contains_each-requires : goal.contains_each-requires
contains_each-requires c = place_count c.args.items.validity c.copy_of-validity.result (rows_in c.args.items.rows) c.args.results.now c.first_place-from.result c.copy_of-validity.ensures c.first_place-from.ensures c.requires

-- all other places are as before
pub spread-requires : goal.spread-requires
spread-requires c = places_again c.copy_of-validity.result c.args.results.now c.contains_each.new.results c.first_place-from.result c.first_place-from.ensures c.contains_each.auto.results
