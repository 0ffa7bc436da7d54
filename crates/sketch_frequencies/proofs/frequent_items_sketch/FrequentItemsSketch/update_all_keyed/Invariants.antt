use Rattle.std.proofs.Common.{◌≡◌, ◌++◌, length}
use Rattle.counter_table.specs.declared.table_key.TableKey.TheVariants.{Keyed}
use Rattle.sketch_frequencies.specs.KeysAhead.{AreHashed, names_ahead}
use Rattle.sketch_frequencies.specs.State.{IsState}
use Rattle.sketch_frequencies.proofs.KeyedBatches.{HasAdded}
use Rattle.sketch_frequencies.proofs.frequent_items_sketch.FrequentItemsSketch.update_all_keyed.Given as goal

-- the items of the keys before those that were taken last were added
abbrev pub invariant-each : goal.invariant-each
invariant-each g l = record {
  added : HasAdded g.T.PartialEq.eq l.fn.self (g.K.Keys.names l.fn.keys) (names_ahead g.K.Key.ItemKey.names l.now ++ g.K.Keys.names l.keys) l.self;
  hashed : AreHashed g.K.Key.Item.bytes (Keyed l.fn.secret) l.now (g.K.Keys.names l.keys);
  keyed : l.self.key ≡ Keyed l.fn.secret;
  state : IsState g.T.PartialEq.eq l.self;
}

abbrev pub decreases-each : goal.decreases-each
decreases-each g l = length (names_ahead g.K.Key.ItemKey.names l.now ++ g.K.Keys.names l.keys)
