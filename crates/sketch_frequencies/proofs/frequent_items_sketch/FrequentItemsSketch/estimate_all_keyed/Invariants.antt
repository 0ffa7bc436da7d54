use Rattle.std.proofs.Common.{◌≡◌, ◌++◌, length, map, take, drop}
use Rattle.std.specs.List.{AllZip}
use Rattle.std.specs.Prelude.{IsTrue}
use Rattle.counter_table.specs.declared.table_key.TableKey.TheVariants.{Keyed}
use Rattle.sketch_frequencies.specs.State.{estimate_by_key}
use Rattle.sketch_frequencies.specs.Stands.{IsExactOfFew}
use Rattle.sketch_frequencies.specs.KeysAhead.{AreHashed, names_ahead}
use Rattle.sketch_frequencies.proofs.frequent_items_sketch.FrequentItemsSketch.estimate_all_keyed.Given as goal

-- the answers so far are written, and the other keys are left
abbrev pub invariant-each : goal.invariant-each
invariant-each g l = record {
  left : names_ahead g.K.Key.ItemKey.names l.now ++ g.K.Keys.names l.keys ≡ drop l.i (g.K.Keys.names l.fn.keys);
  value : take l.i l.estimates ≡ map (λ names. estimate_by_key names l.self) (take l.i (g.K.Keys.names l.fn.keys));
  holds : AllZip (λ names answer. (x : g.row.T.Denot) → IsTrue (names x) → IsExactOfFew g.T.PartialEq.eq l.self x answer) (take l.i (g.K.Keys.names l.fn.keys)) (take l.i l.estimates);
  hashed : AreHashed g.K.Key.Item.bytes (Keyed l.fn.secret) l.now (g.K.Keys.names l.keys);
}

abbrev pub decreases-each : goal.decreases-each
decreases-each g l = length (names_ahead g.K.Key.ItemKey.names l.now ++ g.K.Keys.names l.keys)
