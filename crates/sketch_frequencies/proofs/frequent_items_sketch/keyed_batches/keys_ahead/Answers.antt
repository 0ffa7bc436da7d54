use Rattle.std.proofs.Common.{ap}
use Rattle.counter_table.specs.TableHashes.{hash_of}
use Rattle.sketch_frequencies.proofs.frequent_items_sketch.keyed_batches.keys_ahead.Goals as goal

pub returns-in_default-next_key-clause-hashed : goal.returns-in_default-next_key-clause-hashed
unfolding hash_of
returns-in_default-next_key-clause-hashed g c = (c.keyed_hash.ensures, c.in_default-next_key.ensures.1)

pub returns-clause-hashed : goal.returns-clause-hashed
unfolding hash_of
returns-clause-hashed g c = (ap (λ h. h.0) c.keyed_hashes-first_hash.ensures, ap (λ h. h.1) c.keyed_hashes-first_hash.ensures)
