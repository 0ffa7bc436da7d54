use Rattle.std.proofs.Common.{ap, length}
use Rattle.counter_table.specs.TableHashes.{hash_in}
use Rattle.counter_table.proofs.LookupFingerprints.{home_is}
use Rattle.counter_table.proofs.slot_table.look_ups.SlotSlices.find_free.Goals as goal

pub find_free_from-requires-clause-home : goal.find_free_from-requires-clause-home
find_free_from-requires-clause-home g c = home_is (hash_in c.args.self.now.key g.T.Hash.hash_input) c.args.item.now (length c.args.self.now.slots) c.args.hash c.home.result c.requires.hash (rw (ap (λ t. t.slots) c.self.view_is) at c.home.ensures)
