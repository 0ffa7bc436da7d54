use Rattle.std.proofs.Common.{ap}
use Rattle.counter_table.proofs.PurgeSamples.{entries_around, sample_of_all}
use Rattle.counter_table.proofs.slot_table.SlotTable.middle_of.Goals as goal

pub returns-then-size-le-SMALL_SAMPLE_SIZE-clause-middle : goal.returns-then-size-le-SMALL_SAMPLE_SIZE-clause-middle
returns-then-size-le-SMALL_SAMPLE_SIZE-clause-middle g c =
    let slots = ap (λ t. t.slots) c.self.view_is in
    sample_of_all c.args.size _ _ _ (entries_around c.sample_start-start.result c.args.self.now.slots) (rw slots at (rw c.deref.ensures.value at c.middle_in.ensures))

pub returns-else-size-le-SMALL_SAMPLE_SIZE-clause-middle : goal.returns-else-size-le-SMALL_SAMPLE_SIZE-clause-middle
returns-else-size-le-SMALL_SAMPLE_SIZE-clause-middle g c =
    let slots = ap (λ t. t.slots) c.self.view_is in
    sample_of_all c.args.size _ _ _ (entries_around c.sample_start-start.result c.args.self.now.slots) (rw slots at (rw c.deref-else-size-le-SMALL_SAMPLE_SIZE.ensures.value at c.middle_in-else-size-le-SMALL_SAMPLE_SIZE.ensures))
