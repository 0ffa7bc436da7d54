use Rattle.std.specs.Vec.{vec_capacity}
use Rattle.counter_table.specs.Bytes.{option_bytes}
use Rattle.datasketches.specs.contracts.session.Session.run.{T-row}
use Rattle.datasketches.specs.Running.{Midst}
use Rattle.datasketches.proofs.session.Session.run.Given as goal

abbrev pub invariant-loop-command : goal.invariant-loop-command
invariant-loop-command g l =
    Midst (option_bytes (T-row g.row.T)) g.T.PartialEq.eq g.T.Hash.hash_input g.T.FrequentItemValue.codec g.T.FrequentItemValue.content l.fn.self l.self l.fn.commands.items l.command-iterator.rest.items l.replies.items (vec_capacity l.replies)
