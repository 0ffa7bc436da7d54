use Rattle.std.proofs.Common.{rules, arith}
use Rattle.datasketches.specs.Actions.{Alter, Insert}
use Rattle.datasketches.specs.Replies.{done_or}
use Rattle.datasketches_cli.specs.Steps.{DidWith}
use Rattle.datasketches_cli.proofs.TextItems.{text_named}
use Rattle.datasketches_cli.proofs.state.State.run_two.Goals as goal

pub returns-in-insert : goal.returns-in-insert
returns-in-insert c =
    let (x, same, named) = text_named c.args.b.now c.utf8.b (omega arith) c.args.alloc in
    let did : DidWith c.args.b.now (λ x. Alter c.args.a.now (Insert x)) c.args.self.now.session (done_or c.insert.result) c.insert.new.self = (x, same, (c.insert.ensures x named).step) in
    search (rules, did)
