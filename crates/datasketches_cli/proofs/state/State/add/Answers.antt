use Rattle.std.proofs.Common.{refl, sym, ◌∙◌, arith}
use Rattle.std.proofs.lemmas.Bool.{false≢true}
use Rattle.datasketches_cli.proofs.TextItems.{text_named, added, added_after}
use Rattle.datasketches_cli.proofs.state.State.add.Goals as goal

pub returns-in-Ok : goal.returns-in-Ok
returns-in-Ok c = λ lines.
    let (x, same, named) = text_named c.args.item.now c.utf8.item (omega arith) c.args.alloc in
    rw (← c.in-Some.ensures) ((added_after _ _ _ _ _ _ _ _ (c.is_out_of_memory.ensures.rejected c.if-is_out_of_memory.true) (c.add_by_key-outcome.ensures x named) (c.in-Ok.item, c.in-Ok.ensures.ok, c.add.ensures.step), refl), refl)

pub returns : goal.returns
returns c = λ lines.
    let (x, same, named) = text_named c.args.item.now c.utf8.item (omega arith) c.args.alloc in
    rw (← c.in-Some.ensures) ((added _ _ _ _ _ _ (λ out. false≢true (sym c.if-is_out_of_memory.false ∙ c.is_out_of_memory.ensures.memory out)) (c.add_by_key-outcome.ensures x named), refl), refl)
