use Rattle.sketches.proofs.Results.{on_ok}
use Rattle.sketches.proofs.Utf8Strings.{string_grows_none}
use Rattle.sketches.proofs.count.counting.add_items.Goals as goal

pub returns-in-Ok-clause-counted : goal.returns-in-Ok-clause-counted
returns-in-Ok-clause-counted c = on_ok c.add_text.result _ _ (λ _. string_grows_none c.args.selection c.args.bytes.now c.args.not_utf8.now c.in-Ok.ensures.cases.1) c.add_text.ensures.added
