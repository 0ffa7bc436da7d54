use Rattle.std.proofs.Common.{arith}
use Rattle.sketches.proofs.TakenKeys.{finds_new, finds_old, key_too_many}
use Rattle.sketches.proofs.weight.file_keys.index_of.Goals as goal

pub returns-in-Some-clause-found : goal.returns-in-Some-clause-found
returns-in-Some-clause-found c = finds_old c.args.sums.now.entries c.args.key.now c.in-Some.field-0-1.now c.in-Some.field-0-2.now c.in-Some.index c.in-Some.ensures.key c.in-Some.ensures.entry

pub returns-then-len-max_keys-clause-failed : goal.returns-then-len-max_keys-clause-failed
returns-then-len-max_keys-clause-failed c = λ order. key_too_many c.args.max_keys c.args.sums.now.entries order c.args.key.now c.len-len.ensures.unique c.in_default.ensures.key (omega (arith, c.if-len-max_keys.true, c.len-len.ensures.len))

pub returns-clause-found : goal.returns-clause-found
returns-clause-found c = finds_new c.args.sums.now.entries c.insert.new.self.entries c.args.key.now c.in_ok-stored.stored c.len-len.result c.in_ok-stored.ensures.items c.in_default.ensures.key c.in_ok-insert.ensures.entries c.len-len.ensures.len
