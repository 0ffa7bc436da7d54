use Rattle.datasketches.proofs.session.Session.contains.Goals as goal

pub returns : goal.returns
returns g c = λ x is. (c.told-reply.result, rw c.told-reply.ensures (c.ask.ensures.performed x is), c.contains_in.ensures)
