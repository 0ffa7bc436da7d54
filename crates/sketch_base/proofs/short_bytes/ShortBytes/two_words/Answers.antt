use Rattle.std.proofs.Common.{◌<◌, ◌≤◌, ap, arith, length, rules, sym}
use Rattle.std.proofs.lemmas.List.{length-take-le}
use Rattle.sketch_base.proofs.SipStrings.{ended_zeros, two_words}
use Rattle.sketch_base.proofs.short_bytes.ShortBytes.two_words.Goals as goal

pub begun_word-requires-clause-zeros : goal.begun_word-requires-clause-zeros
begun_word-requires-clause-zeros c =
    let long = length-take-le c.self.inside.len c.self.inside.buffer (omega (arith, c.self.invariant.0, c.self.told)) in
    ended_zeros c.self.inside.buffer c.self.inside.len (search rules) (omega (arith, c.requires.many, ap length c.self.view_is, long)) c.self.invariant.1

pub returns : goal.returns
returns c = λ key.
    let long = length-take-le c.self.inside.len c.self.inside.buffer (omega (arith, c.self.invariant.0, c.self.told)) in
    let many : 8 ≤ c.self.inside.len = omega (arith, c.requires.many, ap length c.self.view_is, long) in
    let few : c.self.inside.len < 16 = omega (arith, c.requires.few, ap length c.self.view_is, long) in
    two_words key c.args.self.now c.self.inside.buffer c.self.inside.len _ c.begun_word.result _ (search rules) many few (sym c.self.view_is) c.self.invariant.1 c.word_at.ensures c.begun_word.ensures.word (omega arith)
