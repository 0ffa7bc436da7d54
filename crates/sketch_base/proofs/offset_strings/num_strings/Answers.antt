use Rattle.std.proofs.Common.{ℕ, ◌-◌, sym, ap, ◌∙◌}
use Rattle.sketch_base.proofs.ManyStrings.{length-strings_of}
use Rattle.sketch_base.proofs.offset_strings.num_strings.Goals as goal

pub returns-clause-strings : goal.returns-clause-strings
returns-clause-strings g c = ap (λ (n : ℕ). n - 1) c.len.ensures ∙ sym (length-strings_of c.args.bytes.now (g.O.Offsets.offsets c.args.offsets))
