use Rattle.std.proofs.Common.{ℕ, List, ap}
use Rattle.sketch_base.proofs.fault.Fault.text.Goals as goal

pub returns : goal.returns
returns c = ap (λ (words : List ℕ × List ℕ). words.1) c.words.ensures
