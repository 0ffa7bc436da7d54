use Rattle.std.proofs.Common.{ℕ, ◌<◌, ◌^◌}
use Rattle.std.proofs.lemmas.List.Elements.{All-from_get_or}
use Rattle.sketch_bloom.proofs.bit_set.have_range.Goals as goal

pub returns : goal.returns
returns c = All-from_get_or (λ (word : ℕ). word < 2 ^ 64) c.args.words.now 0 (λ k l. (c.type_inv.words k).fits)
