use Rattle.sketches.proofs.filter.filter_size.shape_for.Goals as goal

-- the sizes are those of the formulas, and there are at least the minimum number of bits
pub returns-clause-made : goal.returns-clause-made
returns-clause-made c = record {
  formula = c.in_ok-num_bits.num_bits;
  enough_bits = c.in_ok-num_bits.ensures.formula;
  least_bits = c.in_ok-num_bits.ensures.least;
  bits = c.max.ensures;
  enough_hashes = c.in_ok-hashes.ensures.enough;
  least_hashes = c.in_ok-hashes.ensures.least;
}
