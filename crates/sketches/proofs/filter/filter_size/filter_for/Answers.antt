use Rattle.sketches.proofs.filter.filter_size.filter_for.Goals as goal

-- the filter has the shape for the target
pub returns-clause-made : goal.returns-clause-made
returns-clause-made c = record {
  shape = c.in_ok-shape.shape;
  is_for = c.in_ok-shape.ensures.made;
  is = rw (c.seed.ensures, c.with_size.ensures) at c.in_ok-build.ensures.ok;
}
