use Rattle.std.proofs.Common.{◌*◌, ◌≤◌, ap, sym, subst}
use Rattle.sketch_frequencies.specs.History.{min_size, min_sample, total_weight}
use Rattle.sketch_frequencies.proofs.Bounds.{error_sampled, error_small, error_large}
use Rattle.sketch_frequencies.proofs.frequent_items_sketch.FrequentItemsSketch.maximum_error.Goals as goal

pub returns-clause-sampled : goal.returns-clause-sampled
returns-clause-sampled g c = λ h encloses keeps. subst (λ e. min_sample h * e ≤ 2 * total_weight h) (sym (ap (λ s. s.error) c.self.view_is)) (error_sampled g.T.PartialEq.eq c.args.self.now h encloses keeps)

pub returns-clause-small : goal.returns-clause-small
returns-clause-small g c = λ h encloses keeps usual small. subst (λ e. 3 * min_size h * e ≤ 8 * total_weight h) (sym (ap (λ s. s.error) c.self.view_is)) (error_small g.T.PartialEq.eq c.args.self.now h encloses keeps usual small)

pub returns-clause-large : goal.returns-clause-large
returns-clause-large g c = λ h encloses keeps usual large. subst (λ e. 512 * e ≤ total_weight h) (sym (ap (λ s. s.error) c.self.view_is)) (error_large g.T.PartialEq.eq c.args.self.now h encloses keeps usual large)
