use Rattle.std.proofs.Common.{None, refl}
use Rattle.std.specs.declared.io.Error.{Error}
use Rattle.sketches.proofs.SummedInputs.{file_taken, keys_few, keys_held, keys_not_taken}
use Rattle.sketches.proofs.weight.exact_weights.keys_of.Goals as goal

pub returns-in-Ok-None-clause-taken : goal.returns-in-Ok-None-clause-taken
returns-in-Ok-None-clause-taken g c =
    keys_held c.args.options (g.R.LineSource.remaining c.args.keys.now) (record { part = c.args.options.keys_part; max_keys = c.args.options.max_keys; sums = c.with_hasher.result; order = c.new.result }, tt) (c.read_lines.new.sink, c.read_lines.new.output)
    refl c.with_hasher.ensures.empty c.new.ensures.items (file_taken {E = Error} (g.R.LineSource.remaining c.args.keys.now) (g.R.LineSource.fails c.args.keys.now) None (record { part = c.args.options.keys_part; max_keys = c.args.options.max_keys; sums = c.with_hasher.result; order = c.new.result }, tt) (c.read_lines.new.sink, c.read_lines.new.output) refl (rw c.in-Ok-None.field-0-is at c.in-Ok-None.ensures.taken))

pub returns-in-Ok-None-clause-few : goal.returns-in-Ok-None-clause-few
returns-in-Ok-None-clause-few g c =
    keys_few c.args.options (g.R.LineSource.remaining c.args.keys.now) (record { part = c.args.options.keys_part; max_keys = c.args.options.max_keys; sums = c.with_hasher.result; order = c.new.result }, tt) (c.read_lines.new.sink, c.read_lines.new.output)
    refl refl c.with_hasher.ensures.empty c.new.ensures.items (file_taken {E = Error} (g.R.LineSource.remaining c.args.keys.now) (g.R.LineSource.fails c.args.keys.now) None (record { part = c.args.options.keys_part; max_keys = c.args.options.max_keys; sums = c.with_hasher.result; order = c.new.result }, tt) (c.read_lines.new.sink, c.read_lines.new.output) refl (rw c.in-Ok-None.field-0-is at c.in-Ok-None.ensures.taken))

pub returns-in-Err-clause-failed : goal.returns-in-Err-clause-failed
returns-in-Err-clause-failed g c =
    keys_not_taken c.args.options c.args.limit (g.R.LineSource.remaining c.args.keys.now) (record { part = c.args.options.keys_part; max_keys = c.args.options.max_keys; sums = c.with_hasher.result; order = c.new.result }, tt) (c.read_lines.new.sink, c.read_lines.new.output)
    c.in-Err.failure refl refl c.with_hasher.ensures.empty c.new.ensures.items c.in-Err.ensures.failed
