use Rattle.std.proofs.Common.{rules, ap, ◌∙◌}
use Rattle.std.proofs.lemmas.Fn.{filter_same}
use Rattle.sketch_base.specs.Hashes.{fed_bytes}
use Rattle.sketch_bloom.specs.State.{contains_item}
use Rattle.uses.specs.Prefilters.{joined}
use Rattle.uses.proofs.Prefilters.{joined_kept}
use Rattle.uses.proofs.join_prefilter.JoinPrefilter.prune.Goals as goal

pub returns-clause-kept : goal.returns-clause-kept
returns-clause-kept g c =
    filter_same _ (λ row. contains_item c.args.self.now (fed_bytes g.K.Hash.hash_input row.0)) _ (λ x b f' k. search rules) c.args.rows.now.items c.retain.new.self.items c.retain.ensures.filtered

pub returns-clause-join : goal.returns-clause-join
returns-clause-join g c = λ parts passes.
    ap (joined (λ row. fed_bytes g.K.Hash.hash_input row.0) parts) (returns-clause-kept g c)
    ∙ joined_kept (λ row. fed_bytes g.K.Hash.hash_input row.0) (contains_item c.args.self.now) parts passes c.args.rows.now.items
