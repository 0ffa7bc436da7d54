use Rattle.std.proofs.Common.{◌≡◌, ◌+◌, arith, ap, sym, ◌∙◌, subst, unwrap_or}
use Rattle.counter_table.specs.Tables.{count_by_key}
use Rattle.sketch_frequencies.specs.State.{estimate_by_key, state_of}
use Rattle.sketch_frequencies.proofs.Estimates.{estimate_none, estimate_some, estimate_exact, estimate_item}
use Rattle.sketch_frequencies.proofs.Puts.{count_by_key_le_sum}
use Rattle.sketch_frequencies.proofs.frequent_items_sketch.FrequentItemsSketch.estimate_item.Goals as goal

pub overflow_add-result : goal.overflow_add-result
overflow_add-result g c =
    let names = g.K.ItemKey.names c.args.key in
    let es = c.self.inside.map.entries in
    let count : count_by_key names es ≡ c.in-Some.count = ap (λ o. unwrap_or o 0) (sym c.look_up_by_key.ensures ∙ c.in-Some.is) in
    omega (arith, count_by_key_le_sum names es, c.self.invariant.sum, count)

pub returns-in-Some-clause-value : goal.returns-in-Some-clause-value
returns-in-Some-clause-value g c =
    let names = g.K.ItemKey.names c.args.key in
    let old = state_of c.self.inside.map c.self.inside.error c.self.inside.total c.self.inside.max_size c.self.inside.sample_size in
    subst (λ s. c.in-Some.count + old.error ≡ estimate_by_key names s) c.self.view_is (estimate_some names old _ (sym c.look_up_by_key.ensures ∙ c.in-Some.is))

pub returns-in-None-clause-value : goal.returns-in-None-clause-value
returns-in-None-clause-value g c =
    let names = g.K.ItemKey.names c.args.key in
    let old = state_of c.self.inside.map c.self.inside.error c.self.inside.total c.self.inside.max_size c.self.inside.sample_size in
    subst (λ s. 0 ≡ estimate_by_key names s) c.self.view_is (estimate_none names old (sym c.look_up_by_key.ensures ∙ c.in-None.is))

pub returns-in-Some-clause-item : goal.returns-in-Some-clause-item
returns-in-Some-clause-item g c = λ x is. returns-in-Some-clause-value g c ∙ estimate_item (g.K.ItemKey.names c.args.key) (g.met.K.ItemKey.respects_eq c.args.key) c.args.self.now x is

pub returns-in-None-clause-item : goal.returns-in-None-clause-item
returns-in-None-clause-item g c = λ x is. returns-in-None-clause-value g c ∙ estimate_item (g.K.ItemKey.names c.args.key) (g.met.K.ItemKey.respects_eq c.args.key) c.args.self.now x is

pub returns-in-Some-clause-exact : goal.returns-in-Some-clause-exact
returns-in-Some-clause-exact g c = λ x is. estimate_exact g.T.PartialEq.eq c.args.self.now x _ (returns-in-Some-clause-item g c x is)

pub returns-in-None-clause-exact : goal.returns-in-None-clause-exact
returns-in-None-clause-exact g c = λ x is. estimate_exact g.T.PartialEq.eq c.args.self.now x _ (returns-in-None-clause-item g c x is)
