use Rattle.std.proofs.Common.{◌≡◌, ◌+◌, arith, ap, sym, ◌∙◌, subst, unwrap_or}
use Rattle.counter_table.specs.Keys.{count_by_key_of}
use Rattle.counter_table.specs.Tables.{count_by_key}
use Rattle.sketch_frequencies.specs.State.{estimate_by_key, state_of}
use Rattle.sketch_frequencies.proofs.Estimates.{estimate_none, estimate_some, estimate_exact, estimate_item}
use Rattle.sketch_frequencies.proofs.Puts.{count_by_key_le_sum}
use Rattle.sketch_frequencies.proofs.frequent_items_sketch.FrequentItemsSketch.bounds_item.Goals as goal

pub overflow_add-upper_bound : goal.overflow_add-upper_bound
overflow_add-upper_bound g c =
    let names = g.K.ItemKey.names c.args.key in
    let es = c.self.inside.map.entries in
    let count : count_by_key names es ≡ c.in-Some.count = ap (λ o. unwrap_or o 0) (sym c.look_up_by_key.ensures ∙ c.in-Some.is) in
    omega (arith, count_by_key_le_sum names es, c.self.invariant.sum, count)

pub returns-in-Some-clause-at_least : goal.returns-in-Some-clause-at_least
returns-in-Some-clause-at_least g c = λ x is h encloses.
    let names = g.K.ItemKey.names c.args.key in
    let count : count_by_key names c.self.inside.map.entries ≡ c.in-Some.count = ap (λ o. unwrap_or o 0) (sym c.look_up_by_key.ensures ∙ c.in-Some.is) in
    omega (arith, count, ap (λ s. count_by_key names s.counters) c.self.view_is, count_by_key_of names (g.met.K.ItemKey.respects_eq c.args.key) c.args.self.now.counters x is, encloses.at_least x)

pub returns-in-Some-clause-exact : goal.returns-in-Some-clause-exact
returns-in-Some-clause-exact g c = λ x is.
    let names = g.K.ItemKey.names c.args.key in
    let old = state_of c.self.inside.map c.self.inside.error c.self.inside.total c.self.inside.max_size c.self.inside.sample_size in
    let value = subst (λ s. c.in-Some.count + old.error ≡ estimate_by_key names s) c.self.view_is (estimate_some names old _ (sym c.look_up_by_key.ensures ∙ c.in-Some.is)) in
    estimate_exact g.T.PartialEq.eq c.args.self.now x _ (value ∙ estimate_item names (g.met.K.ItemKey.respects_eq c.args.key) c.args.self.now x is)

pub returns-in-Some-clause-at_most : goal.returns-in-Some-clause-at_most
returns-in-Some-clause-at_most g c = λ x is h encloses.
    let names = g.K.ItemKey.names c.args.key in
    let count : count_by_key names c.self.inside.map.entries ≡ c.in-Some.count = ap (λ o. unwrap_or o 0) (sym c.look_up_by_key.ensures ∙ c.in-Some.is) in
    omega (arith, count, ap (λ s. count_by_key names s.counters) c.self.view_is, ap (λ s. s.error) c.self.view_is, count_by_key_of names (g.met.K.ItemKey.respects_eq c.args.key) c.args.self.now.counters x is, encloses.at_most x)

pub returns-in-None-clause-exact : goal.returns-in-None-clause-exact
returns-in-None-clause-exact g c = λ x is.
    let names = g.K.ItemKey.names c.args.key in
    let old = state_of c.self.inside.map c.self.inside.error c.self.inside.total c.self.inside.max_size c.self.inside.sample_size in
    let value = subst (λ s. 0 ≡ estimate_by_key names s) c.self.view_is (estimate_none names old (sym c.look_up_by_key.ensures ∙ c.in-None.is)) in
    estimate_exact g.T.PartialEq.eq c.args.self.now x _ (value ∙ estimate_item names (g.met.K.ItemKey.respects_eq c.args.key) c.args.self.now x is)

pub returns-in-None-clause-at_most : goal.returns-in-None-clause-at_most
returns-in-None-clause-at_most g c = λ x is h encloses.
    let names = g.K.ItemKey.names c.args.key in
    let count : count_by_key names c.self.inside.map.entries ≡ 0 = ap (λ o. unwrap_or o 0) (sym c.look_up_by_key.ensures ∙ c.in-None.is) in
    omega (arith, count, ap (λ s. count_by_key names s.counters) c.self.view_is, ap (λ s. s.error) c.self.view_is, count_by_key_of names (g.met.K.ItemKey.respects_eq c.args.key) c.args.self.now.counters x is, encloses.at_most x)
