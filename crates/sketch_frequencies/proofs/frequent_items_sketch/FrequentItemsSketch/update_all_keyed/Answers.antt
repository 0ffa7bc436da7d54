use Rattle.std.proofs.Common.{◌∷◌, ◌++◌, Bool, ap, ◌∙◌, refl, subst}
use Rattle.std.proofs.lemmas.Result.{err_from_is_err_and}
use Rattle.counter_table.specs.declared.table_key.TableKey.TheVariants.{Keyed}
use Rattle.sketch_frequencies.specs.KeysAhead.{AreHashed, names_ahead}
use Rattle.sketch_frequencies.proofs.KeyedAhead.{stops_at}
use Rattle.sketch_frequencies.proofs.KeyedBatches.{added_all, added_more}
use Rattle.sketch_frequencies.proofs.KeyedBatches.{due_to_double}
use Rattle.sketch_frequencies.proofs.frequent_items_sketch.FrequentItemsSketch.update_all_keyed.Goals as goal

pub returns-in-One-clause-updates : goal.returns-in-One-clause-updates
returns-in-One-clause-updates g c =
    let names = g.K.Key.ItemKey.names in
    let later = g.K.Keys.names c.each.keys in
    let e = c.in_ok-update_hashed-in-One.ensures in
    let ends = (subst (λ a. AreHashed g.K.Key.Item.bytes (Keyed c.args.secret) a later) c.in-One.is c.each.invariant.hashed).1 in
    added_all g.T.PartialEq.eq c.args.self.now c.update_hashed.new.self (g.K.Keys.names c.args.keys) later
    (added_more g.T.PartialEq.eq c.args.self.now c.each.self c.update_hashed.new.self (g.K.Keys.names c.args.keys) (names_ahead names c.each.now ++ later) later (names c.in-One.key)
    (g.met.K.Key.ItemKey.respects_eq c.in-One.key) c.each.invariant.added (ap (λ a. names_ahead names a ++ later) c.in-One.is) e.step e.stands e.budget) ends

pub each-preserved : goal.each-preserved
each-preserved g c =
    let names = g.K.Key.ItemKey.names in
    let all = g.K.Keys.names c.args.keys in
    let later = g.K.Keys.names c.each.keys in
    let second : g.row.T.Denot → Bool = names c.in-Two.second in
    let next = c.keys_ahead-now-in-Two.ensures in
    let e = c.in_ok-update_hashed-in-Two.ensures in
    let f = c.in_ok-update_hashed-in-Two-2.ensures in
    let one = added_more g.T.PartialEq.eq c.args.self.now c.each.self c.update_hashed-in-Two.new.self all (names_ahead names c.each.now ++ later) (second ∷ later) (names c.in-Two.first)
    (g.met.K.Key.ItemKey.respects_eq c.in-Two.first) c.each.invariant.added (ap (λ a. names_ahead names a ++ later) c.in-Two.is) e.step e.stands e.budget in
    record {
      added = added_more g.T.PartialEq.eq c.args.self.now c.update_hashed-in-Two.new.self c.update_hashed-in-Two-2.new.self all (second ∷ later) (names_ahead names c.keys_ahead-now-in-Two.result ++ g.K.Keys.names c.keys_ahead-now-in-Two.new.keys) second
          (g.met.K.Key.ItemKey.respects_eq c.in-Two.second) one (ap (λ l. second ∷ l) next.parts) f.step f.stands f.budget;
      hashed = next.hashed;
      keyed = f.step.step.key ∙ (e.step.step.key ∙ c.each.invariant.keyed);
      state = c.update_hashed-in-Two-2.ensures.state;
    }

pub returns-in_err-update_hashed-in-Two-2-clause-err : goal.returns-in_err-update_hashed-in-Two-2-clause-err
returns-in_err-update_hashed-in-Two-2-clause-err g c =
    let names = g.K.Key.ItemKey.names in
    let all = g.K.Keys.names c.args.keys in
    let later = g.K.Keys.names c.each.keys in
    let second : g.row.T.Denot → Bool = names c.in-Two.second in
    let e = c.in_ok-update_hashed-in-Two.ensures in
    let one = added_more g.T.PartialEq.eq c.args.self.now c.each.self c.update_hashed-in-Two.new.self all (names_ahead names c.each.now ++ later) (second ∷ later) (names c.in-Two.first)
    (g.met.K.Key.ItemKey.respects_eq c.in-Two.first) c.each.invariant.added (ap (λ a. names_ahead names a ++ later) c.in-Two.is) e.step e.stands e.budget in
    let w = c.in_err-update_hashed-in-Two-2.ensures in
    let r = err_from_is_err_and c.from_residual-in_err-update_hashed-in-Two-2.result c.from_residual-in_err-update_hashed-in-Two-2.ensures.1 in
    rw r.1 (stops_at g.T.PartialEq.eq c.args.self.now c.update_hashed-in-Two.new.self c.update_hashed-in-Two-2.new.self all (second ∷ later) later second r.0 _ one refl w.err r.2 w.overflow w.memory w.succeeds)

pub returns-in_err-update_hashed-in-One-clause-doubles : goal.returns-in_err-update_hashed-in-One-clause-doubles
returns-in_err-update_hashed-in-One-clause-doubles g c = λ free.
    let e = c.in_err-update_hashed-in-One.ensures in
    rw (err_from_is_err_and c.from_residual.result c.from_residual.ensures.1).1 (due_to_double c.each.self c.update_hashed.new.self e.err (e.infallible (free c.in-One.key)))

pub returns-in_err-update_hashed-in-Two-clause-doubles : goal.returns-in_err-update_hashed-in-Two-clause-doubles
returns-in_err-update_hashed-in-Two-clause-doubles g c = λ free.
    let e = c.in_err-update_hashed-in-Two.ensures in
    rw (err_from_is_err_and c.from_residual-in_err-update_hashed-in-Two.result c.from_residual-in_err-update_hashed-in-Two.ensures.1).1 (due_to_double c.each.self c.update_hashed-in-Two.new.self e.err (e.infallible (free c.in-Two.first)))

pub returns-in_err-update_hashed-in-Two-2-clause-doubles : goal.returns-in_err-update_hashed-in-Two-2-clause-doubles
returns-in_err-update_hashed-in-Two-2-clause-doubles g c = λ free.
    let e = c.in_err-update_hashed-in-Two-2.ensures in
    rw (err_from_is_err_and c.from_residual-in_err-update_hashed-in-Two-2.result c.from_residual-in_err-update_hashed-in-Two-2.ensures.1).1 (due_to_double c.update_hashed-in-Two.new.self c.update_hashed-in-Two-2.new.self e.err (e.infallible (free c.in-Two.second)))
