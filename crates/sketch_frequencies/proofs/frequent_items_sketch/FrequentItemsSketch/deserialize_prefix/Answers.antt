use Rattle.std.proofs.Common.{arith, rules, ◌≤◌, ◌+◌, ◌*◌, ◌^◌, ℕ, ap, sym, ◌∙◌, subst}
use Rattle.std.proofs.lemmas.List.{take_rest}
use Rattle.std.proofs.lemmas.Result.{err_from_is_err_and}
use Rattle.std.proofs.Math.Pow.{pow_mono}
use Rattle.sketch_frequencies.specs.Image.{items_bytes}
use Rattle.sketch_frequencies.specs.Items.{max_owned}
use Rattle.sketch_frequencies.specs.Memory.{owned_by}
use Rattle.sketch_frequencies.specs.State.{FrequentState, IsSampleSize, state_of}
use Rattle.sketch_frequencies.proofs.EmptySketches.{restored_empty}
use Rattle.sketch_frequencies.proofs.Images.{image_of_none, state_of_counters, image_of_counters, restores, restores_budget}
use Rattle.sketch_frequencies.proofs.OwnedBytes.{memory_le}
use Rattle.sketch_frequencies.proofs.Powers.{eight_is_power}
use Rattle.sketch_frequencies.proofs.Refusals.{none_of_empty, counts_of_full, size_of_empty, size_of_full, room_of_empty, room_of_full, is_within, first_of, early_refused, limit_refused, memory_refused, weights_refused, items_refused}
use Rattle.sketch_frequencies.proofs.RoundTrips.{front_read}
use Rattle.sketch_frequencies.proofs.SampleSizes.{usual_sample}
use Rattle.sketch_frequencies.proofs.ImageWeights.{length-weights_at}
use Rattle.sketch_frequencies.proofs.frequent_items_sketch.FrequentItemsSketch.deserialize_prefix.Goals as goal

pub with_key-requires-clause-power : goal.with_key-requires-clause-power
with_key-requires-clause-power g c = eight_is_power

pub invariant_of-sketch : goal.invariant_of-sketch
invariant_of-sketch g c =
    let size = c.table_size-max_size.ensures in
    let h = c.in_ok-header.ensures in
    rw c.in_ok-map.ensures.ok (restored_empty g.T.PartialEq.eq c.in_ok-header.header.lg_max c.table_size-max_size.result _ c.args.options.key (omega (arith, h.least, h.within)) size.value size.limit size.power c.max_sample_of-sample_size.ensures)

pub returns-then-header-clause-state : goal.returns-then-header-clause-state
returns-then-header-clause-state g c = invariant_of-sketch g c

pub returns-then-header-clause-image : goal.returns-then-header-clause-image
returns-then-header-clause-image g c =
    let size = c.table_size-max_size.ensures in
    let h = c.in_ok-header.ensures in
    let m = c.table_size-max_size.result in
    let n = c.max_sample_of-sample_size.result in
    let state = restored_empty g.T.PartialEq.eq c.in_ok-header.header.lg_max m n c.args.options.key (omega (arith, h.least, h.within)) size.value size.limit size.power c.max_sample_of-sample_size.ensures in
    rw c.in_ok-map.ensures.ok (image_of_none g.T.FrequentItemValue.codec g.T.FrequentItemValue.content g.T.PartialEq.eq g.met.T.FrequentItemValue.alike c.args.image.now m n c.args.options.key state h.checks (sym h.fields.is_empty ∙ c.if-header.true) (size.value ∙ ap (λ (n : ℕ). 2 ^ n) h.fields.lg_max))

pub returns-then-header-clause-stands : goal.returns-then-header-clause-stands
returns-then-header-clause-stands g c = λ old was h stands. restores g.T.FrequentItemValue.codec g.T.FrequentItemValue.content g.T.PartialEq.eq g.met.T.FrequentItemValue.alike g.met.T.Eq.laws c.args.image.now _ (returns-then-header-clause-image g c) c.max_sample_of-sample_size.ensures old was h stands

pub returns-then-header-clause-budget : goal.returns-then-header-clause-budget
returns-then-header-clause-budget g c = λ old was h stands keeps. restores_budget g.T.FrequentItemValue.codec g.T.FrequentItemValue.content g.T.PartialEq.eq g.met.T.FrequentItemValue.alike g.met.T.Eq.laws c.args.image.now _ (returns-then-header-clause-image g c) old was h stands keeps

pub read_counters-requires-clause-least : goal.read_counters-requires-clause-least
read_counters-requires-clause-least g c =
    let least : 2 ^ 3 ≤ 2 ^ c.in_ok-header.header.lg_cur = pow_mono c.in_ok-header.ensures.least in
    omega (arith, least, c.table_size-size.ensures.value)

pub invariant_of-sketch-2 : goal.invariant_of-sketch-2
invariant_of-sketch-2 g c =
    let h = c.in_ok-header.ensures in
    let n = c.in_ok-numbers.ensures in
    let image = c.args.image.now in
    let s : FrequentState g.row.T.Denot = state_of c.in_ok-map-2.map c.in_ok-numbers.numbers.error c.in_ok-numbers.numbers.total c.table_size-max_size.result c.max_sample_of-sample_size.result in
    let least : 2 ^ 3 ≤ 2 ^ c.in_ok-header.header.lg_cur = pow_mono h.least in
    let below : 2 ^ c.in_ok-header.header.lg_cur ≤ 2 ^ c.in_ok-header.header.lg_max = pow_mono h.within in
    let size = c.in_ok-map-2.ensures.size ∙ c.table_size-size.ensures.value in
    state_of_counters g.T.FrequentItemValue.codec g.T.FrequentItemValue.content g.T.PartialEq.eq g.met.T.FrequentItemValue.alike image s c.in_ok-map-2.ensures.counters
    (rw size (omega (arith, length-weights_at image, n.few, n.fields.active)))
    c.in_ok-check_weights.ensures.sum
    (omega (arith, least, size))
    (omega (arith, below, size, c.table_size-max_size.ensures.value))
    c.table_size-max_size.ensures.limit
    (rw c.in_ok-map-2.ensures.size c.table_size-size.ensures.power)
    c.table_size-max_size.ensures.power
    n.some
    (subst (λ (k : ℕ). IsSampleSize c.table_size-max_size.result k) (sym c.max_sample_of-sample_size.ensures) (usual_sample c.table_size-max_size.result (omega (arith, least, below, c.table_size-max_size.ensures.value)) c.table_size-max_size.ensures.power))

pub returns-clause-state : goal.returns-clause-state
returns-clause-state g c = invariant_of-sketch-2 g c

pub returns-clause-image : goal.returns-clause-image
returns-clause-image g c =
    let h = c.in_ok-header.ensures in
    let n = c.in_ok-numbers.ensures in
    let s : FrequentState g.row.T.Denot = state_of c.in_ok-map-2.map c.in_ok-numbers.numbers.error c.in_ok-numbers.numbers.total c.table_size-max_size.result c.max_sample_of-sample_size.result in
    image_of_counters g.T.FrequentItemValue.codec g.T.FrequentItemValue.content g.T.PartialEq.eq g.met.T.FrequentItemValue.alike c.args.image.now s (invariant_of-sketch-2 g c) c.in_ok-map-2.ensures.counters h.checks (sym h.fields.is_empty ∙ c.if-header.false) n.checks c.in_ok-check_weights.ensures.checks n.fields.error n.fields.total
    (c.table_size-max_size.ensures.value ∙ ap (λ (k : ℕ). 2 ^ k) h.fields.lg_max)
    (c.in_ok-map-2.ensures.size ∙ c.table_size-size.ensures.value ∙ ap (λ (k : ℕ). 2 ^ k) h.fields.lg_cur)

pub returns-clause-stands : goal.returns-clause-stands
returns-clause-stands g c = λ old was h stands. restores g.T.FrequentItemValue.codec g.T.FrequentItemValue.content g.T.PartialEq.eq g.met.T.FrequentItemValue.alike g.met.T.Eq.laws c.args.image.now _ (returns-clause-image g c) c.max_sample_of-sample_size.ensures old was h stands

pub returns-clause-budget : goal.returns-clause-budget
returns-clause-budget g c = λ old was h stands keeps. restores_budget g.T.FrequentItemValue.codec g.T.FrequentItemValue.content g.T.PartialEq.eq g.met.T.FrequentItemValue.alike g.met.T.Eq.laws c.args.image.now _ (returns-clause-image g c) old was h stands keeps

pub returns-in_err-header : goal.returns-in_err-header
returns-in_err-header g c =
    let p = err_from_is_err_and c.from_residual.result c.from_residual.ensures.1 in
    rw (p.1, p.2) (record { image = tt; state = tt; sample = tt; key = tt; purges = tt; stands = tt; budget = tt; used = tt; front = tt; there = tt; within = tt; accepted = λ ok. absurd cc; err = early_refused _ c.args.options.max_bytes g.T.FrequentItemValue.codec c.args.image.now _ (c.in_err-header.ensures.err.0, first_of _ _ c.in_err-header.ensures.err.1) })

pub returns-in_err-check_limit : goal.returns-in_err-check_limit
returns-in_err-check_limit g c =
    let p = err_from_is_err_and c.from_residual-in_err-check_limit.result c.from_residual-in_err-check_limit.ensures.1 in
    let empty = sym c.in_ok-header.ensures.fields.is_empty ∙ c.if-header.true in
    rw (p.1, p.2) (record { image = tt; state = tt; sample = tt; key = tt; purges = tt; stands = tt; budget = tt; used = tt; front = tt; there = tt; within = tt; accepted = λ ok. absurd cc; err = limit_refused _ c.args.options.max_bytes g.T.FrequentItemValue.codec c.args.image.now _ (none_of_empty c.args.image.now c.in_ok-header.ensures.checks empty) (size_of_empty c.args.image.now empty) (room_of_empty g.T.FrequentItemValue.codec c.args.image.now _ empty) c.in_err-check_limit.ensures.err })

pub returns-in_err-map : goal.returns-in_err-map
returns-in_err-map g c =
    let p = err_from_is_err_and c.from_residual-in_err-map.result c.from_residual-in_err-map.ensures.1 in
    let empty = sym c.in_ok-header.ensures.fields.is_empty ∙ c.if-header.true in
    rw (p.1, p.2) (record { image = tt; state = tt; sample = tt; key = tt; purges = tt; stands = tt; budget = tt; used = tt; front = tt; there = tt; within = tt; accepted = λ ok. absurd cc; err = memory_refused _ c.args.options.max_bytes g.T.FrequentItemValue.codec c.args.image.now _ (none_of_empty c.args.image.now c.in_ok-header.ensures.checks empty) (is_within _ c.args.options.max_bytes g.T.FrequentItemValue.codec c.args.image.now (size_of_empty c.args.image.now empty) (room_of_empty g.T.FrequentItemValue.codec c.args.image.now _ empty) c.in_ok-check_limit.ensures.within) c.in_err-map.ensures.err })

pub returns-in_err-numbers : goal.returns-in_err-numbers
returns-in_err-numbers g c =
    let p = err_from_is_err_and c.from_residual-in_err-numbers.result c.from_residual-in_err-numbers.ensures.1 in
    let full = sym c.in_ok-header.ensures.fields.is_empty ∙ c.if-header.false in
    rw (p.1, p.2) (record { image = tt; state = tt; sample = tt; key = tt; purges = tt; stands = tt; budget = tt; used = tt; front = tt; there = tt; within = tt; accepted = λ ok. absurd cc; err = early_refused _ c.args.options.max_bytes g.T.FrequentItemValue.codec c.args.image.now _ (c.in_err-numbers.ensures.err.0, counts_of_full c.args.image.now c.in_ok-header.ensures.checks full c.in_err-numbers.ensures.err.1) })

pub returns-in_err-check_limit-2 : goal.returns-in_err-check_limit-2
returns-in_err-check_limit-2 g c =
    let p = err_from_is_err_and c.from_residual-in_err-check_limit-2.result c.from_residual-in_err-check_limit-2.ensures.1 in
    let full = sym c.in_ok-header.ensures.fields.is_empty ∙ c.if-header.false in
    rw (p.1, p.2) (record { image = tt; state = tt; sample = tt; key = tt; purges = tt; stands = tt; budget = tt; used = tt; front = tt; there = tt; within = tt; accepted = λ ok. absurd cc; err = limit_refused _ c.args.options.max_bytes g.T.FrequentItemValue.codec c.args.image.now _ (counts_of_full c.args.image.now c.in_ok-header.ensures.checks full c.in_ok-numbers.ensures.checks) (size_of_full c.args.image.now full (c.table_size-size.ensures.value ∙ ap (λ (k : ℕ). 2 ^ k) c.in_ok-header.ensures.fields.lg_cur)) (room_of_full g.T.FrequentItemValue.codec c.args.image.now _ full c.in_ok-numbers.ensures.fields.active (take_rest c.args.image.now _)) c.in_err-check_limit-2.ensures.err })

pub returns-in_err-check_weights : goal.returns-in_err-check_weights
returns-in_err-check_weights g c =
    let p = err_from_is_err_and c.from_residual-in_err-check_weights.result c.from_residual-in_err-check_weights.ensures.1 in
    let full = sym c.in_ok-header.ensures.fields.is_empty ∙ c.if-header.false in
    rw (p.1, p.2) (record { image = tt; state = tt; sample = tt; key = tt; purges = tt; stands = tt; budget = tt; used = tt; front = tt; there = tt; within = tt; accepted = λ ok. absurd cc; err = weights_refused _ c.args.options.max_bytes g.T.FrequentItemValue.codec c.args.image.now _ (counts_of_full c.args.image.now c.in_ok-header.ensures.checks full c.in_ok-numbers.ensures.checks) (is_within _ c.args.options.max_bytes g.T.FrequentItemValue.codec c.args.image.now (size_of_full c.args.image.now full (c.table_size-size.ensures.value ∙ ap (λ (k : ℕ). 2 ^ k) c.in_ok-header.ensures.fields.lg_cur)) (room_of_full g.T.FrequentItemValue.codec c.args.image.now _ full c.in_ok-numbers.ensures.fields.active (take_rest c.args.image.now _)) c.in_ok-check_limit-2.ensures.within) full c.in_err-check_weights.ensures.err })

pub returns-in_err-map-2 : goal.returns-in_err-map-2
returns-in_err-map-2 g c =
    let p = err_from_is_err_and c.from_residual-in_err-map-2.result c.from_residual-in_err-map-2.ensures.1 in
    let full = sym c.in_ok-header.ensures.fields.is_empty ∙ c.if-header.false in
    rw (p.1, p.2) (record { image = tt; state = tt; sample = tt; key = tt; purges = tt; stands = tt; budget = tt; used = tt; front = tt; there = tt; within = tt; accepted = λ ok. absurd cc; err = items_refused _ c.args.options.max_bytes g.T.FrequentItemValue.codec c.args.image.now _ (counts_of_full c.args.image.now c.in_ok-header.ensures.checks full c.in_ok-numbers.ensures.checks) (is_within _ c.args.options.max_bytes g.T.FrequentItemValue.codec c.args.image.now (size_of_full c.args.image.now full (c.table_size-size.ensures.value ∙ ap (λ (k : ℕ). 2 ^ k) c.in_ok-header.ensures.fields.lg_cur)) (room_of_full g.T.FrequentItemValue.codec c.args.image.now _ full c.in_ok-numbers.ensures.fields.active (take_rest c.args.image.now _)) c.in_ok-check_limit-2.ensures.within) full c.in_ok-check_weights.ensures.checks c.in_err-map-2.ensures.err })

pub returns-then-header-clause-sample : goal.returns-then-header-clause-sample
returns-then-header-clause-sample g c = c.max_sample_of-sample_size.ensures

pub returns-clause-sample : goal.returns-clause-sample
returns-clause-sample g c = c.max_sample_of-sample_size.ensures

-- the table is made under the key
pub returns-then-header-clause-key : goal.returns-then-header-clause-key
returns-then-header-clause-key g c = ap (λ t. t.key) c.in_ok-map.ensures.ok

pub returns-clause-key : goal.returns-clause-key
returns-clause-key g c = c.in_ok-map-2.ensures.key

-- it has made no purge
pub returns-then-header-clause-purges : goal.returns-then-header-clause-purges
returns-then-header-clause-purges g c = ap (λ t. t.purges) c.in_ok-map.ensures.ok

pub returns-clause-purges : goal.returns-clause-purges
returns-clause-purges g c = c.in_ok-map-2.ensures.purges

pub returns-then-header-clause-accepted : goal.returns-then-header-clause-accepted
returns-then-header-clause-accepted g c = λ _.
    let empty = sym c.in_ok-header.ensures.fields.is_empty ∙ c.if-header.true in
    is_within _ c.args.options.max_bytes g.T.FrequentItemValue.codec c.args.image.now (size_of_empty c.args.image.now empty) (room_of_empty g.T.FrequentItemValue.codec c.args.image.now _ empty) c.in_ok-check_limit.ensures.within

pub returns-clause-accepted : goal.returns-clause-accepted
returns-clause-accepted g c = λ _.
    let full = sym c.in_ok-header.ensures.fields.is_empty ∙ c.if-header.false in
    is_within _ c.args.options.max_bytes g.T.FrequentItemValue.codec c.args.image.now (size_of_full c.args.image.now full (c.table_size-size.ensures.value ∙ ap (λ (k : ℕ). 2 ^ k) c.in_ok-header.ensures.fields.lg_cur)) (room_of_full g.T.FrequentItemValue.codec c.args.image.now _ full c.in_ok-numbers.ensures.fields.active (take_rest c.args.image.now _)) c.in_ok-check_limit-2.ensures.within

pub returns-then-header-clause-within : goal.returns-then-header-clause-within
returns-then-header-clause-within g c = rw c.in_ok-map.ensures.ok (memory_le _ 0 _ c.args.options.max_bytes (omega arith) c.in_ok-check_limit.ensures.within)

pub returns-clause-within : goal.returns-clause-within
returns-clause-within g c =
    let codec = g.T.FrequentItemValue.codec in
    let n = c.in_ok-numbers.numbers.active in
    let owned = subst (λ l. owned_by codec g.T.FrequentItemValue.content c.in_ok-map-2.map.entries ≤ max_owned codec (items_bytes codec n l)) (sym (take_rest c.args.image.now (32 + 8 * n))) c.in_ok-map-2.ensures.owned in
    rw c.in_ok-map-2.ensures.size (memory_le _ _ _ c.args.options.max_bytes owned c.in_ok-check_limit-2.ensures.within)

pub returns-then-header-clause-used : goal.returns-then-header-clause-used
returns-then-header-clause-used g c = search rules

pub returns-clause-used : goal.returns-clause-used
returns-clause-used g c = search rules

pub returns-then-header-clause-front : goal.returns-then-header-clause-front
returns-then-header-clause-front g c = front_read g.T.FrequentItemValue.codec g.T.FrequentItemValue.content g.met.T.FrequentItemValue.lawful c.args.image.now _ 8 (returns-then-header-clause-image g c) (returns-then-header-clause-used g c)

pub returns-clause-front : goal.returns-clause-front
returns-clause-front g c = front_read g.T.FrequentItemValue.codec g.T.FrequentItemValue.content g.met.T.FrequentItemValue.lawful c.args.image.now _ c.in_ok-map-2.used (returns-clause-image g c) (returns-clause-used g c)
