use Rattle.std.proofs.Common.{◌≡◌, ℕ, ◌<◌, ◌+◌, ◌++◌, ◌∷◌, [], refl, length, ap, sym, ◌∙◌, arith, map, take}
use Rattle.std.proofs.Math.ListN.{set}
use Rattle.std.proofs.lemmas.List.{map-append, length-set, take-set, take_more_set}
use Rattle.counter_table.specs.Slots.{entries_of}
use Rattle.counter_table.proofs.PurgeSamples.{entries_taken, entries_passed, gathered_all, gathered_few, gathered_front}
use Rattle.counter_table.proofs.slot_table.purges.gather_counts.Goals as goal
use Rattle.counter_table.proofs.slot_table.purges.gather_counts.Goals.{in-Taken, in-Free}

pub loop-slot-init : goal.loop-slot-init
loop-slot-init g c = record { counts = refl; short = omega arith }

pub loop-slot-preserved : goal.loop-slot-preserved
loop-slot-preserved g c =
    let slots = c.args.slots.now in
    let i : ℕ = c.loop-slot.slot-index in
    let n : ℕ = c.loop-slot.gathered in
    let counts = c.loop-slot.counts in
    let num : g.row.T.Denot × ℕ → ℕ = λ e. e.1 in
    let room : n < length counts = c.if-gathered-counts.false in
    let v : ℕ = c.match-slot.taken.0.now in
    let long = length-set counts n v in
    elim c.match-slot.branch [
      | in-Taken w ↦
          let t = w.in-Taken in
          let step : c.match-slot.taken.1 ≡ 1 = ap (λ p. p.1) w.taken-is in
          let count : v ≡ t.count = ap (λ p. p.0.now) w.taken-is in
          let more = entries_taken i slots t.drift t.count t.item c.slot-item.result c.loop-slot-test.true (sym c.slot-item.is ∙ t.is) in
          let at : take (n + 1) (set counts n v) ≡ take n counts ++ v ∷ [] = take_more_set counts n v room in
          record {
            counts = ap (λ k. take (n + k) (set counts n v)) step ∙ (at ∙ (ap (λ k. take n counts ++ k ∷ []) count ∙ (ap (λ l. l ++ t.count ∷ []) c.loop-slot.invariant.counts ∙ (sym (map-append num (entries_of (take i slots)) ((t.item, t.count) ∷ [])) ∙ ap (map num) (sym more)))));
            short = omega (arith, step, room, long);
          }
      | in-Free w ↦
          let step : c.match-slot.taken.1 ≡ 0 = ap (λ p. p.1) w.taken-is in
          let more = entries_passed i slots c.slot-item.result c.loop-slot-test.true (sym c.slot-item.is ∙ w.in-Free.is) in
          let same : n + c.match-slot.taken.1 ≡ n = omega (arith, step) in
          record {
            counts = ap (λ k. take k (set counts n v)) same ∙ (take-set counts n v ∙ (c.loop-slot.invariant.counts ∙ ap (map num) (sym more)));
            short = omega (arith, step, room, long);
          }
    ]

pub returns-then-gathered-counts : goal.returns-then-gathered-counts
returns-then-gathered-counts g c =
    let is = c.loop-slot.invariant.counts in
    record {
      number = omega (arith, gathered_few c.args.slots.now _ _ _ is c.loop-slot.invariant.short, c.loop-slot.invariant.short, c.if-gathered-counts.true, c.loop-slot.auto.counts);
      counts = gathered_front c.args.slots.now _ _ _ is c.loop-slot.invariant.short;
    }

pub returns-after-loop-slot : goal.returns-after-loop-slot
returns-after-loop-slot g c =
    let is = c.loop-slot.invariant.counts in
    record {
      number = omega (arith, gathered_all c.args.slots.now _ _ _ is c.loop-slot.invariant.short c.loop-slot-test.false, c.loop-slot.invariant.short, c.loop-slot.auto.counts);
      counts = gathered_front c.args.slots.now _ _ _ is c.loop-slot.invariant.short;
    }

pub overflow_add-gathered : goal.overflow_add-gathered
overflow_add-gathered g c =
    elim c.match-slot.branch [
      | in-Taken w ↦ omega (arith, ap (λ p. p.1) w.taken-is, c.if-gathered-counts.false)
      | in-Free w ↦ omega (arith, ap (λ p. p.1) w.taken-is, c.if-gathered-counts.false)
    ]
