use Rattle.std.proofs.Common.{ℕ, ap, refl, length, sym, ◌≡◌, ◌+◌, ◌<◌, ◌≤◌, ◌∙◌, arith}
use Rattle.counter_table.specs.Fingerprints.{fingerprint_of, AreFingerprints}
use Rattle.counter_table.specs.TableHashes.{hash_in, hash_of}
use Rattle.counter_table.proofs.ArithmeticRing.{ahead_is}
use Rattle.counter_table.proofs.TableHashing.{hashed_as_named}
use Rattle.counter_table.proofs.LookupReach.{free_from_few}
use Rattle.counter_table.proofs.LookupFingerprints.{home_is, seen_free, seen_other, seen_taken}
use Rattle.counter_table.proofs.LookupHomes.{some_size, remainder_below, stands_first, stands_within, stands_next, stands_on}
use Rattle.counter_table.proofs.LookupSkips.{IsPassed-skips}
use Rattle.counter_table.proofs.LookupProbes.{drift_of_named, IsProbe-found, IsProbe-free, IsPassed-none, IsPassed-on, IsPassed-below}
use Rattle.counter_table.proofs.slot_table.look_ups.SlotSlices.find_from.Goals as goal

pub probe-init : goal.probe-init
probe-init g c = record {
  stands = stands_first (λ k. hash_of c.args.self.now.key (g.K.Item.bytes k)) c.args.key _ c.requires.slots.size _ (home_is (λ k. hash_of c.args.self.now.key (g.K.Item.bytes k)) c.args.key _ c.args.hash _ c.requires.hash (rw (ap (λ t. t.slots) c.self.view_is) at c.home-index.ensures));
  passed = IsPassed-none _ _ _;
}

pub probe_at-seen-requires-clause-index : goal.probe_at-seen-requires-clause-index
probe_at-seen-requires-clause-index g c = rw (c.self.invariant.long, (ap (λ t. t.slots) c.self.view_is)) (stands_within (λ k. hash_of c.args.self.now.key (g.K.Item.bytes k)) c.args.key _ c.requires.slots.size c.probe.index c.probe.probed c.probe.invariant.stands)

pub count_at-found-requires-clause-index : goal.count_at-found-requires-clause-index
count_at-found-requires-clause-index g c = rw (ap (λ t. t.slots) c.self.view_is) (stands_within (λ k. hash_of c.args.self.now.key (g.K.Item.bytes k)) c.args.key _ c.requires.slots.size c.probe.index c.probe.probed c.probe.invariant.stands)

pub returns-then-seen-eq-FREE-clause-probe : goal.returns-then-seen-eq-FREE-clause-probe
returns-then-seen-eq-FREE-clause-probe g c =
    IsProbe-free c.probe.invariant.passed c.probe.invariant.stands.below c.probe.index c.probe_at-seen.new.probed c.probe.invariant.stands.at_index c.probe_at-seen.ensures.counted (seen_free (rw (ap (λ t. t.slots) c.self.view_is) at c.self.invariant) c.probe.index c.probe_at-seen.result c.probe_at-seen.ensures.value c.if-seen-eq-FREE.true)

pub returns-then-is_some-clause-probe : goal.returns-then-is_some-clause-probe
returns-then-is_some-clause-probe g c =
    IsProbe-found c.probe.invariant.passed c.probe.invariant.stands.below c.probe.index c.probe_at-seen.new.probed c.count_at-found.result c.probe.invariant.stands.at_index c.probe_at-seen.ensures.counted (rw (ap (λ t. t.slots) c.self.view_is) at c.count_at-found.ensures) (sym c.is_some.ensures ∙ c.if-is_some.true)

-- what is passed after this slot: it, and then those of other fingerprints
pub probe-preserved : goal.probe-preserved
probe-preserved g c =
    let slots = c.args.self.now.slots in
    let n = length slots in
    let hashed : g.row.K.Denot → ℕ = λ k. hash_of c.args.self.now.key (g.K.Item.bytes k) in
    let are : AreFingerprints (hash_in c.args.self.now.key g.T.Hash.hash_input) slots c.self.inside.fingerprints.now = rw (ap (λ t. t.slots) c.self.view_is, ap (λ t. t.key) c.self.view_is) at c.self.invariant in
    let respects = hashed_as_named g.T.Hash.hash_input c.args.self.now.key (g.met.K.ItemKey.respects_hash c.args.key) in
    let same : c.args.hash ≡ hashed c.args.key = c.requires.hash in
    let home_below = remainder_below (hashed c.args.key) n (some_size n c.requires.slots.size) in
    let some = seen_taken are c.probe.index c.probe_at-seen.result c.probe_at-seen.ensures.value c.if-seen-eq-FREE.false in
    let one = IsPassed-on c.probe.invariant.passed c.probe.index c.count_at-found.result c.probe.invariant.stands.at_index some (rw (ap (λ t. t.slots) c.self.view_is) at c.count_at-found.ensures) (sym c.is_some.ensures ∙ c.if-is_some.false) in
    let below = IsPassed-below home_below (free_from_few slots c.requires.slots.room) one in
    let stands = stands_next hashed c.args.key n c.requires.slots.size c.probe.index c.next-start.result c.probe.probed c.probe.invariant.stands (rw (ap (λ t. t.slots) c.self.view_is) at c.next-start.ensures) below in
    let skip = c.passed_at-passed.ensures in
    let within : c.next-start.result + c.passed_at-passed.result ≤ n = omega (arith, skip.within, are.long) in
    let more = IsPassed-skips are respects c.args.hash (fingerprint_of c.args.hash) same refl home_below (free_from_few slots c.requires.slots.room) c.next-start.result (c.probe.probed + 1) stands.at_index c.passed_at-passed.result one within skip.taken (rw c.fingerprint.ensures at skip.other) in
    let far = IsPassed-below home_below (free_from_few slots c.requires.slots.room) more in
    rw (c.probe_at-seen.ensures.counted) (record {
      stands = stands_on hashed c.args.key n c.requires.slots.size c.next-start.result c.after-index.result (c.probe.probed + 1) c.passed_at-passed.result stands (rw (ap (λ t. t.slots) c.self.view_is) at c.after-index.ensures) far;
      passed = more;
    })

pub next-start-requires-clause-index : goal.next-start-requires-clause-index
next-start-requires-clause-index g c = rw (ap (λ t. t.slots) c.self.view_is) (stands_within (λ k. hash_of c.args.self.now.key (g.K.Item.bytes k)) c.args.key _ c.requires.slots.size c.probe.index c.probe.probed c.probe.invariant.stands)

pub count_at-found-requires-clause-other : goal.count_at-found-requires-clause-other
count_at-found-requires-clause-other g c = λ other.
    seen_other (hash_in c.self.inside.key g.T.Hash.hash_input) c.self.inside.slots.now (hashed_as_named g.T.Hash.hash_input c.self.inside.key (g.met.K.ItemKey.respects_hash c.args.key)) c.args.hash c.probe.index c.probe_at-seen.result _ (rw (← c.self.view_is) at c.requires.hash) refl (c.probe_at-seen.ensures.value ∙ c.self.invariant.each c.probe.index) other

pub after-index-requires-clause-index : goal.after-index-requires-clause-index
after-index-requires-clause-index g c =
    let index : c.probe.index < length c.self.inside.slots.now = rw (ap (λ t. t.slots) c.self.view_is) (stands_within (λ k. hash_of c.args.self.now.key (g.K.Item.bytes k)) c.args.key _ c.requires.slots.size c.probe.index c.probe.probed c.probe.invariant.stands) in
    let a = ahead_is (length c.self.inside.slots.now) c.probe.index 1 index (omega arith) in
    omega (arith, c.next-start.ensures, a.below)

pub passed_at-passed-requires : goal.passed_at-passed-requires
passed_at-passed-requires g c =
    let index : c.probe.index < length c.self.inside.slots.now = rw (ap (λ t. t.slots) c.self.view_is) (stands_within (λ k. hash_of c.args.self.now.key (g.K.Item.bytes k)) c.args.key _ c.requires.slots.size c.probe.index c.probe.probed c.probe.invariant.stands) in
    let a = ahead_is (length c.self.inside.slots.now) c.probe.index 1 index (omega arith) in
    omega (arith, c.next-start.ensures, a.below, c.self.invariant.long)

pub count_at-found-requires-clause-drift : goal.count_at-found-requires-clause-drift
count_at-found-requires-clause-drift g c = λ s here named.
    let key = c.self.inside.key in
    let slots = c.self.inside.slots.now in
    let hashed = hash_in key g.T.Hash.hash_input in
    let placed = (rw (← c.self.view_is) at c.requires.slots).placed in
    let stands = rw (← c.self.view_is) at c.probe.invariant.stands in
    let home_below = remainder_below (hash_of key (g.K.Item.bytes c.args.key)) (length slots) (some_size (length slots) (rw (← c.self.view_is) at c.requires.slots).size) in
    rw (c.probe_at-seen.ensures.counted) (drift_of_named (hashed_as_named g.T.Hash.hash_input key (g.met.K.ItemKey.respects_hash c.args.key)) slots placed c.probe.index c.probe.probed home_below stands.below stands.at_index s here named)
