use Rattle.std.proofs.Common.{◌+◌, arith, sym, ◌∙◌}
use Rattle.sketch_text.proofs.CsvWalk.{seen_none, seen_still, seen_byte, cut_at_end, cut_here}
use Rattle.sketch_text.proofs.csv_records.first_cut.Goals as goal

pub bytes-init : goal.bytes-init
bytes-init g c = seen_none (g.E.ByteSet.member c.args.ends) (g.T.ByteSet.member c.args.stops) c.args.place c.args.bytes.now

pub returns-then-at-bytes-clause-cut : goal.returns-then-at-bytes-clause-cut
returns-then-at-bytes-clause-cut g c =
    let seen = seen_still (g.E.ByteSet.member c.args.ends) (g.T.ByteSet.member c.args.stops) c.args.place c.args.bytes.now c.bytes.at c.still-at.result c.bytes.here c.requires.within c.bytes.invariant (rw c.split_at.ensures.back at c.still-at.ensures.bound) (rw c.split_at.ensures.back at c.still-at.ensures.still) in
    cut_at_end _ _ c.args.place c.args.bytes.now (c.bytes.at + c.still-at.result) c.bytes.here seen (omega (arith, c.if-at-bytes.true))

pub returns-then-at-bytes-clause-place : goal.returns-then-at-bytes-clause-place
returns-then-at-bytes-clause-place g c =
    let seen = seen_still (g.E.ByteSet.member c.args.ends) (g.T.ByteSet.member c.args.stops) c.args.place c.args.bytes.now c.bytes.at c.still-at.result c.bytes.here c.requires.within c.bytes.invariant (rw c.split_at.ensures.back at c.still-at.ensures.bound) (rw c.split_at.ensures.back at c.still-at.ensures.still) in
    seen.place_is

pub returns-then-cuts-clause-cut : goal.returns-then-cuts-clause-cut
returns-then-cuts-clause-cut g c =
    let seen = seen_still (g.E.ByteSet.member c.args.ends) (g.T.ByteSet.member c.args.stops) c.args.place c.args.bytes.now c.bytes.at c.still-at.result c.bytes.here c.requires.within c.bytes.invariant (rw c.split_at.ensures.back at c.still-at.ensures.bound) (rw c.split_at.ensures.back at c.still-at.ensures.still) in
    cut_here _ _ c.args.place c.args.bytes.now (c.bytes.at + c.still-at.result) c.bytes.here seen (sym c.cuts.ensures ∙ c.if-cuts.true)

pub returns-then-cuts-clause-place : goal.returns-then-cuts-clause-place
returns-then-cuts-clause-place g c =
    let seen = seen_still (g.E.ByteSet.member c.args.ends) (g.T.ByteSet.member c.args.stops) c.args.place c.args.bytes.now c.bytes.at c.still-at.result c.bytes.here c.requires.within c.bytes.invariant (rw c.split_at.ensures.back at c.still-at.ensures.bound) (rw c.split_at.ensures.back at c.still-at.ensures.still) in
    seen.place_is

pub bytes-preserved : goal.bytes-preserved
bytes-preserved g c =
    let seen = seen_still (g.E.ByteSet.member c.args.ends) (g.T.ByteSet.member c.args.stops) c.args.place c.args.bytes.now c.bytes.at c.still-at.result c.bytes.here c.requires.within c.bytes.invariant (rw c.split_at.ensures.back at c.still-at.ensures.bound) (rw c.split_at.ensures.back at c.still-at.ensures.still) in
    let next = seen_byte _ _ c.args.place c.args.bytes.now (c.bytes.at + c.still-at.result) c.bytes.here seen (omega (arith, seen.within, c.if-at-bytes.false)) (sym c.cuts.ensures ∙ c.if-cuts.false) in
    rw (c.after-here.ensures, c.contains.ensures) next

pub returns-clause-cut : goal.returns-clause-cut
returns-clause-cut g c = cut_at_end _ _ c.args.place c.args.bytes.now c.bytes.at c.bytes.here c.bytes.invariant (omega (arith, c.bytes-test.false))
