use Rattle.std.proofs.Common.{◌≡◌, ◌≤◌, length, take}
use Rattle.sketch_text.specs.declared.place.Place.TheVariants.{Start}
use Rattle.sketches.specs.Reading.{IsInOne, place_of}
use Rattle.sketches.proofs.ReadLines.{HasTaken}
use Rattle.sketches.proofs.read.reading.read_lines.Given as goal

abbrev pub invariant-reads : goal.invariant-reads
invariant-reads g l =
    (l.held ≤ length l.buffer.items)
    × IsInOne l.records Start (take l.held l.buffer.items)
    × (l.place ≡ place_of l.records Start (take l.held l.buffer.items))
    × (g.S.LineSink.splits l.sink ≡ l.records)
    × HasTaken l.records l.limit g.S.LineSink.takes (g.R.LineSource.remaining l.fn.reader) (g.R.LineSource.remaining l.reader) (l.fn.sink, l.fn.output) (l.sink, l.output) (take l.held l.buffer.items)
    × (length l.buffer.items ≤ l.limit)
    × (g.R.LineSource.fails l.reader ≡ g.R.LineSource.fails l.fn.reader)
