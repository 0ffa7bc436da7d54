-- The streams of a sketch, and what holds for all of them together.
use Rattle.std.specs.Prelude.{◌≡◌, ℕ, ◌<◌, ℤ, pos, ◌+ℤ◌, List, [], ◌∷◌, ◌++◌}
use Rattle.sketch_countmin.specs.History.{CountHistory, cell_share}
use Rattle.sketch_countmin.specs.History.CountHistory.{New, Update, Merge, Halve, Decay, Restored}
use Rattle.sketch_countmin.specs.Rows.{cell_at}
use Rattle.sketch_countmin.specs.State.{CountState}

-- The own stream is the history without merges. The other streams are those of the sketches that were merged into this one,
-- before or after its own updates. A stream that was merged twice counts twice. Halving and decay round the counts of all streams
-- together. So a halved or decayed sketch is one stream from then on
abbrev pub own_stream : CountHistory → CountHistory
own_stream (New hashes buckets seed) = New hashes buckets seed
own_stream (Update h bytes weight) = Update (own_stream h) bytes weight
own_stream (Merge g h) = own_stream g
own_stream (Halve h) = Halve h
own_stream (Decay h n d) = Decay h n d
own_stream (Restored h) = Restored (own_stream h)

-- the streams of the merged sketches since the last halving or decay
abbrev pub other_streams : CountHistory → List CountHistory
other_streams (New hashes buckets seed) = []
other_streams (Update h bytes weight) = other_streams h
other_streams (Merge g h) = other_streams g ++ own_stream h ∷ other_streams h
other_streams (Halve h) = []
other_streams (Decay h n d) = []
other_streams (Restored h) = other_streams h

-- the own stream and the others
abbrev pub streams_of : CountHistory → List CountHistory
streams_of h = own_stream h ∷ other_streams h

-- the signed sum of f over a list
abbrev pub signed_sum_by : {X : Type 0} → (X → ℤ) → List X → ℤ
signed_sum_by f [] = pos 0
signed_sum_by f (x ∷ xs) = f x +ℤ signed_sum_by f xs

-- each cell is its bucket's share of all streams
abbrev pub CellsAreSharesOfStreams : CountState → CountHistory → Type 0
CellsAreSharesOfStreams s h = (r : ℕ) → r < s.hashes → (b : ℕ) → b < s.buckets
    → cell_at s.rows r b ≡ signed_sum_by (λ g. cell_share s.buckets s.seed g r b) (streams_of h)
