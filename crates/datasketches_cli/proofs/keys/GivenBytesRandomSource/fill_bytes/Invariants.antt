use Rattle.std.proofs.Common.{◌≡◌, ℕ, ◌%◌, ◌<◌, slice_index}
use Rattle.datasketches_cli.proofs.keys.GivenBytesRandomSource.fill_bytes.Given as goal

-- the bytes before this one are written
abbrev pub invariant-loop-i : goal.invariant-loop-i
invariant-loop-i l = (j : ℕ) → j < l.i → slice_index l.buf j ≡ slice_index l.self.bytes (j % 16)
