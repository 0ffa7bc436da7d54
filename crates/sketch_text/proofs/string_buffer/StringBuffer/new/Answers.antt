use Rattle.sketch_text.proofs.StringBuffers.{buffered_none, no_strings}
use Rattle.sketch_text.proofs.string_buffer.StringBuffer.new.Goals as goal

pub invariant_of-result : goal.invariant_of-result
invariant_of-result c = rw (c.in_ok-push.ensures.items, c.new-offsets.ensures.items, c.new-bytes.ensures.items) buffered_none

pub returns : goal.returns
returns c = rw (c.in_ok-push.ensures.items, c.new-offsets.ensures.items, c.new-bytes.ensures.items) no_strings
