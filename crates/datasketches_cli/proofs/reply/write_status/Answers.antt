use Rattle.std.proofs.Common.{append_assoc}
use Rattle.datasketches_cli.proofs.reply.write_status.Goals as goal

pub returns-in-Frequent : goal.returns-in-Frequent
returns-in-Frequent c = rw c.in-Frequent.is (rw (append_assoc, append_assoc, append_assoc, append_assoc, append_assoc, append_assoc, append_assoc, append_assoc, append_assoc, append_assoc) c.write.ensures.bytes)

pub returns-in-CountI64 : goal.returns-in-CountI64
returns-in-CountI64 c = rw c.in-CountI64.is (rw (append_assoc, append_assoc, append_assoc, append_assoc, append_assoc, append_assoc) c.write-in-CountI64.ensures.bytes)

pub returns-in-CountU64 : goal.returns-in-CountU64
returns-in-CountU64 c = rw c.in-CountU64.is (rw (append_assoc, append_assoc, append_assoc, append_assoc, append_assoc, append_assoc) c.write-in-CountU64.ensures.bytes)

pub returns-in-Bloom : goal.returns-in-Bloom
returns-in-Bloom c = rw c.in-Bloom.is (rw (append_assoc, append_assoc, append_assoc, append_assoc, append_assoc, append_assoc) c.write-in-Bloom.ensures.bytes)
