-- A handle owns a sketch and the right to free its block, and neither names a thread.
use Rattle.std.proofs.Common.{Option, None, Some}
use base.Shift.{Keyless}
use mir.Raw.{raw}
use denote.Memory.{lone}
use denote.RawPtr.{Ptr}
use denote.Param.Send.{IsSend, AllSend, owning_send, struct_send, sendable}
use denote.Struct.Struct.{exits_of}
use denote.Struct.Owning.{shape, fields, to}
use Rattle.std.specs.declared.alloc.Global.{Global}
use Rattle.std.specs.contracts.impls.GlobalAllocator.TheImpl.{ghosts}
use Rattle.std.proofs.Crossing as heap
use Rattle.std_alloc.proofs.SendSync.{quiet, lies}
use Rattle.std_heap.proofs.Global.TheSendSync as allocator
use Rattle.datasketches_c.proofs.held_sketch.HeldSketch.TheSendSync as sketch_crosses
use Rattle.datasketches_c.specs.Holding.{holds}
use Rattle.datasketches_c.specs.declared.held_sketch.HeldSketch as sketch
use Rattle.datasketches_c.specs.contracts.held_sketch.HeldSketch as held_sketch
use Rattle.datasketches_c.specs.contracts.handle.SketchHandle.{the_row, the_type}

holds_keyless : (a : Global) (p : Ptr) (held : Option sketch.HeldSketch) → Keyless (holds (ghosts.dealloc_token a) held_sketch.the_row p held)
holds_keyless a p None = tt
holds_keyless a p (Some x) = (lies held_sketch.the_row sketch_crosses.the_send p x, heap.frees.frees a (raw (lone held_sketch.the_row.mir)) p)

pub send : IsSend the_row
send =
    let all : AllSend (fields the_type) = (search sendable, (allocator.the_field_send, tt)) in
    owning_send the_type all (λ d. holds_keyless d.alloc d.pointer d.value)
    (λ k. quiet (to the_type) (exits_of k (fields the_type)) ((struct_send (shape the_type) all).leaving k))
