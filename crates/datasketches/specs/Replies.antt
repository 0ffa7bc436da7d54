-- Replies for the outcome of a call, and the sketch after it.
use Rattle.std.specs.Prelude.{◌≡◌, ℕ, ◌^◌, ◌-◌, Bool, true, false, Result, Ok, Err, ⊤, ℤ, pos, negsuc}
use Rattle.sketch_base.specs.Errors.{ErrorValue}
use Rattle.datasketches.specs.declared.reply.Reply.{Reply}
use Rattle.datasketches.specs.declared.reply.Bounds.{Bounds}
use Rattle.datasketches.specs.declared.reply.Reply.TheVariants as reply
use Rattle.datasketches.specs.declared.reply.Reply.TheVariants.{Done, Refused}
use Rattle.datasketches.specs.declared.reply.Refusal.{Refusal}
use Rattle.datasketches.specs.declared.reply.Refusal.TheVariants.{WrongKind, Call}
use Rattle.datasketches.specs.declared.sketch.Sketch.{Sketch}

-- the minimum and maximum of `i64` and `u64`
abbrev pub min_signed : ℤ
min_signed = negsuc (2 ^ 63 - 1)

abbrev pub min_unsigned : ℤ
min_unsigned = pos 0

abbrev pub max_signed : ℕ
max_signed = 2 ^ 63 - 1

abbrev pub max_unsigned : ℕ
max_unsigned = 2 ^ 64 - 1

module _ {T : Type 0} where
  -- the reply if the call returned this error
  abbrev pub refused : ErrorValue → Reply T
  refused error = Refused (Call error)

  -- the reply to a call that succeeded or was rejected
  abbrev pub done_or : Result ⊤ Refusal → Reply T
  done_or (Ok _) = Done
  done_or (Err refusal) = Refused refusal

  -- the reply that a call returned, or that to its rejection
  abbrev pub told : Result (Reply T) Refusal → Reply T
  told (Ok reply) = reply
  told (Err refusal) = Refused refusal

  -- the same of a call that returns a part of a reply
  abbrev pub told_as : {X : Type 0} → (X → Reply T) → Result X Refusal → Reply T
  told_as reply_of (Ok x) = reply_of x
  told_as reply_of (Err refusal) = Refused refusal

  abbrev pub is_refused : Reply T → Bool
  is_refused (Refused refusal) = true
  is_refused _ = false

  -- the bounds, or the answer of a filter, that a reply has. A rejection keeps its reason. Another reply is that of the wrong kind
  -- of sketch
  abbrev pub bounds_in : Reply T → Result Bounds Refusal
  bounds_in (reply.Bounds estimate lower upper) = Ok (record { estimate = estimate; lower = lower; upper = upper })
  bounds_in (Refused refusal) = Err refusal
  bounds_in _ = Err WrongKind

  abbrev pub contains_in : Reply T → Result Bool Refusal
  contains_in (reply.Contains found) = Ok found
  contains_in (Refused refusal) = Err refusal
  contains_in _ = Err WrongKind

  -- the sketch is of a kind without this command, and is unchanged
  abbrev pub IsWrongKind : Sketch T → Reply T → Sketch T → Type 0
  IsWrongKind old reply new = (reply ≡ Refused WrongKind) × (new ≡ old)

  -- the new sketch is of this kind, and its state and the reply are as `Does` states
  abbrev pub Becomes : {State : Type 0} → (State → Sketch T) → (Reply T → State → Type 0) → Reply T → Sketch T → Type 0
  Becomes {State} kind Does reply new = (after : State) × Does reply after × (new ≡ kind after)
