-- Histories of sketches of every kind, and how each accepted command extends the history of a name.
use Rattle.std.specs.Prelude.{ℕ, ◌*◌, ◌==◌, List, [], ◌∷◌, Option, Some, None, option_map, bytes_eq, if◌then◌else◌, pos, unsigned_abs}
use Rattle.sketch_base.specs.Hashes.{fed_bytes}
use Rattle.sketch_bloom.specs.Building.{words_for}
use Rattle.sketch_bloom.specs.History as bloom
use Rattle.sketch_bloom.specs.Image as bloom_image
use Rattle.sketch_bloom.specs.History.{BloomHistory}
use Rattle.sketch_countmin.specs.History as count
use Rattle.sketch_countmin.specs.Image as count_image
use Rattle.sketch_countmin.specs.History.{CountHistory}
use Rattle.sketch_frequencies.specs.History as frequent
use Rattle.sketch_frequencies.specs.Image as frequent_image
use Rattle.sketch_frequencies.specs.History.{FrequentHistory}
use Rattle.datasketches.specs.Actions.{action_of, Action, Action as action, Change, Change as change, Join, Join as join, Shape, Shape as shape, usual_sizes}
use Rattle.datasketches.specs.Replies.{is_refused}
use Rattle.datasketches.specs.declared.command.Command.{Command}
use Rattle.datasketches.specs.declared.image_kind.ImageKind.{ImageKind}
use Rattle.datasketches.specs.declared.image_kind.ImageKind.TheVariants as kind
use Rattle.datasketches.specs.declared.reply.Reply.{Reply}

-- the history of a sketch of one kind. Of a sketch from an untrusted image only the shape is known
pub data History (T : Type 0) : Type 0 where
  OfFrequent : FrequentHistory T → History T
  OfCountI64 : CountHistory → History T
  OfCountU64 : CountHistory → History T
  OfBloom : BloomHistory → History T
  OfStranger : Shape → History T

-- a kind and a history for each name of a sketch and each name of an image
pub record Assignment (T : Type 0) : Type 0 where
  pub sketches : List ℕ → Option (History T)
  pub images : List ℕ → Option (History T)

-- the shape of a sketch that was restored from an image of a sketch of this shape: an image does not keep the sample size
abbrev pub restored_shape : Shape → Shape
restored_shape (shape.Frequent sizes) = shape.Frequent (usual_sizes sizes.max_map_size)
restored_shape known = known

-- f of both histories if both exist, otherwise the first
abbrev pub of_both : {X : Type 0} → (X → X → X) → Option X → Option X → Option X
of_both f None other = None
of_both f (Some own) None = Some own
of_both f (Some own) (Some other) = Some (f own other)

module _ {T : Type 0} where
  -- the assignment without names
  abbrev pub nothing_named : Assignment T
  nothing_named = record { sketches = λ name. None; images = λ name. None }

  -- the same histories, except that the name now has this one
  abbrev pub put_at : List ℕ → Option (History T) → (List ℕ → Option (History T)) → List ℕ → Option (History T)
  put_at name history histories other = if bytes_eq name other then history else histories other

  -- the history of a new sketch of the shape
  abbrev pub begun : Shape → History T
  begun (shape.Frequent sizes) = OfFrequent (frequent.New sizes.max_map_size sizes.sample_size)
  begun (shape.CountI64 sizes) = OfCountI64 (count.New sizes.num_hashes sizes.num_buckets sizes.seed)
  begun (shape.CountU64 sizes) = OfCountU64 (count.New sizes.num_hashes sizes.num_buckets sizes.seed)
  begun (shape.Bloom request) = OfBloom (bloom.New (words_for request.num_bits) request.num_hashes request.seed)

  -- the shape of a sketch with this history
  abbrev pub shape_of : History T → Shape
  shape_of (OfFrequent h) =
      shape.Frequent (record { max_map_size = frequent.own_size h; sample_size = frequent.own_sample h })
  shape_of (OfCountI64 h) =
      shape.CountI64 (record { num_hashes = count.hashes_of h; num_buckets = count.buckets_of h; seed = count.seed_of h })
  shape_of (OfCountU64 h) =
      shape.CountU64 (record { num_hashes = count.hashes_of h; num_buckets = count.buckets_of h; seed = count.seed_of h })
  shape_of (OfBloom h) =
      shape.Bloom (record { num_bits = 64 * bloom.words_of h; num_hashes = bloom.hashes_of h; seed = bloom.seed_of h })
  shape_of (OfStranger known) = known

  -- the history of a sketch that was restored from an image of this history
  abbrev pub restored : History T → History T
  restored (OfFrequent h) = OfFrequent (frequent.Restored h)
  restored (OfCountI64 h) = OfCountI64 (count.Restored h)
  restored (OfCountU64 h) = OfCountU64 (count.Restored h)
  restored (OfBloom h) = OfBloom (bloom.Restored h)
  restored (OfStranger known) = OfStranger (restored_shape known)

  -- the history of the first sketch after the second was combined into it. If one is untrusted, the result is untrusted
  abbrev pub joined : Join → History T → History T → History T
  joined join.Merge (OfFrequent g) (OfFrequent h) = OfFrequent (frequent.Merge g h)
  joined join.Merge (OfCountI64 g) (OfCountI64 h) = OfCountI64 (count.Merge g h)
  joined join.Merge (OfCountU64 g) (OfCountU64 h) = OfCountU64 (count.Merge g h)
  joined join.Union (OfBloom g) (OfBloom h) = OfBloom (bloom.Union g h)
  joined join.Intersect (OfBloom g) (OfBloom h) = OfBloom (bloom.Intersection g h)
  joined join.Difference (OfBloom g) (OfBloom h) = OfBloom (bloom.Difference g h)
  joined _ own (OfStranger other) = OfStranger (shape_of own)
  joined _ history _ = history

-- the shape that an image of the kind states
abbrev pub stated_shape : ImageKind → List ℕ → Shape
stated_shape kind.Frequent bytes = shape.Frequent (usual_sizes (frequent_image.max_size_at bytes))
stated_shape (kind.CountI64 seed) bytes =
    shape.CountI64 (record { num_hashes = count_image.hashes_at bytes; num_buckets = count_image.buckets_at bytes; seed = seed })
stated_shape (kind.CountU64 seed) bytes =
    shape.CountU64 (record { num_hashes = count_image.hashes_at bytes; num_buckets = count_image.buckets_at bytes; seed = seed })
stated_shape kind.Bloom bytes = shape.Bloom (record {
  num_bits = 64 * bloom_image.num_words_at bytes;
  num_hashes = bloom_image.num_hashes_at bytes;
  seed = bloom_image.seed_at bytes;
})

-- the history of the bytes that the action loads, if they are untrusted. An action that loads none has no such history, and a
-- shape stands for it
abbrev pub stranger_of : {T : Type 0} → Action T → History T
stranger_of (action.Load name kind bytes max_bytes) = OfStranger (stated_shape kind bytes)
stranger_of _ = OfStranger (shape.Frequent (usual_sizes 0))

-- `input` is what an item feeds to a hasher
module _ {T : Type 0} (input : T → List (List ℕ)) where
  -- the history of a sketch after a change. A weight of 0 changes nothing. After a reset the history is known: if it was not
  -- before, it is that of a new sketch
  abbrev pub changed : Change T → History T → History T
  changed (change.Add item weight) (OfFrequent h) = OfFrequent (if weight == 0 then h else frequent.Update h item weight)
  changed (change.Add item weight) (OfCountU64 h) =
      OfCountU64 (if weight == 0 then h else count.Update h (fed_bytes input item) (pos weight))
  changed (change.AddSigned item weight) (OfCountI64 h) =
      OfCountI64 (if unsigned_abs weight == 0 then h else count.Update h (fed_bytes input item) weight)
  changed (change.Insert item) (OfBloom h) = OfBloom (bloom.Insert h (fed_bytes input item))
  changed change.Reset (OfFrequent h) = OfFrequent (frequent.Reset h)
  changed change.Reset (OfBloom h) = OfBloom (bloom.Reset h)
  changed change.Reset (OfStranger known) = begun known
  changed change.Halve (OfCountU64 h) = OfCountU64 (count.Halve h)
  changed (change.Decay numerator denominator) (OfCountU64 h) = OfCountU64 (count.Decay h numerator denominator)
  changed _ history = history

  -- the assignment after a sketch was created under the name
  abbrev pub made : Assignment T → List ℕ → Shape → Assignment T
  made a name shape = record a { sketches = put_at name (Some (begun shape)) a.sketches }

  -- the assignment after the sketch of the name was changed
  abbrev pub grown : Assignment T → List ℕ → Change T → Assignment T
  grown a name change = record a { sketches = put_at name (option_map (changed change) (a.sketches name)) a.sketches }

  -- the assignment after the sketch of one name was combined into that of another
  abbrev pub both_joined : Assignment T → List ℕ → List ℕ → Join → Assignment T
  both_joined a into other join =
      record a { sketches = put_at into (of_both (joined join) (a.sketches into) (a.sketches other)) a.sketches }

  -- the assignment after an accepted action. `loaded` is the history of the bytes that it loads, if any
  abbrev pub accepted_told : Assignment T → Action T → History T → Assignment T
  accepted_told a (action.Create name shape) loaded = made a name shape
  accepted_told a (action.Alter name change) loaded = grown a name change
  accepted_told a (action.Combine into other join) loaded = both_joined a into other join
  accepted_told a (action.Save name image) loaded =
      record a { images = put_at image (a.sketches name) a.images }
  accepted_told a (action.Restore image name) loaded =
      record a { sketches = put_at name (option_map restored (a.images image)) a.sketches }
  accepted_told a (action.Load name kind bytes max_bytes) loaded =
      record a { sketches = put_at name (Some (restored loaded)) a.sketches }
  accepted_told a (action.ShowImage image) loaded = a
  accepted_told a (action.Ask name item) loaded = a
  accepted_told a (action.GetStatus name) loaded = a
  accepted_told a (action.ListRows name error_type threshold) loaded = a

  -- the assignment after an action with this reply. A rejected action changes nothing
  abbrev pub after_action_told : Assignment T → Action T → History T → Reply T → Assignment T
  after_action_told a action loaded reply = if is_refused reply then a else accepted_told a action loaded

  -- the assignment after a command with this reply: that after its action
  abbrev pub after_one_told : Assignment T → Command T → History T → Reply T → Assignment T
  after_one_told a command loaded reply = after_action_told a (action_of command) loaded reply

  -- the assignment after commands with these replies, in order. `loaded` has, for each command, the history of the bytes that it
  -- loads. Commands after its end load untrusted bytes
  abbrev pub after_told : Assignment T → List (Command T) → List (History T) → List (Reply T) → Assignment T
  after_told a [] loaded replies = a
  after_told a (command ∷ commands) loaded [] = a
  after_told a (command ∷ commands) [] (reply ∷ replies) =
      after_told (after_one_told a command (stranger_of (action_of command)) reply) commands [] replies
  after_told a (command ∷ commands) (history ∷ loaded) (reply ∷ replies) =
      after_told (after_one_told a command history reply) commands loaded replies

  -- ---- the same if nothing is known of the bytes that are loaded: they are untrusted

  abbrev pub accepted : Assignment T → Action T → Assignment T
  accepted a action = accepted_told a action (stranger_of action)

  abbrev pub after_action : Assignment T → Action T → Reply T → Assignment T
  after_action a action reply = after_action_told a action (stranger_of action) reply

  abbrev pub after_one : Assignment T → Command T → Reply T → Assignment T
  after_one a command reply = after_one_told a command (stranger_of (action_of command)) reply

  abbrev pub after : Assignment T → List (Command T) → List (Reply T) → Assignment T
  after a [] replies = a
  after a (command ∷ commands) [] = a
  after a (command ∷ commands) (reply ∷ replies) = after (after_one a command reply) commands replies
