-- How many bytes the items of an image take, and how they are written one after another.
use Rattle.std.proofs.Common.{◌≡◌, ℕ, zero, suc, ◌+◌, ◌-◌, ◌*◌, ◌<◌, ◌≤◌, ◌^◌, List, [], ◌∷◌, ◌++◌, length, take, drop, get_or, min, sum_by, Result, Ok, Err, IsPermutation, refl, sym, ap, subst, ◌∙◌, append_assoc, arith, length-append, length-drop}
use Rattle.std.specs.Prelude.{IfOk}
use Rattle.std.proofs.Math.Nat.{mul-suc}
use Rattle.std.proofs.lemmas.List.{take-append-drop, length-map, map-append}
use Rattle.std.proofs.lemmas.List.Elements.{filter_map-append}
use Rattle.std.proofs.lemmas.List.Sorted.{sum_by-IsPermutation}
use Rattle.std.proofs.lemmas.List.Sums.{sum_by-cons}
use Rattle.sketch_base.specs.declared.fault.Fault.{Fault}
use Rattle.counter_table.specs.Slots.{entries_of, slot_entry}
use Rattle.counter_table.specs.declared.slot.Slot.{Slot}
use Rattle.counter_table.specs.declared.slot.Slot.TheVariants.{Taken}
use Rattle.sketch_frequencies.specs.Image.{AreEncoded, contents_of, items_bytes, used_by}
use Rattle.sketch_frequencies.specs.Items.{Codec, IsLawful, IsWithin}
use Rattle.sketch_frequencies.specs.Writing.{TakeBytes, TakeCapped, TakeEach}
use Rattle.sketch_frequencies.proofs.SlotEntries.{entries_taken}
use Rattle.sketch_frequencies.proofs.Spellings.{encoded_push}

-- the bytes, or none if there are none
abbrev bytes_or_none : Result (List ℕ) Fault → List ℕ
bytes_or_none (Ok bytes) = bytes
bytes_or_none (Err fault) = []

module _ {C : Type 0} (codec : Codec C) where
  same_bytes : (v : C) (f g : List ℕ) → codec.encoding v ≡ Ok f → codec.encoding v ≡ Ok g → f ≡ g
  same_bytes v f g p q = ap bytes_or_none (sym p ∙ q)

  -- counters have one encoding
  pub encoded_alike : (es : List (C × ℕ)) (a b : List ℕ) → AreEncoded codec es a → AreEncoded codec es b → a ≡ b
  encoded_alike [] a b h k = h ∙ sym k
  encoded_alike (e ∷ es) a b h k =
      h.3
      ∙ (ap (λ (l : List ℕ). l ++ h.1) (same_bytes e.0 h.0 k.0 h.2 k.2)
      ∙ (ap (λ (l : List ℕ). k.0 ++ l) (encoded_alike es h.1 k.1 h.4 k.4) ∙ sym k.3))

  abbrev size_of : C → ℕ
  size_of v = length (bytes_or_none (codec.encoding v))

  sum_of_sizes : (es : List (C × ℕ)) (bytes : List ℕ) → AreEncoded codec es bytes → length bytes ≡ sum_by (λ e. size_of e.0) es
  sum_of_sizes [] bytes h = ap length h
  sum_of_sizes (e ∷ es) bytes h =
      let one : size_of e.0 ≡ length h.0 = ap (λ r. length (bytes_or_none r)) h.2 in
      let whole : length bytes ≡ length h.0 + length h.1 = ap length h.3 ∙ length-append h.0 h.1 in
      omega (arith, one, whole, sum_of_sizes es h.1 h.4, sum_by-cons (λ e. size_of e.0) e es)

  -- in any order, the items take the same number of bytes
  pub size_permuted : (es fs : List (C × ℕ)) (a b : List ℕ) → IsPermutation es fs → AreEncoded codec es a → AreEncoded codec fs b → length b ≡ length a
  size_permuted es fs a b perm h k = omega (arith, sum_of_sizes es a h, sum_of_sizes fs b k, sum_by-IsPermutation (λ e. size_of e.0) es fs perm)

  -- items of at most `most` bytes each take no more than so many times
  pub encoded_within : (most : ℕ) → IsWithin codec most → (es : List (C × ℕ)) (bytes : List ℕ) → AreEncoded codec es bytes → length bytes ≤ most * length es
  encoded_within most within [] bytes h = omega (arith, ap length h)
  encoded_within most within (e ∷ es) bytes h =
      let whole : length bytes ≡ length h.0 + length h.1 = ap length h.3 ∙ length-append h.0 h.1 in
      let more : most * suc (length es) ≡ most * length es + most = mul-suc most (length es) in
      omega (arith, whole, within e.0 h.0 h.2, encoded_within most within es h.1 h.4, more)

  -- of a list that has an encoding, the entry after a part has one too, within the whole
  next_of : (front : List (C × ℕ)) (e : C × ℕ) (rest : List (C × ℕ)) (whole part : List ℕ) → AreEncoded codec (front ++ e ∷ rest) whole → AreEncoded codec front part → (first : List ℕ) × (codec.encoding e.0 ≡ Ok first) × (length part + length first ≤ length whole)
  next_of [] e rest whole part h k =
      let long : length whole ≡ length h.0 + length h.1 = ap length h.3 ∙ length-append h.0 h.1 in
      (h.0, h.2, omega (arith, long, ap length k))
  next_of (x ∷ front) e rest whole part h k =
      let n = next_of front e rest h.1 k.1 h.4 k.4 in
      let long : length whole ≡ length h.0 + length h.1 = ap length h.3 ∙ length-append h.0 h.1 in
      let part_long : length part ≡ length k.0 + length k.1 = ap length k.3 ∙ length-append k.0 k.1 in
      (n.0, n.1, omega (arith, long, part_long, ap length (same_bytes x.0 h.0 k.0 h.2 k.2), n.2))

module _ {T C : Type 0} (codec : Codec C) (content : T → C) where
  -- the entries of the slots are those of the slots so far, that of this slot, and others
  whole_is : (slots : List (Slot T)) (i drift count : ℕ) (x : T) (d : Slot T) → i < length slots → get_or slots i d ≡ Taken drift count x → contents_of content (entries_of slots) ≡ contents_of content (entries_of (take i slots)) ++ (content x, count) ∷ contents_of content (entries_of (drop (i + 1) slots))
  whole_is slots i drift count x d lt is =
      let f : T × ℕ → C × ℕ = λ e. (content e.0, e.1) in
      let front = entries_of (take i slots) in
      let rest = entries_of (drop (i + 1) slots) in
      let whole : entries_of slots ≡ front ++ (x, count) ∷ rest = ap entries_of (sym (take-append-drop (i + 1) slots)) ∙ filter_map-append slot_entry (take (i + 1) slots) (drop (i + 1) slots) ∙ ap (λ (l : List (T × ℕ)). l ++ rest) (entries_taken slots i drift count x d lt is) ∙ append_assoc front ((x, count) ∷ []) rest in
      ap (contents_of content) whole ∙ map-append f front ((x, count) ∷ rest)

  -- the item of a slot has an encoding, within that of the whole
  pub encoded_next : (slots : List (Slot T)) (i drift count : ℕ) (x : T) (d : Slot T) (part : List ℕ) (n : ℕ) → i < length slots → get_or slots i d ≡ Taken drift count x → TakeBytes codec (contents_of content (entries_of slots)) n → AreEncoded codec (contents_of content (entries_of (take i slots))) part → (first : List ℕ) × (codec.encoding (content x) ≡ Ok first) × (length part + length first ≤ n)
  encoded_next slots i drift count x d part n lt is h k =
      let all = subst (λ l. AreEncoded codec l h.0) (whole_is slots i drift count x d lt is) h.1 in
      let next = next_of codec (contents_of content (entries_of (take i slots))) (content x, count) (contents_of content (entries_of (drop (i + 1) slots))) h.0 part all k in
      (next.0, next.1, omega (arith, next.2, h.2))

  -- the slots so far, with one item more
  pub encoded_more : (slots : List (Slot T)) (i drift count : ℕ) (x : T) (d : Slot T) (part first now : List ℕ) → i < length slots → get_or slots i d ≡ Taken drift count x → codec.encoding (content x) ≡ Ok first → AreEncoded codec (contents_of content (entries_of (take i slots))) part → now ≡ part ++ first → AreEncoded codec (contents_of content (entries_of (take (i + 1) slots))) now
  encoded_more slots i drift count x d part first now lt is enc h now_is =
      let f : T × ℕ → C × ℕ = λ e. (content e.0, e.1) in
      let es = entries_of (take i slots) in
      rw (entries_taken slots i drift count x d lt is, map-append f es ((x, count) ∷ []), now_is) (encoded_push codec (contents_of content es) (f (x, count)) part first h enc)

  -- the bytes that the items so far take, or `usize::MAX` if they take more
  abbrev pub TakeSoFar : List (T × ℕ) → ℕ → Type 0
  TakeSoFar es n = TakeCapped codec (contents_of content es) n

  pub size_more : (slots : List (Slot T)) (i drift count : ℕ) (x : T) (d : Slot T) (n one new : ℕ) (first : List ℕ) → i < length slots → get_or slots i d ≡ Taken drift count x → codec.encoding (content x) ≡ Ok first → one ≡ length first → new ≡ min (n + one) (2 ^ 64 - 1) → TakeSoFar (entries_of (take i slots)) n → TakeSoFar (entries_of (take (i + 1) slots)) new
  size_more slots i drift count x d n one new first lt is enc one_is new_is h =
      (h.0 ++ first, encoded_more slots i drift count x d h.0 first (h.0 ++ first) lt is enc h.1 refl, omega (arith, h.2, new_is, one_is, length-append h.0 first))

  -- one item more, if each takes the same number of bytes
  pub each_more : (slots : List (Slot T)) (i drift count : ℕ) (x : T) (d : Slot T) (n one : ℕ) (first : List ℕ) → i < length slots → get_or slots i d ≡ Taken drift count x → codec.encoding (content x) ≡ Ok first → one ≡ length first → one ≡ n → TakeEach codec (contents_of content (entries_of (take i slots))) n → TakeEach codec (contents_of content (entries_of (take (i + 1) slots))) n
  each_more slots i drift count x d n one first lt is enc one_is same h =
      let f : T × ℕ → C × ℕ = λ e. (content e.0, e.1) in
      let front = entries_of (take i slots) in
      let long : length (contents_of content (entries_of (take (i + 1) slots))) ≡ suc (length (contents_of content front)) =
      omega (arith, length-map (entries_of (take (i + 1) slots)) f, length-map front f, ap length (entries_taken slots i drift count x d lt is), length-append front ((x, count) ∷ [])) in
      let more : n * suc (length (contents_of content front)) ≡ n * length (contents_of content front) + n = mul-suc n (length (contents_of content front)) in
      let next : n * length (contents_of content (entries_of (take (i + 1) slots))) ≡ n * suc (length (contents_of content front)) = ap (λ k. n * k) long in
      (h.0 ++ first, encoded_more slots i drift count x d h.0 first (h.0 ++ first) lt is enc h.1 refl, omega (arith, h.2, one_is, same, length-append h.0 first, more, next))

  -- the items take so many bytes in all
  pub each_capped : (es : List (T × ℕ)) (n all size : ℕ) → TakeEach codec (contents_of content es) n → all ≡ n * length es → size ≡ min all (2 ^ 64 - 1) → TakeCapped codec (contents_of content es) size
  each_capped es n all size h all_is is =
      let many : length (contents_of content es) ≡ length es = length-map es (λ e. (content e.0, e.1)) in
      (h.0, h.1, omega (arith, h.2, ap (λ k. n * k) many, all_is, is))

  -- there is room for the weight of the entry of a slot
  pub weight_next : (slots : List (Slot T)) (i drift count : ℕ) (x : T) (d : Slot T) → i < length slots → get_or slots i d ≡ Taken drift count x → length (entries_of (take i slots)) + 1 ≤ length (entries_of slots)
  weight_next slots i drift count x d lt is =
      let f : T × ℕ → C × ℕ = λ e. (content e.0, e.1) in
      let front = entries_of (take i slots) in
      let rest = entries_of (drop (i + 1) slots) in
      let long = ap length (whole_is slots i drift count x d lt is) ∙ length-append (contents_of content front) ((content x, count) ∷ contents_of content rest) in
      omega (arith, long, length-map (entries_of slots) f, length-map front f)

-- what an encoding takes, if there is one
pub size_is : {C : Type 0} (codec : Codec C) (v : C) (n : ℕ) (first : List ℕ) → codec.encoding v ≡ Ok first → IfOk (codec.encoding v) (λ bytes. n ≡ length bytes) → n ≡ length first
size_is codec v n first enc h = subst (λ r. IfOk r (λ bytes. n ≡ length bytes)) enc h

-- ---- how many bytes are read or measured

no_items : {C : Type 0} (codec : Codec C) (n : ℕ) (bytes : List ℕ) → n ≡ 0 → items_bytes codec n bytes ≡ 0
unfolding items_bytes
no_items codec zero bytes h = refl
no_items codec (suc n) bytes h = absurd (omega (arith, h))

-- of no items
pub items_of_none : {C : Type 0} (codec : Codec C) (bytes : List ℕ) → items_bytes codec 0 bytes ≡ 0
items_of_none codec bytes = no_items codec 0 bytes refl

-- one item, and the others
bytes_next : {C : Type 0} (codec : Codec C) (n m used : ℕ) (bytes : List ℕ) → n ≡ suc m → used_by (codec.reading bytes) ≡ used → items_bytes codec n bytes ≡ used + items_bytes codec m (drop used bytes)
unfolding items_bytes
bytes_next codec n m used bytes less is = rw (less, sym is) refl

-- after an item that cannot be read, none is counted
no_more : {C : Type 0} (codec : Codec C) (n : ℕ) (bytes : List ℕ) → used_by (codec.reading bytes) ≡ 0 → items_bytes codec n bytes ≡ 0
no_more codec zero bytes h = items_of_none codec bytes
no_more codec (suc n) bytes h = omega (arith, bytes_next codec (suc n) n 0 bytes refl h, no_more codec n bytes h)

module _ {C : Type 0} (codec : Codec C) (items : List ℕ) (active : ℕ) where
  -- i items were read, and the rest is unread
  pub record AreReadSoFar (i : ℕ) (rest : List ℕ) : Type 0 where
    pub room : length rest ≤ length items
    pub bytes : items_bytes codec active items ≡ length items - length rest + items_bytes codec (active - i) rest

  pub none_read : (rest : List ℕ) → rest ≡ items → AreReadSoFar 0 rest
  none_read rest is =
      let whole : items_bytes codec (active - 0) rest ≡ items_bytes codec active rest = ap (λ (n : ℕ). items_bytes codec n rest) (omega arith) in
      record {
        room = omega (arith, ap length is);
        bytes = omega (arith, ap length is, ap (items_bytes codec active) is, whole);
      }

  pub one_read : (i used : ℕ) (rest : List ℕ) → i < active → used ≤ length rest → used_by (codec.reading rest) ≡ used → AreReadSoFar i rest → AreReadSoFar (i + 1) (drop used rest)
  one_read i used rest lt within read h =
      let step = bytes_next codec (active - i) (active - (i + 1)) used rest (omega (arith, lt)) read in
      record {
        room = omega (arith, h.room, length-drop used rest);
        bytes = omega (arith, h.room, h.bytes, step, within, length-drop used rest);
      }

  pub all_read : (i : ℕ) (rest : List ℕ) → active ≤ i → AreReadSoFar i rest → length items - length rest ≡ items_bytes codec active items
  all_read i rest le h = omega (arith, h.room, h.bytes, no_items codec (active - i) rest (omega (arith, le)))

  -- the next item cannot be read
  pub read_to_fault : (i : ℕ) (rest : List ℕ) → used_by (codec.reading rest) ≡ 0 → AreReadSoFar i rest → length items - length rest ≡ items_bytes codec active items
  read_to_fault i rest none h = omega (arith, h.room, h.bytes, no_more codec (active - i) rest none)

-- all bytes after the weights: those of the items, and the rest
pub items_and_rest : {C : Type 0} (codec : Codec C) (image : List ℕ) (active i : ℕ) (rest : List ℕ) → active ≤ i → AreReadSoFar codec (drop (32 + 8 * active) image) active i rest → length image - (32 + 8 * active) ≡ length rest + items_bytes codec active (drop (32 + 8 * active) image)
items_and_rest codec image active i rest le h = omega (arith, all_read codec (drop (32 + 8 * active) image) active i rest le h, h.room, length-drop (32 + 8 * active) image)

-- ---- items lie within the bytes

used_of : {C : Type 0} (n : ℕ) (r : Result (C × ℕ) Fault) → ((v : C) (used : ℕ) → r ≡ Ok (v, used) → used ≤ n) → used_by r ≤ n
used_of n (Ok first) h = h first.0 first.1 refl
used_of n (Err fault) h = omega arith

module _ {C : Type 0} (codec : Codec C) (lawful : IsLawful codec) where
  pub used_within : (bytes : List ℕ) → used_by (codec.reading bytes) ≤ length bytes
  used_within bytes = used_of (length bytes) (codec.reading bytes) (λ v used e. lawful.within v used bytes e)

  pub items_within : (n : ℕ) (bytes : List ℕ) → items_bytes codec n bytes ≤ length bytes
  items_within zero bytes = omega (arith, items_of_none codec bytes)
  items_within (suc n) bytes =
      let used = used_by (codec.reading bytes) in
      omega (arith, bytes_next codec (suc n) n used bytes refl refl, used_within bytes, items_within n (drop used bytes), length-drop used bytes)
