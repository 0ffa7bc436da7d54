-- How many bytes the items of a sketch own, as it is read and as it stands.
use Rattle.std.proofs.Common.{◌≡◌, ℕ, ◌+◌, ◌-◌, ◌<◌, ◌≤◌, Bool, true, false, cond, List, [], ◌∷◌, length, take, drop, get_or, sum_by, IsPermutation, sym, ap, ◌∙◌, arith, length-drop}
use Rattle.std.proofs.lemmas.List.Sorted.{sum_by-IsPermutation}
use Rattle.std.proofs.lemmas.List.Sums.{sum_by-cons, sum_by_push}
use Rattle.counter_table.specs.Slots.{entries_of}
use Rattle.counter_table.specs.Tables.{put}
use Rattle.counter_table.specs.declared.slot.Slot.{Slot}
use Rattle.counter_table.specs.declared.slot.Slot.TheVariants.{Free, Taken}
use Rattle.sketch_frequencies.specs.Items.{Codec, max_owned}
use Rattle.sketch_frequencies.specs.Memory.{owned_by, memory_bytes}
use Rattle.sketch_frequencies.proofs.Cases.{by_test}
use Rattle.sketch_frequencies.proofs.SlotEntries.{entries_taken, entries_passed}

-- what owns less takes less
pub memory_le : (table owned more most : ℕ) → owned ≤ more → memory_bytes table more ≤ most → memory_bytes table owned ≤ most
memory_le table owned more most le within = omega (arith, le, within)

-- items that own memory own no more than their bytes, and others nothing
pub owned_within : (owns : Bool) (n most : ℕ) → n ≤ most → cond owns n 0 ≤ most
owned_within true n most le = le
owned_within false n most le = omega arith

pub nothing_owned : (owns : Bool) (n most : ℕ) → owns ≡ false → cond owns n 0 ≤ most
nothing_owned true n most none = absurd cc
nothing_owned false n most none = omega arith

module _ {T C : Type 0} (codec : Codec C) (content : T → C) where
  -- an item more
  owned_put : (eq : T → T → Bool) (es : List (T × ℕ)) (x : T) (w : ℕ) → owned_by codec content (put eq es x w) ≤ owned_by codec content es + codec.owned (content x)
  owned_put eq [] x w = omega arith
  owned_put eq (e ∷ es) x w =
      let f : T × ℕ → ℕ = λ e. codec.owned (content e.0) in
      by_test (eq x e.0) (λ b. owned_by codec content (cond b ((e.0, e.1 + w) ∷ es) (e ∷ put eq es x w)) ≤ owned_by codec content (e ∷ es) + codec.owned (content x))
      (λ _. omega (arith, sum_by-cons f (e.0, e.1 + w) es, sum_by-cons f e es))
      (λ _. omega (arith, sum_by-cons f e (put eq es x w), sum_by-cons f e es, owned_put eq es x w))

  owned_permuted : (eq : T → T → Bool) (es fs : List (T × ℕ)) (x : T) (w : ℕ) → IsPermutation (put eq es x w) fs → owned_by codec content fs ≤ owned_by codec content es + codec.owned (content x)
  owned_permuted eq es fs x w perm =
      let f : T × ℕ → ℕ = λ e. codec.owned (content e.0) in
      omega (arith, owned_put eq es x w, sum_by-IsPermutation f (put eq es x w) fs perm)

  -- what the entries own and what the unread bytes may bring is at most what n bytes may bring
  abbrev pub OwnsSoFar : ℕ → List ℕ → List (T × ℕ) → Type 0
  OwnsSoFar n rest es = owned_by codec content es + max_owned codec (length rest) ≤ max_owned codec n

  pub owns_at_start : (n : ℕ) (image rest : List ℕ) → rest ≡ drop n image → OwnsSoFar (length image - n) rest []
  owns_at_start n image rest is = rw (is, length-drop n image) (omega arith)

  moved : (b : Bool) (owned new mine used left room : ℕ) (rest : List ℕ) → used ≤ length rest → new ≤ owned + mine → mine ≤ cond b used 0 → owned + cond b (length rest) 0 ≤ cond b room 0 → new + cond b (length (drop used rest)) 0 ≤ cond b room 0
  moved true owned new mine used left room rest within more bound h = omega (arith, within, more, bound, h, length-drop used rest)
  moved false owned new mine used left room rest within more bound h = omega (arith, more, bound, h)

  pub owns_more : (eq : T → T → Bool) (n used w : ℕ) (rest : List ℕ) (x : T) (es fs : List (T × ℕ)) → used ≤ length rest → codec.owned (content x) ≤ max_owned codec used → IsPermutation (put eq es x w) fs → OwnsSoFar n rest es → OwnsSoFar n (drop used rest) fs
  owns_more eq n used w rest x es fs within bound perm h =
      moved codec.owns (owned_by codec content es) (owned_by codec content fs) (codec.owned (content x)) used 0 n rest within (owned_permuted eq es fs x w perm) bound h

  at_the_end : (b : Bool) (owned left room items : ℕ) → room ≡ left + items → owned + cond b left 0 ≤ cond b room 0 → owned ≤ cond b items 0
  at_the_end true owned left room items is h = omega (arith, is, h)
  at_the_end false owned left room items is h = omega (arith, h)

  -- when all items are read, they own at most the bytes that they take
  pub owns_at_end : (n items : ℕ) (rest : List ℕ) (es : List (T × ℕ)) → n ≡ length rest + items → OwnsSoFar n rest es → owned_by codec content es ≤ max_owned codec items
  owns_at_end n items rest es is h = at_the_end codec.owns (owned_by codec content es) (length rest) n items is h

  pub owns_dropped : (n used : ℕ) (rest : List ℕ) (es : List (T × ℕ)) → used ≤ length rest → OwnsSoFar n rest es → OwnsSoFar n (drop used rest) es
  owns_dropped n used rest es within h =
      moved codec.owns (owned_by codec content es) (owned_by codec content es) 0 used 0 n rest within (omega arith) (omega arith) h

  -- ---- the slots of a table in turn

  pub memory_taken : (table : ℕ) (slots : List (Slot T)) (i drift count bytes new : ℕ) (x : T) (d : Slot T) → i < length slots → get_or slots i d ≡ Taken drift count x → bytes ≡ memory_bytes table (owned_by codec content (entries_of (take i slots))) → new ≡ memory_bytes bytes (codec.owned (content x)) → new ≡ memory_bytes table (owned_by codec content (entries_of (take (i + 1) slots)))
  memory_taken table slots i drift count bytes new x d lt is before now =
      let f : T × ℕ → ℕ = λ e. codec.owned (content e.0) in
      let es = entries_of (take i slots) in
      let more : owned_by codec content (entries_of (take (i + 1) slots)) ≡ owned_by codec content es + codec.owned (content x) =
      ap (sum_by f) (entries_taken slots i drift count x d lt is) ∙ sum_by_push f es (x, count) in
      omega (arith, before, now, more)

  pub memory_passed : (table : ℕ) (slots : List (Slot T)) (i bytes new : ℕ) (d : Slot T) → i < length slots → get_or slots i d ≡ Free → bytes ≡ memory_bytes table (owned_by codec content (entries_of (take i slots))) → new ≡ bytes → new ≡ memory_bytes table (owned_by codec content (entries_of (take (i + 1) slots)))
  memory_passed table slots i bytes new d lt is before now =
      now ∙ before ∙ ap (λ es. memory_bytes table (owned_by codec content es)) (sym (entries_passed slots i d lt is))
