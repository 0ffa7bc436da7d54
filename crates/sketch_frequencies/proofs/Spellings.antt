-- What is written is spelled for the sketch.
use Rattle.std.proofs.Common.{◌≡◌, ℕ, ◌+◌, ◌<◌, ◌^◌, Bool, List, [], ◌∷◌, ◌++◌, length, take, drop, get_or, Result, Ok, Err, refl, sym, ap, subst, ◌∙◌, append_assoc, arith, length-append}
use Rattle.std.specs.Int.{w64, to_le_bytes}
use Rattle.std.specs.List.{Any}
use Rattle.std.specs.Result.{IsOkAnd}
use Rattle.std.proofs.Math.Seq.{get_or-append_seam}
use Rattle.std.proofs.lemmas.List.{append-nil, length-map, take-append-drop}
use Rattle.std.proofs.lemmas.List.Elements.{filter_map-append}
use Rattle.std.proofs.lemmas.List.Sorted.{IsPermutation-refl}
use Rattle.sketch_frequencies.specs.Image.{AreEncoded, IsSpelledFor, contents_of, encoded_weights, header}
use Rattle.sketch_frequencies.specs.Items.{Codec}
use Rattle.counter_table.specs.Slots.{entries_of, slot_entry}
use Rattle.sketch_frequencies.specs.State.{FrequentState, IsState}
use Rattle.sketch_frequencies.specs.Writing.{IsWhole}
use Rattle.counter_table.specs.declared.slot.Slot.{Slot}
use Rattle.counter_table.specs.declared.slot.Slot.TheVariants.{Taken}
use Rattle.sketch_frequencies.proofs.Images.{contents_state}
use Rattle.sketch_frequencies.proofs.SlotEntries.{entries_taken}

pub ok_and : {A E : Type 0} {P : A → Type 0} (r : Result A E) → IsOkAnd r P → (x : A) × (r ≡ Ok x) × P x
ok_and (Ok x) h = (x, refl, h)
ok_and (Err e) h = absurd h

-- what holds of the entry of a slot holds of some entry
pub any_entry : {T : Type 0} (P : T × ℕ → Type 0) (i : ℕ) (slots : List (Slot T)) (drift n : ℕ) (x : T) (d : Slot T) → i < length slots → get_or slots i d ≡ Taken drift n x → P (x, n) → Any P (entries_of slots)
any_entry {T} P i slots drift n x d lt is h =
    let front = entries_of (take i slots) in
    let rest = entries_of (drop (i + 1) slots) in
    let whole : entries_of slots ≡ front ++ (x, n) ∷ rest = ap entries_of (sym (take-append-drop (i + 1) slots)) ∙ filter_map-append slot_entry (take (i + 1) slots) (drop (i + 1) slots) ∙ ap (λ (l : List (T × ℕ)). l ++ rest) (entries_taken slots i drift n x d lt is) ∙ append_assoc front ((x, n) ∷ []) rest in
    subst (λ (l : List (T × ℕ)). Any P l) (sym whole) (length front, (x, n), omega (arith, length-append front ((x, n) ∷ rest)), get_or-append_seam front (x, n) rest (x, n), h)

-- one weight more
pub weights_push : {T : Type 0} (es : List (T × ℕ)) (e : T × ℕ) → encoded_weights (es ++ e ∷ []) ≡ encoded_weights es ++ to_le_bytes w64 e.1
weights_push [] e = append-nil (to_le_bytes w64 e.1)
weights_push (d ∷ es) e = ap (λ (l : List ℕ). to_le_bytes w64 d.1 ++ l) (weights_push es e) ∙ sym (append_assoc (to_le_bytes w64 d.1) (encoded_weights es) (to_le_bytes w64 e.1))

-- one item more
pub encoded_push : {C : Type 0} (codec : Codec C) (es : List (C × ℕ)) (e : C × ℕ) (bytes first : List ℕ) → AreEncoded codec es bytes → codec.encoding e.0 ≡ Ok first → AreEncoded codec (es ++ e ∷ []) (bytes ++ first)
encoded_push codec [] e bytes first h enc = (first, [], enc, ap (λ (l : List ℕ). l ++ first) h ∙ sym (append-nil first), refl)
encoded_push codec (x ∷ es) e bytes first h enc = (h.0, h.1 ++ first, h.2, ap (λ (l : List ℕ). l ++ first) h.3 ∙ append_assoc h.0 h.1 first, encoded_push codec es e h.1 first h.4 enc)

encoded_weights-contents : {T C : Type 0} (content : T → C) (es : List (T × ℕ)) → encoded_weights (contents_of content es) ≡ encoded_weights es
encoded_weights-contents content [] = refl
encoded_weights-contents content (e ∷ es) = ap (λ (l : List ℕ). to_le_bytes w64 e.1 ++ l) (encoded_weights-contents content es)

module _ {T C : Type 0} (codec : Codec C) (content : T → C) (eq : T → T → Bool) (alike : (x y : T) → eq x y ≡ codec.same (content x) (content y)) where
  -- a sketch into which nothing was fed
  pub spelled_empty : (image : List ℕ) (s : FrequentState T) (lg_max : ℕ) → IsState eq s → s.total ≡ 0 → 2 ^ lg_max ≡ s.max_size → image ≡ header 1 lg_max 3 5 → IsSpelledFor codec content image s
  spelled_empty image s lg_max state none max_size is = record {
    state = contents_state codec content eq alike s state;
    total = omega (arith, none);
    empty = λ _. record { lg_max = lg_max; max_size = sym max_size; bytes = is };
    full = λ some. absurd (omega (arith, some, none));
  }

  -- any other
  pub spelled_full : (image : List ℕ) (s : FrequentState T) (lg_max lg_cur : ℕ) → IsState eq s → s.total < 2 ^ 64 → 0 < s.total → 2 ^ lg_max ≡ s.max_size → 2 ^ lg_cur ≡ s.size → IsWhole codec content lg_max lg_cur s.total s.error s.counters image → IsSpelledFor codec content image s
  spelled_full image s lg_max lg_cur state fits some max_size size whole =
      let f : T × ℕ → C × ℕ = λ p. (content p.0, p.1) in
      let many : length (contents_of content s.counters) ≡ length s.counters = length-map s.counters f in
      record {
        state = contents_state codec content eq alike s state;
        total = fits;
        empty = λ none. absurd (omega (arith, some, none));
        full = λ _. record {
          order = contents_of content s.counters;
          whole = IsPermutation-refl (contents_of content s.counters);
          lg_max = lg_max;
          lg_cur = lg_cur;
          max_size = sym max_size;
          size = sym size;
          items = whole.items;
          encoded = whole.encoded;
          bytes = whole.bytes ∙ rw (many, encoded_weights-contents content s.counters) refl;
        };
      }
