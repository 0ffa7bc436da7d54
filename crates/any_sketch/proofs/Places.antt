-- The last places of a column of results, one for each valid row.
use Rattle.std.proofs.Common.{◌≡◌, ◌+◌, ◌-◌, ℕ, List, length, length-drop, map, take, drop, Bool, Option, Some, sym, ap, ◌∙◌, arith}
use Rattle.std.proofs.lemmas.List.{length-take-le}
use borrow.Rule.Slice.PartMut.{put_mid, same_len_mid}
use Rattle.sketch_base.specs.Validity.{valid}
use Rattle.any_sketch.specs.ManyItems.{Rows, num_rows, num_valid}
use Rattle.any_sketch.specs.ManyItems.Rows.{u64s, i64s, strings, fed_as_given}
use Rattle.any_sketch.specs.ValidRows.{of_valid}
use Rattle.any_sketch.proofs.RowCounts.{length-of_valid, length_valid_map}

last_places : {A : Type 0} → (results : List A) (from : ℕ) → length (take (length results - from) (drop from results)) ≡ length results - from
last_places results from = length-take-le (length results - from) (drop from results) (omega (arith, length-drop from results))

-- as many valid rows as items
pub as_many : {A : Type 0} → (validity : Option (List Bool)) (rows : Rows) (results : List A) → length results ≡ num_rows rows
    → length (of_valid validity results) ≡ num_valid rows validity
as_many validity (u64s rows) results same = length-of_valid validity results rows same
as_many validity (i64s rows) results same = length-of_valid validity results rows same
as_many validity (strings rows) results same = length-of_valid validity results rows same
as_many validity (fed_as_given rows) results same = length-of_valid validity results rows same

-- there is a place for each item
pub place_count : {A : Type 0} → (validity bits : Option (List Bool)) (rows : Rows) (results : List A) (from : ℕ) → bits ≡ validity
    → from + length (of_valid bits results) ≡ length results → length results ≡ num_rows rows
    → length (take (length results - from) (drop from results)) ≡ num_valid rows validity
place_count validity bits rows results from is room same =
    let count : length (of_valid bits results) ≡ num_valid rows validity = ap (λ b. length (of_valid b results)) is ∙ as_many validity rows results same in
    omega (arith, last_places results from, room, count)

-- the places are filled, and no others
pub places_again : {A : Type 0} → (validity : Option (List Bool)) (old new : List A) (from : ℕ) → from + length (of_valid validity old) ≡ length old
    → length new ≡ length (take (length old - from) (drop from old))
    → from + length (of_valid validity (put_mid from (length old - from) old new)) ≡ length (put_mid from (length old - from) old new)
places_again validity old new from room same =
    let kept : length (put_mid from (length old - from) old new) ≡ length old = same_len_mid from (length old - from) old new same in
    let count = length-of_valid validity (put_mid from (length old - from) old new) old kept in
    omega (arith, kept, count, room)

-- there is a place for each name
pub same_names : {A B C : Type 0} → (copy validity : Option (List Bool)) (bits : List Bool) (name : B → C) (rows : List B) (results : List A)
    → copy ≡ validity → validity ≡ Some bits → length results ≡ length rows → length (of_valid copy results) ≡ length (valid bits (map name rows))
same_names copy validity bits name rows results copied some same =
    ap (λ v. length (of_valid v results)) (copied ∙ some) ∙ (length-of_valid (Some bits) results rows same ∙ sym (length_valid_map name bits rows))
