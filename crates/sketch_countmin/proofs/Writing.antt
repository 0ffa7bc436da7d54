-- How cells are written, one after another.
use Rattle.std.proofs.Common.{◌≡◌, ℕ, ◌+◌, ◌<◌, List, [], ◌∷◌, ◌++◌, length, get_or, map, take, ℤ, sym, ap, ◌∙◌}
use Rattle.std.specs.List.{flat_map}
use Rattle.std.proofs.lemmas.List.{take_more, map-append}
use Rattle.sketch_base.proofs.Writing.{piece_written}
use Rattle.sketch_countmin.specs.Values.{bytes_of}

-- the numbers of one value more
pub numbers_more : {T : Type 0} (number : T → ℤ) (counts : List T) (i : ℕ) (x : T) → i < length counts → x ≡ get_or counts i x → map number (take (i + 1) counts) ≡ map number (take i counts) ++ number x ∷ []
numbers_more number counts i x lt is =
    ap (map number) (take_more counts i x lt)
    ∙ (ap (λ y. map number (take i counts ++ y ∷ [])) (sym is) ∙ map-append number (take i counts) (x ∷ []))

-- a number takes eight bytes
pub bytes_long : (z : ℤ) (bytes : List ℕ) → bytes ≡ bytes_of z → length bytes ≡ 8
bytes_long z bytes e = ap length e

-- one value more is written
pub written_more : {T : Type 0} (number : T → ℤ) (counts : List T) (i : ℕ) (x : T) (old now new bytes : List ℕ) → i < length counts → x ≡ get_or counts i x → bytes ≡ bytes_of (number x) → new ≡ now ++ bytes
    → now ≡ old ++ flat_map bytes_of (map number (take i counts)) → new ≡ old ++ flat_map bytes_of (map number (take (i + 1) counts))
written_more number counts i x old now new bytes lt is bytes_are new_is written =
    piece_written bytes_of (map number (take i counts)) (number x ∷ []) (map number (take (i + 1) counts)) old now new bytes (numbers_more number counts i x lt is) written bytes_are new_is
