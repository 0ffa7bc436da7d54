-- Items in lines of text.
use Rattle.std.specs.Prelude.{ℕ, ◌==◌, ◌||◌, Bool, true, false, List, [], ◌∷◌, slice_index, codes, if◌then◌else◌}
use Rattle.std.specs.List.{flat_map}

-- a byte of an item: a tab, the bytes of line ends and a backslash after a backslash, others unchanged
abbrev pub text_byte : ℕ → List ℕ
text_byte byte =
    if byte == slice_index (codes "\t") 0 then codes "\\t"
    else if byte == slice_index (codes "\n") 0 then codes "\\n"
    else if byte == 13 then codes "\\r"
    else if byte == slice_index (codes "\\") 0 then codes "\\\\"
    else byte ∷ []

-- an item in a line of text
abbrev pub text_escaped : List ℕ → List ℕ
text_escaped item = flat_map text_byte item

-- whether a byte is a tab or of a line end
abbrev pub ends_part : ℕ → Bool
ends_part byte = (byte == slice_index (codes "\t") 0 || byte == slice_index (codes "\n") 0) || byte == 13

-- ---- what such a text means

-- the byte that a byte after a backslash stands for
abbrev pub byte_of_letter : ℕ → ℕ
byte_of_letter letter =
    if letter == slice_index (codes "t") 0 then slice_index (codes "\t") 0
    else if letter == slice_index (codes "n") 0 then slice_index (codes "\n") 0
    else if letter == slice_index (codes "r") 0 then 13
    else letter

-- the item that the text means. `escaped` tells whether the byte before it is a backslash that begins an escape
abbrev pub item_after : (escaped : Bool) → List ℕ → List ℕ
item_after escaped [] = []
item_after true (x ∷ text) = byte_of_letter x ∷ item_after false text
item_after false (x ∷ text) = if x == slice_index (codes "\\") 0 then item_after true text else x ∷ item_after false text

abbrev pub item_of_text : List ℕ → List ℕ
item_of_text text = item_after false text
