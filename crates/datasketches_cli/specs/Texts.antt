-- Items and names, which are strings.
use Rattle.std.specs.Prelude.{ℕ, List}
use Rattle.std.specs.Global.{Global}
use Rattle.std.specs.Hash as fed
use Rattle.std.specs.String.{string_bytes, string_eq}
use Rattle.std.specs.declared.string.String.{String}
use Rattle.datasketches.specs.ItemTypes.{ItemType}
use Rattle.datasketches.specs.Items.{text_codec}

-- a string: an item that a sketch counts, or a name
abbrev pub Text : Type 0
Text = String Global

-- what a string feeds to a hasher: its bytes, and then 255
abbrev pub text_input : Text → List (List ℕ)
text_input item = fed.str (string_bytes item)

-- the bytes of an `Option` of a string, by which the table of a sketch is measured if its bytes are limited
abbrev pub text_slot : ℕ
text_slot = 32

-- strings, as the items of a session
abbrev pub text_items : ItemType Text (List ℕ)
text_items = record { slot = text_slot; eq = string_eq; input = text_input; codec = text_codec; content = string_bytes }
