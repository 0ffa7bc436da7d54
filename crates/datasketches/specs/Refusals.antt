-- The names and messages of each `Refusal`.
use Rattle.std.specs.Prelude.{ℕ, List, codes}
use Rattle.sketch_base.specs.Faults.{fault_words}
use Rattle.datasketches.specs.declared.reply.Refusal.{Refusal}
use Rattle.datasketches.specs.declared.reply.Refusal.TheVariants.{NoSuchName, NameTaken, WrongKind, SameName, BadFraction, Call}

-- the name and the message of a rejection. An error of a call has those of its fault
abbrev pub refusal_words : Refusal → List ℕ × List ℕ
refusal_words NoSuchName = (codes "NoSuchName", codes "no such name")
refusal_words NameTaken = (codes "NameTaken", codes "name is taken")
refusal_words WrongKind = (codes "WrongKind", codes "wrong kind of sketch")
refusal_words SameName = (codes "SameName", codes "both names are the same")
refusal_words BadFraction = (codes "BadFraction", codes "fraction not above 0 and at most 1")
refusal_words (Call error) = fault_words error.fault

-- the message of a rejection
abbrev pub refusal_text : Refusal → List ℕ
refusal_text refusal = (refusal_words refusal).1

-- the name of a rejection
abbrev pub refusal_name : Refusal → List ℕ
refusal_name refusal = (refusal_words refusal).0
