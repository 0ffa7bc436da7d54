-- The weights of lines and of records.
use Rattle.std.specs.Prelude.{ℕ, List, Option, Some, None}
use Rattle.std.specs.List.{slice_get}
use Rattle.std.specs.Option.{option_and_then}
use Rattle.sketch_text.specs.Decimals.{number_in}
use Rattle.sketch_text.specs.Records.{part_in, part_of}
use Rattle.sketch_text.specs.declared.part.Part.{Part}
use Rattle.sketch_text.specs.declared.record_part.RecordPart.{RecordPart}
use Rattle.sketches.specs.declared.item.weighing.Unweighed.{Unweighed}
use Rattle.sketches.specs.declared.item.weighing.Unweighed.TheVariants.{Fails, IsZero}
use Rattle.sketches.specs.declared.item.weighing.WeighedRecord.{WeighedRecord}

-- the weight in a part of a line, if the line has this part and it spells one
abbrev pub weight_in : Part → List ℕ → Option ℕ
weight_in part line = option_and_then number_in (slice_get (part_of part line) 0)

-- the weight that counts: the one that a record has. A record without one has the weight 0, or none if this is an error
abbrev pub taken_weight : Unweighed → Option ℕ → Option ℕ
taken_weight unweighed (Some weight) = Some weight
taken_weight Fails None = None
taken_weight IsZero None = Some 0

-- the weight of a record: 1, or the number below 2^64 that a part spells, if the record has this part and it spells one
abbrev pub weight_on : Option RecordPart → List ℕ → Option ℕ
weight_on None row = Some 1
weight_on (Some part) row = option_and_then number_in (slice_get (part_in part row) 0)

-- the weight that counts of a record
abbrev pub counted_weight : WeighedRecord → List ℕ → Option ℕ
counted_weight chosen row = taken_weight chosen.unweighed (weight_on chosen.weight row)
