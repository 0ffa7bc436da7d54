use Rattle.std.proofs.Common.{refl, arith}
use Rattle.std.proofs.lemmas.Grind.{common_steps}
use Rattle.sketch_base.specs.declared.separator.Separator.TheVariants.{AsciiWhitespace}
use Rattle.any_sketch.proofs.RowCounts.{few_lines, few_words}
use Rattle.any_sketch.proofs.many_items.AnyRows.num_rows.Goals as goal

-- the words of a text
pub count_strings-requires : goal.count_strings-requires
count_strings-requires c κs = ((refl, tt), grind (arith, common_steps, few_words AsciiWhitespace c.in-Words.text.now, c.new.ensures))

-- the lines of a text
pub count_strings-requires-in-Lines : goal.count_strings-requires-in-Lines
count_strings-requires-in-Lines c κs = ((refl, tt), grind (arith, common_steps, few_lines c.in-Lines.text.now, c.new-in-Lines.ensures))
