use Rattle.sketches.specs.TextEscapeLaws.{text_inside, text_read}
use Rattle.sketches.proofs.print.text_escapes.append_text.Goals as goal

pub returns-in_err-append_byte-clause-means : goal.returns-in_err-append_byte-clause-means
returns-in_err-append_byte-clause-means c = text_read c.args.item.now

pub returns-in_err-append_byte-clause-inside : goal.returns-in_err-append_byte-clause-inside
returns-in_err-append_byte-clause-inside c = text_inside c.args.item.now

pub returns-clause-means : goal.returns-clause-means
returns-clause-means c = text_read c.args.item.now

pub returns-clause-inside : goal.returns-clause-inside
returns-clause-inside c = text_inside c.args.item.now
