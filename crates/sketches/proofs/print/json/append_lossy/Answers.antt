use Rattle.std.proofs.lemmas.Str.{utf8_lossy-IsUtf8}
use Rattle.std.specs.Str.Lossy.{utf8_lossy}
use Rattle.sketches.specs.JsonLaws.{json_means}
use Rattle.sketches.proofs.print.json.append_lossy.Goals as goal

pub returns-in-Ok-clause-appended : goal.returns-in-Ok-clause-appended
returns-in-Ok-clause-appended c = rw (utf8_lossy-IsUtf8 c.args.bytes.now c.in-Ok.ensures.cases.1) c.append_escaped.ensures.appended

pub returns-in-Ok-clause-means : goal.returns-in-Ok-clause-means
returns-in-Ok-clause-means c = json_means (utf8_lossy c.args.bytes.now)

pub returns-in_err-text-in-Err-clause-means : goal.returns-in_err-text-in-Err-clause-means
returns-in_err-text-in-Err-clause-means c = json_means (utf8_lossy c.args.bytes.now)
