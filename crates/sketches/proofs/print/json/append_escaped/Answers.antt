use Rattle.sketches.specs.JsonLaws.{json_means}
use Rattle.sketches.proofs.print.json.append_escaped.Goals as goal

pub returns-in_err-append_byte-clause-means : goal.returns-in_err-append_byte-clause-means
returns-in_err-append_byte-clause-means c = json_means c.args.bytes.now

pub returns-clause-means : goal.returns-clause-means
returns-clause-means c = json_means c.args.bytes.now
