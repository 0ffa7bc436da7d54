use Rattle.std.proofs.Common.{◌≡◌, false, arith, sym, ◌∙◌}
use Rattle.sketch_text.proofs.CsvWalk.{plain_end}
use Rattle.sketch_text.specs.Csv.{in_quotes}
use Rattle.sketch_text.proofs.csv_records.next_end.Goals as goal
use Rattle.sketch_text.proofs.csv_records.next_end.Goals.{then-at-bytes-via-then-at-bytes, then-at-bytes-via-else-at-bytes+then-bytes-at-eq10}

pub returns-then-at-bytes-clause-end : goal.returns-then-at-bytes-clause-end
returns-then-at-bytes-clause-end c =
    let out : in_quotes c.args.place ≡ false = sym c.is_quoted.ensures ∙ c.if-not-is_quoted.true in
    elim c.then-at-bytes.branch [
      | then-at-bytes-via-then-at-bytes w ↦ plain_end c.args.delimiter c.args.place c.args.bytes.now c.first_member-at.result out c.first_member-at.ensures.value (λ less. absurd (omega (arith, w.if-at-bytes.true, less)))
      | then-at-bytes-via-else-at-bytes+then-bytes-at-eq10 w ↦ plain_end c.args.delimiter c.args.place c.args.bytes.now c.first_member-at.result out c.first_member-at.ensures.value (λ less. w.if-bytes-at-eq10.true)
    ]
