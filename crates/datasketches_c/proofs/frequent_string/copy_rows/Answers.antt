use Rattle.std.proofs.Common.{refl, arith}
use Rattle.datasketches_c.proofs.StringReports.{strings_stand}
use Rattle.datasketches_c.proofs.frequent_string.copy_rows.Goals as goal

-- there was room, and all was written
pub returns-clause-report : goal.returns-clause-report
returns-clause-report c =
    record {
      counted = refl;
      measured = c.requires;
      written = λ bytes offsets bounds. (refl, strings_stand c.args.rows.now (record { bytes = c.args.bytes.now; offsets = c.args.offsets.now; bounds = c.args.bounds.now }) c.copy_strings.new.bytes c.copy_strings.new.offsets c.copy_bounds.new.bounds c.args.num_bytes c.requires c.copy_strings.ensures.bytes c.copy_strings.ensures.offsets c.copy_bounds.ensures);
      few_bytes = λ few. absurd (omega arith);
      few_offsets = λ few. absurd (omega arith);
      few_bounds = λ few. absurd (omega arith);
    }
