-- The line that each reply prints.
use Rattle.std.specs.Prelude.{ℕ, true, false, List, ◌++◌, length, codes}
use Rattle.std.specs.Fmt.{decimal, signed_decimal}
use Rattle.std.specs.List.{flat_map}
use Rattle.std.specs.String.{string_bytes}
use Rattle.hex.specs.Hex.{encode_lower}
use Rattle.datasketches.specs.Refusals.{refusal_name}
use Rattle.datasketches.specs.RowValue.{RowValue}
use Rattle.datasketches.specs.declared.reply.Reply.{Reply}
use Rattle.datasketches.specs.declared.reply.Reply.TheVariants as reply
use Rattle.datasketches.specs.declared.reply.Status.{Status}
use Rattle.datasketches.specs.declared.reply.Status.TheVariants as status
use Rattle.heavy_windows.specs.declared.report.Report.{Report}
use Rattle.datasketches_cli.specs.Answers.{Answer, Replied, Reported}
use Rattle.datasketches_cli.specs.Texts.{Text}

-- a sketch's kind and its numbers
abbrev pub status_text : Status → List ℕ
status_text (status.Frequent active error total size max capacity) =
    codes "frequent active " ++ decimal active ++ codes " error " ++ decimal error ++ codes " total " ++ decimal total
    ++ codes " size " ++ decimal size ++ codes " max " ++ decimal max ++ codes " capacity " ++ decimal capacity
status_text (status.CountI64 total hashes buckets seed) =
    codes "counti total " ++ signed_decimal total ++ codes " hashes " ++ decimal hashes
    ++ codes " buckets " ++ decimal buckets ++ codes " seed " ++ decimal seed
status_text (status.CountU64 total hashes buckets seed) =
    codes "countu total " ++ decimal total ++ codes " hashes " ++ decimal hashes
    ++ codes " buckets " ++ decimal buckets ++ codes " seed " ++ decimal seed
status_text (status.Bloom bits capacity hashes seed) =
    codes "bloom bits " ++ decimal bits ++ codes " capacity " ++ decimal capacity
    ++ codes " hashes " ++ decimal hashes ++ codes " seed " ++ decimal seed

-- an item and its numbers
abbrev pub row_text : RowValue Text → List ℕ
row_text row =
    codes " " ++ string_bytes row.item ++ codes " " ++ decimal row.estimate
    ++ codes " " ++ decimal row.lower_bound ++ codes " " ++ decimal row.upper_bound

-- a reply's line, without its line feed
abbrev pub reply_text : Reply Text → List ℕ
reply_text reply.Done = codes "ok"
reply_text (reply.Bounds estimate lower upper) =
    codes "estimate " ++ signed_decimal estimate ++ codes " lower " ++ signed_decimal lower
    ++ codes " upper " ++ signed_decimal upper
reply_text (reply.Contains true) = codes "yes"
reply_text (reply.Contains false) = codes "no"
reply_text (reply.Status status) = status_text status
reply_text (reply.Rows rows) = codes "rows " ++ decimal (length rows.items) ++ flat_map row_text rows.items
reply_text (reply.Image bytes) = codes "image " ++ encode_lower bytes.items
reply_text (reply.Refused refusal) = codes "refused " ++ refusal_name refusal

-- the line of a report on a tenant, without its line feed
abbrev pub report_text : Report Text → List ℕ
report_text report =
    codes "report total " ++ decimal report.total_weight ++ codes " error " ++ decimal report.maximum_error
    ++ codes " rows " ++ decimal (length report.rows.items) ++ flat_map row_text report.rows.items

-- the line of an `Answer`, without its line feed
abbrev pub answer_text : Answer → List ℕ
answer_text (Replied reply) = reply_text reply
answer_text (Reported report) = report_text report
