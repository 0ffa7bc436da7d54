use Rattle.std.proofs.Common.{◌≡◌, ◌+◌, ◌<◌, [], length, take, get_or, ap, ◌∙◌, arith, length-append}
use Rattle.std.specs.List.{concat}
use Rattle.std.specs.String.{string_bytes}
use Rattle.datasketches_c.specs.FrequentStringRows.{row_strings}
use Rattle.datasketches_c.proofs.StringReports.{length-row_strings, row_string_at}
use Rattle.datasketches_c.proofs.StringRows.{concat_more, concat_fits}
use Rattle.datasketches_c.proofs.frequent_string.num_bytes_of.Goals as goal

pub returns-then-length-total : goal.returns-then-length-total
returns-then-length-total c =
    let strings = row_strings c.args.rows.now in
    let i = c.each.i in
    let so_far : c.each.total ≡ length (concat (take i strings)) = c.each.invariant in
    let there : i < length strings = omega (arith, length-row_strings c.args.rows.now) in
    let string : c.as_bytes-length.result.now ≡ get_or strings i [] =
    c.as_bytes-length.ensures.value ∙ (ap string_bytes c.item.ensures ∙ row_string_at c.args.rows.now i c.index-rows-i.result c.each-test.true c.index-rows-i.is) in
    let sized : length c.as_bytes-length.result.now ≡ length (get_or strings i []) = ap length string in
    let most = concat_fits strings i there in
    omega arith

pub each-preserved : goal.each-preserved
each-preserved c =
    let strings = row_strings c.args.rows.now in
    let i = c.each.i in
    let there : i < length strings = omega (arith, length-row_strings c.args.rows.now) in
    let string : c.as_bytes-length.result.now ≡ get_or strings i [] =
    c.as_bytes-length.ensures.value ∙ (ap string_bytes c.item.ensures ∙ row_string_at c.args.rows.now i c.index-rows-i.result c.each-test.true c.index-rows-i.is) in
    let more : length (concat (take (i + 1) strings)) ≡ length (concat (take i strings)) + length (get_or strings i []) =
    ap length (concat_more strings i there) ∙ length-append (concat (take i strings)) (get_or strings i []) in
    let sized : length c.as_bytes-length.result.now ≡ length (get_or strings i []) = ap length string in
    let so_far : c.each.total ≡ length (concat (take i strings)) = c.each.invariant in
    omega arith
