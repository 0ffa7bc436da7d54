use Rattle.std.proofs.Common.{◌≡◌, ◌+◌, ◌-◌, ◌<◌, ◌≤◌, ◌++◌, [], length, take, get_or, rules, refl, sym, ap, ap₂, ◌∙◌, arith, length-append, length-set}
use Rattle.std.specs.List.{concat}
use Rattle.std.specs.String.{string_bytes}
use Rattle.std.proofs.lemmas.Slice.{take-put_mid}
use Rattle.datasketches_c.specs.FrequentStringRows.{row_strings}
use Rattle.datasketches_c.proofs.StringReports.{length-row_strings, row_string_at}
use Rattle.datasketches_c.proofs.StringRows.{concat_more, concat_fits, offsets_first, offsets_more, offsets_all}
use Rattle.datasketches_c.proofs.frequent_string.copy_strings.Goals as goal

pub each-init : goal.each-init
each-init c =
    let some : 0 < length c.args.offsets.now = omega arith in
    record { end = refl; bytes = refl; offsets = offsets_first c.args.offsets.now (row_strings c.args.rows.now) some }

pub slice_bounds-copy_from_slice-end : goal.slice_bounds-copy_from_slice-end
slice_bounds-copy_from_slice-end c =
    let strings = row_strings c.args.rows.now in
    let i = c.each.i in
    let there : i < length strings = omega (arith, length-row_strings c.args.rows.now) in
    let string : c.as_bytes-string.result.now ≡ get_or strings i [] =
    c.as_bytes-string.ensures.value ∙ (ap string_bytes c.item.ensures ∙ row_string_at c.args.rows.now i c.index-rows-i.result c.each-test.true c.index-rows-i.is) in
    let most = concat_fits strings i there in
    let sized : length c.as_bytes-string.result.now ≡ length (get_or strings i []) = ap length string in
    let fits : c.each.end + length c.as_bytes-string.result.now ≤ length c.each.bytes = omega (arith, c.each.invariant.end) in
    search (rules, fits)

pub each-preserved : goal.each-preserved
each-preserved c =
    let strings = row_strings c.args.rows.now in
    let i = c.each.i in
    let written = c.copy_from_slice.new.self in
    let there : i < length strings = omega (arith, length-row_strings c.args.rows.now) in
    let string : c.as_bytes-string.result.now ≡ get_or strings i [] =
    c.as_bytes-string.ensures.value ∙ (ap string_bytes c.item.ensures ∙ row_string_at c.args.rows.now i c.index-rows-i.result c.each-test.true c.index-rows-i.is) in
    let more : length (concat (take (i + 1) strings)) ≡ length (concat (take i strings)) + length (get_or strings i []) =
    ap length (concat_more strings i there) ∙ length-append (concat (take i strings)) (get_or strings i []) in
    let most = concat_fits strings i there in
    let sized : length c.as_bytes-string.result.now ≡ length (get_or strings i []) = ap length string in
    let copied : length written ≡ length c.as_bytes-string.result.now = ap length c.copy_from_slice.ensures.after in
    let next : c.each.end + length c.as_bytes-string.result.now ≡ length (concat (take (i + 1) strings)) = omega (arith, c.each.invariant.end) in
    let here : c.each.end + length c.as_bytes-string.result.now ≡ c.each.end + length written = omega arith in
    let within : c.each.end ≤ length c.each.bytes = omega (arith, c.each.invariant.end) in
    let long : length c.each.offsets ≡ length strings + 1 = omega (arith, length-row_strings c.args.rows.now, length-set c.args.offsets.now 0 0) in
    record {
      end = next;
      bytes =
          take-put_mid c.each.end (c.each.end + length c.as_bytes-string.result.now - c.each.end) c.each.bytes written (c.each.end + length c.as_bytes-string.result.now) here within
          ∙ (ap₂ (λ xs ys. xs ++ ys) c.each.invariant.bytes (c.copy_from_slice.ensures.after ∙ string) ∙ sym (concat_more strings i there));
      offsets = offsets_more strings c.each.offsets i (c.each.end + length c.as_bytes-string.result.now) there long next c.each.invariant.offsets;
    }

pub returns-clause-offsets : goal.returns-clause-offsets
returns-clause-offsets c =
    let strings = row_strings c.args.rows.now in
    let long : length c.each.offsets ≤ c.each.i + 1 = omega (arith, length-set c.args.offsets.now 0 0) in
    let enough : length strings + 1 ≤ c.each.i + 1 = omega (arith, length-row_strings c.args.rows.now) in
    offsets_all c.each.offsets strings (c.each.i + 1) long enough c.each.invariant.offsets
