use Rattle.std.proofs.Common.{◌≡◌, ◌+◌, ◌-◌, ℕ, List, ◌++◌, length, take, ap, ◌∙◌, append_assoc, arith}
use Rattle.std.proofs.Math.Seq.{take-append-add}
use Rattle.sketch_base.proofs.sketch_bytes.SketchBytes.write_overlapping.Goals as goal

pub returns-clause-ok : goal.returns-clause-ok
returns-clause-ok c =
    let old : List ℕ = c.args.self.now.bytes in
    let first : List ℕ = c.args.first.now in
    let last : List ℕ = c.args.last.now in
    let k : ℕ = c.args.size - length last in
    let kept : c.reserve.new.self.items ≡ old = c.reserve.ensures.items ∙ ap (λ v. v.bytes) c.self.view_is in
    let until : c.len.result ≡ length old = omega (arith, c.len.ensures, ap length kept) in
    let cut : c.truncate.new.self.items ≡ old ++ take k first =
    c.truncate.ensures.items
    ∙ (ap (λ (n : ℕ). take (n + k) c.extend_from_slice.new.self.items) until
    ∙ (ap (take (length old + k)) (c.in_ok-extend_from_slice.ensures.items ∙ ap (λ (l : List ℕ). l ++ first) kept)
    ∙ take-append-add old first k)) in
    c.in_ok-extend_from_slice-2.ensures.items
    ∙ (ap (λ (l : List ℕ). l ++ last) cut
    ∙ append_assoc old (take k first) last)
