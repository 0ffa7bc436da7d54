use Rattle.std.proofs.Common.{◌≡◌, ℕ, List, ◌++◌, length, ap, subst, ◌∙◌, append_assoc}
use Rattle.std.specs.Prelude.{OnOk}
use Rattle.std.specs.Int.{w32, to_le_bytes}
use Rattle.std.proofs.lemmas.Result.{on_ok_weaker}
use Rattle.sketch_base.proofs.sketch_bytes.SketchBytes.write_length_prefixed.Goals as goal

pub returns-then-n-le16-clause-ok : goal.returns-then-n-le16-clause-ok
returns-then-n-le16-clause-ok c = subst (λ (prefix : List ℕ). OnOk c.write_prefixed_ends.result (c.write_prefixed_ends.new.self.bytes ≡ c.args.self.now.bytes ++ (prefix ++ c.args.part.now))) c.to_le_bytes-prefix.ensures c.write_prefixed_ends.ensures.ok

pub returns-then-n-lt8-clause-ok : goal.returns-then-n-lt8-clause-ok
returns-then-n-lt8-clause-ok c = subst (λ (prefix : List ℕ). OnOk c.write_prefixed_ends-then-n-lt8.result (c.write_prefixed_ends-then-n-lt8.new.self.bytes ≡ c.args.self.now.bytes ++ (prefix ++ c.args.part.now))) c.to_le_bytes-prefix.ensures c.write_prefixed_ends-then-n-lt8.ensures.ok

pub returns-in_ok-write-clause-ok : goal.returns-in_ok-write-clause-ok
returns-in_ok-write-clause-ok c =
    let old : List ℕ = c.args.self.now.bytes in
    let part : List ℕ = c.args.part.now in
    let prefix : List ℕ = to_le_bytes w32 (length part) in
    let kept : c.reserve.new.self.items ≡ old = c.reserve.ensures.items ∙ ap (λ v. v.bytes) c.self.view_is in
    let begun : c.write.new.self.bytes ≡ old ++ prefix = c.in_ok-write.ensures.ok ∙ (ap (λ (l : List ℕ). l ++ c.to_le_bytes-prefix.result) kept ∙ ap (λ (l : List ℕ). old ++ l) c.to_le_bytes-prefix.ensures) in
    on_ok_weaker c.write-else-n-ge4.result (λ wrote. wrote ∙ (ap (λ (l : List ℕ). l ++ part) begun ∙ append_assoc old prefix part)) c.write-else-n-ge4.ensures.ok
