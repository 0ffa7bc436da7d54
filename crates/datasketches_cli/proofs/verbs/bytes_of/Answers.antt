use Rattle.std.proofs.Common.{◌≡◌, ◌%◌, length, sym, ◌∙◌, inl, inr, arith}
use Rattle.std.proofs.lemmas.Bool.{cases_eq}
use Rattle.datasketches_cli.proofs.Digits.{some_bytes, no_bytes}
use Rattle.datasketches_cli.proofs.verbs.bytes_of.Goals as goal

pub returns-then-not-are_digits-clause-made : goal.returns-then-not-are_digits-clause-made
returns-then-not-are_digits-clause-made c = sym (no_bytes c.args.digits.now (sym c.eq.ensures ∙ c.if-eq.false) (sym c.are_digits.ensures ∙ c.if-not-are_digits.true))

pub returns-in-Err-OutOfMemory-clause-memory : goal.returns-in-Err-OutOfMemory-clause-memory
returns-in-Err-OutOfMemory-clause-memory c =
    let even : length c.args.digits.now % 2 ≡ 0 =
    elim (cases_eq (length c.args.digits.now % 2) 1) [
      | inl odd ↦ cc (c.in-Err-OutOfMemory.field-0-is, c.in-Err-OutOfMemory.is, c.decode.ensures.odd odd)
      | inr other ↦ omega (arith, other)
    ] in
    some_bytes c.args.digits.now even (sym c.are_digits.ensures ∙ c.if-not-are_digits.false)
