use Rattle.std.proofs.Common.{ℤ, map, ap, subst, sym, ◌∙◌}
use Rattle.datasketches_c.specs.AnyJoins.{MergesWithAll}
use Rattle.datasketches_c.specs.declared.held_sketch.HeldSketch.{HeldSketch}
use Rattle.any_sketch.specs.declared.any_sketch.AnySketch.TheVariants.{Filter, CountI64, CountU64, FrequentI64, FrequentU64, FrequentStrings}
use Rattle.datasketches_c.specs.declared.held_sketch.HeldSketch.TheVariants.{Own}
use Rattle.datasketches_c.proofs.AnswerLemmas.{handed_on}
use Rattle.datasketches_c.proofs.any_joins.merge_with_all.Goals as goal

-- what holds of the sketch of each kind
pub returns-in-Own-FrequentStrings-clause-call : goal.returns-in-Own-FrequentStrings-clause-call
returns-in-Own-FrequentStrings-clause-call c =
    let join = c.join_many_into in
    let Merged : HeldSketch → ℤ → Type 0 = λ old z. MergesWithAll old (Own (FrequentStrings join.new.sketch)) z (map (λ other. other.value) c.args.others.now) in
    handed_on (Merged c.args.sketch.now) join.result join.type_inv (subst (λ (old : HeldSketch). Merged old join.result) (sym (c.in-Own-FrequentStrings.is ∙ ap Own c.in-Own-FrequentStrings.field-0-is)) join.ensures.call)

pub returns-in-Own-FrequentI64-clause-call : goal.returns-in-Own-FrequentI64-clause-call
returns-in-Own-FrequentI64-clause-call c =
    let join = c.join_many_into-in-Own-FrequentI64 in
    let Merged : HeldSketch → ℤ → Type 0 = λ old z. MergesWithAll old (Own (FrequentI64 join.new.sketch)) z (map (λ other. other.value) c.args.others.now) in
    handed_on (Merged c.args.sketch.now) join.result join.type_inv (subst (λ (old : HeldSketch). Merged old join.result) (sym (c.in-Own-FrequentI64.is ∙ ap Own c.in-Own-FrequentI64.field-0-is)) join.ensures.call)

pub returns-in-Own-FrequentU64-clause-call : goal.returns-in-Own-FrequentU64-clause-call
returns-in-Own-FrequentU64-clause-call c =
    let join = c.join_many_into-in-Own-FrequentU64 in
    let Merged : HeldSketch → ℤ → Type 0 = λ old z. MergesWithAll old (Own (FrequentU64 join.new.sketch)) z (map (λ other. other.value) c.args.others.now) in
    handed_on (Merged c.args.sketch.now) join.result join.type_inv (subst (λ (old : HeldSketch). Merged old join.result) (sym (c.in-Own-FrequentU64.is ∙ ap Own c.in-Own-FrequentU64.field-0-is)) join.ensures.call)

pub returns-in-Own-CountI64-clause-call : goal.returns-in-Own-CountI64-clause-call
returns-in-Own-CountI64-clause-call c =
    let join = c.join_many_into-in-Own-CountI64 in
    let Merged : HeldSketch → ℤ → Type 0 = λ old z. MergesWithAll old (Own (CountI64 join.new.sketch)) z (map (λ other. other.value) c.args.others.now) in
    handed_on (Merged c.args.sketch.now) join.result join.type_inv (subst (λ (old : HeldSketch). Merged old join.result) (sym (c.in-Own-CountI64.is ∙ ap Own c.in-Own-CountI64.field-0-is)) join.ensures.call)

pub returns-in-Own-CountU64-clause-call : goal.returns-in-Own-CountU64-clause-call
returns-in-Own-CountU64-clause-call c =
    let join = c.join_many_into-in-Own-CountU64 in
    let Merged : HeldSketch → ℤ → Type 0 = λ old z. MergesWithAll old (Own (CountU64 join.new.sketch)) z (map (λ other. other.value) c.args.others.now) in
    handed_on (Merged c.args.sketch.now) join.result join.type_inv (subst (λ (old : HeldSketch). Merged old join.result) (sym (c.in-Own-CountU64.is ∙ ap Own c.in-Own-CountU64.field-0-is)) join.ensures.call)

pub returns-in-Own-Filter-clause-call : goal.returns-in-Own-Filter-clause-call
returns-in-Own-Filter-clause-call c =
    let join = c.join_many_into-in-Own-Filter in
    let Merged : HeldSketch → ℤ → Type 0 = λ old z. MergesWithAll old (Own (Filter join.new.sketch)) z (map (λ other. other.value) c.args.others.now) in
    handed_on (Merged c.args.sketch.now) join.result join.type_inv (subst (λ (old : HeldSketch). Merged old join.result) (sym (c.in-Own-Filter.is ∙ ap Own c.in-Own-Filter.field-0-is)) join.ensures.call)
