-- Columns with nulls: the rows that are valid by a bit for each row, if there are bits, and results and weights of rows.
use Rattle.std.specs.Prelude.{◌≡◌, ◌⊎◌, Bool, not, List, map, Option, Some, None, Result, IsErrOf}
use Rattle.std.specs.List.{All}
use Rattle.sketch_base.specs.Errors.{no_memory}
use Rattle.sketch_base.specs.Validity.{valid}
use Rattle.any_sketch.specs.declared.any_error.AnyError.{AnyError}
use Rattle.any_sketch.specs.declared.any_error.AnyError.TheVariants.{Sketch}

-- the valid rows
abbrev pub of_valid : {A : Type 0} → (bits : Option (List Bool)) → (rows : List A) → List A
of_valid None rows = rows
of_valid (Some bits) rows = valid bits rows

-- the statement holds of the results of the valid rows, and each other result is `null`
pub record ByRow {A : Type 0} (bits : List Bool) (null : A) (results : List A) (said : List A → Type 0) : Type 0 where
  pub valid_rows : said (valid bits results)
  pub null_rows : All (λ result. result ≡ null) (valid (map not bits) results)

-- the same where all rows may be valid
abbrev pub OnRows : {A : Type 0} → (bits : Option (List Bool)) → (null : A) (results : List A) (said : List A → Type 0) → Type 0
OnRows None null results said = said results
OnRows (Some bits) null results said = ByRow bits null results said

-- The statement holds of the weights of the valid rows. If there are bits, memory may be exhausted for their copy. Then the result is
-- `NoMemory`, and all is unchanged.
abbrev pub OnWeights :
    {A V : Type 0} → (bits : Option (List Bool)) → (weights : List A) → (result : Result V AnyError) → (unchanged : Type 0)
    → (said : List A → Type 0) → Type 0
OnWeights None weights result unchanged said = said weights
OnWeights (Some bits) weights result unchanged said = (IsErrOf result (Sketch no_memory) × unchanged) ⊎ said (valid bits weights)
