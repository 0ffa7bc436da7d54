-- Facts of a result.
use Rattle.std.proofs.Common.{Result, Ok, Err}
use Rattle.std.specs.Prelude.{IfErr, IfOk, OnOk}

module _ {A E : Type 0} where
  pub on_ok : (r : Result A E) (P Q : Type 0) → (P → Q) → OnOk r P → OnOk r Q
  on_ok (Ok a) P Q f p = f p
  on_ok (Err e) P Q f p = tt

  pub if_ok : (r : Result A E) (P Q : A → Type 0) → ((a : A) → P a → Q a) → IfOk r P → IfOk r Q
  if_ok (Ok a) P Q f p = f a p
  if_ok (Err e) P Q f p = tt

  pub if_err : (r : Result A E) (P Q : E → Type 0) → ((e : E) → P e → Q e) → IfErr r P → IfErr r Q
  if_err (Ok a) P Q f p = tt
  if_err (Err e) P Q f p = f e p
