use Rattle.std.proofs.Common.{◌≡◌, ℤ, refl, rules}
use Rattle.datasketches_c.specs.ItemsArguments.{items_kind_numbered}
use Rattle.any_sketch.specs.ManyItems.{ManyItems, num_rows}
use Rattle.datasketches_c.specs.Numbers.{ok}
use Rattle.datasketches_c.proofs.ManyItemsLemmas.{items_said, on_refused}
use Rattle.datasketches_c.proofs.items_argument.ds_num_items.Goals as goal

-- the items were counted
pub returns-in-Ok : goal.returns-in-Ok
returns-in-Ok c =
    let Said : ManyItems → Type 0 = λ given. (ok ≡ ok) × (c.num_rows.result ≡ num_rows given.rows) in
    items_said (items_kind_numbered c.args.items.now.kind) c.args.items.now (c.num_rows.result ≡ c.args.count.now) (items_kind_numbered c.args.items.now.kind) c.in-Ok.given ok Said c.in-Ok.ensures (refl, c.num_rows.ensures)

-- the argument has an error
pub returns-in-Err : goal.returns-in-Err
returns-in-Err c =
    let Said : ℤ → ManyItems → Type 0 = λ z given. (z ≡ ok) × (c.args.count.now ≡ num_rows given.rows) in
    on_refused (items_kind_numbered c.args.items.now.kind) c.args.items.now (c.args.count.now ≡ c.args.count.now) c.in-Err.refusal (search rules) Said c.in-Err.ensures refl
