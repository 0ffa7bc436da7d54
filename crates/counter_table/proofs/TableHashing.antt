-- What is hashed as what, under the key of a table.
use Rattle.std.proofs.Common.{◌≡◌, ℕ, ap, List, Bool}
use Rattle.std.specs.Prelude.{IsTrue}
use Rattle.std.specs.List.{concat}
use Rattle.counter_table.specs.TableHashes.{hash_of, hash_in}
use Rattle.counter_table.specs.declared.table_key.TableKey.{TableKey}

-- equal items
pub hashes_alike : {T : Type 0} {input : T → List (List ℕ)} (key : TableKey) {eq : T → T → Bool} → ((x y : T) → IsTrue (eq x y) → input x ≡ input y) → (x y : T) → IsTrue (eq x y) → hash_in key input x ≡ hash_in key input y
hashes_alike key respects x y t = ap (λ f. hash_of key (concat f)) (respects x y t)

-- a key and the items that it names
pub hashed_as_named : {T : Type 0} (input : T → List (List ℕ)) (key : TableKey) {names : T → Bool} {fed : List ℕ} → ((x : T) → IsTrue (names x) → fed ≡ concat (input x)) → (x : T) → IsTrue (names x) → hash_of key fed ≡ hash_in key input x
hashed_as_named input key respects x t = ap (hash_of key) (respects x t)
