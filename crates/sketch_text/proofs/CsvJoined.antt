-- The records of CSV with their ends concatenate to the bytes.
use Rattle.std.proofs.Common.{◌≡◌, ℕ, Bool, true, false, cond, eqb, List, [], ◌∷◌, length, refl, sym, ◌∙◌, ap, arith}
use Rattle.std.specs.List.{concat, onto_first}
use Rattle.std.proofs.lemmas.Bool.{eqb-true}
use Rattle.std.proofs.lemmas.Bool.Decides.{nat_tests}
use Rattle.sketch_text.specs.Csv.{after_byte, cuts, raw_csv_records, with_feeds, ends_field, is_feed, split_unquoted}
use Rattle.sketch_text.specs.declared.place.Place.{Place}
use Rattle.sketch_text.specs.declared.place.Place.TheVariants.{Start}
use Rattle.sketch_text.proofs.CsvRecords.{feeds_cons, some_parts}
use Rattle.sketch_text.proofs.CsvWalk.{cut_parts}

-- a last record without a line feed
unended : (x : ℕ) (xs : List ℕ) → with_feeds ((x ∷ xs) ∷ []) ≡ (x ∷ xs) ∷ []
unended x xs = let test : eqb (length (x ∷ xs)) 0 ≡ false = grind (arith, nat_tests) in rw test refl

-- a byte more in the first part
joined_onto : (x : ℕ) (parts : List (List ℕ)) → concat (with_feeds (onto_first x parts)) ≡ x ∷ concat (with_feeds parts)
joined_onto x [] = refl
joined_onto x ([] ∷ []) = refl
joined_onto x ((y ∷ ys) ∷ []) = ap concat (unended x (y ∷ ys)) ∙ sym (ap (λ parts. x ∷ concat parts) (unended y ys))
joined_onto x (part ∷ next ∷ parts) = refl

-- the parts between line feeds outside of quotes, with these line feeds
joined_parts : (ends : ℕ → Bool) (place : Place) (xs : List ℕ) → concat (with_feeds (split_unquoted ends is_feed place xs)) ≡ xs
joined_parts ends place [] = refl
joined_parts ends place (x ∷ xs) =
    let begun : List (List ℕ) = split_unquoted ends is_feed Start xs in
    let later : List (List ℕ) = split_unquoted ends is_feed (after_byte (ends x) place x) xs in
    elim (cuts is_feed place x) as (λ b. cuts is_feed place x ≡ b → concat (with_feeds (cond b ([] ∷ begun) (onto_first x later))) ≡ x ∷ xs) [
      | true ↦ λ cut.
          let feed : x ≡ 10 = eqb-true x 10 (cut_parts is_feed place x cut).1 in
          ap concat (feeds_cons [] begun (some_parts ends is_feed Start xs))
          ∙ (ap (λ l. 10 ∷ l) (joined_parts ends Start xs) ∙ ap (λ n. n ∷ xs) (sym feed))
      | false ↦ λ whole. joined_onto x later ∙ ap (λ l. x ∷ l) (joined_parts ends (after_byte (ends x) place x) xs)
    ] refl

pub joined_records : (delimiter : ℕ) (bytes : List ℕ) → concat (raw_csv_records delimiter bytes) ≡ bytes
joined_records delimiter bytes = joined_parts (ends_field delimiter) Start bytes
