-- The records of CSV in two lists of bytes, of which the first ends a record.
use Rattle.std.proofs.Common.{◌≡◌, ℕ, zero, suc, ◌<◌, true, false, not, cond, List, [], ◌∷◌, ◌++◌, length, map, take, drop, refl, sym, ◌∙◌, ap, subst, arith, append_assoc, append-nil, length-append}
use Rattle.std.specs.List.{onto_first}
use Rattle.std.specs.Str.Lines.{lines_of_parts, strip_carriage_return}
use Rattle.std.proofs.lemmas.Bool.{eqb-true}
use Rattle.std.proofs.lemmas.List.{take-append-drop}
use Rattle.sketch_base.specs.Split.{SplitsAt}
use Rattle.sketch_base.proofs.SplitEnds.{lines_cons}
use Rattle.sketch_text.specs.Csv.{after_byte, cuts, csv_records, raw_csv_records, with_feeds, record_parts, ends_field, in_quotes, is_feed, split_unquoted, EndsRecord, IsBehindLastEnd, place_after}
use Rattle.sketch_text.specs.declared.place.Place.{Place}
use Rattle.sketch_text.specs.declared.place.Place.TheVariants.{Start, Bare, Quoted, Closed}
use Rattle.sketch_text.proofs.CsvRecords.{feeds_cons, some_parts}
use Rattle.sketch_text.proofs.CsvWalk.{cut_parts, is_cut}

onto_joined : (x : ℕ) (us vs : List (List ℕ)) → 0 < length us → onto_first x (us ++ vs) ≡ onto_first x us ++ vs
onto_joined x [] vs some = absurd (omega arith)
onto_joined x (u ∷ us) vs some = refl

module _ (delimiter : ℕ) where
  abbrev split : Place → List ℕ → List (List ℕ)
  split place bytes = split_unquoted (ends_field delimiter) is_feed place bytes

  after_feed : (place : Place) → in_quotes place ≡ false → after_byte (ends_field delimiter 10) place 10 ≡ Start
  after_feed Start out = refl
  after_feed Bare out = refl
  after_feed Quoted out = cc
  after_feed Closed out = refl

  -- the place after a byte that ends a record
  restarts : (place : Place) (x : ℕ) → cuts is_feed place x ≡ true → after_byte (ends_field delimiter x) place x ≡ Start
  restarts place x cut =
      let (out, feed) = cut_parts is_feed place x cut in
      ap (λ (y : ℕ). after_byte (ends_field delimiter y) place y) (eqb-true x 10 feed) ∙ after_feed place out

  -- the parts before an end, and those after it
  split_joined : (place : Place) (xs ys : List ℕ) → in_quotes (place_after delimiter place xs) ≡ false → split place (xs ++ 10 ∷ ys) ≡ split place xs ++ split Start ys
  split_joined place [] ys out = ap (λ b. cond b ([] ∷ split Start ys) (onto_first 10 (split (after_byte (ends_field delimiter 10) place 10) ys))) (is_cut is_feed place 10 (ap not out) refl)
  split_joined place (x ∷ xs) ys out =
      let next : Place = after_byte (ends_field delimiter x) place x in
      elim (cuts is_feed place x) as (λ b. cuts is_feed place x ≡ b → cond b ([] ∷ split Start (xs ++ 10 ∷ ys)) (onto_first x (split next (xs ++ 10 ∷ ys))) ≡ cond b ([] ∷ split Start xs) (onto_first x (split next xs)) ++ split Start ys) [
        | true ↦ λ cut.
            let start : in_quotes (place_after delimiter Start xs) ≡ false = subst (λ (p : Place). in_quotes (place_after delimiter p xs) ≡ false) (restarts place x cut) out in
            ap (λ l. [] ∷ l) (split_joined Start xs ys start)
        | false ↦ λ _. ap (onto_first x) (split_joined next xs ys out) ∙ onto_joined x (split next xs) (split Start ys) (some_parts (ends_field delimiter) is_feed next xs)
      ] refl

  lines_joined : (us vs : List (List ℕ)) → 0 < length vs → lines_of_parts (us ++ vs) ≡ map strip_carriage_return us ++ lines_of_parts vs
  lines_joined [] vs some = refl
  lines_joined (u ∷ us) vs some = lines_cons u (us ++ vs) (omega (arith, some, length-append us vs)) ∙ ap (λ l. strip_carriage_return u ∷ l) (lines_joined us vs some)

  feeds_joined : (us vs : List (List ℕ)) → 0 < length vs → with_feeds (us ++ vs) ≡ map (λ u. u ++ 10 ∷ []) us ++ with_feeds vs
  feeds_joined [] vs some = refl
  feeds_joined (u ∷ us) vs some = feeds_cons u (us ++ vs) (omega (arith, some, length-append us vs)) ∙ ap (λ l. (u ++ 10 ∷ []) ∷ l) (feeds_joined us vs some)

  module _ (front : List ℕ) (out : in_quotes (place_after delimiter Start front) ≡ false) where
    parts_joined : (ys : List ℕ) → record_parts delimiter (front ++ 10 ∷ ys) ≡ record_parts delimiter front ++ record_parts delimiter ys
    parts_joined ys = split_joined Start front ys out

    records_joined : (ys : List ℕ) → csv_records delimiter (front ++ 10 ∷ ys) ≡ map strip_carriage_return (record_parts delimiter front) ++ csv_records delimiter ys
    records_joined ys = ap lines_of_parts (parts_joined ys) ∙ lines_joined (record_parts delimiter front) (record_parts delimiter ys) (some_parts (ends_field delimiter) is_feed Start ys)

    raws_joined : (ys : List ℕ) → raw_csv_records delimiter (front ++ 10 ∷ ys) ≡ map (λ u. u ++ 10 ∷ []) (record_parts delimiter front) ++ raw_csv_records delimiter ys
    raws_joined ys = ap with_feeds (parts_joined ys) ∙ feeds_joined (record_parts delimiter front) (record_parts delimiter ys) (some_parts (ends_field delimiter) is_feed Start ys)

  -- the records of both
  pub csv_both : (xs ys : List ℕ) → EndsRecord delimiter Start xs → csv_records delimiter (xs ++ ys) ≡ csv_records delimiter xs ++ csv_records delimiter ys
  csv_both xs ys (front, parts, out) =
      ap (λ l. csv_records delimiter (l ++ ys)) parts
      ∙ (ap (csv_records delimiter) (append_assoc front (10 ∷ []) ys)
      ∙ (records_joined front out ys
      ∙ ap (λ l. l ++ csv_records delimiter ys) (sym (ap (csv_records delimiter) parts ∙ (records_joined front out [] ∙ append-nil (map strip_carriage_return (record_parts delimiter front)))))))

  -- the same with their ends
  pub raw_csv_both : (xs ys : List ℕ) → EndsRecord delimiter Start xs → raw_csv_records delimiter (xs ++ ys) ≡ raw_csv_records delimiter xs ++ raw_csv_records delimiter ys
  raw_csv_both xs ys (front, parts, out) =
      ap (λ l. raw_csv_records delimiter (l ++ ys)) parts
      ∙ (ap (raw_csv_records delimiter) (append_assoc front (10 ∷ []) ys)
      ∙ (raws_joined front out ys
      ∙ ap (λ l. l ++ raw_csv_records delimiter ys) (sym (ap (raw_csv_records delimiter) parts ∙ (raws_joined front out [] ∙ append-nil (map (λ u. u ++ 10 ∷ []) (record_parts delimiter front)))))))

  -- bytes followed by others, split at an index
  split_whole : (bytes more : List ℕ) (at : ℕ) → bytes ++ more ≡ take at bytes ++ (drop at bytes ++ more)
  split_whole bytes more at = ap (λ l. l ++ more) (sym (take-append-drop at bytes)) ∙ append_assoc (take at bytes) (drop at bytes) more

  -- whatever comes after bytes, its records are those before the last end of a record and those after it
  pub csv_split : (bytes : List ℕ) (at : ℕ) → IsBehindLastEnd delimiter Start bytes at → SplitsAt (csv_records delimiter) bytes at
  csv_split bytes zero last more = refl
  csv_split bytes (suc n) last more =
      ap (csv_records delimiter) (split_whole bytes more (suc n)) ∙ csv_both (take (suc n) bytes) (drop (suc n) bytes ++ more) (last.0 (omega arith))

  -- the same with their ends
  pub raw_csv_split : (bytes : List ℕ) (at : ℕ) → IsBehindLastEnd delimiter Start bytes at → SplitsAt (raw_csv_records delimiter) bytes at
  raw_csv_split bytes zero last more = refl
  raw_csv_split bytes (suc n) last more =
      ap (raw_csv_records delimiter) (split_whole bytes more (suc n)) ∙ raw_csv_both (take (suc n) bytes) (drop (suc n) bytes ++ more) (last.0 (omega arith))
