-- The records of CSV, one after another.
use Rattle.std.proofs.Common.{◌≡◌, ℕ, ◌+◌, ◌<◌, ◌≤◌, Bool, true, false, cond, eqb, List, [], ◌∷◌, ◌++◌, length, get_or, take, drop, refl, sym, ◌∙◌, ap, subst, arith, append_assoc, length-drop, ⊎_elim}
use Rattle.std.specs.List.{onto_first}
use Rattle.std.specs.Str.Lines.{lines_of_parts, strip_carriage_return}
use Rattle.std.proofs.lemmas.Bool.{cases_lt, eqb-true}
use Rattle.std.proofs.lemmas.Bool.Decides.{nat_tests}
use Rattle.std.proofs.lemmas.List.{take_more, take_all, drop_more, drop_all, take-take, take-append-drop}
use Rattle.std.proofs.Math.Seq.{take-add}
use Rattle.sketch_base.proofs.SplitEnds.{lines_cons}
use Rattle.sketch_text.specs.Csv.{after_byte, after_bytes, cuts, csv_records, raw_csv_records, with_feeds, record_parts, ends_field, in_quotes, is_feed, split_unquoted, EndsRecord, IsInOneRecord, IsOnePart, IsFirstCut, IsFirstEnd, IsBehindLastEnd, place_after}
use Rattle.sketch_text.specs.declared.place.Place.{Place}
use Rattle.sketch_text.specs.declared.place.Place.TheVariants.{Start, Bare, Quoted, Closed}
use Rattle.sketch_text.proofs.CsvRuns.{after_append, split_one, split_first}
use Rattle.sketch_text.proofs.CsvWalk.{cut_parts}

-- ---- parts

some_first : (x : ℕ) (parts : List (List ℕ)) → 0 < length (onto_first x parts)
some_first x [] = omega arith
some_first x (p ∷ ps) = omega arith

-- there is a part
pub some_parts : (ends test : ℕ → Bool) (place : Place) (xs : List ℕ) → 0 < length (split_unquoted ends test place xs)
some_parts ends test place [] = omega arith
some_parts ends test place (x ∷ xs) =
    elim (cuts test place x) as (λ b. 0 < length (cond b ([] ∷ split_unquoted ends test Start xs) (onto_first x (split_unquoted ends test (after_byte (ends x) place x) xs)))) [
      | true ↦ omega arith
      | false ↦ some_first x (split_unquoted ends test (after_byte (ends x) place x) xs)
    ]

pub feeds_cons : (part : List ℕ) (parts : List (List ℕ)) → 0 < length parts → with_feeds (part ∷ parts) ≡ (part ++ 10 ∷ []) ∷ with_feeds parts
feeds_cons part [] some = absurd (omega arith)
feeds_cons part (next ∷ parts) some = refl

-- bytes through an index at which a byte stands
pub through : (bytes : List ℕ) (at : ℕ) → at < length bytes → bytes ≡ take at bytes ++ get_or bytes at 0 ∷ drop (at + 1) bytes
through bytes at less = sym (take-append-drop at bytes) ∙ ap (λ l. take at bytes ++ l) (drop_more bytes at 0 less)

-- ---- one byte of one part

pub one_at : (ends test : ℕ → Bool) (place : Place) (xs ys : List ℕ) (y : ℕ) → IsOnePart ends test place (xs ++ y ∷ ys) → cuts test (after_bytes ends place xs) y ≡ false
one_at ends test place [] ys y (none, more) = none
one_at ends test place (x ∷ xs) ys y (none, more) = one_at ends test (after_byte (ends x) place x) xs ys y more

-- a part that is whole has no cut
pub no_cut_inside : (ends test : ℕ → Bool) (place : Place) (bytes : List ℕ) (at : ℕ) → IsOnePart ends test place bytes → IsFirstCut ends test place bytes at → length bytes ≤ at
no_cut_inside ends test place bytes at one cut = ⊎_elim
    (λ less.
    let none : cuts test (after_bytes ends place (take at bytes)) (get_or bytes at 0) ≡ false = one_at ends test place (take at bytes) (drop (at + 1) bytes) (get_or bytes at 0) (subst (IsOnePart ends test place) (through bytes at less) one) in
    let yes : cuts test (after_bytes ends place (take at bytes)) (get_or bytes at 0) ≡ true = cut.1 less in
    absurd cc)
    (λ le. le)
    (cases_lt at (length bytes))

-- ---- records

module _ (delimiter : ℕ) where
  -- after a line feed outside of quotes
  start_after : (place : Place) → in_quotes place ≡ false → after_byte (ends_field delimiter 10) place 10 ≡ Start
  start_after Start out = refl
  start_after Bare out = refl
  start_after Quoted out = cc
  start_after Closed out = refl

  -- the bytes through an end
  pub ends_through : (place : Place) (bytes : List ℕ) (at : ℕ) → IsFirstEnd delimiter place bytes at → at < length bytes → EndsRecord delimiter place (take (at + 1) bytes)
  ends_through place bytes at end less =
      let (out, feed) = cut_parts is_feed (place_after delimiter place (take at bytes)) (get_or bytes at 0) (end.1 less) in
      (take at bytes, take_more bytes at 0 less ∙ ap (λ (x : ℕ). take at bytes ++ x ∷ []) (eqb-true (get_or bytes at 0) 10 feed), out)

  pub place_at_end : (place : Place) (bytes : List ℕ) → EndsRecord delimiter place bytes → place_after delimiter place bytes ≡ Start
  place_at_end place bytes (front, parts, out) =
      ap (place_after delimiter place) parts ∙ (after_append (ends_field delimiter) is_feed place front (10 ∷ []) ∙ start_after (place_after delimiter place front) out)

  pub ends_later : (place : Place) (xs ys : List ℕ) → EndsRecord delimiter (place_after delimiter place xs) ys → EndsRecord delimiter place (xs ++ ys)
  ends_later place xs ys (front, parts, out) = (
    xs ++ front,
    ap (λ l. xs ++ l) parts ∙ sym (append_assoc xs front (10 ∷ [])),
    ap in_quotes (after_append (ends_field delimiter) is_feed place xs front) ∙ out,
  )

  -- the bytes before an index were seen: they are none, or they end a record
  pub record HasDone (place : Place) (bytes : List ℕ) (done : ℕ) (here : Place) : Type 0 where
    pub within : done ≤ length bytes
    pub ended : 0 < done → EndsRecord delimiter place (take done bytes)
    pub place_is : here ≡ place_after delimiter place (take done bytes)

  pub done_none : (place : Place) (bytes : List ℕ) → HasDone place bytes 0 place
  done_none place bytes = record { within = omega arith; ended = λ some. absurd (omega (arith, some)); place_is = refl }

  pub done_more : (place : Place) (bytes : List ℕ) (done end : ℕ) (here : Place) → HasDone place bytes done here → IsFirstEnd delimiter here (drop done bytes) end → end < length (drop done bytes) → HasDone place bytes (done + (end + 1)) Start
  done_more place bytes done end here so first less =
      let rest : List ℕ = drop done bytes in
      let parts : take (done + (end + 1)) bytes ≡ take done bytes ++ take (end + 1) rest = take-add done (end + 1) bytes in
      let ended : EndsRecord delimiter (place_after delimiter place (take done bytes)) (take (end + 1) rest) =
      subst (λ (p : Place). EndsRecord delimiter p (take (end + 1) rest)) so.place_is (ends_through here rest end first less) in
      let all : EndsRecord delimiter place (take (done + (end + 1)) bytes) = subst (EndsRecord delimiter place) (sym parts) (ends_later place (take done bytes) (take (end + 1) rest) ended) in
      record {
        within = let bound : done ≤ length bytes = so.within in omega (arith, less, length-drop done bytes, bound);
        ended = λ some. all;
        place_is = sym (place_at_end place (take (done + (end + 1)) bytes) all);
      }

  -- no more record ends
  pub done_last : (place : Place) (bytes : List ℕ) (done end : ℕ) (here : Place) → HasDone place bytes done here → IsFirstEnd delimiter here (drop done bytes) end → end ≡ length (drop done bytes) → IsBehindLastEnd delimiter place bytes done
  done_last place bytes done end here so first e = (
    so.ended,
    subst (λ (p : Place). IsInOneRecord delimiter p (drop done bytes)) so.place_is
        (subst (IsInOneRecord delimiter here) (ap (λ (n : ℕ). take n (drop done bytes)) e ∙ take_all (length (drop done bytes)) (drop done bytes) (omega arith)) first.0),
  )

  pub last_place : (place : Place) (bytes : List ℕ) (done end at : ℕ) (here last : Place) → HasDone place bytes done here → IsFirstEnd delimiter here (drop done bytes) end → end ≡ length (drop done bytes) → IsFirstCut (ends_field delimiter) is_feed here (drop done bytes) at → last ≡ after_bytes (ends_field delimiter) here (take at (drop done bytes)) → last ≡ place_after delimiter place bytes
  last_place place bytes done end at here last so first e cut is =
      let rest : List ℕ = drop done bytes in
      let one : IsInOneRecord delimiter here rest = subst (IsInOneRecord delimiter here) (ap (λ (n : ℕ). take n rest) e ∙ take_all (length rest) rest (omega arith)) first.0 in
      let le : length rest ≤ at = no_cut_inside (ends_field delimiter) is_feed here rest at one cut in
      is ∙ (ap (after_bytes (ends_field delimiter) here) (take_all at rest le)
      ∙ (ap (λ (p : Place). place_after delimiter p rest) so.place_is
      ∙ (sym (after_append (ends_field delimiter) is_feed place (take done bytes) rest) ∙ ap (place_after delimiter place) (take-append-drop done bytes))))

  -- ---- the first record

  -- a last record without a line feed
  one_part : (bytes : List ℕ) → 0 < length bytes → lines_of_parts (bytes ∷ []) ≡ bytes ∷ []
  one_part [] some = absurd (omega arith)
  one_part (x ∷ xs) some = let test : eqb (length (x ∷ xs)) 0 ≡ false = grind (arith, nat_tests) in rw test refl

  one_raw : (bytes : List ℕ) → 0 < length bytes → with_feeds (bytes ∷ []) ≡ bytes ∷ []
  one_raw [] some = absurd (omega arith)
  one_raw (x ∷ xs) some = let test : eqb (length (x ∷ xs)) 0 ≡ false = grind (arith, nat_tests) in rw test refl

  abbrev Takes : (bytes raw row after : List ℕ) → Type 0
  Takes bytes raw row after =
      (raw_csv_records delimiter bytes ≡ raw ∷ raw_csv_records delimiter after) × (csv_records delimiter bytes ≡ row ∷ csv_records delimiter after)
      × (csv_records delimiter raw ≡ row ∷ []) × (length after < length bytes)

  pub last_record : (bytes row after : List ℕ) (at : ℕ) → 0 < length bytes → IsFirstEnd delimiter Start bytes at → at ≡ length bytes → row ≡ take at bytes → after ≡ drop at bytes → Takes bytes row row after
  last_record bytes row after at some end e front back =
      let whole : row ≡ bytes = front ∙ take_all at bytes (omega (arith, e)) in
      let none : after ≡ [] = back ∙ drop_all at bytes (omega (arith, e)) in
      let parts : record_parts delimiter bytes ≡ bytes ∷ [] = split_one (ends_field delimiter) is_feed Start bytes (subst (IsInOneRecord delimiter Start) (sym front ∙ whole) end.0) in
      rw (whole, none) (
        ap with_feeds parts ∙ one_raw bytes some,
        ap lines_of_parts parts ∙ one_part bytes some,
        ap lines_of_parts parts ∙ one_part bytes some,
        some,
      )

  pub first_record : (bytes raw row stripped after : List ℕ) (at : ℕ) → IsFirstEnd delimiter Start bytes at → at < length bytes → raw ≡ take (at + 1) bytes → after ≡ drop (at + 1) bytes → row ≡ take at raw → stripped ≡ strip_carriage_return row → Takes bytes raw stripped after
  first_record bytes raw row stripped after at end less front back own strip =
      let cut : cuts is_feed (place_after delimiter Start (take at bytes)) (get_or bytes at 0) ≡ true = end.1 less in
      let feed : get_or bytes at 0 ≡ 10 = eqb-true (get_or bytes at 0) 10 (cut_parts is_feed (place_after delimiter Start (take at bytes)) (get_or bytes at 0) cut).1 in
      let at_feed : cuts is_feed (place_after delimiter Start (take at bytes)) 10 ≡ true = subst (λ (x : ℕ). cuts is_feed (place_after delimiter Start (take at bytes)) x ≡ true) feed cut in
      let raw_is : raw ≡ take at bytes ++ 10 ∷ [] = front ∙ (take_more bytes at 0 less ∙ ap (λ (x : ℕ). take at bytes ++ x ∷ []) feed) in
      let row_is : row ≡ take at bytes = own ∙ (ap (take at) front ∙ take-take at (at + 1) bytes (omega arith)) in
      let all : bytes ≡ take at bytes ++ 10 ∷ after = through bytes at less ∙ (ap (λ (x : ℕ). take at bytes ++ x ∷ drop (at + 1) bytes) feed ∙ ap (λ l. take at bytes ++ 10 ∷ l) (sym back)) in
      let parts : record_parts delimiter bytes ≡ take at bytes ∷ record_parts delimiter after = ap (record_parts delimiter) all ∙ split_first (ends_field delimiter) is_feed Start (take at bytes) 10 after end.0 at_feed in
      let own_parts : record_parts delimiter raw ≡ take at bytes ∷ record_parts delimiter [] = ap (record_parts delimiter) raw_is ∙ split_first (ends_field delimiter) is_feed Start (take at bytes) 10 [] end.0 at_feed in
      let some : 0 < length (record_parts delimiter after) = some_parts (ends_field delimiter) is_feed Start after in
      let stripped_is : stripped ≡ strip_carriage_return (take at bytes) = strip ∙ ap strip_carriage_return row_is in (
        ap with_feeds parts ∙ (feeds_cons (take at bytes) (record_parts delimiter after) some ∙ ap (λ l. l ∷ raw_csv_records delimiter after) (sym raw_is)),
        ap lines_of_parts parts ∙ (lines_cons (take at bytes) (record_parts delimiter after) some ∙ ap (λ l. l ∷ csv_records delimiter after) (sym stripped_is)),
        ap lines_of_parts own_parts ∙ ap (λ l. l ∷ []) (sym stripped_is),
        omega (arith, ap length back, length-drop (at + 1) bytes, less),
      )
