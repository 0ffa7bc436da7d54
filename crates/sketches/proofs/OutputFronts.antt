-- Bytes that are written some at a time.
use Rattle.std.proofs.Common.{◌≡◌, ℕ, ◌-◌, List, [], ◌++◌, length, take, drop, Option, None, Some, append_assoc, append-nil, refl, sym, ◌∙◌, ap, subst, arith, length-drop}
use Rattle.std.proofs.lemmas.List.{take-append-drop, take_all}
use Rattle.std.specs.Io.KnownBytes.{Appends, Keeps}
use Rattle.sketches.specs.Appending.{appends_both, appends_none}
use Rattle.sketches.specs.Outputs.{WritesFront}

-- the bytes before those that are left were written
abbrev pub HasWritten : (held holds : Option (List ℕ)) (bytes left : List ℕ) → Type 0
HasWritten held holds bytes left = (front : List ℕ) × (bytes ≡ front ++ left) × Appends held holds front

pub written_none : (held : Option (List ℕ)) (bytes : List ℕ) → HasWritten held held bytes bytes
written_none held bytes = ([], refl, appends_none held)

-- the elements of a slice from an index on
from_index : (n : ℕ) (xs : List ℕ) → take (length xs - n) (drop n xs) ≡ drop n xs
from_index n xs = take_all (length xs - n) (drop n xs) (omega (arith, length-drop n xs))

pub written_more : (held mid holds : Option (List ℕ)) (bytes left : List ℕ) (n : ℕ) → HasWritten held mid bytes left → Appends mid holds (take n left) → HasWritten held holds bytes (take (length left - n) (drop n left))
written_more held mid holds bytes left n (front, parts, wrote) more = subst (HasWritten held holds bytes) (sym (from_index n left)) (
  front ++ take n left,
  parts ∙ (ap (λ l. front ++ l) (sym (take-append-drop n left)) ∙ sym (append_assoc front (take n left) (drop n left))),
  appends_both held mid holds front (take n left) wrote more,
)

pub written_all : (held holds : Option (List ℕ)) (bytes left : List ℕ) → HasWritten held holds bytes left → left ≡ [] → Appends held holds bytes
written_all held holds bytes left (front, parts, wrote) none = subst (Appends held holds) (sym (parts ∙ (ap (λ l. front ++ l) none ∙ append-nil front))) wrote

pub written_front : (held holds : Option (List ℕ)) (bytes left : List ℕ) → HasWritten held holds bytes left → WritesFront held holds bytes
written_front held holds bytes left (front, parts, wrote) = (front, left, parts, wrote)

kept_after : (held mid holds : Option (List ℕ)) (front : List ℕ) → Appends held mid front → Keeps mid holds → Appends held holds front
kept_after None mid holds front wrote kept = tt
kept_after (Some xs) None holds front wrote kept = absurd wrote
kept_after (Some xs) (Some ys) None front wrote kept = kept
kept_after (Some xs) (Some ys) (Some zs) front wrote kept = kept ∙ wrote

pub written_kept : (held mid holds : Option (List ℕ)) (bytes left : List ℕ) → HasWritten held mid bytes left → Keeps mid holds → WritesFront held holds bytes
written_kept held mid holds bytes left (front, parts, wrote) kept = (front, left, parts, kept_after held mid holds front wrote kept)
