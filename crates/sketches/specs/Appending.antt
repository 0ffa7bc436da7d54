-- The laws of bytes that are appended to what a writer holds.
use Rattle.std.proofs.Common.{◌≡◌, ℕ, List, [], ◌++◌, append_assoc, append-nil, Option, None, Some, refl, sym, ◌∙◌, ap, subst}
use Rattle.std.specs.Io.KnownBytes.{Appends}
use Rattle.sketches.specs.Outputs.{WritesFront}

pub appends_none : (held : Option (List ℕ)) → Appends held held []
appends_none None = tt
appends_none (Some xs) = sym (append-nil xs)

pub appends_both : (a b c : Option (List ℕ)) (xs ys : List ℕ) → Appends a b xs → Appends b c ys → Appends a c (xs ++ ys)
appends_both None b c xs ys first second = tt
appends_both (Some a) None c xs ys first second = absurd first
appends_both (Some a) (Some b) None xs ys first second = second
appends_both (Some a) (Some b) (Some c) xs ys first second = second ∙ (ap (λ l. l ++ ys) first ∙ append_assoc a xs ys)

-- ---- the front of a text

pub front_none : (held : Option (List ℕ)) (text : List ℕ) → WritesFront held held text
front_none held text = ([], text, refl, appends_none held)

pub front_all : (a b : Option (List ℕ)) (text : List ℕ) → Appends a b text → WritesFront a b text
front_all a b text wrote = (text, [], sym (append-nil text), wrote)

-- the front of a text is that of a longer one
pub front_more : (a b : Option (List ℕ)) (xs ys : List ℕ) → WritesFront a b xs → WritesFront a b (xs ++ ys)
front_more a b xs ys (front, left, parts, wrote) = (front, left ++ ys, ap (λ l. l ++ ys) parts ∙ append_assoc front left ys, wrote)

-- after a text, the front of another one
pub front_after : (a b c : Option (List ℕ)) (xs ys : List ℕ) → Appends a b xs → WritesFront b c ys → WritesFront a c (xs ++ ys)
front_after a b c xs ys first (front, left, parts, wrote) =
    (xs ++ front, left, ap (λ l. xs ++ l) parts ∙ sym (append_assoc xs front left), appends_both a b c xs front first wrote)

pub front_same : (a b : Option (List ℕ)) (xs ys : List ℕ) → xs ≡ ys → WritesFront a b xs → WritesFront a b ys
front_same a b xs ys same wrote = subst (WritesFront a b) same wrote
