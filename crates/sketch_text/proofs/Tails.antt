-- The last of bytes.
use Rattle.std.proofs.Common.{◌≡◌, ℕ, ◌-◌, ◌<◌, ◌≤◌, List, length, drop, ⊎_elim, sym, ◌∙◌, ap, arith, length-drop}
use Rattle.std.proofs.lemmas.Bool.{cases_lt}
use Rattle.std.proofs.lemmas.List.{drop-drop, drop_all}
use Rattle.sketch_text.specs.Records.{IsEndOf}

pub end_of : (bytes end : List ℕ) (at : ℕ) → end ≡ drop at bytes → IsEndOf bytes end
end_of bytes end at is =
    let long : length end ≡ length bytes - at = ap length is ∙ length-drop at bytes in
    ⊎_elim
    (λ (less : at < length bytes). is ∙ ap (λ (n : ℕ). drop n bytes) (omega (arith, long, less)))
    (λ (past : length bytes ≤ at). is ∙ drop_all at bytes past ∙ sym (drop_all (length bytes - length end) bytes (omega (arith, long, past))))
    (cases_lt at (length bytes))

pub end_after : (bytes middle end : List ℕ) (at more : ℕ) → middle ≡ drop at bytes → end ≡ drop more middle → IsEndOf bytes end
end_after bytes middle end at more is later = end_of bytes end _ (later ∙ ap (drop more) is ∙ drop-drop more at bytes)

-- the end of an end
pub end_of_end : (bytes middle end : List ℕ) → IsEndOf bytes middle → IsEndOf middle end → IsEndOf bytes end
end_of_end bytes middle end is later = end_after bytes middle end (length bytes - length middle) (length middle - length end) is later
