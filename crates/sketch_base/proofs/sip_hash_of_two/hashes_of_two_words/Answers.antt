use Rattle.std.proofs.Common.{ap, refl, ℕ, List}
use Rattle.std.specs.Prelude.{slice_index_or}
use Rattle.sketch_base.proofs.sip_hash_of_two.hashes_of_two_words.Goals as goal

pub returns : goal.returns
returns c =
    let begun = c.compression-begun.ensures _ _ _ _ c.initialization_of_two-start.ensures refl in
    let whole = c.compression.ensures _ _ _ _ begun refl in
    ap (λ (hashes : List ℕ). (slice_index_or hashes 0 0, slice_index_or hashes 1 0)) (c.finalization-hashes.ensures _ _ whole)
