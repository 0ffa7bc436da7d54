-- Calls that were refused.
use Rattle.std.proofs.Common.{◌≡◌, ◌≢◌, ℕ, ◌+◌, ◌<◌, ◌^◌, Bool, [], Result, Err, refl, sym, ap, subst, arith}
use Rattle.sketch_base.specs.Errors.{ErrorValue, no_memory}
use Rattle.sketch_frequencies.specs.State.{FrequentState}
use Rattle.heavy_windows.specs.Calls.{IsAddition}
use Rattle.heavy_windows.specs.Fresh.{fresh_state}
use Rattle.heavy_windows.specs.Newest.{newest}
use Rattle.heavy_windows.specs.State.{WindowsState, at_tenant, newest_of}

-- where there is no weight, each has room
pub fits_none : (total weight : ℕ) → total ≡ 0 → weight < 2 ^ 64 → total + weight < 2 ^ 64
fits_none total weight none fits = omega arith

module _ {T : Type 0} where
  -- the newest window of an unknown tenant is a fresh one, so each weight has room there
  room_there : (tenant : ℕ) (s : WindowsState T) → at_tenant tenant s ≡ [] → (newest_of tenant s).total ≡ 0
  room_there tenant s unknown = ap (λ (w : FrequentState T). w.total) (ap (newest (fresh_state s.max_map_size s.key)) unknown)

  refused : (eq : T → T → Bool) (tenant weight : ℕ) (item : T) (s : WindowsState T) → weight ≢ 0 → weight < 2 ^ 64 → at_tenant tenant s ≡ []
      → IsAddition eq tenant weight item s (Err no_memory) s
  refused eq tenant weight item s some fits unknown = record {
    zero = λ none. absurd (some none);
    adds = tt;
    stands = tt;
    others = record { limit = refl; max_map_size = refl; key = refl; hasher = refl; others = λ other apart. refl };
    err = refl;
    overflow = λ positive over. absurd (omega (arith, room_there tenant s unknown));
    memory = λ room. refl;
    succeeds = λ room stays known. absurd (known unknown);
  }

  -- an addition to an unknown tenant for which there was no memory: all is as it was
  pub refused_unknown : (eq : T → T → Bool) (tenant weight : ℕ) (item : T) (old seen new : WindowsState T) (r : Result (Unit {0}) ErrorValue) (e : ErrorValue)
      → weight ≢ 0 → weight < 2 ^ 64 → at_tenant tenant old ≡ [] → old ≡ seen → new ≡ seen → r ≡ Err e → e ≡ no_memory → IsAddition eq tenant weight item seen r new
  refused_unknown eq tenant weight item old seen new r e some fits unknown view same is memory =
      let none : at_tenant tenant seen ≡ [] = subst (λ (s : WindowsState T). at_tenant tenant s ≡ []) view unknown in
      subst (λ (s : WindowsState T). IsAddition eq tenant weight item seen r s) (sym same)
      (rw (is, memory) (refused eq tenant weight item seen some fits none))
