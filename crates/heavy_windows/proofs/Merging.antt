-- Windows that are merged one after another.
use Rattle.std.proofs.Common.{◌≡◌, ℕ, ◌+◌, ◌<◌, ◌^◌, Bool, List, [], ◌∷◌, ◌++◌, length, refl, sym, subst, ap, ⊎_elim, arith}
use Rattle.std.proofs.Math.Nat.{eq-zero-or-pos}
use Rattle.std.proofs.lemmas.List.Sums.{sum_by-cons}
use Rattle.std.specs.List.{fold}
use Rattle.counter_table.specs.declared.table_key.TableKey.{TableKey}
use Rattle.sketch_frequencies.specs.History.{FrequentHistory}
use Rattle.sketch_frequencies.specs.History.FrequentHistory.{Merge}
use Rattle.sketch_frequencies.specs.Stands.{StandsFor, KeepsTailBudget, ExtendsBoth, ExtendsBothBudgets}
use Rattle.sketch_frequencies.specs.State.{FrequentState, IsState}
use Rattle.sketch_frequencies.specs.Steps.{JoinsEqual}
use Rattle.heavy_windows.specs.Fresh.{fresh_state, fresh_history}
use Rattle.heavy_windows.specs.Merging.{MergesAll, IsMerged}
use Rattle.heavy_windows.specs.Stands.{WindowsStandFor}
use Rattle.heavy_windows.specs.State.{windows_total}

module _ {T : Type 0} (eq : T → T → Bool) where
  -- a window was merged in, with what that keeps of histories
  pub record MergesWindow (old window new : FrequentState T) : Type 0 where
    pub join : JoinsEqual eq old window new
    pub stands : ExtendsBoth eq old window new Merge
    pub budget : ExtendsBothBudgets eq old window new Merge

  -- one after another was merged in so
  abbrev pub Chain : FrequentState T → List (FrequentState T) → FrequentState T → Type 0
  Chain old [] new = new ≡ old
  Chain old (window ∷ windows) new =
      (mid : FrequentState T) × MergesWindow old window mid × Chain mid windows new

  -- what comes of the sketch with the windows that are left comes of the first one with all
  pub record Continues (first : FrequentState T) (windows : List (FrequentState T)) (merged : FrequentState T)
      (rest : List (FrequentState T)) : Type 0 where
    pub on : (last : FrequentState T) → Chain merged rest last → Chain first windows last
    pub total : merged.total + windows_total rest ≡ first.total + windows_total windows

  pub begins : (first merged : FrequentState T) (windows rest : List (FrequentState T)) → merged ≡ first → rest ≡ windows
      → Continues first windows merged rest
  begins first merged windows rest e same =
      subst (λ m. Continues first windows m rest) (sym e)
      (subst (λ ws. Continues first windows first ws) (sym same) (record { on = λ last chain. chain; total = refl }))

  join_total : (old window new : FrequentState T) → JoinsEqual eq old window new → new.total ≡ old.total + window.total
  join_total old window new j =
      let own : j.own.total ≡ old.total = j.same_own.holds.total in
      let more : j.more.total ≡ window.total = j.same_more.holds.total in
      ⊎_elim
      (λ (none : j.more.total ≡ 0). let e : new.total ≡ j.own.total = ap (λ s. s.total) (j.join.nothing none) in omega (arith, e, none, own, more))
      (λ (some : 0 < j.more.total). let e : new.total ≡ j.own.total + j.more.total = (j.join.added some).total in omega (arith, e, own, more))
      (eq-zero-or-pos j.more.total)

  pub goes_on : (first merged merged' window : FrequentState T) (windows rest : List (FrequentState T))
      → Continues first windows merged (window ∷ rest) → MergesWindow merged window merged'
      → Continues first windows merged' rest
  goes_on first merged merged' window windows rest c m = record {
    on = λ last chain. c.on last (merged', m, chain);
    total =
        let t = join_total merged window merged' m.join in
        let e = c.total in
        omega (arith, t, e, sum_by-cons (λ (s : FrequentState T). s.total) window rest);
  }

  -- none of the windows makes the total pass the greatest `u64`
  pub next_fits : (max_map_size : ℕ) (key : TableKey) (first merged window : FrequentState T) (windows rest : List (FrequentState T))
      → first ≡ fresh_state max_map_size key → windows_total windows < 2 ^ 64 → Continues first windows merged (window ∷ rest)
      → merged.total + window.total < 2 ^ 64
  next_fits max_map_size key first merged window windows rest e fits c =
      let none : first.total ≡ 0 = ap (λ s. s.total) e in
      let whole = c.total in
      omega (arith, fits, none, whole, sum_by-cons (λ (s : FrequentState T). s.total) window rest)

  -- with none left but the last
  pub one_left : (first merged window : FrequentState T) (windows rest : List (FrequentState T)) → length rest ≡ 0
      → Continues first windows merged (rest ++ window ∷ []) → Continues first windows merged (window ∷ [])
  one_left first merged window windows [] e c = c
  one_left first merged window windows (x ∷ xs) e c = absurd (omega (arith, e))

  pub ends_so : (first merged : FrequentState T) (windows : List (FrequentState T)) → Continues first windows merged []
      → Chain first windows merged
  ends_so first merged windows c = c.on merged refl

  chain_merges : (old : FrequentState T) (windows : List (FrequentState T)) (new : FrequentState T) → Chain old windows new
      → MergesAll eq old windows new
  chain_merges old [] new chain = chain
  chain_merges old (window ∷ windows) new chain = (chain.0, chain.1.join, chain_merges chain.0 windows new chain.2)

  -- the sketch stands for the history, and keeps its tail budget
  pub record IsOf (s : FrequentState T) (h : FrequentHistory T) : Type 0 where
    pub stands : StandsFor eq s h
    pub budget : KeepsTailBudget eq s h

  chain_stands : (max_map_size : ℕ) (old : FrequentState T) (windows : List (FrequentState T)) (new : FrequentState T)
      (h : FrequentHistory T) (hs : List (FrequentHistory T)) → Chain old windows new → IsOf old h
      → WindowsStandFor eq max_map_size windows hs → IsOf new (fold Merge h hs)
  chain_stands max_map_size old [] new h [] chain is z = subst (λ s. IsOf s h) (sym chain) is
  chain_stands max_map_size old [] new h (g ∷ hs) chain is z = absurd z
  chain_stands max_map_size old (window ∷ windows) new h [] chain is z = absurd z
  chain_stands max_map_size old (window ∷ windows) new h (g ∷ hs) chain is z =
      chain_stands max_map_size chain.0 windows new (Merge h g) hs chain.2
      (record {
        stands = chain.1.stands h g is.stands z.0.stands;
        budget = chain.1.budget h g is.stands z.0.stands is.budget z.0.budget;
      })
      z.1

  pub chain_merged : (max_map_size : ℕ) (key : TableKey) (first : FrequentState T) (windows : List (FrequentState T)) (merged : FrequentState T)
      → first ≡ fresh_state max_map_size key → Chain first windows merged → IsState eq merged
      → StandsFor eq first (fresh_history max_map_size) → KeepsTailBudget eq first (fresh_history max_map_size)
      → IsMerged eq max_map_size key windows merged
  chain_merged max_map_size key first windows merged e chain state stands budget = record {
    merges = subst (λ s. MergesAll eq s windows merged) e (chain_merges first windows merged chain);
    state = state;
    stands = λ hs z. (chain_stands max_map_size first windows merged (fresh_history max_map_size) hs chain (record { stands = stands; budget = budget }) z).stands;
    budget = λ hs z. (chain_stands max_map_size first windows merged (fresh_history max_map_size) hs chain (record { stands = stands; budget = budget }) z).budget;
  }
