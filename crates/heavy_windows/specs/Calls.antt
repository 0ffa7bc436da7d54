-- The effect of each call, as one record for each.
use Rattle.std.specs.Prelude.{◌≡◌, ◌≢◌, ℕ, ◌<◌, ◌≤◌, ◌^◌, Bool, false, [], None, Result, ⊤, IsOk, IfOk, IfErr, OnOk, OnErr, IsErrOf}
use Rattle.sketch_base.specs.Errors.{ErrorValue, invalid_argument, no_memory, refusal_of}
use Rattle.counter_table.specs.declared.table_key.TableKey.{TableKey}
use Rattle.sketch_base.specs.declared.fault.Fault.TheVariants.{WeightOverflow}
use Rattle.sketch_frequencies.specs.State.{Overflows, TotalHasRoom, must_double}
use Rattle.sketch_frequencies.specs.declared.error_type.ErrorType.{ErrorType}
use Rattle.sketch_frequencies.specs.declared.error_type.ErrorType.TheVariants.{NoFalseNegatives, NoFalsePositives}
use Rattle.heavy_windows.specs.Fresh.{fresh_state}
use Rattle.heavy_windows.specs.Histories.{added_history, turned_history}
use Rattle.heavy_windows.specs.Newest.{turned}
use Rattle.heavy_windows.specs.Reports.{Reports, HasTotal, EnclosesEach, MissesNone, ShowsNoneBelow, IsPaidByTail}
use Rattle.heavy_windows.specs.Sizes.{limits_fault}
use Rattle.heavy_windows.specs.Stands.{ExtendsWindows}
use Rattle.heavy_windows.specs.State.{WindowsState, at_tenant, newest_of, nothing_added, windows_total, OnlyChanges}
use Rattle.heavy_windows.specs.Steps.{AddsToNewest}
use Rattle.heavy_windows.specs.declared.report.Report.{Report}

module _ {T : Type 0} where
  -- empty windows under this key were created, or the limits were rejected
  pub record IsMade (windows max_map_size : ℕ) (key : TableKey) (result : Result (WindowsState T) ErrorValue)
      : Type 0 where
    pub ok : IfOk result (λ made. made ≡ nothing_added windows max_map_size key made.hasher)
    pub limits : OnOk result (limits_fault windows max_map_size ≡ None)
    pub accepted : limits_fault windows max_map_size ≡ None → IsOk result
    pub refused : IfErr result (λ e. e ≡ refusal_of (limits_fault windows max_map_size))

module _ {T : Type 0} (eq : T → T → Bool) where
  -- a weight was added to an item of a tenant, or an error returned
  pub record IsAddition (tenant weight : ℕ) (item : T) (old : WindowsState T) (result : Result ⊤ ErrorValue)
      (new : WindowsState T) : Type 0 where
    pub zero : weight ≡ 0 → IsOk result × (new ≡ old)
    pub adds : OnOk result (0 < weight → AddsToNewest eq (fresh_state old.max_map_size old.key) (at_tenant tenant old) item weight (at_tenant tenant new))
    -- if the old windows stand for histories, the new ones stand for these with the weight added to the newest
    pub stands : OnOk result (0 < weight → ExtendsWindows eq tenant old new (added_history old.max_map_size item weight))
    -- no other tenant's windows change, and an error changes nothing
    pub others : OnlyChanges tenant old new
    pub err : OnErr result (new ≡ old)
    pub overflow : 0 < weight → Overflows (newest_of tenant old) weight → IsErrOf result (invalid_argument WeightOverflow)
    pub memory : TotalHasRoom (newest_of tenant old) weight → IfErr result (λ e. e ≡ no_memory)
    pub succeeds :
        TotalHasRoom (newest_of tenant old) weight → must_double eq (newest_of tenant old) item ≡ false →
        at_tenant tenant old ≢ [] → IsOk result

  -- an empty window was opened for a tenant, or an error returned
  pub record IsTurn (tenant : ℕ) (old : WindowsState T) (result : Result ⊤ ErrorValue) (new : WindowsState T) :
      Type 0 where
    pub turned : OnOk result (at_tenant tenant new ≡ turned old.limit (fresh_state old.max_map_size old.key) (at_tenant tenant old))
    -- if the old windows stand for histories, the new ones stand for these with an empty one after them, and without
    -- the dropped one
    pub stands : OnOk result (ExtendsWindows eq tenant old new (turned_history old.limit old.max_map_size))
    -- no other tenant's windows change, and an error changes nothing
    pub others : OnlyChanges tenant old new
    pub unknown : at_tenant tenant old ≡ [] → IsOk result × (new ≡ old)
    pub err : OnErr result (new ≡ old)
    pub memory : IfErr result (λ e. e ≡ no_memory)

  -- a report on a tenant was returned, or an error
  pub record IsReport (tenant : ℕ) (kind : ErrorType) (threshold : ℕ) (windows : WindowsState T)
      (result : Result (Report T) ErrorValue) : Type 0 where
    pub ok : IfOk result (Reports eq kind threshold windows.max_map_size windows.key (at_tenant tenant windows))
    -- what the report guarantees for all histories that the tenant's windows stand for
    pub total : IfOk result (HasTotal eq windows.max_map_size (at_tenant tenant windows))
    pub encloses : IfOk result (EnclosesEach eq windows.max_map_size (at_tenant tenant windows))
    pub none_missing :
        IfOk result (λ report. kind ≡ NoFalseNegatives → MissesNone eq windows.max_map_size (at_tenant tenant windows) threshold report)
    pub none_below :
        IfOk result (λ report. kind ≡ NoFalsePositives → ShowsNoneBelow eq windows.max_map_size (at_tenant tenant windows) threshold report)
    pub budget : IfOk result (IsPaidByTail eq windows.max_map_size (at_tenant tenant windows))
    -- an overflow is returned before any allocation
    pub overflow :
        2 ^ 64 ≤ windows_total (at_tenant tenant windows) → IsErrOf result (invalid_argument WeightOverflow)
    pub memory : windows_total (at_tenant tenant windows) < 2 ^ 64 → IfErr result (λ e. e ≡ no_memory)
