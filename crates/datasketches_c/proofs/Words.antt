-- The machine value of a struct of a pointer and an allocator. Assumes `Logic`.
use Rattle.std.proofs.Common.{◌≡◌, List, [], ◌∷◌, ◌++◌, refl, subst, lit<}
use lib.Dec.{T}
use seplogic.Ra.Ura.{Ura}
use mir.Syntax.{impl, tnil, dnil, ty_ptr}
use mir.Val.{Val, vstruct, vcons, vnil, of_list, has_ty, WT}
use mathlib.Core.Bool.{true, ◌&&◌}
use types.Logic.{Logic}
use types.Kit.{Item, Goal, Seq, Step, step, ‵, ◌$◌, move, drop, fsplit, fjoin, fpick, fpack, feq_i, feq_l}
use denote.RattleType.{RattleType, Valss}
use denote.Builtin.{RawPtr}
use denote.RawPtr.{Ptr, block_ptr, null_ptr, ptr_val}
use denote.Steps.{nothing}
use denote.Param.{layout}
use denote.Param.Laws.{Laws}
use denote.Struct.Struct.{Struct, within}
use Rattle.core.specs.declared.alloc.Allocator.{Ghosts}
use Rattle.core.proofs.alloc.Calls.{Al, handle_tells}
use Rattle.core.proofs.cell.Inside.{Good}
use Rattle.std_alloc.proofs.ResultValues.{and_tt}

-- the machine value of two fields
abbrev pub pair : Val → Val → Val
pair v w = vstruct (vcons v (vcons w vnil))

-- a pointer has its type and is a value
pub pointer_fits : (p : Ptr) → T (has_ty ty_ptr (ptr_val p)) × WT (ptr_val p)
pointer_fits (block_ptr b o) = (tt, tt)
pointer_fits null_ptr = (tt, record { fits = lit< tt })

module _ (Z : RattleType) (L : Laws Z) (g : Ghosts Z.Denot) where
  -- a pointer and an allocator have their types and are values
  pub word_fits : (p : Ptr) (h : Val) → Good (layout Z) h → T (has_ty (layout Z) h && true) × WT (pair (ptr_val p) h)
  word_fits p h fits = (and_tt (has_ty (layout Z) h) fits.0, ((pointer_fits p).1, (fits.1, tt)))

  -- the struct, apart from what it owns beside its fields
  abbrev pub Word : RattleType
  Word = Struct (record { name = []; args = []; types = []; fields = RawPtr ∷ Z ∷ [] })

  abbrev allocator : Al
  allocator = record { row = Z; laws = L; g = g; d = impl [] tnil dnil; drops = impl [] tnil dnil }

  module _ {M : Type 1} {𝓤 : Ura M} {𝓛 : Logic 𝓤} {K : Type 0} {Γ : List (Item 𝓤)} {G : Goal 𝓤 𝓛.H} where
    pub word_out : K → (p : Ptr) (a : Z.Denot) (vs : List Val)
        → ((h : Val) → vs ≡ pair (ptr_val p) h ∷ [] → Good (layout Z) h → Seq K 𝓛 (‵ (Z.own_val a (h ∷ [])) ∷ Γ) G)
        → Seq K 𝓛 (‵ (Word.own_val (p, (a, tt)) vs) ∷ Γ) G
    word_out t p a vs k =
        fpick t (λ fields. fsplit t $ feq_l t (λ is_struct. fsplit t $ feq_l t (λ is_pointer. fsplit t $
        handle_tells allocator t a fields.1.0 (λ h is_handle fits. move t (1 ∷ []) $ drop t $ k h
        (subst (λ (ws : List Val). vs ≡ vstruct (of_list (ptr_val p ∷ (ws ++ []))) ∷ []) is_handle
        (subst (λ (ps : List Val). vs ≡ vstruct (of_list (ps ++ (fields.1.0 ++ []))) ∷ []) is_pointer is_struct)) fits))))

    pub word_in : K → (p : Ptr) (h : Val) (a : Z.Denot)
        → Step K 𝓛 (‵ (Word.own_val (p, (a, tt)) (pair (ptr_val p) h ∷ [])) ∷ Γ) G (‵ (Z.own_val a (h ∷ [])) ∷ Γ) G
    word_in t p h a = step (λ rest. let v : Val = pair (ptr_val p) h in
        nothing t $ move t (1 ∷ 0 ∷ []) $ fjoin t $ feq_i t (List Val) (ptr_val p ∷ []) (ptr_val p ∷ []) refl $ fjoin t $
        feq_i t (List Val) (v ∷ []) (v ∷ []) refl $ fjoin t $
        fpack t (Valss (RawPtr ∷ Z ∷ [])) (within (record { name = []; args = []; types = []; fields = RawPtr ∷ Z ∷ [] }) (p, (a, tt)) (v ∷ [])) (ptr_val p ∷ [], (h ∷ [], tt)) $ rest)
