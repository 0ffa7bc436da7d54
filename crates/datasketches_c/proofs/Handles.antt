-- A handle and the parts of its box as machine values. Assumes `Logic`.
use Rattle.std.proofs.Common.{◌≡◌, ℕ, List, [], ◌∷◌, Option, None, Some, refl, subst}
use seplogic.Ra.Ura.{Ura}
use mir.Raw.{raw as bare}
use mir.Val.{Val, vptr}
use base.Fraction.{full_share}
use base.Logic.{via, never, fst∗, snd∗, guard_i}
use types.Logic.{Logic, sem}
use types.Kit.{Item, Goal, Seq, Step, step, ‵, ◌$◌, move, fsplit, fjoin, feq_l, given, learn, use1}
use contract.Monad.{fact_use}
use denote.Memory.{lone}
use denote.Param.{layout}
use denote.Param.Laws.{Laws}
use denote.RattleType.{RattleType}
use denote.RawPtr.{Ptr, block_ptr, null_ptr, ptr_val, in_a_block, Testable, lies_at}
use Rattle.core.proofs.cell.Inside.{Good}
use Rattle.std.specs.contracts.alloc.Global as heap
use Rattle.std.specs.contracts.impls.GlobalAllocator.TheImpl.{ghosts}
use Rattle.std.specs.declared.alloc.Global.{Global}
use Rattle.std.proofs.alloc.Global.TheLaws as heap_laws
use Rattle.std.proofs.GlobalToken.{dealloc_token-Testable}
use Rattle.std_alloc.specs.Box.Ownership.{box_owns}
use Rattle.datasketches_c.specs.Holding.{holds}
use Rattle.datasketches_c.specs.declared.held_sketch.HeldSketch as sketch
use Rattle.datasketches_c.specs.contracts.held_sketch.HeldSketch as held_sketch
use Rattle.datasketches_c.specs.contracts.handle.SketchHandle as handle
use Rattle.datasketches_c.specs.contracts.raw_box.RawBox as raw_box
use Rattle.datasketches_c.proofs.Words.{pair, word_out, word_in}

abbrev pub Sketch : RattleType
Sketch = held_sketch.the_row

abbrev pub Heap : RattleType
Heap = heap.the_row

abbrev pub heap_row_laws : Laws Heap
heap_row_laws = heap_laws.the_row_laws

abbrev pub Handle : RattleType
Handle = handle.the_row

abbrev pub Raw : RattleType
Raw = raw_box.the_row Sketch Heap ghosts

-- what a block owns that is the sketch's
abbrev pub boxed : Global → Ptr → sketch.HeldSketch → base.Fml.Fml
boxed a p x = box_owns (ghosts.dealloc_token a) Sketch p x

module _ {M : Type 1} {𝓤 : Ura M} {𝓛 : Logic 𝓤} {K : Type 0} {Γ : List (Item 𝓤)} {G : Goal 𝓤 𝓛.H} where
  pub handle_out : K → (d : Handle.Denot) (vs : List Val)
      → ((h : Val) → vs ≡ pair (ptr_val d.pointer) h ∷ [] → Good (layout Heap) h
      → Seq K 𝓛 (‵ (holds (ghosts.dealloc_token d.alloc) Sketch d.pointer d.value) ∷ ‵ (Heap.own_val d.alloc (h ∷ [])) ∷ Γ) G)
      → Seq K 𝓛 (‵ (Handle.own_val d vs) ∷ Γ) G
  handle_out t d vs k = fsplit t $ word_out Heap heap_row_laws ghosts t d.pointer d.alloc vs (λ h is fits. move t (1 ∷ []) $ k h is fits)

  pub handle_in : K → (p : Ptr) (h : Val) (a : Global) (held : Option sketch.HeldSketch)
      → Step K 𝓛 (‵ (Handle.own_val (record { pointer = p; alloc = a; value = held }) (pair (ptr_val p) h ∷ [])) ∷ Γ) G
      (‵ (holds (ghosts.dealloc_token a) Sketch p held) ∷ ‵ (Heap.own_val a (h ∷ [])) ∷ Γ) G
  handle_in t p h a held = step (λ rest. move t (1 ∷ []) $ word_in Heap heap_row_laws ghosts t p h a $ fjoin t $ rest)

  -- the parts of a box lie in a block
  pub raw_out : K → (d : Raw.Denot) (vs : List Val)
      → ((b o : ℕ) (h : Val) → vs ≡ pair (vptr b o) h ∷ [] → Good (layout Heap) h
      → Seq K 𝓛 (‵ (boxed d.alloc (block_ptr b o) d.value) ∷ ‵ (Heap.own_val d.alloc (h ∷ [])) ∷ Γ) G)
      → Seq K 𝓛 (‵ (Raw.own_val d vs) ∷ Γ) G
  raw_out t d vs k = fsplit t $ word_out Heap heap_row_laws ghosts t d.pointer d.alloc vs (λ h is fits. move t (1 ∷ []) $
      in_a_block t d.pointer (λ p. boxed d.alloc p d.value) (fst∗ 𝓤 (never 𝓤) (sem 𝓛 (ghosts.dealloc_token d.alloc (bare (lone Sketch.mir)) null_ptr))) (λ b o e.
      k b o h (subst (λ (p : Ptr). vs ≡ pair (ptr_val p) h ∷ []) e is) fits))

  pub raw_in : K → (b o : ℕ) (h : Val) (a : Global) (x : sketch.HeldSketch)
      → Step K 𝓛 (‵ (Raw.own_val (record { pointer = block_ptr b o; alloc = a; value = x }) (pair (vptr b o) h ∷ [])) ∷ Γ) G
      (‵ (boxed a (block_ptr b o) x) ∷ ‵ (Heap.own_val a (h ∷ [])) ∷ Γ) G
  raw_in t b o h a x = step (λ rest. move t (1 ∷ []) $ word_in Heap heap_row_laws ghosts t (block_ptr b o) h a $ fjoin t $ rest)

  -- a handle is null and holds nothing, or is of a block whose pointer may be compared with null
  pub null_or_block : K → (a : Global) (p : Ptr) (held : Option sketch.HeldSketch)
      → (p ≡ null_ptr → held ≡ None → Seq K 𝓛 Γ G)
      → ((b o : ℕ) (x : sketch.HeldSketch) → p ≡ block_ptr b o → held ≡ Some x → Testable (block_ptr b o)
      → Seq K 𝓛 (‵ (boxed a (block_ptr b o) x) ∷ Γ) G)
      → Seq K 𝓛 (‵ (holds (ghosts.dealloc_token a) Sketch p held) ∷ Γ) G
  null_or_block t a p None null block = feq_l t (λ e. null e refl)
  null_or_block t a p (Some x) null block =
      in_a_block t p (λ q. boxed a q x) (fst∗ 𝓤 (never 𝓤) (sem 𝓛 (ghosts.dealloc_token a (bare (lone Sketch.mir)) null_ptr))) (λ b o e.
      let lies = sem 𝓛 (lies_at Sketch full_share (block_ptr b o) x) in
      let frees = sem 𝓛 (ghosts.dealloc_token a (bare (lone Sketch.mir)) (block_ptr b o)) in
      use1 𝓛 (given (Testable (block_ptr b o)) (‵ (boxed a (block_ptr b o) x)))
      (fact_use 𝓤 (Testable (block_ptr b o)) (via 𝓤 frees (snd∗ 𝓤 lies frees) (dealloc_token-Testable 𝓛 a (bare (lone Sketch.mir)) (block_ptr b o)))
      (λ may. guard_i 𝓤 (Testable (block_ptr b o)) (sem 𝓛 (boxed a (block_ptr b o) x)) may)) $
      learn t (λ may. block b o x e refl may))
