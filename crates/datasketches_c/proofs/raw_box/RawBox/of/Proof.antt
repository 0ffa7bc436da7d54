-- `of` takes the box apart: pointer and allocator move, and with them what the box owned.
use Rattle.std.proofs.Common.{◌≡◌, List, [], ◌∷◌, ◌++◌, refl, sym, ap, ◌∙◌, subst}
use mir.Syntax.{a_type, dcons, dnil}
use mir.Raw.{raw as bare}
use mir.Val.{Val, vstruct, of_list}
use mir.MapTy.{inst_fn}
use base.Logic.{SProp, ent, emp, never, id⊢, fst∗}
use base.Fml.{ftrue, fsep, flft}
use prog.Wp.{WpFn}
use types.Logic.{sem}
use types.Kit.{‵, raw, ◌⊛◌, some, later, ◌$◌, ◌∵◌, !, qed, by, move, keep, drop, split, split3, join, fsplit, fjoin, fpick, pick, suffices, use0, use1, await, rewrite, feq_l}
use types.Run.{stop, fld, of_opd, no_more, and_then, returns, enter}
use types.ByLocal.{alloc_all, pass_all, free_all, look_at, get, get_in, sets, lands_as}
use types.Part.{agg, sub, whole}
use contract.Monad.{fact, fact_i}
use contract.Running.{tables}
use denote.Exit.{no}
use denote.RattleType.{owns}
use denote.Signature.{types_at, plain}
use denote.Builtin.{RawPtr}
use denote.RawPtr.{Ptr, block_ptr, null_ptr, ptr_val, in_a_block}
use denote.Steps.{nothing, only, heard}
use denote.Param.{bounded}
use denote.Struct.Tuple.{Tuple}
use denote.Triple.Spec.{triple_of}
use denote.Triple.Call.{calls_at}
use denote.Triple.Walked.{Stays, stay_dropped, walk_of}
use Rattle.core.proofs.alloc.Calls.{Goes-blank, token, handle_tells}
use Rattle.core.proofs.atomic.Steps.{fm}
use Rattle.std_alloc.specs.Box.Ownership.{box_owns}
use Rattle.std_alloc.proofs.BoxSteps.Form as box
use Rattle.std_alloc.proofs.BoxSteps.Steps.{box_out, box_in}
use Rattle.std.proofs.raw_atomic.Walks.{proved_at, leaves}
use Rattle.std_alloc.specs.contracts.boxed.Box.into_raw_with_allocator as opening
use Rattle.std_alloc.proofs.boxed.Box.into_raw_with_allocator.Met.{met}
use Rattle.datasketches_c.specs.contracts.raw_box.RawBox as raw_box
use Rattle.datasketches_c.specs.contracts.raw_box.RawBox.of.{ended, clauses}
use Rattle.datasketches_c.specs.contracts.raw_box.RawBox.of.Key.{name as #self}
use Rattle.datasketches_c.proofs.raw_box.RawBox.of.Statement.{statement}
use Rattle.datasketches_c.proofs.raw_box.RawBox.of.Code as code

pub of_spec : {M : Type 1} → statement M
of_spec 𝓤 𝓛 𝓜 𝓡 wired T A L LA g d dx dd allocator glue glued =
    let E : box.Bx = record { row = T; laws = L; al = record { row = A; laws = LA; g = g; d = d; drops = dd } } in
    let args = bounded (a_type ∷ a_type ∷ []) (T, (A, tt)) (dcons d (dcons dx (dcons dd dnil))) in
    let fn = inst_fn args code.function in
    let called = ended T A g d dx dd in
    let said = clauses T A g d dx dd 𝓛 𝓜.mem 𝓡.returns in
    let stays : Stays called.signature.params called.kept = (stay_dropped (plain (λ _. box.B E)) no, tt) in
    let tabled = tables 𝓤 𝓛.H 𝓜 𝓡 𝓡.env in
    proved_at 𝓛 called stays said 𝓜 𝓡 (Goes-blank 𝓛 2 (plain (λ _. box.B E)) no (λ κs x f. tt), tt) (#self args) fn (code.unfolded 𝓤 𝓛.H 𝓜 𝓡 wired (T, (A, tt)) d dx dd) (λ z are.
    let κs = z.0.0 in
    let qs = z.0.1 in
    let boxed = z.0.3.0 in
    let alloc = boxed.alloc in
    let Post : Val → SProp 𝓤 = (walk_of 𝓛 called stays said).post z in
    let Run : List Val → SProp 𝓤 = λ ws. WpFn 𝓤 𝓛.H tabled.C tabled.Λ fn ws Post in
    let lifetimes = ‵ (flft κs.0 qs.0) ⊛ ‵ (flft κs.1.0 qs.1.0) ⊛ ‵ ftrue in
    let opens = triple_of 𝓛 (opening.signature T A g d dd dx) (opening.spec T A g d dd dx 𝓛 𝓜.mem 𝓡.returns) in
    qed 𝓛 ((lifetimes ⊛ ‵ (owns (types_at called.signature.params κs) z.0.3 z.0.4)) ∷ raw ((said κs z.0.3).requires z.1) ∷ []) ∵
    split ! $ move ! (1 ∷ []) $ fsplit ! $
    -- the box's machine value is a word of a block's address and the handle
    box_out E ! boxed z.0.4.0 (λ b o handle at_block is_word handle_fits.
    box_in E ! boxed b o boxed.value at_block refl $
    let word : Val = box.word E handle b o in
    let word_fits = box.box_typed E handle b o handle_fits in
    let asked : opens.Ghost = ((κs, qs, tt, (boxed, tt), (word ∷ [], tt)), tt) in
    fjoin ! $ move ! (1 ∷ 0 ∷ []) $ join ! $ join ! $ use1 𝓛 (raw (opens.pre asked)) (id⊢ 𝓤 _) $
    suffices ! (Run (word ∷ [])) (subst (λ (ws : List Val). ent 𝓤 (Run (word ∷ [])) (Run ws)) (sym (λ i. is_word i ++ [])) (id⊢ 𝓤 (Run (word ∷ [])))) $
    enter ! tabled.C tabled.Λ fn (word ∷ []) Post $ alloc_all ! (λ locals. pass_all ! refl (word_fits, tt) $
    sets ! (of_opd ! (get ! refl)) refl word_fits $
    calls_at ! (fm 𝓛 𝓜 𝓡) opens (met 𝓤 𝓛 𝓜 𝓡 (code.calls-std_alloc::boxed::Box::into_raw_with_allocator 𝓡.env wired) T A L LA g d dd dx allocator glued glue) asked (and_then ! (get ! refl) (no_more !)) (λ pair.
    -- it gives back a pair, of which the allocator is the box's and the pointer has what the box owned
    use1 𝓛 (later (some (λ (r : Ptr × A.Denot). (lifetimes ⊛ ‵ ((Tuple (RawPtr ∷ box.P E ∷ [])).own_val r (pair ∷ []))) ⊛ some (λ (_ : (Unit {0} × (Unit {0} × Unit {0})) × Unit {0}). ‵ (fsep (fsep ftrue (fsep ftrue ftrue)) ftrue) ⊛ (raw (fact 𝓤 (r.1 ≡ alloc)) ⊛ ‵ (box_owns (token E.al alloc) (box.R E) r.0 boxed.value)))))) (id⊢ 𝓤 _) $
    await ! tt $ pick ! (λ r. split ! $ move ! (1 ∷ []) $ pick ! (λ _. split3 ! $ drop ! $ heard ! (r.1 ≡ alloc) (λ same_alloc.
    in_a_block ! r.0 (λ p. box_owns (token E.al alloc) (box.R E) p boxed.value) (fst∗ 𝓤 (never 𝓤) (sem 𝓛 (token E.al alloc (bare (box.τ E)) null_ptr))) (λ b' o' in_block.
    move ! (1 ∷ []) $ split ! $ move ! (1 ∷ []) $ fpick ! (λ vss. fsplit ! $ feq_l ! (λ is_pair. fsplit ! $ feq_l ! (λ is_pointer. fsplit ! $
    rewrite ! 0 (λ (a : A.Denot). ‵ (A.own_val a vss.1.0)) same_alloc refl $ handle_tells E.al ! alloc vss.1.0 (λ handle' is_handle handle_fits'.
    let raw_fits = box.box_typed E handle' b' o' handle_fits' in
    let made : (raw_box.the_row (box.R E) (box.P E) g).Denot = record { pointer = block_ptr b' o'; alloc = alloc; value = boxed.value } in
    lands_as ! (ap only (is_pair ∙ (λ j. vstruct (of_list ((is_pointer ∙ ap (λ (p : Ptr). ptr_val p ∷ []) in_block) j ++ (is_handle j ++ []))) ∷ []))) refl raw_fits $
    sets ! (of_opd ! (get_in ! (fld ! refl (stop !)) (sub ! 0 refl (whole !)))) refl (tt, tt) $
    sets ! (of_opd ! (get_in ! (fld ! refl (stop !)) (sub ! 1 refl (whole !)))) refl handle_fits' $
    sets ! (of_opd ! (get ! refl)) refl handle_fits' $
    sets ! (agg ! (and_then ! (get ! refl) (and_then ! (get ! refl) (no_more !)))) refl raw_fits $
    -- parts own as a box does
    move ! (3 ∷ []) $ fsplit ! $ box_in E ! (record { ptr = block_ptr b' o'; alloc = alloc; value = boxed.value }) b' o' boxed.value refl refl $
    use1 𝓛 (‵ ((raw_box.the_row (box.R E) (box.P E) g).own_val made (box.word E handle' b' o' ∷ []))) (id⊢ 𝓤 _) $
    use0 𝓛 (raw (fact 𝓤 (boxed.value ≡ boxed.value))) (fact_i 𝓤 (boxed.value ≡ boxed.value) (emp 𝓤) refl) $ nothing ! $ nothing ! $ fjoin ! $
    returns ! (look_at ! 0 refl) $ free_all ! refl $ keep ! (4 ∷ 0 ∷ 2 ∷ 1 ∷ []) $ by ! (leaves 𝓛 called stays said z (box.word E handle' b' o') made ((tt, (tt, tt)), tt) (tt, tt))))))))))))))
