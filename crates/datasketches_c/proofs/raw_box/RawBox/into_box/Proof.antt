-- `into_box` makes the box again, of the pointer and of what stands behind it.
use Rattle.std.proofs.Common.{◌≡◌, List, [], ◌∷◌, ◌++◌, refl, sym, ap, subst}
use mir.Syntax.{a_type, dcons, dnil}
use mir.Val.{Val, vptr}
use mir.MapTy.{inst_fn}
use base.Logic.{SProp, ent, id⊢}
use base.Fml.{ftrue, flft}
use prog.Wp.{WpFn}
use types.Kit.{‵, raw, ◌⊛◌, some, later, at_ret, ◌$◌, ◌∵◌, !, qed, by, move, keep, drop, split, split3, join, fsplit, fjoin, pick, suffices, use1, await, rewrite, feq_i}
use types.Run.{stop, fld, of_opd, no_more, and_then, first, blocks, exec, returns, enter}
use types.ByLocal.{alloc_all, pass_all, free_all, look_at, get, get_in, sets, lands_last, env}
use types.Part.{sub, whole}
use contract.Monad.{fact}
use contract.BorrowLft.{◌⊑◌}
use contract.Running.{tables}
use denote.Exit.{no}
use denote.RattleType.{RattleType, owns}
use denote.Signature.{types_at, plain}
use denote.RawPtr.{block_ptr}
use denote.Steps.{nothing, only}
use denote.Param.{layout, bounded}
use denote.Triple.Clauses.{Lasts, lasts}
use denote.Triple.Spec.{triple_of}
use denote.Triple.Call.{calls_at_last}
use denote.Triple.Walked.{Stays, stay_dropped, walk_of}
use Rattle.core.proofs.alloc.Calls.{Goes-blank}
use Rattle.core.proofs.alloc.Shapes.{after}
use Rattle.core.proofs.atomic.Steps.{fm}
use Rattle.core.proofs.cell.Inside.{Good}
use Rattle.std_alloc.proofs.BoxSteps.Form as box
use Rattle.std_alloc.proofs.BoxSteps.Steps.{box_out, box_in}
use Rattle.std.proofs.raw_atomic.Walks.{proved_at, leaves}
use Rattle.std_alloc.specs.contracts.boxed.Box.from_raw as closing
use Rattle.std_alloc.proofs.boxed.Box.from_raw.Met.{met}
use Rattle.datasketches_c.specs.contracts.raw_box.RawBox as raw_box
use Rattle.datasketches_c.specs.contracts.raw_box.RawBox.into_box.{ended, clauses}
use Rattle.datasketches_c.specs.contracts.raw_box.RawBox.into_box.Key.{name as #self}
use Rattle.datasketches_c.proofs.raw_box.RawBox.into_box.Statement.{statement}
use Rattle.datasketches_c.proofs.raw_box.RawBox.into_box.Code as code

pub into_box_spec : {M : Type 1} → statement M
into_box_spec 𝓤 𝓛 𝓜 𝓡 wired T A L LA g d dx dd allocator glue glued =
    let E : box.Bx = record { row = T; laws = L; al = record { row = A; laws = LA; g = g; d = d; drops = dd } } in
    let Raw : RattleType = raw_box.the_row (box.R E) (box.P E) g in
    let Boxed : RattleType = box.B E in
    let args = bounded (a_type ∷ a_type ∷ []) (T, (A, tt)) (dcons d (dcons dx (dcons dd dnil))) in
    let fn = inst_fn args code.function in
    let called = ended T A g d dx dd in
    let said = clauses T A g d dx dd 𝓛 𝓜.mem 𝓡.returns in
    let stays : Stays called.signature.params called.kept = (stay_dropped (plain (λ _. Raw)) no, tt) in
    let tabled = tables 𝓤 𝓛.H 𝓜 𝓡 𝓡.env in
    proved_at 𝓛 called stays said 𝓜 𝓡 (Goes-blank 𝓛 2 (plain (λ _. Raw)) no (λ κs x f. tt), tt) (#self args) fn (code.unfolded 𝓤 𝓛.H 𝓜 𝓡 wired (T, (A, tt)) d dx dd) (λ z are.
    let κs = z.0.0 in
    let qs = z.0.1 in
    let parts = z.0.3.0 in
    let alloc = parts.alloc in
    let Post : Val → SProp 𝓤 = (walk_of 𝓛 called stays said).post z in
    let Run : List Val → SProp 𝓤 = λ ws. WpFn 𝓤 𝓛.H tabled.C tabled.Λ fn ws Post in
    let lifetimes = ‵ (flft κs.0 qs.0) ⊛ ‵ (flft κs.1.0 qs.1.0) ⊛ ‵ ftrue in
    let alive = raw (fact 𝓤 (κs.0 ⊑ T.lives)) ⊛ raw (fact 𝓤 (κs.1.0 ⊑ A.lives)) ⊛ ‵ ftrue in
    let closes = triple_of 𝓛 (closing.signature T A g d dd) (closing.spec T A g d dd 𝓛 𝓜.mem 𝓡.returns) in
    qed 𝓛 ((lifetimes ⊛ ‵ (owns (types_at called.signature.params κs) z.0.3 z.0.4)) ∷ alive ∷ []) ∵
    split ! $ move ! (1 ∷ []) $ fsplit ! $
    -- parts own as a box does
    use1 𝓛 (‵ (Boxed.own_val (record { ptr = parts.pointer; alloc = alloc; value = parts.value }) z.0.4.0)) (id⊢ 𝓤 _) $
    box_out E ! (record { ptr = parts.pointer; alloc = alloc; value = parts.value }) z.0.4.0 (λ b o handle at_block is_word handle_fits. fjoin ! $
    let word : Val = box.word E handle b o in
    let asked : closes.Ghost = ((κs, qs, tt, (alloc, (block_ptr b o, tt)), (handle ∷ [], (vptr b o ∷ [], tt))), parts.value) in
    move ! (4 ∷ []) $ split3 ! $ move ! (2 ∷ []) $ drop ! $ move ! (1 ∷ 2 ∷ []) $ join ! $ move ! (1 ∷ 0 ∷ []) $ join ! $
    move ! (2 ∷ []) $ feq_i ! (List Val) (vptr b o ∷ []) (vptr b o ∷ []) refl $ fjoin ! $ move ! (2 ∷ 0 ∷ []) $ fjoin ! $ move ! (2 ∷ 0 ∷ []) $ join ! $ join ! $
    use1 𝓛 (raw (closes.pre asked)) (id⊢ 𝓤 _) $
    suffices ! (Run (word ∷ [])) (subst (λ (ws : List Val). ent 𝓤 (Run (word ∷ [])) (Run ws)) (sym (λ i. is_word i ++ [])) (id⊢ 𝓤 (Run (word ∷ [])))) $
    enter ! tabled.C tabled.Λ fn (word ∷ []) Post $ alloc_all ! (λ locals. pass_all ! refl (box.box_typed E handle b o handle_fits, tt) $
    let places = env fn.locals locals in
    sets ! (of_opd ! (get_in ! (fld ! refl (stop !)) (sub ! 0 refl (whole !)))) refl (tt, tt) $
    sets ! (of_opd ! (get_in ! (fld ! refl (stop !)) (sub ! 1 refl (whole !)))) refl handle_fits $
    first ! $ blocks ! $ sets ! (of_opd ! (get ! refl)) refl handle_fits $
    calls_at_last ! (fm 𝓛 𝓜 𝓡) closes (met 𝓤 𝓛 𝓜 𝓡 (code.calls-std_alloc::boxed::Box::from_raw 𝓡.env wired) T A L LA g d dd allocator glued) asked (and_then ! (get ! refl) (and_then ! (get ! refl) (no_more !))) (λ made.
    use1 𝓛 (later (some (λ (r : Boxed.Denot). (lifetimes ⊛ ‵ (Boxed.own_val r (made ∷ []))) ⊛ some (λ (ls : Lasts (closing.ended T A g d dd) κs asked.0.3). ‵ (lasts (closing.ended T A g d dd) κs asked.0.3 ls) ⊛ (raw (fact 𝓤 (r.value ≡ parts.value)) ⊛ raw (fact 𝓤 (r.alloc ≡ alloc))))))) (id⊢ 𝓤 (closes.post asked made)) $
    await ! tt $ pick ! (λ r. split ! $ move ! (1 ∷ []) $ pick ! (λ _. split3 ! $ drop ! $ move ! (2 ∷ []) $ split ! $ move ! (1 ∷ []) $
    -- the box that comes back is a word again
    box_out E ! r (made ∷ []) (λ b' o' handle' at_block' is_word' handle_fits'.
    box_in E ! r b' o' r.value at_block' refl $ rewrite ! 0 (λ (ws : List Val). ‵ (Boxed.own_val r ws)) (sym is_word') refl $
    let made_fits : Good (layout Boxed) made = subst (Good (layout Boxed)) (sym (ap only is_word')) (box.box_typed E handle' b' o' handle_fits') in
    lands_last ! refl made_fits $ exec ! tabled.C tabled.Λ places (after 3 fn.body) (at_ret places Post) $ sets ! (of_opd ! (get ! refl)) refl made_fits $
    nothing ! $ nothing ! $ fjoin ! $
    returns ! (look_at ! 0 refl) $ free_all ! refl $ keep ! (2 ∷ 0 ∷ 1 ∷ 3 ∷ []) $ by ! (leaves 𝓛 called stays said z made r ((tt, (tt, tt)), tt) (tt, tt)))))))))
