use Rattle.std.proofs.Common.{sym, ◌∙◌, ap}
use Rattle.sketch_base.specs.declared.map_state.MapState.{MapState}
use Rattle.datasketches.specs.State.{SessionState, keys_with, nothing_stored}
use Rattle.datasketches.proofs.session.Session.with_key.Goals as goal

-- said here so that a session without the key is refused at once
pub returns-clause-empty : goal.returns-clause-empty
returns-clause-empty g c =
    let e = c.with_state.ensures.empty in
    let S : Type 0 = SessionState g.row.T.Denot in
    e ∙ ap (λ (h : MapState). nothing_stored (keys_with c.args.key h)) (sym (ap (λ (s : S). s.keys.sketch_names) e))
