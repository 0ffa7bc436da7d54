use Rattle.std.proofs.Common.{◌≡◌, ◌++◌, List, ℕ, length, replicate, ap, sym, ◌∙◌, arith}
use Rattle.std.proofs.lemmas.List.{length-replicate}
use Rattle.std.proofs.lemmas.Result.{on_ok_weaker}
use Rattle.sketch_base.proofs.BothEnds.{prefixed_ends, prefixed_front, length-prefixed_front}
use Rattle.sketch_base.proofs.sketch_bytes.SketchBytes.write_prefixed_ends.Goals as goal

pub write_overlapping-requires-clause-first_within : goal.write_overlapping-requires-clause-first_within
write_overlapping-requires-clause-first_within g c =
    let long = length-prefixed_front g.row.WIDTH c.args.prefix.now c.args.part.now c.copy_from_slice.new.self (replicate 8 0) c.copy_from_slice-2.new.self c.copy_from_slice.ensures.len c.copy_from_slice.ensures.after c.requires.at_least c.copy_from_slice-2.ensures.after in
    omega (arith, long, c.requires.at_least)

pub write_overlapping-requires-clause-last_within : goal.write_overlapping-requires-clause-last_within
write_overlapping-requires-clause-last_within g c = omega (arith, c.copy_from_slice-3.ensures.len, length-replicate {A = ℕ} g.row.WIDTH 0, c.requires.at_least)

pub write_overlapping-requires-clause-meet : goal.write_overlapping-requires-clause-meet
write_overlapping-requires-clause-meet g c =
    let long = length-prefixed_front g.row.WIDTH c.args.prefix.now c.args.part.now c.copy_from_slice.new.self (replicate 8 0) c.copy_from_slice-2.new.self c.copy_from_slice.ensures.len c.copy_from_slice.ensures.after c.requires.at_least c.copy_from_slice-2.ensures.after in
    omega (arith, long, c.copy_from_slice-3.ensures.len, length-replicate {A = ℕ} g.row.WIDTH 0, c.requires.at_most)

pub returns-clause-ok : goal.returns-clause-ok
returns-clause-ok g c =
    let w : ℕ = g.row.WIDTH in
    let prefix : List ℕ = c.args.prefix.now in
    let part : List ℕ = c.args.part.now in
    let four : length c.copy_from_slice.new.self ≡ 4 = c.copy_from_slice.ensures.len in
    let first = prefixed_front w prefix part c.copy_from_slice.new.self (replicate 8 0) c.copy_from_slice-2.new.self four c.copy_from_slice.ensures.after c.requires.at_least c.copy_from_slice-2.ensures.after in
    let whole = prefixed_ends 4 w prefix part _ c.copy_from_slice-3.new.self (ap length (sym c.copy_from_slice.ensures.after) ∙ four) c.requires.at_least c.requires.at_most first c.copy_from_slice-3.ensures.after in
    on_ok_weaker c.write_overlapping.result (λ wrote. wrote ∙ ap (λ l. c.args.self.now.bytes ++ l) whole) c.write_overlapping.ensures.ok
