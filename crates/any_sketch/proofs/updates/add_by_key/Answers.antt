use Rattle.std.proofs.Common.{refl}
use Rattle.any_sketch.proofs.updates.add_by_key.Goals as goal

-- what the sketch's own call ensures
pub returns-in-Ok : goal.returns-in-Ok
returns-in-Ok g c =
    let e = c.in-Ok.ensures in
    record {
      zero = λ none. (refl, (e.zero none).1);
      added = λ some. record { step = e.step some; stands = e.stands some; budget = e.budget some };
      refused = tt;
      overflow = λ over. let no = e.overflow over in cc;
      memory = λ room. tt;
      tracked = λ room is. refl;
    }
