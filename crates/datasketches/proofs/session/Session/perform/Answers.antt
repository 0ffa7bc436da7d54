use mir.Val.{to_z, of_z}
use Rattle.std.proofs.Common.{◌≡◌, w64, to_z-of_z, arith}
use Rattle.datasketches.proofs.session.Session.perform.Goals as goal

-- the key is a reference to the command's own item

pub returns-in-AddSigned : goal.returns-in-AddSigned
returns-in-AddSigned g c =
    let weight : to_z w64 (of_z w64 c.in-AddSigned.weight) ≡ c.in-AddSigned.weight = grind (arith, to_z-of_z) in
    rw (c.in-AddSigned.is, c.from_outcome-in-AddSigned.ensures)
    (rw (c.as_str-in-AddSigned.ensures.value, weight) at (c.add_signed.ensures c.in-AddSigned.item (g.met.T.Eq.laws.refl c.in-AddSigned.item)))

pub returns-in-Insert : goal.returns-in-Insert
returns-in-Insert g c =
    rw (c.in-Insert.is, c.from_outcome-in-Insert.ensures)
    (rw c.as_str-in-Insert.ensures.value at (c.insert.ensures c.in-Insert.item (g.met.T.Eq.laws.refl c.in-Insert.item)))

pub returns-in-Ask : goal.returns-in-Ask
returns-in-Ask g c =
    rw (c.in-Ask.is, c.told.ensures)
    (rw c.as_str-in-Ask.ensures.value at (c.ask.ensures.performed c.in-Ask.item (g.met.T.Eq.laws.refl c.in-Ask.item)))
