use Rattle.std.proofs.Common.{◌≡◌, ◌<◌, ◌≤◌, [], ◌∷◌, ◌++◌, length, drop, ap, sym, arith}
use Rattle.heavy_windows.specs.Newest.{turned}
use Rattle.heavy_windows.proofs.Newest.{turned_keeps, turned_drops}
use Rattle.heavy_windows.proofs.windows.Windows.turn.Goals as goal

pub returns-clause-turned : goal.returns-clause-turned
returns-clause-turned g c =
    let xs = c.self.inside.older.items in
    let x = c.self.inside.newest in
    let is : c.push_back_reserved.new.self.items ≡ xs ++ x ∷ [] = rw (c.reserve.ensures.items, c.replace-newest.ensures.value) at c.push_back_reserved.ensures.items in
    let above : c.args.limit ≤ length (xs ++ x ∷ []) = omega (arith, c.if-len-limit.false, c.len.ensures, c.push_back_reserved.new.self.ok.0, ap length is) in
    let gone : turned c.args.limit c.args.window c.args.self.now ≡ drop 1 (xs ++ x ∷ []) ++ c.args.window ∷ [] = turned_drops c.args.limit c.args.window xs c.args.self.now x c.self.view_is above in
    cc

pub returns-then-len-limit-clause-turned : goal.returns-then-len-limit-clause-turned
returns-then-len-limit-clause-turned g c =
    let xs = c.self.inside.older.items in
    let x = c.self.inside.newest in
    let is : c.push_back_reserved.new.self.items ≡ xs ++ x ∷ [] = rw (c.reserve.ensures.items, c.replace-newest.ensures.value) at c.push_back_reserved.ensures.items in
    let below : length (xs ++ x ∷ []) < c.args.limit = omega (arith, c.if-len-limit.true, c.len.ensures, c.push_back_reserved.new.self.ok.0, ap length is) in
    rw (is, c.replace-newest.ensures.after) (sym (turned_keeps c.args.limit c.args.window xs c.args.self.now x c.self.view_is below))
