use Rattle.uses.proofs.Groups.{restored}
use Rattle.uses.proofs.group_by.GroupSums.from_image.Goals as goal

pub returns-clause-sums : goal.returns-clause-sums
returns-clause-sums g c =
    restored g.G.PartialEq.eq g.G.FrequentItemValue.codec g.G.FrequentItemValue.content c.image_laws.ensures.spelled c.args.image.now
    c.in_ok-sketch.sketch c.in_ok-sketch.ensures.stands c.in_ok-sketch.ensures.budget
