use Rattle.sketch_countmin.specs.History.{followed_by}
use Rattle.sketch_countmin.proofs.Histories.{stands_followed}
use Rattle.sketch_countmin.proofs.States.{only_state}
use Rattle.sketch_countmin.proofs.laws.merge_as_one_stream.Goals as goal

pub returns-clause-one_stream : goal.returns-clause-one_stream
returns-clause-one_stream g c = λ first second stands_first stands_second exact stands_stream.
    c.eq.ensures.same.1 (only_state g.T.CountMinValue.greatest c.merge.new.self c.args.stream.now (followed_by first second) c.merge.ensures.state c.num_hashes.ensures.state
    (stands_followed c.merge.new.self first second (c.in_ok-merge.ensures.stands first second stands_first stands_second) exact) stands_stream)
