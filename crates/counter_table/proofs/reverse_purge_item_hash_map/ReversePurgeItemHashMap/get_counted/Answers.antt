use Rattle.std.proofs.Common.{ap, sym, ◌∙◌, unwrap_or}
use Rattle.counter_table.specs.TableHashes.{hash_in}
use Rattle.counter_table.proofs.LookupProbes.{Answers, answers_of}
use Rattle.counter_table.proofs.reverse_purge_item_hash_map.ReversePurgeItemHashMap.get_counted.Given as given
use Rattle.counter_table.proofs.reverse_purge_item_hash_map.ReversePurgeItemHashMap.get_counted.Goals as goal

-- what the look-up answers of the map
answered : (g : given.Over) (c : goal.After-unwrap_or g) → Answers g.T.PartialEq.eq (hash_in c.args.self.now.key g.T.Hash.hash_input) c.args.self.now c.args.item.now c.find-probe.result.found c.find-probe.result.probed
answered g c = answers_of g.met.T.Eq.laws g.met.T.Hash.respects_eq c.self.inside.table c.self.invariant.slots_ok c.args.self.now c.self.view_is c.args.item.now _ _ _ c.find-probe.ensures.probe

pub returns-clause-count : goal.returns-clause-count
returns-clause-count g c = c.unwrap_or.ensures ∙ ap (λ o. unwrap_or o 0) (sym (answered g c).looked_up)

pub returns-clause-absent : goal.returns-clause-absent
returns-clause-absent g c = (answered g c).absent

pub returns-clause-present : goal.returns-clause-present
returns-clause-present g c = (answered g c).present

pub returns-clause-probed : goal.returns-clause-probed
returns-clause-probed g c = (answered g c).few

pub returns-clause-within : goal.returns-clause-within
returns-clause-within g c = (answered g c).within

pub find-probe-requires : goal.find-probe-requires
find-probe-requires g c = c.self.invariant.slots_ok
