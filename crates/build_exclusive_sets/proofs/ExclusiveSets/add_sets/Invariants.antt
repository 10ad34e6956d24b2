-- `ExclusiveSets::add_sets` meets its contract: the first i sets were added where they were not known.
use Rattle.build_exclusive_sets.proofs.AddSets.{Adding}
use Rattle.build_exclusive_sets.proofs.ExclusiveSets.add_sets.Given as goal

abbrev pub invariant-loop : goal.invariant-loop
invariant-loop l = Adding l.s l.at l.initial.self.at l.initial.self.count l.sets l.self.at l.self.count l.here l.counter
