use Rattle.known_nets.specs.KnownTables.{AreKnown, HasFixedNets, known_at}
use Rattle.known_nets.specs.Learned.{unknown}
use Rattle.known_nets.specs.Regions.{IsSettled}
use Rattle.known_nets.specs.Searches.{HasLearned, IsReady}
use Rattle.vrt_model.specs.declared.rules.Phase.{Phase}
use Rattle.known_nets.proofs.known.Search.learn_all.Given as goal

abbrev pub invariant-rounds : goal.invariant-rounds
invariant-rounds l = record {
  ready : IsReady l.circuit l.self;
  learned : HasLearned l.circuit l.initial.self.known.items l.self.known.items;
  settled : (phase : Phase) → HasFixedNets l.circuit phase (known_at l.initial.self.known.items) → AreKnown l.circuit phase (known_at l.initial.self.known.items) → IsSettled l.circuit phase l.self.known.items l.self.waiting.marks.items;
}

-- each round learns a net
abbrev pub decreases-rounds : goal.decreases-rounds
decreases-rounds l = unknown l.self.known.items
