use Rattle.std.proofs.Common.{◌≡◌, length}
use Rattle.known_nets.specs.Searches.{IsReady, StaysSettled}
use Rattle.known_nets.proofs.known.Search.learn_next.Given as goal

-- no net has been learned yet
abbrev pub invariant-loop-net : goal.invariant-loop-net
invariant-loop-net l = record {
  ready : IsReady l.circuit l.self;
  same : l.self.known.items ≡ l.initial.self.known.items;
  settled : StaysSettled l.circuit l.initial.self l.self;
}

abbrev pub decreases-loop-net : goal.decreases-loop-net
decreases-loop-net l = length l.self.waiting.list.items
