use Rattle.witness.specs.Settling.{HasNoted}
use Rattle.witness.proofs.rounds.note_all.Given as goal

-- what the nets so far show is noted
abbrev pub invariant-loop-net : goal.invariant-loop-net
invariant-loop-net l = record {
  noted : HasNoted l.more l.net l.seen l.initial.bits.items l.bits.items;
}
