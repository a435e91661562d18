use Rattle.known_nets.specs.Spreads.{Goes, PassesFirst}
use Rattle.known_nets.proofs.spread.pass_over_numbers.Given as goal

-- the amount has passed over the devices so far
abbrev pub invariant-loop-number : goal.invariant-loop-number
invariant-loop-number l = record {
  gone : Goes l.over l.amount l.net l.initial.amounts l.amounts;
  passed : PassesFirst l.over l.amounts l.amount l.net l.numbers l.number-index;
}
