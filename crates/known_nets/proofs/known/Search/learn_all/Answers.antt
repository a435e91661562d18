use Rattle.known_nets.proofs.NetKinds.{is_plain_is}
use Rattle.known_nets.proofs.SearchLaws.{learned_none, learned_then}
use Rattle.known_nets.proofs.SettleLaws.{all_pending, settled_closed}
use Rattle.known_nets.proofs.TableLaws.{closed_table}
use Rattle.known_nets.specs.Searches.{HasLearned}
use Rattle.known_nets.proofs.known.Search.learn_all.Goals as goal

pub rounds-init : goal.rounds-init
rounds-init c = record {
  ready = c.requires.ready;
  learned = learned_none c.args.circuit.now c.args.self.now.known.items;
  settled = λ phase has are. all_pending c.args.circuit.now phase c.args.self.now.known.items c.args.self.now.waiting.marks.items (λ n p. c.requires.all n (is_plain_is c.args.circuit.now n p));
}

pub learn_next-requires-clause-ready : goal.learn_next-requires-clause-ready
learn_next-requires-clause-ready c = c.rounds.invariant.ready

pub rounds-preserved : goal.rounds-preserved
rounds-preserved c =
    let before = c.rounds.invariant in
    let searched = c.in_ok-more.ensures in
    record {
      ready = searched.ready;
      learned = learned_then c.args.circuit.now c.args.self.now.known.items c.rounds.self.known.items c.learn_next.new.self.known.items before.learned searched.learned;
      settled = λ phase has are. searched.settled phase (λ n v f. before.learned.grown n v (has n v f)) (before.learned.known phase has are) (before.settled phase has are);
    }

pub rounds-smaller : goal.rounds-smaller
rounds-smaller c = c.in_ok-more.ensures.less c.if-not-more.false

pub returns-then-not-more-clause-known : goal.returns-then-not-more-clause-known
returns-then-not-more-clause-known c phase has are =
    let circuit = c.args.circuit.now in
    let before = c.rounds.invariant in
    let searched = c.in_ok-more.ensures in
    let new = c.learn_next.new.self in
    let learned : HasLearned circuit c.args.self.now.known.items new.known.items = learned_then circuit c.args.self.now.known.items c.rounds.self.known.items new.known.items before.learned searched.learned in
    closed_table circuit phase new.known.items (λ n v f. learned.grown n v (has n v f)) (learned.known phase has are)
    (settled_closed circuit phase new.known.items new.waiting.marks.items (searched.none c.if-not-more.true)
    (searched.settled phase (λ n v f. before.learned.grown n v (has n v f)) (before.learned.known phase has are) (before.settled phase has are)))
