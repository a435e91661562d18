use Rattle.std.proofs.Common.{ℕ, Bool, List, Option, refl, subst}
use Rattle.std.proofs.lemmas.Bool.{false≢true}
use Rattle.known_nets.proofs.NetKinds.{is_plain_is}
use Rattle.known_nets.proofs.SearchLaws.{learned_none}
use Rattle.known_nets.proofs.SettleLaws.{settled_open}
use Rattle.known_nets.proofs.ShutLaws.{has_number_is}
use Rattle.known_nets.proofs.WaitLaws.{waited_none}
use Rattle.known_nets.specs.Regions.{IsOpenAt, IsShutAt}
use Rattle.vrt_model.specs.Lists.{Among}
use Rattle.vrt_model.specs.declared.rules.Phase.{Phase}
use Rattle.known_nets.proofs.known.Search.learn_region.Goals as goal

pub is_shut-requires-clause-plain : goal.is_shut-requires-clause-plain
is_shut-requires-clause-plain c n m = is_plain_is c.args.circuit.now n (c.requires.region.plain n ((has_number_is c.args.nets.now n).1 m))

pub learn_shut_region-requires-clause-shut : goal.learn_shut_region-requires-clause-shut
learn_shut_region-requires-clause-shut c =
    subst (λ (k : List (Option Bool)). (n : ℕ) → Among c.args.nets.now n → IsShutAt c.args.circuit.now k n) c.as_slice.ensures.value (c.is_shut.ensures.yes c.if-is_shut.true)

opens : (c : goal.Else-is_shut) (phase : Phase) → (n : ℕ) × Among c.args.nets.now n × IsOpenAt c.args.circuit.now phase c.args.self.now.known.items n
opens c phase =
    subst (λ (k : List (Option Bool)). (n : ℕ) × Among c.args.nets.now n × IsOpenAt c.args.circuit.now phase k n) c.as_slice.ensures.value (c.is_shut.ensures.no c.if-is_shut.false phase)

pub returns-else-is_shut : goal.returns-else-is_shut
returns-else-is_shut c = record {
  search = c.requires.search;
  learned = learned_none c.args.circuit.now c.args.self.now.known.items;
  waited = waited_none c.args.circuit.now c.args.self.now.waiting;
  settles = λ phase before has are kept settles.
      let open_net = opens c phase in
      settled_open c.args.circuit.now phase c.args.self.now.known.items c.args.nets.now before c.args.self.now.waiting.marks.items
      (λ n m inside reading shut bits ins. open_net.2 inside reading shut bits ((c.requires.together phase n open_net.0 m open_net.1 inside reading shut bits).0 ins)) kept settles;
  progress = record { list = λ e. refl; known = λ e. refl; less = λ e. absurd (false≢true e) };
}
