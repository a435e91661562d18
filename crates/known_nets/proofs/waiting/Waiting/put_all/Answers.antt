use Rattle.std.proofs.Common.{◌≡◌, ℕ, true, arith, below_more, ◌∙◌}
use Rattle.known_nets.proofs.NetKinds.{plain_is}
use Rattle.known_nets.proofs.SpreadLaws.{plain_within}
use Rattle.known_nets.proofs.WaitLaws.{waited_none, waited_then}
use Rattle.known_nets.specs.Conduction.{is_plain_at}
use Rattle.known_nets.specs.Waits.{waits}
use Rattle.known_nets.proofs.waiting.Waiting.put_all.Goals as goal

pub loop-net-init : goal.loop-net-init
loop-net-init c = record { waited = waited_none c.args.circuit.now c.args.self.now; all = λ n lt p. absurd (omega (arith, lt)) }

pub put-requires : goal.put-requires
put-requires c = c.loop-net.invariant.waited.size ∙ c.requires

pub loop-net-preserved : goal.loop-net-preserved
loop-net-preserved c =
    let circuit = c.args.circuit.now in
    let new = c.put.new.self in
    let P : ℕ → Type 0 = λ n. is_plain_at circuit n ≡ true → waits new n ≡ true in
    record {
      waited = waited_then circuit c.args.self.now c.loop-net.self new c.loop-net.invariant.waited c.in_ok-put.ensures.waited;
      all = below_more P c.loop-net.net
          (λ n lt p. c.in_ok-put.ensures.waited.grown n (c.loop-net.invariant.all n lt p))
          (λ p. c.in_ok-put.ensures.marked (plain_is circuit c.loop-net.net p));
    }

pub returns-clause-waited : goal.returns-clause-waited
returns-clause-waited c = c.loop-net.invariant.waited

pub returns-clause-all : goal.returns-clause-all
returns-clause-all c n p =
    let inside = plain_within c.args.circuit.now n p in
    c.loop-net.invariant.all n (omega (arith, inside, c.loop-net-test.false, c.len-net-end.ensures)) p
