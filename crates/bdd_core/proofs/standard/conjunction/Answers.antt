use Rattle.std.proofs.Common.{arith}
use Rattle.bdd_core.specs.Diagram.{meaning}
use Rattle.bdd_core.proofs.Meaning.{meaning_zero, meaning_one}
use Rattle.bdd_core.proofs.Choice.{else_false, self_and_zero, self_and_one}
use Rattle.bdd_core.proofs.standard.conjunction.Goals as goal

pub returns-then-g-eq0 : goal.returns-then-g-eq0
returns-then-g-eq0 c = record {
  live = λ n two f_in g_in h_in. omega (arith, two);
  same = λ nodes v. rw (c.if-g-eq0.true, meaning_zero nodes v) (self_and_zero (meaning nodes c.args.f.0 v));
}

pub returns-then-g-eq1 : goal.returns-then-g-eq1
returns-then-g-eq1 c = record {
  live = λ n two f_in g_in h_in. f_in;
  same = λ nodes v. rw (c.if-g-eq1.true, meaning_one nodes v) (self_and_one (meaning nodes c.args.f.0 v));
}

pub returns : goal.returns
returns c = record {
  first = c.requires;
  high = omega arith;
  low = omega arith;
  same = λ nodes v. rw (meaning_zero nodes v) (else_false (meaning nodes c.args.f.0 v) (meaning nodes c.args.g.0 v));
}
