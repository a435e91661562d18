use Rattle.std.proofs.Common.{arith}
use Rattle.bdd_core.specs.Diagram.{meaning}
use Rattle.bdd_core.proofs.Meaning.{meaning_zero, meaning_one}
use Rattle.bdd_core.proofs.Choice.{then_true, self_or_zero, self_or_one}
use Rattle.bdd_core.proofs.standard.disjunction.Goals as goal

pub returns-then-h-eq0 : goal.returns-then-h-eq0
returns-then-h-eq0 c = record {
  live = λ n two f_in g_in h_in. f_in;
  same = λ nodes v. rw (c.if-h-eq0.true, meaning_zero nodes v) (self_or_zero (meaning nodes c.args.f.0 v));
}

pub returns-then-h-eq1 : goal.returns-then-h-eq1
returns-then-h-eq1 c = record {
  live = λ n two f_in g_in h_in. omega (arith, two);
  same = λ nodes v. rw (c.if-h-eq1.true, meaning_one nodes v) (self_or_one (meaning nodes c.args.f.0 v));
}

pub returns : goal.returns
returns c = record {
  first = c.requires;
  high = omega (arith, c.requires);
  low = omega arith;
  same = λ nodes v. rw (meaning_one nodes v) (then_true (meaning nodes c.args.f.0 v) (meaning nodes c.args.h.0 v));
}
