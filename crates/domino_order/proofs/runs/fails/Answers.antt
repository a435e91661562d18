use Rattle.std.proofs.Common.{◌++◌, Bool, map, subst, sym, ◌≡◌, List, ◌∙◌}
use Rattle.bdd_ops.specs.Ops.{bits_of}
use Rattle.domino_order.proofs.FailLaws.{arrivals_here, near_passes, order_here, step_found, us_many}
use Rattle.domino_order.proofs.LookLaws.{bound_first}
use Rattle.domino_order.proofs.runs.fails.Goals as goal

pub near_ends-requires-clause-order : goal.near_ends-requires-clause-order
near_ends-requires-clause-order c =
    let r = c.requires in
    order_here c.args.asked r.asked c.args.net r.net c.args.bound.now r.bound c.args.looked c.args.at c.args.store.now c.least-stands.new.store r.looked r.found c.least-stands.ensures.rest

pub near_ends-requires-clause-begin : goal.near_ends-requires-clause-begin
near_ends-requires-clause-begin c =
    let r = c.requires in
    let begin = c.as_slice.ensures ∙ c.in_ok-begin.ensures in
    us_many c.args.asked r.asked c.args.net r.net c.args.bound.now r.bound c.args.looked c.args.at c.args.store.now c.least-stands.new.store r.looked r.found c.least-stands.ensures.rest
    c.as_slice.result.now begin

pub returns-in-Err-clause-gives : goal.returns-in-Err-clause-gives
returns-in-Err-clause-gives c =
    let r = c.requires in
    near_passes c.args.asked r.asked c.args.net r.net c.args.bound.now r.bound c.args.looked c.args.at c.args.store.now c.least-stands.new.store r.looked r.found c.least-stands.ensures.rest
    c.near_ends.new.store c.in-Err._spent c.in-Err.ensures.counts

pub end_bits-requires-clause-bound : goal.end_bits-requires-clause-bound
end_bits-requires-clause-bound c =
    bound_first c.args.asked c.requires.asked c.args.net c.requires.net c.args.bound.now c.requires.bound

pub with_arrivals-requires : goal.with_arrivals-requires
with_arrivals-requires c =
    let r = c.requires in
    record {
      arrivals =
          arrivals_here c.args.asked r.asked c.args.net r.net c.args.bound.now r.bound c.args.looked c.args.at c.args.store.now c.least-stands.new.store r.looked r.found c.least-stands.ensures.rest
          c.as_slice-2.result.now (c.as_slice-2.ensures ∙ c.in_ok-begin.ensures);
    }

pub returns-clause-gives : goal.returns-clause-gives
returns-clause-gives c =
    let r = c.requires in
    let begin = c.as_slice.ensures ∙ c.in_ok-begin.ensures in
    let bits = subst (λ (xs : List Bool). c.in_ok-bits.bits ≡ c.in_ok-end.end ++ map (bits_of xs) c.args.asked.arrivals.now) (c.as_slice-2.ensures ∙ sym c.as_slice.ensures) c.in_ok-bits.ensures in
    step_found c.args.asked r.asked c.args.net r.net c.args.bound.now r.bound c.args.looked c.args.at c.args.store.now c.least-stands.new.store r.looked r.found c.least-stands.ensures.rest
    c.as_slice.result.now begin c.least-stands.result c.least-stands.ensures.zero c.least-stands.ensures.least c.near_ends.new.store c.in-Ok.near c.in-Ok.ensures.gives c.in_ok-end.end c.in_ok-bits.bits
    c.in_ok-end.ensures.gives bits
