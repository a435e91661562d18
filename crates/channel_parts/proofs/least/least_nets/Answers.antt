use Rattle.std.proofs.Common.{◌≤◌, List, ℕ, drop, length, slice_index, arith, subst, sym}
use Rattle.std.proofs.lemmas.List.{take_at}
use Rattle.channel_parts.specs.Labels.{IsLeastTogether}
use Rattle.channel_parts.proofs.least.least_nets.Goals as goal

pub returns-clause-least : goal.returns-clause-least
returns-clause-least c phase table n plain =
    subst (λ (t : List ℕ). IsLeastTogether c.args.circuit.now phase c.args.bare n (slice_index t n))
    (sym (take_at c.label_parts.new.labels (drop (length c.label_parts.new.labels) c.in_ok-labels.labels.items) c.in_ok-labels.labels.len (omega arith)))
    (c.label_parts.ensures.least phase table n plain)

pub returns-clause-below : goal.returns-clause-below
returns-clause-below c n =
    subst (λ (t : List ℕ). slice_index t n ≤ n)
    (sym (take_at c.label_parts.new.labels (drop (length c.label_parts.new.labels) c.in_ok-labels.labels.items) c.in_ok-labels.labels.len (omega arith)))
    (c.label_parts.ensures.below n)
