use Rattle.std.proofs.Common.{ℕ, List, ◌++◌, length, ap, subst, ◌∙◌}
use Rattle.std.specs.List.Sorted.{IsPermutation}
use Rattle.circuit_faults.specs.Keys.{instance_keys}
use Rattle.circuit_faults.proofs.step_keys.sorted_keys.Goals as goal

pub returns-in-Ok : goal.returns-in-Ok
returns-in-Ok c =
    let r = c.args.ranked in
    record {
      sorted = c.in-Ok.ensures.sorted;
      permutation = subst (λ (keys : List ((ℕ × ℕ) × ℕ)). IsPermutation keys c.sort.new.self.items)
          (c.in_ok-add_instances.ensures
          ∙ ap (λ (keys : List ((ℕ × ℕ) × ℕ)). keys ++ instance_keys r.design.now r.rules.now r.circuit.now r.phase r.ranks.now (length r.circuit.now.instances)) c.in_ok-keys.ensures)
          c.sort.ensures.permutation;
    }
