use Rattle.std.proofs.Common.{◌≡◌, ◌||◌, ℕ, length, take}
use Rattle.phase_ports.specs.Observed.{has_constrained}
use Rattle.rule_index.specs.Tables.{AreRuleTables}
use Rattle.vrt_model.specs.Lists.{mark_at}
use Rattle.vrt_model.specs.declared.rules.Rules.{Rules}
use Rattle.phase_ports.proofs.instances.mark_instances.Given as goal

-- the ports of the instances so far
abbrev pub invariant-loop-instance : goal.invariant-loop-instance
invariant-loop-instance l = record {
  len : length l.marks.items ≡ length l.fn.marks.items;
  is : (rules : Rules) → AreRuleTables rules l.index → (n : ℕ) → mark_at l.marks.items n ≡ (mark_at l.fn.marks.items n || has_constrained l.design rules (take l.instance-index l.instances) n);
}
