use Rattle.std.proofs.Common.{◌≡◌, ℕ, suc, ◌+◌, List, ◌++◌, length, arith, ap, append_assoc, sym, ◌∙◌}
use Rattle.std.proofs.lemmas.List.{append-nil}
use Rattle.circuit_faults.specs.Keys.{instance_key, instance_keys}
use Rattle.circuit_faults.proofs.step_keys.add_instances.Goals as goal

pub loop-at-init : goal.loop-at-init
loop-at-init c = sym (append-nil c.args.keys.now.items)

pub loop-at-preserved : goal.loop-at-preserved
loop-at-preserved c =
    let r = c.args.ranked in
    let first = c.args.keys.now.items in
    let at = c.loop-at.at in
    let next : suc at ≡ at + 1 = omega arith in
    c.in_ok-add_instance.ensures
    ∙ ap (λ (keys : List ((ℕ × ℕ) × ℕ)). keys ++ instance_key r.design.now r.rules.now r.circuit.now r.phase r.ranks.now at) c.loop-at.invariant
    ∙ append_assoc first (instance_keys r.design.now r.rules.now r.circuit.now r.phase r.ranks.now at) (instance_key r.design.now r.rules.now r.circuit.now r.phase r.ranks.now at)
    ∙ ap (λ (n : ℕ). first ++ instance_keys r.design.now r.rules.now r.circuit.now r.phase r.ranks.now n) next

pub returns : goal.returns
returns c =
    let r = c.args.ranked in
    let end : c.loop-at.at ≡ length r.circuit.now.instances = omega (arith, c.loop-at-test.false, c.loop-at.auto.at-end) in
    c.loop-at.invariant ∙ ap (λ (n : ℕ). c.args.keys.now.items ++ instance_keys r.design.now r.rules.now r.circuit.now r.phase r.ranks.now n) end
