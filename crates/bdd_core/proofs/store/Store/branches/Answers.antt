use Rattle.std.proofs.Common.{◌≡◌, ℕ, ◌<◌, ◌≤◌, length, ap, ◌∙◌, subst, sym, arith, true, false}
use Rattle.std.proofs.lemmas.List.{get_or_read}
use Rattle.bdd_core.specs.Diagram.{top, no_node, meaning, with_bit, IsSame}
use Rattle.bdd_core.proofs.Branches.{branch_lo, branch_hi, branch_below, branch_same, tests}
use Rattle.bdd_core.proofs.store.Store.branches.Goals as goal

pub returns-then-n-var-clause-live : goal.returns-then-n-var-clause-live
returns-then-n-var-clause-live c =
    let nodes = c.self.inside.pool.nodes in
    let i : ℕ = c.args.f.0 in
    let same = ap (λ d. d.nodes) c.self.view_is in
    let vars : c.self.inside.vars ≡ c.args.self.now.vars = ap (λ d. d.vars) c.self.view_is in
    let within : i < length nodes = omega (arith, ap length same, c.requires.live) in
    let is = get_or_read nodes i _ within c.node-n.ensures no_node in
    let below = branch_below c.self.inside.vars nodes c.self.invariant.reduced i within c.node-n.result c.args.var is c.if-n-var.true (omega arith) in
    (omega (arith, ap length same, below.0), omega (arith, ap length same, below.1))

pub returns-then-n-var-clause-below : goal.returns-then-n-var-clause-below
returns-then-n-var-clause-below c =
    let nodes = c.self.inside.pool.nodes in
    let i : ℕ = c.args.f.0 in
    let same = ap (λ d. d.nodes) c.self.view_is in
    let vars : c.self.inside.vars ≡ c.args.self.now.vars = ap (λ d. d.vars) c.self.view_is in
    let within : i < length nodes = omega (arith, ap length same, c.requires.live) in
    let is = get_or_read nodes i _ within c.node-n.ensures no_node in
    let below = branch_below c.self.inside.vars nodes c.self.invariant.reduced i within c.node-n.result c.args.var is c.if-n-var.true (omega arith) in
    (omega (arith, below.0), omega (arith, below.1))

pub returns-then-n-var-clause-smaller : goal.returns-then-n-var-clause-smaller
returns-then-n-var-clause-smaller c =
    let nodes = c.self.inside.pool.nodes in
    let i : ℕ = c.args.f.0 in
    let same = ap (λ d. d.nodes) c.self.view_is in
    let vars : c.self.inside.vars ≡ c.args.self.now.vars = ap (λ d. d.vars) c.self.view_is in
    let within : i < length nodes = omega (arith, ap length same, c.requires.live) in
    let is = get_or_read nodes i _ within c.node-n.ensures no_node in
    λ _. branch_below c.self.inside.vars nodes c.self.invariant.reduced i within c.node-n.result c.args.var is c.if-n-var.true (omega arith)

pub returns-then-n-var-clause-lo : goal.returns-then-n-var-clause-lo
returns-then-n-var-clause-lo c =
    let nodes = c.self.inside.pool.nodes in
    let i : ℕ = c.args.f.0 in
    let same = ap (λ d. d.nodes) c.self.view_is in
    let vars : c.self.inside.vars ≡ c.args.self.now.vars = ap (λ d. d.vars) c.self.view_is in
    let within : i < length nodes = omega (arith, ap length same, c.requires.live) in
    let is = get_or_read nodes i _ within c.node-n.ensures no_node in
    subst (λ ns. IsSame (meaning ns c.node-n.result.lo) (λ v. meaning ns i (with_bit v c.args.var false))) same
    (branch_lo c.self.inside.vars nodes c.self.invariant.reduced i within c.node-n.result c.args.var is c.if-n-var.true (omega arith))

pub returns-then-n-var-clause-hi : goal.returns-then-n-var-clause-hi
returns-then-n-var-clause-hi c =
    let nodes = c.self.inside.pool.nodes in
    let i : ℕ = c.args.f.0 in
    let same = ap (λ d. d.nodes) c.self.view_is in
    let vars : c.self.inside.vars ≡ c.args.self.now.vars = ap (λ d. d.vars) c.self.view_is in
    let within : i < length nodes = omega (arith, ap length same, c.requires.live) in
    let is = get_or_read nodes i _ within c.node-n.ensures no_node in
    subst (λ ns. IsSame (meaning ns c.node-n.result.hi) (λ v. meaning ns i (with_bit v c.args.var true))) same
    (branch_hi c.self.inside.vars nodes c.self.invariant.reduced i within c.node-n.result c.args.var is c.if-n-var.true (omega arith))

pub returns-else-n-var-clause-smaller : goal.returns-else-n-var-clause-smaller
returns-else-n-var-clause-smaller c at =
    let nodes = c.self.inside.pool.nodes in
    let i : ℕ = c.args.f.0 in
    let same = ap (λ d. d.nodes) c.self.view_is in
    let within : i < length nodes = omega (arith, ap length same, c.requires.live) in
    let is = get_or_read nodes i _ within c.node-n.ensures no_node in
    absurd (c.if-n-var.false (sym (at ∙ ap (λ ns. top ns i) (sym same) ∙ tests c.self.inside.vars nodes c.self.invariant.reduced i within c.node-n.result is)))

pub returns-else-n-var-clause-lo : goal.returns-else-n-var-clause-lo
returns-else-n-var-clause-lo c =
    let nodes = c.self.inside.pool.nodes in
    let i : ℕ = c.args.f.0 in
    let same = ap (λ d. d.nodes) c.self.view_is in
    let within : i < length nodes = omega (arith, ap length same, c.requires.live) in
    let is = get_or_read nodes i _ within c.node-n.ensures no_node in
    let first : c.args.var ≤ top nodes i = omega (arith, ap (λ ns. top ns i) same, c.requires.first) in
    subst (λ ns. IsSame (meaning ns i) (λ v. meaning ns i (with_bit v c.args.var false))) same
    (branch_same c.self.inside.vars nodes c.self.invariant.reduced i within c.node-n.result c.args.var false is c.if-n-var.false first)

pub returns-else-n-var-clause-hi : goal.returns-else-n-var-clause-hi
returns-else-n-var-clause-hi c =
    let nodes = c.self.inside.pool.nodes in
    let i : ℕ = c.args.f.0 in
    let same = ap (λ d. d.nodes) c.self.view_is in
    let within : i < length nodes = omega (arith, ap length same, c.requires.live) in
    let is = get_or_read nodes i _ within c.node-n.ensures no_node in
    let first : c.args.var ≤ top nodes i = omega (arith, ap (λ ns. top ns i) same, c.requires.first) in
    subst (λ ns. IsSame (meaning ns i) (λ v. meaning ns i (with_bit v c.args.var true))) same
    (branch_same c.self.inside.vars nodes c.self.invariant.reduced i within c.node-n.result c.args.var true is c.if-n-var.false first)
