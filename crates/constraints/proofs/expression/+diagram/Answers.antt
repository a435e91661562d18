use Rattle.std.proofs.Common.{◌≡◌, ℕ, ◌&&◌, ◌||◌, Bool, List, Ok, Err, cond, not, arith, ap, ap₂, refl, sym, subst, ◌∙◌}
use Rattle.bdd_core.specs.Diagram.{Function, meaning}
use Rattle.bdd_core.specs.Store.{function_of}
use Rattle.bdd_ops.proofs.CountingLaws.{counts_both, counts_made, counts_more, counts_none}
use Rattle.bdd_ops.proofs.WithinLaws.{within_and, within_not, within_or, within_xor}
use Rattle.bdd_ops.specs.Ops.{and_of, not_of, or_of, xor_of}
use Rattle.bdd_core.proofs.Frames.{gives_made, gives_none}
use Rattle.vrt_model.specs.Expressions.{operators_in}
use Rattle.vrt_model.specs.declared.rules.Expr.{Expr}
use Rattle.vrt_model.specs.declared.rules.Expr.TheVariants.{Port}
use Rattle.constraints.proofs.DiagramLaws.{evaluates_next, handles_stay}
use Rattle.constraints.proofs.EvaluateLaws.{differ_is, evaluates_one, evaluates_refused, evaluates_second_refused, evaluates_two, gives_both}
use Rattle.constraints.proofs.HandleLaws.{handles_live}
use Rattle.constraints.specs.Evaluated.{AreLive, Evaluates, value_in}
use Rattle.constraints.specs.Handles.{handle_in}
use Rattle.constraints.proofs.expression.+diagram.Goals as goal

pub returns-in-Port : goal.returns-in-Port
returns-in-Port t c =
    let old = c.args.store.now in
    let handle : List ℕ → ℕ = handle_in old.words c.args.ports in
    let live : AreLive old handle = handles_live old c.args.ports c.sound.ensures.sound c.requires in
    let name : List ℕ = c.in-Port.name in
    let is : c.handle_of.result.0 ≡ handle name = c.handle_of.ensures ∙ ap handle c.as_bytes.ensures in
    let one : Evaluates old old handle (Port name) (Ok c.handle_of.result) =
    record {
      gives = gives_none old (value_in old handle (Port name)) c.handle_of.result c.sound.ensures.sound c.sound.ensures.within (let there = live name in omega (arith, is, there))
          (λ v. ap (λ (k : ℕ). meaning old.nodes k v) is);
      counts = λ u reads. counts_none u old c.handle_of.result;
    } in
    subst (λ (e : Expr). Evaluates old old handle e (Ok c.handle_of.result)) (sym c.in-Port.is) one

pub returns-in-Err : goal.returns-in-Err
returns-in-Err t c =
    let ops = ap operators_in c.in-Not.is in
    let inner = ap operators_in c.deref.ensures in
    evaluates_refused c.args.store.now c.diagram.new.store (handle_in c.args.store.now.words c.args.ports)
    c.deref.result.now c.args.e.now c.in-Err.spent (omega (arith, ops, inner)) c.in-Err.ensures

pub returns-in-Ok : goal.returns-in-Ok
returns-in-Ok t c =
    let old = c.args.store.now in
    let mid = c.diagram.new.store in
    let handle : List ℕ → ℕ = handle_in old.words c.args.ports in
    let live : AreLive old handle = handles_live old c.args.ports c.sound.ensures.sound c.requires in
    let e : Expr = c.deref.result.now in
    let first : Evaluates old mid handle e (Ok c.in-Ok.inner) = c.in-Ok.ensures in
    let ops = ap operators_in c.in-Not.is in
    let inner = ap operators_in c.deref.ensures in
    let f : Function = not_of (function_of mid c.in-Ok.inner) in
    evaluates_one old mid c.not.new.store handle live e c.in-Ok.inner first c.args.e.now not c.not.result (omega (arith, ops, inner))
    (λ v. ap (λ (x : Expr). value_in old handle x v) c.in-Not.is ∙ ap (λ (x : Expr). not (value_in old handle x v)) (sym c.deref.ensures))
    (gives_made mid c.not.new.store f f c.not.result (λ v. refl) c.not.ensures.makes)
    (λ u reads. counts_made u mid c.not.new.store first.gives.adds.sound.ends f c.not.result c.not.ensures.makes (within_not u (function_of mid c.in-Ok.inner) reads))

-- ---- and

pub returns-in-Err-diagram : goal.returns-in-Err-diagram
returns-in-Err-diagram t c =
    let ops = ap operators_in c.in-And.is in
    let one = ap operators_in c.deref-in-And.ensures in
    evaluates_refused c.args.store.now c.diagram-in-And.new.store (handle_in c.args.store.now.words c.args.ports)
    c.deref-in-And.result.now c.args.e.now c.in-Err-diagram.spent (omega (arith, ops, one)) c.in-Err-diagram.ensures

pub returns-in-Err-diagram-2 : goal.returns-in-Err-diagram-2
returns-in-Err-diagram-2 t c =
    let old = c.args.store.now in
    let mid = c.diagram-in-And.new.store in
    let handle : List ℕ → ℕ = handle_in old.words c.args.ports in
    let live : AreLive old handle = handles_live old c.args.ports c.sound.ensures.sound c.requires in
    let left : Expr = c.deref-in-And.result.now in
    let right : Expr = c.deref-in-And-2.result.now in
    let p = c.in-Ok-diagram.left in
    let first : Evaluates old mid handle left (Ok p) = c.in-Ok-diagram.ensures in
    let ops = ap operators_in c.in-And.is in
    let one = ap operators_in c.deref-in-And.ensures in
    let two = ap operators_in c.deref-in-And-2.ensures in
    let second = evaluates_next old mid (value_in old handle left) (Ok p) first.gives c.args.ports c.diagram-in-And-2.new.store right (Err c.in-Err-diagram-2.spent) c.in-Err-diagram-2.ensures in
    evaluates_second_refused old mid c.diagram-in-And-2.new.store handle live left p first right c.args.e.now c.in-Err-diagram-2.spent (omega (arith, ops, one, two)) second

pub returns-in-Ok-diagram-2 : goal.returns-in-Ok-diagram-2
returns-in-Ok-diagram-2 t c =
    let old = c.args.store.now in
    let mid = c.diagram-in-And.new.store in
    let handle : List ℕ → ℕ = handle_in old.words c.args.ports in
    let live : AreLive old handle = handles_live old c.args.ports c.sound.ensures.sound c.requires in
    let left : Expr = c.deref-in-And.result.now in
    let right : Expr = c.deref-in-And-2.result.now in
    let p = c.in-Ok-diagram.left in
    let first : Evaluates old mid handle left (Ok p) = c.in-Ok-diagram.ensures in
    let ops = ap operators_in c.in-And.is in
    let one = ap operators_in c.deref-in-And.ensures in
    let two = ap operators_in c.deref-in-And-2.ensures in
    let next = c.diagram-in-And-2.new.store in
    let q = c.in-Ok-diagram-2.right in
    let second = evaluates_next old mid (value_in old handle left) (Ok p) first.gives c.args.ports next right (Ok q) c.in-Ok-diagram-2.ensures in
    let f : Function = function_of next p in
    let g : Function = function_of next q in
    let new = c.and.new.store in
    evaluates_two old mid next handle live left p first new right q second c.args.e.now ◌&&◌ c.and.result (omega (arith, ops, one, two))
    (λ v. ap (λ (x : Expr). value_in old handle x v) c.in-And.is ∙ ap₂ (λ (x y : Expr). value_in old handle x v && value_in old handle y v) (sym c.deref-in-And.ensures) (sym c.deref-in-And-2.ensures))
    (gives_made next new (and_of f g) (and_of f g) c.and.result (λ v. refl) c.and.ensures.makes)
    (λ u reads others. counts_more u 1 2 next new c.and.result (omega arith)
    (counts_made u next new second.gives.adds.sound.ends (and_of f g) c.and.result c.and.ensures.makes (within_and u f g reads others)))

-- ---- xor

pub returns-in-Err-diagram-3 : goal.returns-in-Err-diagram-3
returns-in-Err-diagram-3 t c =
    let ops = ap operators_in c.in-Xor.is in
    let one = ap operators_in c.deref-in-Xor.ensures in
    evaluates_refused c.args.store.now c.diagram-in-Xor.new.store (handle_in c.args.store.now.words c.args.ports)
    c.deref-in-Xor.result.now c.args.e.now c.in-Err-diagram-3.spent (omega (arith, ops, one)) c.in-Err-diagram-3.ensures

pub returns-in-Err-diagram-4 : goal.returns-in-Err-diagram-4
returns-in-Err-diagram-4 t c =
    let old = c.args.store.now in
    let mid = c.diagram-in-Xor.new.store in
    let handle : List ℕ → ℕ = handle_in old.words c.args.ports in
    let live : AreLive old handle = handles_live old c.args.ports c.sound.ensures.sound c.requires in
    let left : Expr = c.deref-in-Xor.result.now in
    let right : Expr = c.deref-in-Xor-2.result.now in
    let p = c.in-Ok-diagram-3.left in
    let first : Evaluates old mid handle left (Ok p) = c.in-Ok-diagram-3.ensures in
    let ops = ap operators_in c.in-Xor.is in
    let one = ap operators_in c.deref-in-Xor.ensures in
    let two = ap operators_in c.deref-in-Xor-2.ensures in
    let second = evaluates_next old mid (value_in old handle left) (Ok p) first.gives c.args.ports c.diagram-in-Xor-2.new.store right (Err c.in-Err-diagram-4.spent) c.in-Err-diagram-4.ensures in
    evaluates_second_refused old mid c.diagram-in-Xor-2.new.store handle live left p first right c.args.e.now c.in-Err-diagram-4.spent (omega (arith, ops, one, two)) second

pub returns-in-Ok-diagram-4 : goal.returns-in-Ok-diagram-4
returns-in-Ok-diagram-4 t c =
    let old = c.args.store.now in
    let mid = c.diagram-in-Xor.new.store in
    let handle : List ℕ → ℕ = handle_in old.words c.args.ports in
    let live : AreLive old handle = handles_live old c.args.ports c.sound.ensures.sound c.requires in
    let left : Expr = c.deref-in-Xor.result.now in
    let right : Expr = c.deref-in-Xor-2.result.now in
    let p = c.in-Ok-diagram-3.left in
    let first : Evaluates old mid handle left (Ok p) = c.in-Ok-diagram-3.ensures in
    let ops = ap operators_in c.in-Xor.is in
    let one = ap operators_in c.deref-in-Xor.ensures in
    let two = ap operators_in c.deref-in-Xor-2.ensures in
    let next = c.diagram-in-Xor-2.new.store in
    let q = c.in-Ok-diagram-4.right in
    let second = evaluates_next old mid (value_in old handle left) (Ok p) first.gives c.args.ports next right (Ok q) c.in-Ok-diagram-4.ensures in
    let f : Function = function_of next p in
    let g : Function = function_of next q in
    let new = c.xor.new.store in
    evaluates_two old mid next handle live left p first new right q second c.args.e.now (λ (x y : Bool). cond x (not y) y) c.xor.result (omega (arith, ops, one, two))
    (λ v.
    ap (λ (x : Expr). value_in old handle x v) c.in-Xor.is
    ∙ differ_is (value_in old handle c.in-Xor.left.value v) (value_in old handle c.in-Xor.right.value v)
    ∙ ap₂ (λ (x y : Expr). cond (value_in old handle x v) (not (value_in old handle y v)) (value_in old handle y v)) (sym c.deref-in-Xor.ensures) (sym c.deref-in-Xor-2.ensures))
    (gives_both next new (not_of g) (xor_of f g) c.xor.result c.xor.ensures.makes)
    (λ u reads others.
    let first_reads = within_not u g others in
    let both_reads = within_xor u f g reads others in
    counts_both u next new second.gives.adds.sound.ends (not_of g) (xor_of f g) c.xor.result c.xor.ensures.makes first_reads both_reads
    (c.xor.ensures.exact.few u first_reads both_reads) (c.xor.ensures.exact.early u first_reads both_reads))

-- ---- or

pub returns-in-Err-diagram-5 : goal.returns-in-Err-diagram-5
returns-in-Err-diagram-5 t c =
    let ops = ap operators_in c.in-Or.is in
    let one = ap operators_in c.deref-in-Or.ensures in
    evaluates_refused c.args.store.now c.diagram-in-Or.new.store (handle_in c.args.store.now.words c.args.ports)
    c.deref-in-Or.result.now c.args.e.now c.in-Err-diagram-5.spent (omega (arith, ops, one)) c.in-Err-diagram-5.ensures

pub returns-in-Err-diagram-6 : goal.returns-in-Err-diagram-6
returns-in-Err-diagram-6 t c =
    let old = c.args.store.now in
    let mid = c.diagram-in-Or.new.store in
    let handle : List ℕ → ℕ = handle_in old.words c.args.ports in
    let live : AreLive old handle = handles_live old c.args.ports c.sound.ensures.sound c.requires in
    let left : Expr = c.deref-in-Or.result.now in
    let right : Expr = c.deref-in-Or-2.result.now in
    let p = c.in-Ok-diagram-5.left in
    let first : Evaluates old mid handle left (Ok p) = c.in-Ok-diagram-5.ensures in
    let ops = ap operators_in c.in-Or.is in
    let one = ap operators_in c.deref-in-Or.ensures in
    let two = ap operators_in c.deref-in-Or-2.ensures in
    let second = evaluates_next old mid (value_in old handle left) (Ok p) first.gives c.args.ports c.diagram-in-Or-2.new.store right (Err c.in-Err-diagram-6.spent) c.in-Err-diagram-6.ensures in
    evaluates_second_refused old mid c.diagram-in-Or-2.new.store handle live left p first right c.args.e.now c.in-Err-diagram-6.spent (omega (arith, ops, one, two)) second

pub returns-in-Ok-diagram-6 : goal.returns-in-Ok-diagram-6
returns-in-Ok-diagram-6 t c =
    let old = c.args.store.now in
    let mid = c.diagram-in-Or.new.store in
    let handle : List ℕ → ℕ = handle_in old.words c.args.ports in
    let live : AreLive old handle = handles_live old c.args.ports c.sound.ensures.sound c.requires in
    let left : Expr = c.deref-in-Or.result.now in
    let right : Expr = c.deref-in-Or-2.result.now in
    let p = c.in-Ok-diagram-5.left in
    let first : Evaluates old mid handle left (Ok p) = c.in-Ok-diagram-5.ensures in
    let ops = ap operators_in c.in-Or.is in
    let one = ap operators_in c.deref-in-Or.ensures in
    let two = ap operators_in c.deref-in-Or-2.ensures in
    let next = c.diagram-in-Or-2.new.store in
    let q = c.in-Ok-diagram-6.right in
    let second = evaluates_next old mid (value_in old handle left) (Ok p) first.gives c.args.ports next right (Ok q) c.in-Ok-diagram-6.ensures in
    let f : Function = function_of next p in
    let g : Function = function_of next q in
    let new = c.or.new.store in
    evaluates_two old mid next handle live left p first new right q second c.args.e.now ◌||◌ c.or.result (omega (arith, ops, one, two))
    (λ v. ap (λ (x : Expr). value_in old handle x v) c.in-Or.is ∙ ap₂ (λ (x y : Expr). value_in old handle x v || value_in old handle y v) (sym c.deref-in-Or.ensures) (sym c.deref-in-Or-2.ensures))
    (gives_made next new (or_of f g) (or_of f g) c.or.result (λ v. refl) c.or.ensures.makes)
    (λ u reads others. counts_more u 1 2 next new c.or.result (omega arith)
    (counts_made u next new second.gives.adds.sound.ends (or_of f g) c.or.result c.or.ensures.makes (within_or u f g reads others)))

pub diagram-requires-in-And-2 : goal.diagram-requires-in-And-2
diagram-requires-in-And-2 t c =
    let ops = ap operators_in c.in-And.is in
    let part = ap operators_in c.deref-in-And-2.ensures in
    let falls = c.decreases in (
      omega (arith, ops, part, falls),
      handles_stay c.args.store.now c.diagram-in-And.new.store _ _ _ c.args.ports c.requires c.in-Ok-diagram.ensures,
    )

pub diagram-requires-in-Xor-2 : goal.diagram-requires-in-Xor-2
diagram-requires-in-Xor-2 t c =
    let ops = ap operators_in c.in-Xor.is in
    let part = ap operators_in c.deref-in-Xor-2.ensures in
    let falls = c.decreases in (
      omega (arith, ops, part, falls),
      handles_stay c.args.store.now c.diagram-in-Xor.new.store _ _ _ c.args.ports c.requires c.in-Ok-diagram-3.ensures,
    )

pub diagram-requires-in-Or-2 : goal.diagram-requires-in-Or-2
diagram-requires-in-Or-2 t c =
    let ops = ap operators_in c.in-Or.is in
    let part = ap operators_in c.deref-in-Or-2.ensures in
    let falls = c.decreases in (
      omega (arith, ops, part, falls),
      handles_stay c.args.store.now c.diagram-in-Or.new.store _ _ _ c.args.ports c.requires c.in-Ok-diagram-5.ensures,
    )
