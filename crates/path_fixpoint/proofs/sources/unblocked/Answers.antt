use Rattle.std.proofs.Common.{◌≡◌, ◌+◌, ◌<◌, Bool, true, false, cond, ap, arith, sym, ◌∙◌}
use Rattle.std.specs.Prelude.{◌↔◌}
use Rattle.bdd_core.specs.Diagram.{Function, Valuation, choice, meaning}
use Rattle.bdd_core.specs.Store.{Means, function_of}
use Rattle.bdd_core.proofs.Meaning.{meaning_zero}
use Rattle.bdd_core.proofs.Results.{if_ok_more}
use Rattle.path_fixpoint.specs.Strengths.{strong}
use Rattle.bdd_core.proofs.Frames.{writes_added}
use Rattle.path_fixpoint.proofs.SourceLaws.{block_bits}
use Rattle.bdd_ops.proofs.WithinLaws.{within_choice, within_zero}
use Rattle.path_fixpoint.proofs.SpendingLaws.{finds_made}
use Rattle.path_fixpoint.proofs.sources.unblocked.Goals as goal

pub returns-clause-writes : goal.returns-clause-writes
returns-clause-writes c = writes_added c.args.out.span c.args.store.now c.ite.new.self c.requires.out.1 c.ite.ensures.makes.adds

pub returns-clause-is : goal.returns-clause-is
returns-clause-is c =
    let old = c.args.store.now in
    let new = c.ite.new.self in
    let f : Function = choice (meaning old.nodes c.strength-above.result.0) (meaning old.nodes 0) (meaning old.nodes c.args.bit.0) in
    let lt : c.args.size < c.args.out.source = omega (arith, c.requires.size.1, c.if-size-out.false) in
    if_ok_more (λ r. Means new r f)
    (λ r. (v : Valuation) → (function_of new r v ≡ true) ↔ ((function_of old c.args.bit v ≡ true) × (c.args.size < c.args.out.source → strong old c.args.out (c.args.size + 1) c.args.place v ≡ false))) c.ite.result
    (λ r m v.
    let s = strong old c.args.out (c.args.size + 1) c.args.place v in
    let b = function_of old c.args.bit v in
    let is : function_of new r v ≡ cond s false b =
    m.same v ∙ ap (λ (x : Bool). cond x (meaning old.nodes 0 v) b) (c.strength-above.ensures.is v) ∙ ap (λ (x : Bool). cond s x b) (meaning_zero old.nodes v) in
    (λ e. let q = (block_bits s b).0 (sym is ∙ e) in (q.0, λ l. q.1), λ q. is ∙ (block_bits s b).1 (q.0, q.1 lt)))
    c.ite.ensures.makes.ok

pub returns-clause-few : goal.returns-clause-few
returns-clause-few c u all bit =
    let old = c.args.store.now in
    let f : Function = choice (meaning old.nodes c.strength-above.result.0) (meaning old.nodes 0) (meaning old.nodes c.args.bit.0) in
    finds_made u old c.ite.new.self f c.ite.result c.sound.ensures.sound.ends c.ite.ensures.makes
    (within_choice u (meaning old.nodes c.strength-above.result.0) (meaning old.nodes 0) (meaning old.nodes c.args.bit.0) (c.strength-above.ensures.few u all) (within_zero u old) bit)
