use Rattle.std.proofs.Common.{◌≡◌, Bool, cond, ◌&&◌, Ok, Err, true, arith, ap, ap₂, sym, ◌∙◌}
use Rattle.std.specs.Prelude.{◌↔◌}
use Rattle.bdd_core.specs.Diagram.{Function, IsWithin, Valuation, choice, meaning}
use Rattle.bdd_core.specs.Store.{Means, function_of}
use Rattle.bdd_core.proofs.Growth.{grows_keeps}
use Rattle.bdd_core.proofs.Results.{if_ok_more}
use Rattle.bdd_ops.specs.Ops.{and_of}
use Rattle.bdd_ops.proofs.WithinLaws.{within_and, within_choice, within_same}
use Rattle.path_fixpoint.proofs.SpendingLaws.{finds_made, finds_more, finds_then}
use Rattle.path_fixpoint.proofs.Fitting.{limit_bits}
use Rattle.bdd_core.proofs.Frames.{writes_none, writes_then, writes_added}
use Rattle.bdd_ops.proofs.CountingLaws.{counts_more, counts_none}
use Rattle.path_fixpoint.proofs.signals.limit.Goals as goal

pub returns-in-Err-clause-writes : goal.returns-in-Err-clause-writes
returns-in-Err-clause-writes c out live = writes_added out c.args.store.now c.and.new.store live c.in-Err.ensures.makes.adds

pub returns-clause-writes : goal.returns-clause-writes
returns-clause-writes c out live =
    let first = writes_added out c.args.store.now c.and.new.store live c.in-Ok.ensures.makes.adds in
    writes_then out c.args.store.now c.and.new.store c.ite.new.self first (writes_added out c.and.new.store c.ite.new.self first.live c.ite.ensures.makes.adds)

pub returns-clause-is : goal.returns-clause-is
returns-clause-is c =
    let old = c.args.store.now in
    let mid = c.and.new.store in
    let new = c.ite.new.self in
    let f : Function = and_of (meaning old.nodes c.args.signal.0) (meaning old.nodes c.args.other.0) in
    let g : Function = choice (meaning mid.nodes c.args.here.0) (meaning mid.nodes c.in-Ok.held.0) (meaning mid.nodes c.args.signal.0) in
    if_ok_more (λ r. Means new r g)
    (λ r. (v : Valuation) → (function_of new r v ≡ true) ↔ ((function_of old c.args.signal v ≡ true) × (function_of old c.args.here v ≡ true → function_of old c.args.other v ≡ true))) c.ite.result
    (λ r m v.
    let x = function_of old c.args.signal v in
    let h = function_of old c.args.here v in
    let o = function_of old c.args.other v in
    let is : function_of new r v ≡ cond h (x && o) x =
    m.same v
    ∙ ap (λ (a : Bool). cond a (meaning mid.nodes c.in-Ok.held.0 v) (meaning mid.nodes c.args.signal.0 v)) (grows_keeps old.nodes mid.nodes f c.in-Ok.ensures.makes.grows c.args.here.0 c.requires.2 v)
    ∙ ap₂ (λ (a b : Bool). cond h a b) (c.in-Ok.ensures.makes.ok.same v) (grows_keeps old.nodes mid.nodes f c.in-Ok.ensures.makes.grows c.args.signal.0 c.requires.0 v) in
    (λ e. (limit_bits x h o).0 (sym is ∙ e), λ q. is ∙ (limit_bits x h o).1 q))
    c.ite.ensures.makes.ok

pub returns-in-Err-clause-few : goal.returns-in-Err-clause-few
returns-in-Err-clause-few c u signal other here =
    let old = c.args.store.now in
    finds_more u 1 2 old c.and.new.store (Err c.in-Err.spent) (omega arith)
    (finds_made u old c.and.new.store (and_of (meaning old.nodes c.args.signal.0) (meaning old.nodes c.args.other.0)) (Err c.in-Err.spent) c.sound.ensures.sound.ends c.in-Err.ensures.makes
    (within_and u (meaning old.nodes c.args.signal.0) (meaning old.nodes c.args.other.0) signal other))

pub returns-clause-few : goal.returns-clause-few
returns-clause-few c u signal other here =
    let old = c.args.store.now in
    let mid = c.and.new.store in
    let new = c.ite.new.self in
    let f : Function = and_of (meaning old.nodes c.args.signal.0) (meaning old.nodes c.args.other.0) in
    let g : Function = choice (meaning mid.nodes c.args.here.0) (meaning mid.nodes c.in-Ok.held.0) (meaning mid.nodes c.args.signal.0) in
    let made = finds_made u old mid f (Ok c.in-Ok.held) c.sound.ensures.sound.ends c.in-Ok.ensures.makes (within_and u (meaning old.nodes c.args.signal.0) (meaning old.nodes c.args.other.0) signal other) in
    let signal' : IsWithin u (meaning mid.nodes c.args.signal.0) =
    within_same u (meaning old.nodes c.args.signal.0) (meaning mid.nodes c.args.signal.0) (grows_keeps old.nodes mid.nodes f c.in-Ok.ensures.makes.grows c.args.signal.0 c.requires.0) signal in
    let here' : IsWithin u (meaning mid.nodes c.args.here.0) =
    within_same u (meaning old.nodes c.args.here.0) (meaning mid.nodes c.args.here.0) (grows_keeps old.nodes mid.nodes f c.in-Ok.ensures.makes.grows c.args.here.0 c.requires.2) here in
    finds_then u 1 1 old mid new c.ite.result made.counts.added
    (finds_made u mid new g c.ite.result c.in-Ok.ensures.makes.adds.sound.ends c.ite.ensures.makes
    (within_choice u (meaning mid.nodes c.args.here.0) (meaning mid.nodes c.in-Ok.held.0) (meaning mid.nodes c.args.signal.0) here' made.within signal'))

pub returns-then-is_free-clause-writes : goal.returns-then-is_free-clause-writes
returns-then-is_free-clause-writes c out live = writes_none out c.args.store.now c.sound.ensures.sound c.sound.ensures.within live

pub returns-then-is_free-clause-is : goal.returns-then-is_free-clause-is
returns-then-is_free-clause-is c v = (λ e. (e, λ h. c.is_free.ensures c.if-is_free.true c.args.store.now.nodes v e h), λ q. q.0)

pub returns-then-is_free-clause-few : goal.returns-then-is_free-clause-few
returns-then-is_free-clause-few c u signal other here = record {
  counts = counts_more u 0 2 c.args.store.now c.args.store.now (Ok c.args.signal) (omega arith) (counts_none u c.args.store.now c.args.signal);
  within = signal;
}
