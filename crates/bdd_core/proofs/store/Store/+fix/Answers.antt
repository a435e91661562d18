use Rattle.std.proofs.Common.{ℕ, Bool, ◌<◌, ◌≤◌, length, refl, ◌∙◌, subst, sym, arith, true, false, Ok, Err}
use Rattle.node_pool.specs.declared.region.Node.{Node}
use Rattle.bdd_core.specs.Diagram.{Function, meaning, fixed, with_bit}
use Rattle.bdd_core.specs.Store.{Diagrams, Makes}
use Rattle.bdd_core.proofs.Growth.{grows_keeps}
use Rattle.bdd_core.proofs.Halves.{IsHalf}
use Rattle.bdd_core.proofs.Fixed.{end_fixed, fixed_later, fixed_lo, fixed_hi, from_fixed, at_top, lo_in, hi_in, part_lo, part_hi}
use Rattle.bdd_core.proofs.MakesLaws.{makes_none, lo_refused, hi_refused, lo_later, hi_later, joined}
use Rattle.bdd_core.proofs.store.Store.+fix.Goals as goal

pub returns-in_default : goal.returns-in_default
returns-in_default t c =
    let d0 : Diagrams = c.args.self.now in
    let vars : ℕ = d0.vars in
    let a = d0.nodes in
    let f : ℕ = c.args.f.0 in
    let x : ℕ = c.args.var in
    let b : Bool = c.args.value in
    let whole : Function = fixed (meaning a f) x b in
    let r = c.sound.ensures.sound in
    let room = c.sound.ensures.within in
    let live = c.requires in
    let low : f < 2 = grind (arith, c.in_default.ensures.end) in
    makes_none d0 whole c.args.f r room (record { live = live; same = end_fixed a f x b low })

pub returns-then-n-var : goal.returns-then-n-var
returns-then-n-var t c =
    let d0 : Diagrams = c.args.self.now in
    let vars : ℕ = d0.vars in
    let a = d0.nodes in
    let f : ℕ = c.args.f.0 in
    let x : ℕ = c.args.var in
    let b : Bool = c.args.value in
    let whole : Function = fixed (meaning a f) x b in
    let r = c.sound.ensures.sound in
    let room = c.sound.ensures.within in
    let live = c.requires in
    let n : Node = c.in-Some.n in
    let is = c.in-Some.ensures.node in
    let high : 2 ≤ f = grind (arith, c.in-Some.ensures.end) in
    makes_none d0 whole c.args.f r room
    (record { live = live; same = fixed_later vars a r f x b live (omega (arith, at_top vars a r f x b live high n is, c.if-n-var.true)) })

pub returns-then-value : goal.returns-then-value
returns-then-value t c =
    let d0 : Diagrams = c.args.self.now in
    let vars : ℕ = d0.vars in
    let a = d0.nodes in
    let f : ℕ = c.args.f.0 in
    let x : ℕ = c.args.var in
    let b : Bool = c.args.value in
    let whole : Function = fixed (meaning a f) x b in
    let r = c.sound.ensures.sound in
    let room = c.sound.ensures.within in
    let live = c.requires in
    let n : Node = c.in-Some.n in
    let is = c.in-Some.ensures.node in
    let high : 2 ≤ f = grind (arith, c.in-Some.ensures.end) in
    makes_none d0 whole _ r room
    (record { live = omega (arith, hi_in vars a r f x b live high n is, live); same = fixed_hi vars a r f x b live high n is c.if-n-var-2.true c.if-value.true })

pub returns-then-n-var-2 : goal.returns-then-n-var-2
returns-then-n-var-2 t c =
    let d0 : Diagrams = c.args.self.now in
    let vars : ℕ = d0.vars in
    let a = d0.nodes in
    let f : ℕ = c.args.f.0 in
    let x : ℕ = c.args.var in
    let b : Bool = c.args.value in
    let whole : Function = fixed (meaning a f) x b in
    let r = c.sound.ensures.sound in
    let room = c.sound.ensures.within in
    let live = c.requires in
    let n : Node = c.in-Some.n in
    let is = c.in-Some.ensures.node in
    let high : 2 ≤ f = grind (arith, c.in-Some.ensures.end) in
    makes_none d0 whole _ r room
    (record { live = omega (arith, lo_in vars a r f x b live high n is, live); same = fixed_lo vars a r f x b live high n is c.if-n-var-2.true c.if-value.false })

pub returns-in-Some-known_fixed : goal.returns-in-Some-known_fixed
returns-in-Some-known_fixed t c =
    let d0 : Diagrams = c.args.self.now in
    let vars : ℕ = d0.vars in
    let a = d0.nodes in
    let f : ℕ = c.args.f.0 in
    let x : ℕ = c.args.var in
    let b : Bool = c.args.value in
    let whole : Function = fixed (meaning a f) x b in
    let r = c.sound.ensures.sound in
    let room = c.sound.ensures.within in
    let live = c.requires in
    makes_none d0 whole _ r room c.in-Some-known_fixed.ensures

pub returns-in-Err : goal.returns-in-Err
returns-in-Err t c =
    let d0 : Diagrams = c.args.self.now in
    let vars : ℕ = d0.vars in
    let a = d0.nodes in
    let f : ℕ = c.args.f.0 in
    let x : ℕ = c.args.var in
    let b : Bool = c.args.value in
    let whole : Function = fixed (meaning a f) x b in
    let r = c.sound.ensures.sound in
    let room = c.sound.ensures.within in
    let live = c.requires in
    let n : Node = c.in-Some.n in
    let is = c.in-Some.ensures.node in
    let high : 2 ≤ f = grind (arith, c.in-Some.ensures.end) in
    let y : ℕ = n.var in
    let other = c.if-n-var-2.false in
    let from = from_fixed vars a r f x b live y (omega (arith, at_top vars a r f x b live high n is)) in
    let y_in : y < vars = omega (arith, c.in-Some.ensures.proper.var_below) in
    let m : Diagrams = c.fix.new.self in
    let lo_of : Function = fixed (meaning a n.lo) x b in
    let lo_half : IsHalf whole y false lo_of = part_lo vars a r f x b live high n is other in
    lo_refused d0 m m whole y from y_in lo_of (λ v. whole (with_bit v y true)) lo_half (λ v. refl) c.in-Err.spent c.in-Err.ensures

pub returns-in-Err-fix : goal.returns-in-Err-fix
returns-in-Err-fix t c =
    let d0 : Diagrams = c.args.self.now in
    let vars : ℕ = d0.vars in
    let a = d0.nodes in
    let f : ℕ = c.args.f.0 in
    let x : ℕ = c.args.var in
    let b : Bool = c.args.value in
    let whole : Function = fixed (meaning a f) x b in
    let r = c.sound.ensures.sound in
    let room = c.sound.ensures.within in
    let live = c.requires in
    let n : Node = c.in-Some.n in
    let is = c.in-Some.ensures.node in
    let high : 2 ≤ f = grind (arith, c.in-Some.ensures.end) in
    let y : ℕ = n.var in
    let other = c.if-n-var-2.false in
    let from = from_fixed vars a r f x b live y (omega (arith, at_top vars a r f x b live high n is)) in
    let y_in : y < vars = omega (arith, c.in-Some.ensures.proper.var_below) in
    let m : Diagrams = c.fix.new.self in
    let lo_of : Function = fixed (meaning a n.lo) x b in
    let lo_half : IsHalf whole y false lo_of = part_lo vars a r f x b live high n is other in
    let lo_made : Makes d0 m lo_of (Ok c.in-Ok.lo) = c.in-Ok.ensures in
    let d : Diagrams = c.fix-2.new.self in
    let hi_of : Function = fixed (meaning m.nodes n.hi) x b in
    let hi_live : n.hi < length a = omega (arith, hi_in vars a r f x b live high n is, live) in
    let hi_half : IsHalf whole y true hi_of = λ v. grows_keeps a m.nodes lo_of lo_made.grows n.hi hi_live (with_bit v x b) ∙ part_hi vars a r f x b live high n is other v in
    hi_refused d0 m d whole y from y_in lo_of hi_of lo_half hi_half c.in-Ok.lo c.in-Err-fix.spent lo_made c.in-Err-fix.ensures

pub join-requires-clause-lo_later : goal.join-requires-clause-lo_later
join-requires-clause-lo_later t c =
    let d0 : Diagrams = c.args.self.now in
    let vars : ℕ = d0.vars in
    let a = d0.nodes in
    let f : ℕ = c.args.f.0 in
    let x : ℕ = c.args.var in
    let b : Bool = c.args.value in
    let whole : Function = fixed (meaning a f) x b in
    let r = c.sound.ensures.sound in
    let room = c.sound.ensures.within in
    let live = c.requires in
    let n : Node = c.in-Some.n in
    let is = c.in-Some.ensures.node in
    let high : 2 ≤ f = grind (arith, c.in-Some.ensures.end) in
    let y : ℕ = n.var in
    let other = c.if-n-var-2.false in
    let from = from_fixed vars a r f x b live y (omega (arith, at_top vars a r f x b live high n is)) in
    let y_in : y < vars = omega (arith, c.in-Some.ensures.proper.var_below) in
    let m : Diagrams = c.fix.new.self in
    let lo_of : Function = fixed (meaning a n.lo) x b in
    let lo_half : IsHalf whole y false lo_of = part_lo vars a r f x b live high n is other in
    let lo_made : Makes d0 m lo_of (Ok c.in-Ok.lo) = c.in-Ok.ensures in
    let d : Diagrams = c.fix-2.new.self in
    let hi_of : Function = fixed (meaning m.nodes n.hi) x b in
    let hi_live : n.hi < length a = omega (arith, hi_in vars a r f x b live high n is, live) in
    let hi_half : IsHalf whole y true hi_of = λ v. grows_keeps a m.nodes lo_of lo_made.grows n.hi hi_live (with_bit v x b) ∙ part_hi vars a r f x b live high n is other v in
    let hi_made : Makes m d hi_of (Ok c.in-Ok-fix.hi) = c.in-Ok-fix.ensures in
    lo_later d0 m d whole y from y_in lo_of hi_of lo_half hi_half c.in-Ok.lo c.in-Ok-fix.hi lo_made hi_made

pub join-requires-clause-hi_later : goal.join-requires-clause-hi_later
join-requires-clause-hi_later t c =
    let d0 : Diagrams = c.args.self.now in
    let vars : ℕ = d0.vars in
    let a = d0.nodes in
    let f : ℕ = c.args.f.0 in
    let x : ℕ = c.args.var in
    let b : Bool = c.args.value in
    let whole : Function = fixed (meaning a f) x b in
    let r = c.sound.ensures.sound in
    let room = c.sound.ensures.within in
    let live = c.requires in
    let n : Node = c.in-Some.n in
    let is = c.in-Some.ensures.node in
    let high : 2 ≤ f = grind (arith, c.in-Some.ensures.end) in
    let y : ℕ = n.var in
    let other = c.if-n-var-2.false in
    let from = from_fixed vars a r f x b live y (omega (arith, at_top vars a r f x b live high n is)) in
    let y_in : y < vars = omega (arith, c.in-Some.ensures.proper.var_below) in
    let m : Diagrams = c.fix.new.self in
    let lo_of : Function = fixed (meaning a n.lo) x b in
    let lo_half : IsHalf whole y false lo_of = part_lo vars a r f x b live high n is other in
    let lo_made : Makes d0 m lo_of (Ok c.in-Ok.lo) = c.in-Ok.ensures in
    let d : Diagrams = c.fix-2.new.self in
    let hi_of : Function = fixed (meaning m.nodes n.hi) x b in
    let hi_live : n.hi < length a = omega (arith, hi_in vars a r f x b live high n is, live) in
    let hi_half : IsHalf whole y true hi_of = λ v. grows_keeps a m.nodes lo_of lo_made.grows n.hi hi_live (with_bit v x b) ∙ part_hi vars a r f x b live high n is other v in
    let hi_made : Makes m d hi_of (Ok c.in-Ok-fix.hi) = c.in-Ok-fix.ensures in
    hi_later d0 m d whole y from y_in lo_of hi_of lo_half hi_half c.in-Ok.lo c.in-Ok-fix.hi lo_made hi_made

pub returns-in-Err-join : goal.returns-in-Err-join
returns-in-Err-join t c =
    let d0 : Diagrams = c.args.self.now in
    let vars : ℕ = d0.vars in
    let a = d0.nodes in
    let f : ℕ = c.args.f.0 in
    let x : ℕ = c.args.var in
    let b : Bool = c.args.value in
    let whole : Function = fixed (meaning a f) x b in
    let r = c.sound.ensures.sound in
    let room = c.sound.ensures.within in
    let live = c.requires in
    let n : Node = c.in-Some.n in
    let is = c.in-Some.ensures.node in
    let high : 2 ≤ f = grind (arith, c.in-Some.ensures.end) in
    let y : ℕ = n.var in
    let other = c.if-n-var-2.false in
    let from = from_fixed vars a r f x b live y (omega (arith, at_top vars a r f x b live high n is)) in
    let y_in : y < vars = omega (arith, c.in-Some.ensures.proper.var_below) in
    let m : Diagrams = c.fix.new.self in
    let lo_of : Function = fixed (meaning a n.lo) x b in
    let lo_half : IsHalf whole y false lo_of = part_lo vars a r f x b live high n is other in
    let lo_made : Makes d0 m lo_of (Ok c.in-Ok.lo) = c.in-Ok.ensures in
    let d : Diagrams = c.fix-2.new.self in
    let hi_of : Function = fixed (meaning m.nodes n.hi) x b in
    let hi_live : n.hi < length a = omega (arith, hi_in vars a r f x b live high n is, live) in
    let hi_half : IsHalf whole y true hi_of = λ v. grows_keeps a m.nodes lo_of lo_made.grows n.hi hi_live (with_bit v x b) ∙ part_hi vars a r f x b live high n is other v in
    let hi_made : Makes m d hi_of (Ok c.in-Ok-fix.hi) = c.in-Ok-fix.ensures in
    let e : Diagrams = c.join.new.self in
    let join_made = joined d0 m d whole y from y_in lo_of hi_of lo_half hi_half c.in-Ok.lo c.in-Ok-fix.hi lo_made hi_made e in
    join_made (Err c.in-Err-join.spent) c.in-Err-join.ensures

pub remember_fixed-requires-clause-is : goal.remember_fixed-requires-clause-is
remember_fixed-requires-clause-is t c =
    let d0 : Diagrams = c.args.self.now in
    let vars : ℕ = d0.vars in
    let a = d0.nodes in
    let f : ℕ = c.args.f.0 in
    let x : ℕ = c.args.var in
    let b : Bool = c.args.value in
    let whole : Function = fixed (meaning a f) x b in
    let r = c.sound.ensures.sound in
    let room = c.sound.ensures.within in
    let live = c.requires in
    let n : Node = c.in-Some.n in
    let is = c.in-Some.ensures.node in
    let high : 2 ≤ f = grind (arith, c.in-Some.ensures.end) in
    let y : ℕ = n.var in
    let other = c.if-n-var-2.false in
    let from = from_fixed vars a r f x b live y (omega (arith, at_top vars a r f x b live high n is)) in
    let y_in : y < vars = omega (arith, c.in-Some.ensures.proper.var_below) in
    let m : Diagrams = c.fix.new.self in
    let lo_of : Function = fixed (meaning a n.lo) x b in
    let lo_half : IsHalf whole y false lo_of = part_lo vars a r f x b live high n is other in
    let lo_made : Makes d0 m lo_of (Ok c.in-Ok.lo) = c.in-Ok.ensures in
    let d : Diagrams = c.fix-2.new.self in
    let hi_of : Function = fixed (meaning m.nodes n.hi) x b in
    let hi_live : n.hi < length a = omega (arith, hi_in vars a r f x b live high n is, live) in
    let hi_half : IsHalf whole y true hi_of = λ v. grows_keeps a m.nodes lo_of lo_made.grows n.hi hi_live (with_bit v x b) ∙ part_hi vars a r f x b live high n is other v in
    let hi_made : Makes m d hi_of (Ok c.in-Ok-fix.hi) = c.in-Ok-fix.ensures in
    let e : Diagrams = c.join.new.self in
    let join_made = joined d0 m d whole y from y_in lo_of hi_of lo_half hi_half c.in-Ok.lo c.in-Ok-fix.hi lo_made hi_made e in
    let made : Makes d0 e whole (Ok c.in-Ok-join.r) = join_made (Ok c.in-Ok-join.r) c.in-Ok-join.ensures in
    record { live = made.ok.live; same = λ v. made.ok.same v ∙ sym (grows_keeps a e.nodes whole made.grows f live (with_bit v x b)) }

pub returns : goal.returns
returns t c =
    let d0 : Diagrams = c.args.self.now in
    let vars : ℕ = d0.vars in
    let a = d0.nodes in
    let f : ℕ = c.args.f.0 in
    let x : ℕ = c.args.var in
    let b : Bool = c.args.value in
    let whole : Function = fixed (meaning a f) x b in
    let r = c.sound.ensures.sound in
    let room = c.sound.ensures.within in
    let live = c.requires in
    let n : Node = c.in-Some.n in
    let is = c.in-Some.ensures.node in
    let high : 2 ≤ f = grind (arith, c.in-Some.ensures.end) in
    let y : ℕ = n.var in
    let other = c.if-n-var-2.false in
    let from = from_fixed vars a r f x b live y (omega (arith, at_top vars a r f x b live high n is)) in
    let y_in : y < vars = omega (arith, c.in-Some.ensures.proper.var_below) in
    let m : Diagrams = c.fix.new.self in
    let lo_of : Function = fixed (meaning a n.lo) x b in
    let lo_half : IsHalf whole y false lo_of = part_lo vars a r f x b live high n is other in
    let lo_made : Makes d0 m lo_of (Ok c.in-Ok.lo) = c.in-Ok.ensures in
    let d : Diagrams = c.fix-2.new.self in
    let hi_of : Function = fixed (meaning m.nodes n.hi) x b in
    let hi_live : n.hi < length a = omega (arith, hi_in vars a r f x b live high n is, live) in
    let hi_half : IsHalf whole y true hi_of = λ v. grows_keeps a m.nodes lo_of lo_made.grows n.hi hi_live (with_bit v x b) ∙ part_hi vars a r f x b live high n is other v in
    let hi_made : Makes m d hi_of (Ok c.in-Ok-fix.hi) = c.in-Ok-fix.ensures in
    let e : Diagrams = c.join.new.self in
    let join_made = joined d0 m d whole y from y_in lo_of hi_of lo_half hi_half c.in-Ok.lo c.in-Ok-fix.hi lo_made hi_made e in
    let made : Makes d0 e whole (Ok c.in-Ok-join.r) = join_made (Ok c.in-Ok-join.r) c.in-Ok-join.ensures in
    subst (λ z. Makes d0 z whole (Ok c.in-Ok-join.r)) (sym c.remember_fixed.ensures) made
