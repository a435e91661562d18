use Rattle.std.proofs.Common.{◌≡◌, ℕ, ◌<◌, ◌≤◌, length, refl, ◌∙◌, subst, sym, ap, arith, true, false, Ok, Err}
use Rattle.bdd_core.specs.Diagram.{Function, IsReduced, with_bit}
use Rattle.bdd_core.specs.Store.{Diagrams, Makes}
use Rattle.bdd_core.proofs.Growth.{grows_none}
use Rattle.bdd_core.proofs.Halves.{IsHalf}
use Rattle.bdd_core.proofs.Choice.{is_below, ite_of, ite_from, ite_half, ite_keeps}
use Rattle.bdd_core.proofs.MakesLaws.{makes_none, makes_same, lo_refused, hi_refused, lo_later, hi_later, joined}
use Rattle.bdd_core.proofs.store.Store.+choose.Goals as goal

pub choose-returns-in-Known : goal.choose-returns-in-Known
choose-returns-in-Known t c =
    let d0 : Diagrams = c.args.self.now in
    let sound : IsReduced d0.vars d0.nodes = subst (λ d. IsReduced d.vars d.nodes) c.self.view_is c.self.invariant.reduced in
    let within : length d0.nodes ≤ d0.budget = subst (λ z. length z.nodes ≤ z.budget) c.self.view_is c.self.invariant.fits in
    let r = c.requires in
    let is = c.in-Known.ensures in
    makes_none d0 (ite_of d0.nodes c.args.f.0 c.args.g.0 c.args.h.0) c.in-Known.r sound within
    (record { live = is.live (length d0.nodes) sound.ends r.0 r.1 r.2; same = is.same d0.nodes })

pub choose-returns-in-Some : goal.choose-returns-in-Some
choose-returns-in-Some t c =
    let d0 : Diagrams = c.args.self.now in
    let a = d0.nodes in
    let f : ℕ = c.args.f.0 in
    let whole : Function = ite_of a f c.in-Asks.high.0 c.in-Asks.low.0 in
    let sound : IsReduced d0.vars a = subst (λ d. IsReduced d.vars d.nodes) c.self.view_is c.self.invariant.reduced in
    let within : length a ≤ d0.budget = subst (λ z. length z.nodes ≤ z.budget) c.self.view_is c.self.invariant.fits in
    makes_same d0 d0 whole (ite_of a f c.args.g.0 c.args.h.0) (Ok c.in-Some.r) (c.in-Asks.ensures.same a) (makes_none d0 whole c.in-Some.r sound within c.in-Some.ensures)

pub choose-returns : goal.choose-returns
choose-returns t c =
    let a = c.args.self.now.nodes in
    let f : ℕ = c.args.f.0 in
    let whole : Function = ite_of a f c.in-Asks.high.0 c.in-Asks.low.0 in
    makes_same _ _ whole (ite_of a f c.args.g.0 c.args.h.0) (Ok c.in-Ok.r) (c.in-Asks.ensures.same a) c.in-Ok.ensures

pub choose-returns-in-Err : goal.choose-returns-in-Err
choose-returns-in-Err t c =
    let a = c.args.self.now.nodes in
    let f : ℕ = c.args.f.0 in
    let whole : Function = ite_of a f c.in-Asks.high.0 c.in-Asks.low.0 in
    let asked : Function = ite_of a f c.args.g.0 c.args.h.0 in
    let made = makes_same _ _ whole asked (Err c.in-Err._spent) (c.in-Asks.ensures.same a) c.in-Err.ensures in
    let number = made.spent.number ∙ sym (ap (λ d. d.budget) c.self-2.view_is) in
    subst (λ n. Makes c.args.self.now c.part.new.self asked (Err (record { nodes = n }))) number made

pub part-branches-requires-clause-within : goal.part-branches-requires-clause-within
part-branches-requires-clause-within t c =
    let d0 : Diagrams = c.args.self.now in
    let sound : IsReduced d0.vars d0.nodes = subst (λ d. IsReduced d.vars d.nodes) c.self.view_is c.self.invariant.reduced in
    omega (arith, c.least_top-var.ensures.least.0, is_below d0.vars d0.nodes c.args.f.0 sound c.requires.0 c.requires.1)

pub part-branches-requires-2-clause-within : goal.part-branches-requires-2-clause-within
part-branches-requires-2-clause-within t c =
    let d0 : Diagrams = c.args.self.now in
    let sound : IsReduced d0.vars d0.nodes = subst (λ d. IsReduced d.vars d.nodes) c.self.view_is c.self.invariant.reduced in
    omega (arith, c.least_top-var.ensures.least.0, is_below d0.vars d0.nodes c.args.f.0 sound c.requires.0 c.requires.1)

pub part-branches-requires-3-clause-within : goal.part-branches-requires-3-clause-within
part-branches-requires-3-clause-within t c =
    let d0 : Diagrams = c.args.self.now in
    let sound : IsReduced d0.vars d0.nodes = subst (λ d. IsReduced d.vars d.nodes) c.self.view_is c.self.invariant.reduced in
    omega (arith, c.least_top-var.ensures.least.0, is_below d0.vars d0.nodes c.args.f.0 sound c.requires.0 c.requires.1)

pub part-join-requires-clause-var : goal.part-join-requires-clause-var
part-join-requires-clause-var t c =
    let d0 : Diagrams = c.args.self.now in
    let sound : IsReduced d0.vars d0.nodes = subst (λ d. IsReduced d.vars d.nodes) c.self.view_is c.self.invariant.reduced in
    let first : c.choose.new.self.vars ≡ d0.vars = ap (λ z. z.vars) c.in-Ok.ensures.adds.rest in
    let second : c.choose-2.new.self.vars ≡ c.choose.new.self.vars = ap (λ z. z.vars) c.in-Ok-choose.ensures.adds.rest in
    omega (arith, first, second, c.least_top-var.ensures.least.0, is_below d0.vars d0.nodes c.args.f.0 sound c.requires.0 c.requires.1)

pub part-returns-in-Err : goal.part-returns-in-Err
part-returns-in-Err t c =
    let d0 : Diagrams = c.args.self.now in
    let vars : ℕ = d0.vars in
    let a = d0.nodes in
    let f : ℕ = c.args.f.0 in
    let g : ℕ = c.args.g.0 in
    let h : ℕ = c.args.h.0 in
    let whole : Function = ite_of a f g h in
    let sound : IsReduced vars a = subst (λ d. IsReduced d.vars d.nodes) c.self.view_is c.self.invariant.reduced in
    let f_in : f < length a = c.requires.1 in
    let g_in : g < length a = c.requires.2 in
    let h_in : h < length a = c.requires.3 in
    let x : ℕ = c.least_top-var.result in
    let le = c.least_top-var.ensures.least in
    let x_in : x < vars = omega (arith, le.0, is_below vars a f sound c.requires.0 f_in) in
    let from = ite_from vars a f g h x sound f_in g_in h_in le.0 le.1 le.2 in
    let p = c.branches.ensures in
    let q = c.branches-2.ensures in
    let s = c.branches-3.ensures in
    let m : Diagrams = c.choose.new.self in
    let lo_of : Function = ite_of a c.branches.result.0.0 c.branches-2.result.0.0 c.branches-3.result.0.0 in
    let lo_half : IsHalf whole x false lo_of = ite_half a a f g h x false whole (grows_none a whole) _ _ _ p.live.0 q.live.0 s.live.0 p.lo q.lo s.lo in
    lo_refused d0 m m whole x from x_in lo_of (λ v. whole (with_bit v x true)) lo_half (λ v. refl) c.in-Err.spent c.in-Err.ensures

pub part-returns-in-Err-choose : goal.part-returns-in-Err-choose
part-returns-in-Err-choose t c =
    let d0 : Diagrams = c.args.self.now in
    let vars : ℕ = d0.vars in
    let a = d0.nodes in
    let f : ℕ = c.args.f.0 in
    let g : ℕ = c.args.g.0 in
    let h : ℕ = c.args.h.0 in
    let whole : Function = ite_of a f g h in
    let sound : IsReduced vars a = subst (λ d. IsReduced d.vars d.nodes) c.self.view_is c.self.invariant.reduced in
    let f_in : f < length a = c.requires.1 in
    let g_in : g < length a = c.requires.2 in
    let h_in : h < length a = c.requires.3 in
    let x : ℕ = c.least_top-var.result in
    let le = c.least_top-var.ensures.least in
    let x_in : x < vars = omega (arith, le.0, is_below vars a f sound c.requires.0 f_in) in
    let from = ite_from vars a f g h x sound f_in g_in h_in le.0 le.1 le.2 in
    let p = c.branches.ensures in
    let q = c.branches-2.ensures in
    let s = c.branches-3.ensures in
    let m : Diagrams = c.choose.new.self in
    let lo_of : Function = ite_of a c.branches.result.0.0 c.branches-2.result.0.0 c.branches-3.result.0.0 in
    let lo_half : IsHalf whole x false lo_of = ite_half a a f g h x false whole (grows_none a whole) _ _ _ p.live.0 q.live.0 s.live.0 p.lo q.lo s.lo in
    let lo_made : Makes d0 m lo_of (Ok c.in-Ok.lo) = c.in-Ok.ensures in
    let d : Diagrams = c.choose-2.new.self in
    let hi_of : Function = ite_of m.nodes c.branches.result.1.0 c.branches-2.result.1.0 c.branches-3.result.1.0 in
    let hi_half : IsHalf whole x true hi_of = ite_half a m.nodes f g h x true lo_of lo_made.grows _ _ _ p.live.1 q.live.1 s.live.1 p.hi q.hi s.hi in
    hi_refused d0 m d whole x from x_in lo_of hi_of lo_half hi_half c.in-Ok.lo c.in-Err-choose.spent lo_made c.in-Err-choose.ensures

pub part-join-requires-clause-lo_later : goal.part-join-requires-clause-lo_later
part-join-requires-clause-lo_later t c =
    let d0 : Diagrams = c.args.self.now in
    let vars : ℕ = d0.vars in
    let a = d0.nodes in
    let f : ℕ = c.args.f.0 in
    let g : ℕ = c.args.g.0 in
    let h : ℕ = c.args.h.0 in
    let whole : Function = ite_of a f g h in
    let sound : IsReduced vars a = subst (λ d. IsReduced d.vars d.nodes) c.self.view_is c.self.invariant.reduced in
    let f_in : f < length a = c.requires.1 in
    let g_in : g < length a = c.requires.2 in
    let h_in : h < length a = c.requires.3 in
    let x : ℕ = c.least_top-var.result in
    let le = c.least_top-var.ensures.least in
    let x_in : x < vars = omega (arith, le.0, is_below vars a f sound c.requires.0 f_in) in
    let from = ite_from vars a f g h x sound f_in g_in h_in le.0 le.1 le.2 in
    let p = c.branches.ensures in
    let q = c.branches-2.ensures in
    let s = c.branches-3.ensures in
    let m : Diagrams = c.choose.new.self in
    let lo_of : Function = ite_of a c.branches.result.0.0 c.branches-2.result.0.0 c.branches-3.result.0.0 in
    let lo_half : IsHalf whole x false lo_of = ite_half a a f g h x false whole (grows_none a whole) _ _ _ p.live.0 q.live.0 s.live.0 p.lo q.lo s.lo in
    let lo_made : Makes d0 m lo_of (Ok c.in-Ok.lo) = c.in-Ok.ensures in
    let d : Diagrams = c.choose-2.new.self in
    let hi_of : Function = ite_of m.nodes c.branches.result.1.0 c.branches-2.result.1.0 c.branches-3.result.1.0 in
    let hi_half : IsHalf whole x true hi_of = ite_half a m.nodes f g h x true lo_of lo_made.grows _ _ _ p.live.1 q.live.1 s.live.1 p.hi q.hi s.hi in
    let hi_made : Makes m d hi_of (Ok c.in-Ok-choose.hi) = c.in-Ok-choose.ensures in
    lo_later d0 m d whole x from x_in lo_of hi_of lo_half hi_half c.in-Ok.lo c.in-Ok-choose.hi lo_made hi_made

pub part-join-requires-clause-hi_later : goal.part-join-requires-clause-hi_later
part-join-requires-clause-hi_later t c =
    let d0 : Diagrams = c.args.self.now in
    let vars : ℕ = d0.vars in
    let a = d0.nodes in
    let f : ℕ = c.args.f.0 in
    let g : ℕ = c.args.g.0 in
    let h : ℕ = c.args.h.0 in
    let whole : Function = ite_of a f g h in
    let sound : IsReduced vars a = subst (λ d. IsReduced d.vars d.nodes) c.self.view_is c.self.invariant.reduced in
    let f_in : f < length a = c.requires.1 in
    let g_in : g < length a = c.requires.2 in
    let h_in : h < length a = c.requires.3 in
    let x : ℕ = c.least_top-var.result in
    let le = c.least_top-var.ensures.least in
    let x_in : x < vars = omega (arith, le.0, is_below vars a f sound c.requires.0 f_in) in
    let from = ite_from vars a f g h x sound f_in g_in h_in le.0 le.1 le.2 in
    let p = c.branches.ensures in
    let q = c.branches-2.ensures in
    let s = c.branches-3.ensures in
    let m : Diagrams = c.choose.new.self in
    let lo_of : Function = ite_of a c.branches.result.0.0 c.branches-2.result.0.0 c.branches-3.result.0.0 in
    let lo_half : IsHalf whole x false lo_of = ite_half a a f g h x false whole (grows_none a whole) _ _ _ p.live.0 q.live.0 s.live.0 p.lo q.lo s.lo in
    let lo_made : Makes d0 m lo_of (Ok c.in-Ok.lo) = c.in-Ok.ensures in
    let d : Diagrams = c.choose-2.new.self in
    let hi_of : Function = ite_of m.nodes c.branches.result.1.0 c.branches-2.result.1.0 c.branches-3.result.1.0 in
    let hi_half : IsHalf whole x true hi_of = ite_half a m.nodes f g h x true lo_of lo_made.grows _ _ _ p.live.1 q.live.1 s.live.1 p.hi q.hi s.hi in
    let hi_made : Makes m d hi_of (Ok c.in-Ok-choose.hi) = c.in-Ok-choose.ensures in
    hi_later d0 m d whole x from x_in lo_of hi_of lo_half hi_half c.in-Ok.lo c.in-Ok-choose.hi lo_made hi_made

pub part-returns-in-Err-join : goal.part-returns-in-Err-join
part-returns-in-Err-join t c =
    let d0 : Diagrams = c.args.self.now in
    let vars : ℕ = d0.vars in
    let a = d0.nodes in
    let f : ℕ = c.args.f.0 in
    let g : ℕ = c.args.g.0 in
    let h : ℕ = c.args.h.0 in
    let whole : Function = ite_of a f g h in
    let sound : IsReduced vars a = subst (λ d. IsReduced d.vars d.nodes) c.self.view_is c.self.invariant.reduced in
    let f_in : f < length a = c.requires.1 in
    let g_in : g < length a = c.requires.2 in
    let h_in : h < length a = c.requires.3 in
    let x : ℕ = c.least_top-var.result in
    let le = c.least_top-var.ensures.least in
    let x_in : x < vars = omega (arith, le.0, is_below vars a f sound c.requires.0 f_in) in
    let from = ite_from vars a f g h x sound f_in g_in h_in le.0 le.1 le.2 in
    let p = c.branches.ensures in
    let q = c.branches-2.ensures in
    let s = c.branches-3.ensures in
    let m : Diagrams = c.choose.new.self in
    let lo_of : Function = ite_of a c.branches.result.0.0 c.branches-2.result.0.0 c.branches-3.result.0.0 in
    let lo_half : IsHalf whole x false lo_of = ite_half a a f g h x false whole (grows_none a whole) _ _ _ p.live.0 q.live.0 s.live.0 p.lo q.lo s.lo in
    let lo_made : Makes d0 m lo_of (Ok c.in-Ok.lo) = c.in-Ok.ensures in
    let d : Diagrams = c.choose-2.new.self in
    let hi_of : Function = ite_of m.nodes c.branches.result.1.0 c.branches-2.result.1.0 c.branches-3.result.1.0 in
    let hi_half : IsHalf whole x true hi_of = ite_half a m.nodes f g h x true lo_of lo_made.grows _ _ _ p.live.1 q.live.1 s.live.1 p.hi q.hi s.hi in
    let hi_made : Makes m d hi_of (Ok c.in-Ok-choose.hi) = c.in-Ok-choose.ensures in
    let e : Diagrams = c.join.new.self in
    let join_made = joined d0 m d whole x from x_in lo_of hi_of lo_half hi_half c.in-Ok.lo c.in-Ok-choose.hi lo_made hi_made e in
    join_made (Err c.in-Err-join.spent) c.in-Err-join.ensures

pub part-remember-requires-clause-is : goal.part-remember-requires-clause-is
part-remember-requires-clause-is t c =
    let d0 : Diagrams = c.args.self.now in
    let vars : ℕ = d0.vars in
    let a = d0.nodes in
    let f : ℕ = c.args.f.0 in
    let g : ℕ = c.args.g.0 in
    let h : ℕ = c.args.h.0 in
    let whole : Function = ite_of a f g h in
    let sound : IsReduced vars a = subst (λ d. IsReduced d.vars d.nodes) c.self.view_is c.self.invariant.reduced in
    let f_in : f < length a = c.requires.1 in
    let g_in : g < length a = c.requires.2 in
    let h_in : h < length a = c.requires.3 in
    let x : ℕ = c.least_top-var.result in
    let le = c.least_top-var.ensures.least in
    let x_in : x < vars = omega (arith, le.0, is_below vars a f sound c.requires.0 f_in) in
    let from = ite_from vars a f g h x sound f_in g_in h_in le.0 le.1 le.2 in
    let p = c.branches.ensures in
    let q = c.branches-2.ensures in
    let s = c.branches-3.ensures in
    let m : Diagrams = c.choose.new.self in
    let lo_of : Function = ite_of a c.branches.result.0.0 c.branches-2.result.0.0 c.branches-3.result.0.0 in
    let lo_half : IsHalf whole x false lo_of = ite_half a a f g h x false whole (grows_none a whole) _ _ _ p.live.0 q.live.0 s.live.0 p.lo q.lo s.lo in
    let lo_made : Makes d0 m lo_of (Ok c.in-Ok.lo) = c.in-Ok.ensures in
    let d : Diagrams = c.choose-2.new.self in
    let hi_of : Function = ite_of m.nodes c.branches.result.1.0 c.branches-2.result.1.0 c.branches-3.result.1.0 in
    let hi_half : IsHalf whole x true hi_of = ite_half a m.nodes f g h x true lo_of lo_made.grows _ _ _ p.live.1 q.live.1 s.live.1 p.hi q.hi s.hi in
    let hi_made : Makes m d hi_of (Ok c.in-Ok-choose.hi) = c.in-Ok-choose.ensures in
    let e : Diagrams = c.join.new.self in
    let join_made = joined d0 m d whole x from x_in lo_of hi_of lo_half hi_half c.in-Ok.lo c.in-Ok-choose.hi lo_made hi_made e in
    let made : Makes d0 e whole (Ok c.in-Ok-join.r) = join_made (Ok c.in-Ok-join.r) c.in-Ok-join.ensures in
    record { live = made.ok.live; same = λ v. made.ok.same v ∙ sym (ite_keeps a e.nodes f g h whole made.grows f_in g_in h_in v) }

pub part-returns : goal.part-returns
part-returns t c =
    let d0 : Diagrams = c.args.self.now in
    let vars : ℕ = d0.vars in
    let a = d0.nodes in
    let f : ℕ = c.args.f.0 in
    let g : ℕ = c.args.g.0 in
    let h : ℕ = c.args.h.0 in
    let whole : Function = ite_of a f g h in
    let sound : IsReduced vars a = subst (λ d. IsReduced d.vars d.nodes) c.self.view_is c.self.invariant.reduced in
    let f_in : f < length a = c.requires.1 in
    let g_in : g < length a = c.requires.2 in
    let h_in : h < length a = c.requires.3 in
    let x : ℕ = c.least_top-var.result in
    let le = c.least_top-var.ensures.least in
    let x_in : x < vars = omega (arith, le.0, is_below vars a f sound c.requires.0 f_in) in
    let from = ite_from vars a f g h x sound f_in g_in h_in le.0 le.1 le.2 in
    let p = c.branches.ensures in
    let q = c.branches-2.ensures in
    let s = c.branches-3.ensures in
    let m : Diagrams = c.choose.new.self in
    let lo_of : Function = ite_of a c.branches.result.0.0 c.branches-2.result.0.0 c.branches-3.result.0.0 in
    let lo_half : IsHalf whole x false lo_of = ite_half a a f g h x false whole (grows_none a whole) _ _ _ p.live.0 q.live.0 s.live.0 p.lo q.lo s.lo in
    let lo_made : Makes d0 m lo_of (Ok c.in-Ok.lo) = c.in-Ok.ensures in
    let d : Diagrams = c.choose-2.new.self in
    let hi_of : Function = ite_of m.nodes c.branches.result.1.0 c.branches-2.result.1.0 c.branches-3.result.1.0 in
    let hi_half : IsHalf whole x true hi_of = ite_half a m.nodes f g h x true lo_of lo_made.grows _ _ _ p.live.1 q.live.1 s.live.1 p.hi q.hi s.hi in
    let hi_made : Makes m d hi_of (Ok c.in-Ok-choose.hi) = c.in-Ok-choose.ensures in
    let e : Diagrams = c.join.new.self in
    let join_made = joined d0 m d whole x from x_in lo_of hi_of lo_half hi_half c.in-Ok.lo c.in-Ok-choose.hi lo_made hi_made e in
    let made : Makes d0 e whole (Ok c.in-Ok-join.r) = join_made (Ok c.in-Ok-join.r) c.in-Ok-join.ensures in
    subst (λ z. Makes d0 z whole (Ok c.in-Ok-join.r)) (sym c.remember.ensures) made
