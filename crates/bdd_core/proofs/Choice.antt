-- The parts of `ite`.
use Rattle.std.proofs.Common.{◌≡◌, ℕ, ◌<◌, ◌≤◌, Bool, true, false, cond, List, length, refl, arith}
use Rattle.node_pool.specs.declared.region.Node.{Node}
use Rattle.bdd_core.specs.Diagram.{Function, IsSame, meaning, top, IsReduced, Grows, choice}
use Rattle.bdd_core.proofs.Growth.{IsFrom, grows_keeps}
use Rattle.bdd_core.proofs.Steps.{from_meaning, from_choice}
use Rattle.bdd_core.proofs.Halves.{IsHalf}

abbrev pub ite_of : List Node → ℕ → ℕ → ℕ → Function
ite_of ns f g h = choice (meaning ns f) (meaning ns g) (meaning ns h)

module _ (vars : ℕ) (a : List Node) (f g h x : ℕ) (r : IsReduced vars a)
    (f_in : f < length a) (g_in : g < length a) (h_in : h < length a)
    (f_le : x ≤ top a f) (g_le : x ≤ top a g) (h_le : x ≤ top a h) where
  pub ite_from : IsFrom x (ite_of a f g h)
  ite_from = from_choice (meaning a f) (meaning a g) (meaning a h) x (from_meaning vars a x f r f_in f_le) (from_meaning vars a x g r g_in g_le) (from_meaning vars a x h r h_in h_le)

-- `ite` of the parts is a part of `ite`, in a list that has grown
pub ite_half : (a ns : List Node) (f g h x : ℕ) (b : Bool) (k : Function) → Grows a ns k → (p q s : ℕ) → p < length a → q < length a → s < length a →
    IsHalf (meaning a f) x b (meaning a p) → IsHalf (meaning a g) x b (meaning a q) → IsHalf (meaning a h) x b (meaning a s) → IsHalf (ite_of a f g h) x b (ite_of ns p q s)
ite_half a ns f g h x b k grown p q s p_in q_in s_in pf qg sh v =
    rw (grows_keeps a ns k grown p p_in v, grows_keeps a ns k grown q q_in v, grows_keeps a ns k grown s s_in v, pf v, qg v, sh v) refl

-- `ite` of the same places, in a list that has grown
pub ite_keeps : (a ns : List Node) (f g h : ℕ) (k : Function) → Grows a ns k → f < length a → g < length a → h < length a → IsSame (ite_of ns f g h) (ite_of a f g h)
ite_keeps a ns f g h k grown f_in g_in h_in v = rw (grows_keeps a ns k grown f f_in v, grows_keeps a ns k grown g g_in v, grows_keeps a ns k grown h h_in v) refl

pub cond_self : (b : Bool) → b ≡ cond b true false
cond_self true = refl
cond_self false = refl

pub either_way : (b x : Bool) → x ≡ cond b x x
either_way true x = refl
either_way false x = refl

-- a disjunction and a conjunction with a constant
pub self_or_zero : (b : Bool) → b ≡ cond b b false
self_or_zero true = refl
self_or_zero false = refl

pub self_or_one : (b : Bool) → true ≡ cond b b true
self_or_one true = refl
self_or_one false = refl

pub self_and_zero : (b : Bool) → false ≡ cond b false b
self_and_zero true = refl
self_and_zero false = refl

pub self_and_one : (b : Bool) → b ≡ cond b true b
self_and_one true = refl
self_and_one false = refl

-- a constant in the place of a function that is tested
pub then_true : (f h : Bool) → cond f true h ≡ cond f f h
then_true true h = refl
then_true false h = refl

pub else_false : (f g : Bool) → cond f g false ≡ cond f g f
else_false true g = refl
else_false false g = refl

-- the operands of a conjunction and of a disjunction turned
pub and_turned : (f g : Bool) → cond g f false ≡ cond f g false
and_turned true true = refl
and_turned true false = refl
and_turned false true = refl
and_turned false false = refl

pub or_turned : (f g : Bool) → cond g true f ≡ cond f true g
or_turned true true = refl
or_turned true false = refl
or_turned false true = refl
or_turned false false = refl

pub is_below : (vars : ℕ) (ns : List Node) (i : ℕ) → IsReduced vars ns → 2 ≤ i → i < length ns → top ns i < vars
is_below vars ns i r high within = omega (arith, Rattle.bdd_core.proofs.Canonical.top_is vars ns r i, (r.proper i high within).var_below)
