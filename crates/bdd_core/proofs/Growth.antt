-- Subfunctions, and diagrams that grow.
use Rattle.std.proofs.Common.{◌≡◌, ℕ, ◌+◌, ◌<◌, ◌≤◌, max, Bool, true, false, cond, List, [], ◌∷◌, ◌++◌, length, refl, sym, ap, ◌∙◌, inl, inr, arith, length-append, append_assoc, append-nil}
use mathlib.Core.Path.{fun_ext}
use Rattle.std.proofs.lemmas.List.{length_push}
use Rattle.std.proofs.lemmas.Bool.{cases_lt, cases_eq}
use Rattle.node_pool.specs.declared.region.Node.{Node}
use Rattle.bdd_core.specs.Diagram.{with_bit, Valuation, Function, IsSame, meaning, splice, IsSubfunction, Grows, Lacks}
use Rattle.bdd_core.proofs.Meaning.{meaning-append}

splice_none : (u v : Valuation) (x : ℕ) → splice 0 u v x ≡ v x
splice_none u v x = grind arith

splice_splice : (j k : ℕ) (u w v : Valuation) (x : ℕ) → splice j u (splice k w v) x ≡ splice (max j k) (splice j u w) v x
splice_splice j k u w v x = elim (cases_lt x j) [
  | inl low ↦ grind arith
  | inr high ↦ elim (cases_lt x k) [ inl low' ↦ grind arith | inr high' ↦ grind arith ]
]

pub splice_early : (k : ℕ) (u v : Valuation) (x : ℕ) → x < k → splice k u v x ≡ u x
splice_early k u v x early = grind arith

pub splice_late : (k : ℕ) (u v : Valuation) (x : ℕ) → k ≤ x → splice k u v x ≡ v x
splice_late k u v x late = grind arith

-- where two valuations have the same first u bits, so they have behind the same fixed ones
pub splice_within : (k u : ℕ) (w a b : Valuation) → ((y : ℕ) → y < u → a y ≡ b y) → (y : ℕ) → y < u → splice k w a y ≡ splice k w b y
splice_within k u w a b same y below = elim (cases_lt y k) [ inl low ↦ grind arith | inr high ↦ let e : a y ≡ b y = same y below in grind arith ]

pub sub_refl : (f : Function) → IsSubfunction f f
sub_refl f = record { first = 0; fixed = λ _. false; is = λ v. ap f (sym (fun_ext (λ x. splice_none (λ _. false) v x))) }

pub sub_same : (g f : Function) → IsSame g f → IsSubfunction g f
sub_same g f same = record { first = 0; fixed = λ _. false; is = λ v. same v ∙ ap f (sym (fun_ext (λ x. splice_none (λ _. false) v x))) }

pub sub_trans : (h g f : Function) → IsSubfunction h g → IsSubfunction g f → IsSubfunction h f
sub_trans h g f a b = record {
  first = max b.first a.first;
  fixed = splice b.first b.fixed a.fixed;
  is = λ v. a.is v ∙ b.is (splice a.first a.fixed v) ∙ ap f (fun_ext (λ x. splice_splice b.first a.first b.fixed a.fixed v x));
}

-- the function reads no variable before x
abbrev pub IsFrom : ℕ → Function → Type 0
IsFrom x f = (v w : Valuation) → ((y : ℕ) → x ≤ y → v y ≡ w y) → f v ≡ f w

splice_bit : (x : ℕ) (b : Bool) (v : Valuation) (y : ℕ) → x ≤ y → with_bit v x b y ≡ splice (x + 1) (λ _. b) v y
splice_bit x b v y later = elim (cases_eq y x) [ inl here ↦ grind arith | inr other ↦ grind arith ]

-- a function with its first variable fixed
pub sub_bit : (f : Function) (x : ℕ) (b : Bool) → IsFrom x f → IsSubfunction (λ v. f (with_bit v x b)) f
sub_bit f x b from = record { first = x + 1; fixed = λ _. b; is = λ v. from (with_bit v x b) (splice (x + 1) (λ _. b) v) (splice_bit x b v) }

pub from_bit : (f : Function) (x : ℕ) (b : Bool) → IsFrom x f → IsFrom (x + 1) (λ v. f (with_bit v x b))
from_bit f x b from v w same = from (with_bit v x b) (with_bit w x b) (λ y later. elim (cases_eq y x) [
  | inl here ↦ grind arith
  | inr other ↦ let e : v y ≡ w y = same y (omega arith) in grind arith
])

with_own_bit : (v : Valuation) (x : ℕ) (b : Bool) → v x ≡ b → (y : ℕ) → with_bit v x b y ≡ v y
with_own_bit v x b is y = elim (cases_eq y x) [ inl here ↦ grind (arith, ap v here) | inr other ↦ grind arith ]

-- a function is its two branches at any variable
pub branches_join : (f : Function) (x : ℕ) (v : Valuation) → cond (v x) (f (with_bit v x true)) (f (with_bit v x false)) ≡ f v
branches_join f x v =
    let go : (b : Bool) → v x ≡ b → cond b (f (with_bit v x true)) (f (with_bit v x false)) ≡ f v =
    λ b. elim b as (λ b. v x ≡ b → cond b (f (with_bit v x true)) (f (with_bit v x false)) ≡ f v) [
      | true ↦ λ is. ap f (fun_ext (with_own_bit v x true is))
      | false ↦ λ is. ap f (fun_ext (with_own_bit v x false is))
    ] in
    go (v x) refl

pub grows_none : (nodes : List Node) (f : Function) → Grows nodes nodes f
grows_none nodes f = record { more = []; is = sym (append-nil nodes); added = λ i from below. absurd (omega arith) }

pub grows_length : (old new : List Node) (f : Function) → Grows old new f → length old ≤ length new
grows_length old new f g = omega (arith, ap length g.is, length-append old g.more)

pub grows_keeps : (old new : List Node) (f : Function) → Grows old new f → (i : ℕ) → i < length old → IsSame (meaning new i) (meaning old i)
grows_keeps old new f g i within v = ap (λ ns. meaning ns i v) g.is ∙ meaning-append old g.more i v within

pub grows_sub : (old new : List Node) (g f : Function) → IsSubfunction g f → Grows old new g → Grows old new f
grows_sub old new g f sub grown = record { more = grown.more; is = grown.is; added = λ i from below. sub_trans (meaning new i) g f (grown.added i from below) sub }

pub grows_then : (a b c : List Node) (f : Function) → Grows a b f → Grows b c f → Grows a c f
grows_then a b c f first second = record {
  more = first.more ++ second.more;
  is = second.is ∙ ap (λ ns. ns ++ second.more) first.is ∙ append_assoc a first.more second.more;
  added = λ i from below. elim (cases_lt i (length b)) [
    | inl low ↦ sub_trans (meaning c i) (meaning b i) f (sub_same (meaning c i) (meaning b i) (grows_keeps b c f second i low)) (first.added i from low)
    | inr high ↦ second.added i high below
  ];
}

-- one node, which is of the diagram
pub grows_push : (nodes : List Node) (n : Node) (f : Function) → IsSame (meaning (nodes ++ n ∷ []) (length nodes)) f → Grows nodes (nodes ++ n ∷ []) f
grows_push nodes n f is = record {
  more = n ∷ [];
  is = refl;
  added = λ i from below.
      let at : i ≡ length nodes = omega (arith, length_push nodes n) in
      rw at (sub_same (meaning (nodes ++ n ∷ []) (length nodes)) f is);
}

pub lacks_sub : (nodes : List Node) (g f : Function) → IsSubfunction g f → Lacks nodes g → Lacks nodes f
lacks_sub nodes g f sub lacks = record { sub = lacks.sub; of = sub_trans lacks.sub g f lacks.of sub; absent = lacks.absent }
