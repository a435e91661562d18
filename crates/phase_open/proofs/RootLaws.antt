-- The roots of nets, one after the other.
use Rattle.std.proofs.Common.{◌≡◌, ℕ, ◌+◌, ◌<◌, ◌≤◌, Bool, true, false, cond, List, Ok, Err, length, arith, ap, refl, sym, subst, ◌∙◌, inl, inr}
use Rattle.std.specs.Prelude.{◌≢◌, slice_get, slice_index_or}
use Rattle.std.proofs.lemmas.Bool.{cases_eq}
use Rattle.std.proofs.lemmas.Option.{same_Some, slice_get_within}
use Rattle.node_pool.specs.declared.region.Span.{Span}
use Rattle.bdd_core.specs.Diagram.{Function, IsReduced, Valuation, meaning}
use Rattle.bdd_core.specs.Store.{Diagrams, Means}
use Rattle.bdd_core.specs.Words.{IsFilled, Writes, shows, word_at}
use Rattle.bdd_core.specs.declared.handle.H.{H}
use Rattle.bdd_core.specs.declared.handle.Spent.{Spent}
use Rattle.bdd_core.proofs.Frames.{shows_kept}
use Rattle.bdd_ops.proofs.CountingLaws.{counted_more, counts_err, counts_more, counts_ok, counts_then}
use Rattle.bdd_ops.specs.Counting.{Counts, IsCounted}
use Rattle.hold_keep.proofs.BitLaws.{constant_is}
use Rattle.phase_open.proofs.Sources.{input_below, variable_more, variables_few}
use Rattle.phase_open.specs.Given.{AreGivenBefore, input_count, root_by, variable_at}
use Rattle.vrt_model.specs.Lists.{At}
use Rattle.vrt_model.specs.Variables.{is_input}
use Rattle.vrt_model.specs.declared.circuit.Circuit.{Circuit}
use Rattle.vrt_model.specs.declared.circuit.FlatNet.{FlatNet}
use Rattle.vrt_model.specs.declared.circuit.NetKind.{NetKind}
use Rattle.vrt_model.specs.declared.circuit.NetKind.TheVariants.{Supply, Clock, Input, Plain}
use Rattle.vrt_model.specs.declared.rules.Phase.{Phase}

-- a constant has its bit everywhere
constant_below : (n : ℕ) (b : Bool) → 2 < n + 1 → cond b 1 0 < n
constant_below n true lt = omega (arith, lt)
constant_below n false lt = omega (arith, lt)

pub constant_live : (d : Diagrams) (b : Bool) → IsReduced d.vars d.nodes → cond b 1 0 < length d.nodes
constant_live d b sound = (let ends = sound.ends in constant_below (length d.nodes) b (omega (arith, ends)))

pub constant_means : (d : Diagrams) (h : H) (b : Bool) → IsReduced d.vars d.nodes → h.0 ≡ cond b 1 0 → Means d h (λ v. b)
constant_means d h b sound e = record {
  live = (let below = constant_live d b sound in omega (arith, e, below));
  same = λ v. ap (λ (x : ℕ). meaning d.nodes x v) e ∙ constant_is d.nodes v b;
}

-- operations, and then words that are written
pub counts_written : {A B : Type 0} (u n : ℕ) (old mid new : Diagrams) (x : A) (y : B) (ws : List ℕ) → new ≡ record mid { words = ws } → Counts u n old mid (Ok x) → Counts u n old new (Ok y)
counts_written {A} {B} u n old mid new x y ws is one =
    subst (λ (d : Diagrams). Counts {A = B} u n old d (Ok y)) (sym is) (record {
      added = record {
        budget = one.added.budget;
        more = one.added.more;
        is = one.added.is;
        few = one.added.few;
        early = one.added.early;
      };
      refused = tt;
    })

-- ---- the operations so far

pub counted_next : {A : Type 0} (u n : ℕ) (first old new : Diagrams) (x : A) → IsCounted u n first old → Counts u 1 old new (Ok x) → IsCounted u (n + 1) first new
counted_next u n first old new x counted one = (counts_then u n 1 first old new (Ok x) counted one).added

pub refused_next : {A B : Type 0} (u n all : ℕ) (first old new : Diagrams) (e : Spent) → n < all → IsCounted u n first old → Counts {A = A} u 1 old new (Err e) → Counts {A = B} u all first new (Err e)
refused_next {A} u n all first old new e lt counted one =
    let both : Counts {A = A} u (n + 1) first new (Err e) = counts_then u n 1 first old new (Err e) counted one in
    counts_more u (n + 1) all first new (Err e) (omega (arith, lt)) (counts_err u (n + 1) first new e both)

pub counts_done : {A : Type 0} (u n all : ℕ) (first new : Diagrams) (x : A) → n ≤ all → IsCounted u n first new → Counts u all first new (Ok x)
counts_done u n all first new x le counted = counts_ok u all first new x (counted_more u n all first new le counted)

-- ---- the nets

-- the nets of a list by the equal list that is read
pub net_kind : (xs ys : List FlatNet) (n : ℕ) (d : FlatNet) → ys ≡ xs → slice_index_or ys n d ≡ slice_index_or xs n d
net_kind xs ys n d e = ap (λ (zs : List FlatNet). slice_index_or zs n d) e

-- the variable of an input net is one of the first
pub variable_in : (c : Circuit) (ys : List FlatNet) (n variable vars : ℕ) (d : FlatNet) → ys ≡ c.nets → n < length ys → variable ≡ variable_at c n → input_count c ≤ vars
    → (slice_index_or ys n d).kind ≡ Input → variable < vars
variable_in c ys n variable vars d same lt is few kind =
    let inside : n < length c.nets = subst (λ (zs : List FlatNet). n < length zs) same lt in
    let below = input_below c n d inside (ap (λ (x : FlatNet). x.kind) (sym (net_kind c.nets ys n d same)) ∙ kind) in
    omega (arith, is, below, few)

-- the next variable
pub variable_next : (c : Circuit) (ys : List FlatNet) (n variable count : ℕ) (d : FlatNet) → ys ≡ c.nets → n < length ys → variable ≡ variable_at c n
    → count ≡ cond (is_input (slice_index_or ys n d).kind) 1 0 → variable + count ≡ variable_at c (n + 1)
variable_next c ys n variable count d same lt is counts =
    let inside : n < length c.nets = subst (λ (zs : List FlatNet). n < length zs) same lt in
    let own : count ≡ cond (is_input (slice_index_or c.nets n d).kind) 1 0 =
    counts ∙ ap {B = ℕ} (λ (x : FlatNet). cond (is_input x.kind) 1 0) (net_kind c.nets ys n d same) in
    omega (arith, is, own, variable_more c n d inside)

pub next_few : (c : Circuit) (n vars x : ℕ) → input_count c ≤ vars → x ≡ variable_at c (n + 1) → x ≤ vars
next_few c n vars x few e = omega (arith, few, e, variables_few c (n + 1))

-- a net that has not had its turn has its old word
abbrev pub IsAsBefore : Span → ℕ → Diagrams → Diagrams → Type 0
IsAsBefore roots from old new = (n : ℕ) → from ≤ n → word_at new roots n ≡ word_at old roots n

-- the bit of a net where what it had is the same
root_same : (phase : Phase) (kind : NetKind) (variable : ℕ) (f g : Function) (v : Valuation) → ((w : Valuation) → f w ≡ g w) → root_by phase kind variable f v ≡ root_by phase kind variable g v
root_same phase (Supply value) variable f g v same = refl
root_same phase (Clock clock) variable f g v same = refl
root_same phase Input variable f g v same = refl
root_same phase Plain variable f g v same = same v

-- one net more
module _ (c : Circuit) (phase : Phase) (roots : Span) (first old new : Diagrams) (before : Writes roots first old) (w : Writes roots old new) (live : IsFilled first roots)
    (len : length c.nets ≤ roots.len) (n : ℕ) (apart : (k : ℕ) → k ≢ n → word_at new roots k ≡ word_at old roots k) (net : FlatNet) (there : At c.nets n net)
    (is : (v : Valuation) → shows new roots n v ≡ root_by phase net.kind (variable_at c n) (λ x. shows old roots n x) v) (behind : IsAsBefore roots n first old)
    (given : AreGivenBefore c phase roots n first old) where
  pub behind_more : IsAsBefore roots (n + 1) first new
  behind_more j le = apart j (λ e. omega (arith, le, e)) ∙ behind j (omega (arith, le))

  here : (v : Valuation) → shows new roots n v ≡ root_by phase net.kind (variable_at c n) (λ x. shows first roots n x) v
  here v =
      let inside = slice_get_within c.nets n net there in
      is v ∙ root_same phase net.kind (variable_at c n) (λ x. shows old roots n x) (λ x. shows first roots n x) v
      (λ x. shows_kept roots roots first old n x before (behind n (omega arith)) (live n (omega (arith, inside, len))))

  pub given_more : AreGivenBefore c phase roots (n + 1) first new
  given_more j x lt at v =
      elim (cases_eq j n) [
        | inr ne ↦
            let below : j < n = omega (arith, lt, ne) in
            shows_kept roots roots old new j v w (apart j ne) (before.live j (omega (arith, slice_get_within c.nets j x at, len))) ∙ given j x below at v
        | inl e ↦
            let same : net ≡ x = same_Some net x (sym there ∙ (ap (λ (m : ℕ). slice_get c.nets m) (sym e) ∙ at)) in
            subst (λ (m : ℕ). shows new roots m v ≡ root_by phase x.kind (variable_at c m) (λ y. shows first roots m y) v) (sym e)
            (subst (λ (y : FlatNet). shows new roots n v ≡ root_by phase y.kind (variable_at c n) (λ z. shows first roots n z) v) same (here v))
      ]
