-- Ordered decision diagrams as lists of nodes, and the functions that their places stand for.
use Rattle.std.specs.Prelude.{◌≡◌, ℕ, zero, suc, ◌<◌, ◌≤◌, ◌≢◌, Bool, false, cond, eqb, ltb, List, ◌++◌, length, slice_index_or}
use Rattle.node_pool.specs.declared.region.Node.{Node}

-- a bit for each variable
abbrev pub Valuation : Type 0
Valuation = ℕ → Bool

abbrev pub Function : Type 0
Function = Valuation → Bool

abbrev pub IsSame : Function → Function → Type 0
IsSame f g = (v : Valuation) → f v ≡ g v

unfoldable pub no_node : Node
no_node = record { var = 0; lo = 0; hi = 0 }

abbrev pub node_at : List Node → ℕ → Node
node_at nodes i = slice_index_or nodes i no_node

-- the value of the place i, which is below n; the places 0 and 1 are the two ends, and a node's branches lie below it
abbrev pub value : List Node → Valuation → ℕ → ℕ → Bool
value nodes v zero i = false
value nodes v (suc n) i = cond (eqb i n)
    (cond (ltb n 2) (eqb n 1) (cond (v (node_at nodes n).var) (value nodes v n (node_at nodes n).hi) (value nodes v n (node_at nodes n).lo)))
    (value nodes v n i)

-- the function of a place
unfoldable pub meaning : List Node → ℕ → Function
meaning nodes i v = value nodes v (suc i) i

-- the variable that a place tests; the ends have the number after the last
unfoldable pub top : List Node → ℕ → ℕ
top nodes i = (node_at nodes i).var

-- the branches of a node lie below it, differ, and test only later variables
pub record IsProper (vars : ℕ) (nodes : List Node) (n : Node) (i : ℕ) : Type 0 where
  pub lo_below : n.lo < i
  pub hi_below : n.hi < i
  pub differ : n.lo ≢ n.hi
  pub lo_later : n.var < top nodes n.lo
  pub hi_later : n.var < top nodes n.hi
  pub var_below : n.var < vars

-- a reduced ordered diagram: two ends, proper nodes, no node twice
pub record IsReduced (vars : ℕ) (nodes : List Node) : Type 0 where
  pub ends : 2 ≤ length nodes
  pub zero_end : top nodes 0 ≡ vars
  pub one_end : top nodes 1 ≡ vars
  pub proper : (i : ℕ) → 2 ≤ i → i < length nodes → IsProper vars nodes (node_at nodes i) i
  pub once : (i j : ℕ) → i < length nodes → j < length nodes → node_at nodes i ≡ node_at nodes j → i ≡ j

-- the first k bits of u, then those of v
abbrev pub splice : ℕ → Valuation → Valuation → Valuation
splice k u v = λ x. cond (ltb x k) (u x) (v x)

-- g is f with its first k variables fixed, for some k
pub record IsSubfunction (g f : Function) : Type 0 where
  pub first : ℕ
  pub fixed : Valuation
  pub is : (v : Valuation) → g v ≡ f (splice first fixed v)

-- f reads only the first u variables
abbrev pub IsWithin : ℕ → Function → Type 0
IsWithin u f = (v w : Valuation) → ((y : ℕ) → y < u → v y ≡ w y) → f v ≡ f w

-- each node that is no end tests one of the first u variables
abbrev pub TestsWithin : ℕ → List Node → Type 0
TestsWithin u nodes = (i : ℕ) → 2 ≤ i → i < length nodes → top nodes i < u

-- each subfunction of f has a place
abbrev pub HasWhole : List Node → Function → Type 0
HasWhole nodes f = (g : Function) → IsSubfunction g f → (i : ℕ) × (i < length nodes) × IsSame (meaning nodes i) g

-- some subfunction of f has no place
pub record Lacks (nodes : List Node) (f : Function) : Type 0 where
  pub sub : Function
  pub of : IsSubfunction sub f
  pub absent : (i : ℕ) → i < length nodes → IsSame (meaning nodes i) sub → ⊥

-- nodes were only appended, and each of them is of the diagram of f
pub record Grows (old new : List Node) (f : Function) : Type 0 where
  pub more : List Node
  pub is : new ≡ old ++ more
  pub added : (i : ℕ) → length old ≤ i → i < length new → IsSubfunction (meaning new i) f

-- one function where c is 1, the other where it is 0
abbrev pub choice : Function → Function → Function → Function
choice c g h = λ v. cond (c v) (g v) (h v)

abbrev pub bit_of : ℕ → Function
bit_of x = λ v. v x

-- v with the bit b at x
abbrev pub with_bit : Valuation → ℕ → Bool → Valuation
with_bit v x b = λ y. cond (eqb y x) b (v y)

-- f with the bit b at x
abbrev pub fixed : Function → ℕ → Bool → Function
fixed f x b = λ v. f (with_bit v x b)

-- more than m nodes of some diagrams are not there: so many different functions of them have no place
pub record MissesMoreOf (nodes : List Node) (IsOf : Function → Type 0) (m : ℕ) : Type 0 where
  pub subs : ℕ → Function
  pub of : (i : ℕ) → i ≤ m → IsOf (subs i)
  pub absent : (i : ℕ) → i ≤ m → (j : ℕ) → j < length nodes → IsSame (meaning nodes j) (subs i) → ⊥
  pub differ : (i j : ℕ) → i ≤ m → j ≤ m → IsSame (subs i) (subs j) → i ≡ j

-- more than m nodes of the diagram of f are not there
abbrev pub MissesMore : List Node → Function → ℕ → Type 0
MissesMore nodes f m = MissesMoreOf nodes (λ g. IsSubfunction g f) m
