-- What a question to `ite` comes to in its standard form.
use Rattle.std.specs.Prelude.{ℕ, ◌<◌, ◌≤◌, List}
use Rattle.node_pool.specs.declared.region.Node.{Node}
use Rattle.bdd_core.specs.declared.handle.H.{H}
use Rattle.bdd_core.specs.declared.standard.Form.{Form}
use Rattle.bdd_core.specs.declared.standard.Form.TheVariants.{Known, Asks}
use Rattle.bdd_core.specs.Diagram.{IsSame, choice, meaning}

-- r is `ite` of f, g and h, over any nodes, and live where they are
pub record IsKnown (f g h r : H) : Type 0 where
  pub live : (n : ℕ) → 2 ≤ n → f.0 < n → g.0 < n → h.0 < n → r.0 < n
  pub same : (nodes : List Node) → IsSame (meaning nodes r.0) (choice (meaning nodes f.0) (meaning nodes g.0) (meaning nodes h.0))

-- `ite` of f, p and q is `ite` of f, g and h, over any nodes; f is no constant, and no place is greater
pub record IsAsked (f g h p q : H) : Type 0 where
  pub first : 2 ≤ f.0
  pub high : p.0 ≤ g.0
  pub low : q.0 ≤ h.0
  pub same : (nodes : List Node) → IsSame (choice (meaning nodes f.0) (meaning nodes p.0) (meaning nodes q.0)) (choice (meaning nodes f.0) (meaning nodes g.0) (meaning nodes h.0))

abbrev pub IsForm : H → H → H → Form → Type 0
IsForm f g h (Known r) = IsKnown f g h r
IsForm f g h (Asks p q) = IsAsked f g h p q
