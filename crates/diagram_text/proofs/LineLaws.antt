-- The covers of nodes by their numbers are those of the nodes' functions.
use Rattle.std.proofs.Common.{◌≡◌, ℕ, suc, List, [], ◌∷◌, length, map, ap₂, refl}
use Rattle.std.specs.Prelude.{codes}
use Rattle.bdd_core.specs.Diagram.{top}
use Rattle.bdd_core.specs.Store.{Diagrams}
use Rattle.bdd_core.specs.declared.handle.H.{H}
use Rattle.diagram_lists.specs.Listed.{IsNodeList, function_from, node_of, nodes_below}
use Rattle.diagram_lists.specs.declared.list.NodeList.{NodeList}
use Rattle.diagram_text.specs.Lines.{line_at, root_at}
use Rattle.model_writer.specs.Shapes.{line_cover, line_covers, root_cover, root_covers}
use Rattle.model_writer.specs.declared.model.NodeLine.{NodeLine}
use Rattle.plain_models.specs.Texts.{PlainCover}
use Rattle.vrt_model.proofs.Members.{among_later}
use Rattle.vrt_model.specs.Lists.{Among}
use Rattle.written_models.specs.Written.{covers_of_nodes, covers_of_outputs, node_cover, numbered, output_cover, variable_at}

-- a line from its parts
pub same_line : (a b c x y z : ℕ) → a ≡ x → b ≡ y → c ≡ z
    → ◌≡◌ {A = NodeLine} (record { variable = a; low = b; high = c }) (record { variable = x; low = y; high = z })
same_line a b c x y z e f g = rw (e, f, g) refl

module _ (d : Diagrams) (handles : List H) (list : NodeList) (is : IsNodeList d handles list) where
  node_same : (variables : List (List ℕ)) (k : ℕ) (h : H) → Among list.nodes.items h
      → line_cover variables k (line_at d list h) ≡ node_cover variables (nodes_below d handles) k (node_of d h)
  node_same variables k h m =
      ap₂ (λ (lo hi : ℕ).
      let cover : PlainCover = record {
        inputs = variable_at variables (top d.nodes h.0) ∷ numbered lo ∷ numbered hi ∷ [];
        output = numbered k;
        rows = codes "01-" ∷ codes "1-1" ∷ [];
      } in
      cover) (is.low h m) (is.high h m)

  pub nodes_same : (variables : List (List ℕ)) (k : ℕ) (hs : List H) → ((h : H) → Among hs h → Among list.nodes.items h)
      → line_covers variables k (map (line_at d list) hs) ≡ covers_of_nodes variables (nodes_below d handles) k (map (node_of d) hs)
  nodes_same variables k [] there = refl
  nodes_same variables k (h ∷ hs) there =
      ap₂ (λ (c : PlainCover) (cs : List PlainCover). c ∷ cs) (node_same variables k h (there h (0, refl)))
      (nodes_same variables (suc k) hs (λ x m. there x (among_later h hs x m)))

  root_same : (name : List ℕ) (h : H) → Among handles h → root_cover name (root_at list h) ≡ output_cover d.vars (nodes_below d handles) name (function_from d 0 h)
  root_same name h m =
      ap₂ (λ (n : ℕ) (own : List ℕ). let cover : PlainCover = record { inputs = numbered n ∷ []; output = own; rows = codes "1" ∷ [] } in cover) (is.roots h m) refl

  pub roots_same : (names : List (List ℕ)) (hs : List H) → ((h : H) → Among hs h → Among handles h)
      → root_covers names (map (root_at list) hs) ≡ covers_of_outputs d.vars (nodes_below d handles) names (map (function_from d 0) hs)
  roots_same [] hs there = refl
  roots_same (name ∷ names) [] there = refl
  roots_same (name ∷ names) (h ∷ hs) there =
      ap₂ (λ (c : PlainCover) (cs : List PlainCover). c ∷ cs) (root_same name h (there h (0, refl))) (roots_same names hs (λ x m. there x (among_later h hs x m)))
