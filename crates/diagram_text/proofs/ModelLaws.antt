-- The model of lines is the written one of the functions, and has as many signals.
use Rattle.std.proofs.Common.{◌≡◌, ℕ, ◌+◌, List, [], ◌∷◌, ◌++◌, Result, length, map, ap, ap₂, refl, sym, subst, ◌∙◌, arith}
use Rattle.std.proofs.lemmas.List.{length-map}
use Rattle.bdd_core.specs.Store.{Diagrams}
use Rattle.bdd_core.specs.declared.handle.H.{H}
use Rattle.diagram_lists.specs.Listed.{IsNodeList, functions_of, node_of, nodes_below}
use Rattle.diagram_lists.specs.declared.list.NodeList.{NodeList}
use Rattle.diagram_text.proofs.LineLaws.{nodes_same, roots_same}
use Rattle.diagram_text.specs.Lines.{line_at, root_at}
use Rattle.diagram_text.specs.Texts.{HasLines, IsLogicIn, ModelGives, ShapedGives, TextGives}
use Rattle.diagram_text.specs.declared.text.Interface.{Interface}
use Rattle.diagram_text.specs.declared.text.TextRefusal.{TextRefusal}
use Rattle.model_writer.specs.Counts.{signal_count}
use Rattle.model_writer.specs.Shapes.{line_covers, root_covers, shaped_model, shaped_signals}
use Rattle.model_writer.specs.declared.model.ModelLines.{ModelLines}
use Rattle.model_writer.specs.declared.model.NodeLine.{NodeLine}
use Rattle.plain_models.specs.Texts.{PlainCover, PlainModel}
use Rattle.written_models.specs.Functions.{Function, Node, nodes_of}
use Rattle.written_models.specs.Written.{Logic, constants, covers_of_nodes, covers_of_outputs, nodes_in, other_clocks, written_model}

same_model : (n1 n2 : List ℕ) (i1 i2 c1 c2 o1 o2 : List (List ℕ)) (x1 x2 : List PlainCover) → n1 ≡ n2 → i1 ≡ i2 → c1 ≡ c2 → o1 ≡ o2 → x1 ≡ x2
    → ◌≡◌ {A = PlainModel} (record { name = n1; inputs = i1; clocks = c1; outputs = o1; covers = x1 }) (record { name = n2; inputs = i2; clocks = c2; outputs = o2; covers = x2 })
same_model n1 n2 i1 i2 c1 c2 o1 o2 x1 x2 a b c d e = rw (a, b, c, d, e) refl

module _ (d : Diagrams) (handles : List H) (list : NodeList) (is : IsNodeList d handles list) (interface : Interface) (l : Logic) (logic : IsLogicIn d handles interface l)
    (count : length interface.variables.now ≡ d.vars) (m : ModelLines) (nodes : List NodeLine) (roots : List ℕ) (lines : HasLines interface nodes roots m)
    (nodes_are : nodes ≡ map (line_at d list) list.nodes.items) (roots_are : roots ≡ map (root_at list) handles) where
  abbrev below : List Node
  below = nodes_below d handles

  vars_are : length l.variables ≡ d.vars
  vars_are = ap (λ (xs : List (List ℕ)). length xs) logic.variables ∙ count

  own_nodes : nodes_in l ≡ nodes_below d handles
  own_nodes = ap₂ (λ (n : ℕ) (fs : List Function). nodes_of n fs) vars_are logic.functions

  node_covers : line_covers m.variables.now 2 m.nodes.now ≡ covers_of_nodes l.variables (nodes_in l) 2 (nodes_in l)
  node_covers =
      ap₂ (λ (vs : List (List ℕ)) (ns : List NodeLine). line_covers vs 2 ns) (lines.variables ∙ sym logic.variables) (lines.nodes_are ∙ nodes_are)
      ∙ nodes_same d handles list is l.variables 2 list.nodes.items (λ h m. m)
      ∙ ap (λ (ns : List Node). covers_of_nodes l.variables below 2 ns) is.nodes
      ∙ ap (λ (ns : List Node). covers_of_nodes l.variables ns 2 ns) (sym own_nodes)

  root_covers_are : root_covers m.outputs.now m.roots.now ≡ covers_of_outputs (length l.variables) (nodes_in l) l.outputs l.functions
  root_covers_are =
      ap₂ (λ (names : List (List ℕ)) (rs : List ℕ). root_covers names rs) (lines.outputs ∙ sym logic.outputs) (lines.roots_are ∙ roots_are)
      ∙ roots_same d handles list is l.outputs handles (λ h m. m)
      ∙ ap₂ (λ (n : ℕ) (ns : List Node). covers_of_outputs n ns l.outputs (functions_of d handles)) (sym vars_are) (sym own_nodes)
      ∙ ap (λ (fs : List Function). covers_of_outputs (length l.variables) (nodes_in l) l.outputs fs) (sym logic.functions)

  pub model_same : shaped_model m ≡ written_model l
  model_same =
      same_model _ _ _ _ _ _ _ _ _ _ (lines.name ∙ sym logic.name) (lines.inputs ∙ sym logic.inputs) (lines.clocks ∙ sym logic.clocks) (lines.outputs ∙ sym logic.outputs)
      (ap₂ (λ (ns rs : List PlainCover). (constants ++ ns) ++ rs) node_covers root_covers_are)

  pub signals_same : shaped_signals m ≡ signal_count l
  signals_same =
      let inputs = ap (λ (xs : List (List ℕ)). length xs) (lines.inputs ∙ sym logic.inputs) in
      let clocks = ap (λ (xs : List (List ℕ)). length xs) (lines.clocks ∙ sym logic.clocks) in
      let outputs = ap (λ (xs : List (List ℕ)). length xs) (lines.outputs ∙ sym logic.outputs) in
      let made : length m.nodes.now ≡ length list.nodes.items = ap (λ (xs : List NodeLine). length xs) (lines.nodes_are ∙ nodes_are) ∙ length-map list.nodes.items (line_at d list) in
      let own : length (nodes_in l) ≡ length list.nodes.items = ap (λ (xs : List Node). length xs) (own_nodes ∙ sym is.nodes) ∙ length-map list.nodes.items (node_of d) in
      omega (arith, inputs, clocks, outputs, made, own)

  -- so what the lines give, the functions give
  pub gives : (result : Result (List ℕ) TextRefusal) → ShapedGives m result → TextGives l result
  gives result g = subst (λ (w : PlainModel). ModelGives (signal_count l) w result) model_same (subst (λ (n : ℕ). ModelGives n (shaped_model m) result) signals_same g)
