-- The bits that an assignment of a written model gives: constants, nodes, outputs.
use Rattle.std.proofs.Common.{◌≡◌, ℕ, ◌+◌, ◌<◌, ◌&&◌, ◌||◌, Bool, true, false, not, cond, List, [], ◌∷◌, ◌++◌, Option, length, arith, ap, refl, sym, ◌∙◌}
use Rattle.std.specs.Prelude.{option_map, unwrap_or}
use Rattle.std.proofs.lemmas.List.{length-map}
use Rattle.std.proofs.lemmas.Option.{slice_get-map}
use Rattle.plain_models.specs.Flat.{flat_form, number_in, numbered_cover}
use Rattle.plain_models.specs.Texts.{PlainCover}
use Rattle.vrt_model.proofs.Lists.{at_back, at_front, at_there, map_among}
use Rattle.vrt_model.specs.Assignment.{Assignment, Obeys}
use Rattle.vrt_model.specs.Covers.{cover_bit}
use Rattle.vrt_model.specs.Lists.{Among, At, bit_at}
use Rattle.written_models.proofs.Covers.{node_there, output_there}
use Rattle.written_models.proofs.NodeBits.{numbers_show}
use Rattle.written_models.proofs.NodeOrder.{nodes_are_ordered}
use Rattle.written_models.specs.Functions.{Function, Node, branch_of, number_of}
use Rattle.written_models.specs.NodeLaws.{HasNodeBits}
use Rattle.written_models.specs.Written.{Logic, constants, covers_of_nodes, covers_of_outputs, node_cover, nodes_in, numbered, output_cover, variable_at, written_model}
use Rattle.written_models.specs.WrittenLaws.{variable_bits}

-- the rows of a node are 1 where the branch is that its variable picks
picks : (variable low high : Bool) → ((not variable && (low && true)) || ((variable && (true && (high && true))) || false)) ≡ cond variable high low
picks true low true = refl
picks true low false = refl
picks false true high = refl
picks false false high = refl

copies : (b : Bool) → ((b && true) || false) ≡ b
copies true = refl
copies false = refl

module _ (l : Logic) (default_clock : Bool) (held : ℕ → Bool) (g : Assignment) (obeys : Obeys (flat_form (written_model l)) default_clock held g) where
  abbrev nodes : List Node
  nodes = nodes_in l

  abbrev inputs : ℕ
  inputs = length l.variables

  -- the bit of the signal of a name
  abbrev bit_of : List ℕ → Bool
  bit_of name = g.signal (number_in (written_model l) name)

  abbrev xs : List PlainCover
  xs = covers_of_nodes l.variables nodes 2 nodes

  abbrev ys : List PlainCover
  ys = covers_of_outputs inputs nodes l.outputs l.functions

  -- a cover of the model gives its output its bit
  covered : (c : PlainCover) → Among (constants ++ xs ++ ys) c → bit_of c.output ≡ cover_bit g.signal (numbered_cover (number_in (written_model l)) c)
  covered c there = obeys.covers (numbered_cover (number_in (written_model l)) c) (map_among (numbered_cover (number_in (written_model l))) (constants ++ xs ++ ys) c there)

  constant_there : (i : ℕ) (c : PlainCover) → At constants i c → Among (constants ++ xs ++ ys) c
  constant_there i c e = (i, at_front (constants ++ xs) ys i c (at_front constants xs i c e))

  low_is : bit_of (numbered 0) ≡ false
  low_is = covered (record { inputs = []; output = numbered 0; rows = [] }) (constant_there 0 (record { inputs = []; output = numbered 0; rows = [] }) refl)

  high_is : bit_of (numbered 1) ≡ true
  high_is = covered (record { inputs = []; output = numbered 1; rows = [] ∷ [] }) (constant_there 1 (record { inputs = []; output = numbered 1; rows = [] ∷ [] }) refl)

  variable_is : (i : ℕ) → i < inputs → bit_at (variable_bits l g) i ≡ bit_of (variable_at l.variables i)
  variable_is i lt =
      let there = at_there l.variables i lt in
      ap (λ (o : Option Bool). unwrap_or o false) (slice_get-map bit_of l.variables i ∙ ap (option_map bit_of) there.1)
      ∙ ap (λ (o : Option (List ℕ)). bit_of (unwrap_or o [])) (sym there.1)

  node_is : (i : ℕ) (node : Node) → At nodes i node
      → bit_of (numbered (2 + i)) ≡ cond (bit_at (variable_bits l g) node.input) (bit_of (numbered (branch_of nodes node true))) (bit_of (numbered (branch_of nodes node false)))
  node_is i node e =
      let placed = (nodes_are_ordered inputs l.functions).0 i node e in
      let sum = placed.inputs_left in
      let some = placed.some_left in
      let c = node_cover l.variables nodes (2 + i) node in
      covered c (length constants + i, at_front (constants ++ xs) ys (length constants + i) c (at_back constants xs i c (node_there l.variables nodes 2 nodes i node e)))
      ∙ picks (bit_of (variable_at l.variables node.input)) (bit_of (numbered (branch_of nodes node false))) (bit_of (numbered (branch_of nodes node true)))
      ∙ ap (λ (b : Bool). cond b (bit_of (numbered (branch_of nodes node true))) (bit_of (numbered (branch_of nodes node false)))) (sym (variable_is node.input (omega (arith, sum, some))))

  node_bits : HasNodeBits nodes (variable_bits l g) (λ k. bit_of (numbered k))
  node_bits = record { nought = low_is; one = high_is; each = node_is }

  output_is : (i : ℕ) (name : List ℕ) (f : Function) → At l.outputs i name → At l.functions i f → bit_of name ≡ f (variable_bits l g)
  output_is i name f a b =
      let c = output_cover inputs nodes name f in
      covered c (length (constants ++ xs) + i, at_back (constants ++ xs) ys i c (output_there inputs nodes l.outputs l.functions i name f a b))
      ∙ copies (bit_of (numbered (number_of inputs 0 f nodes)))
      ∙ numbers_show inputs l.functions (variable_bits l g) (λ k. bit_of (numbered k)) (length-map l.variables bit_of) node_bits f (i, b)

pub written_outputs_show : (l : Logic) (default_clock : Bool) (held : ℕ → Bool) (g : Assignment) → Obeys (flat_form (written_model l)) default_clock held g
    → (i : ℕ) (name : List ℕ) (f : Function) → At l.outputs i name → At l.functions i f → g.signal (number_in (written_model l) name) ≡ f (variable_bits l g)
written_outputs_show l default_clock held g obeys = output_is l default_clock held g obeys
