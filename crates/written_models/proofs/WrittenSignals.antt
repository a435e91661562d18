-- The signals of a written model: each number is first mentioned by its own cover.
use Rattle.std.proofs.Common.{◌≡◌, ℕ, suc, ◌+◌, ◌≤◌, ◌<◌, Bool, true, false, cond, ◌-◌, List, [], ◌∷◌, ◌++◌, length, take, drop, append_assoc, append-nil, arith, ap, refl, sym, ◌∙◌, inl, inr}
use Rattle.std.specs.Prelude.{bytes_eq, flat_map}
use Rattle.std.proofs.lemmas.Bool.{false≢true, false_from_ne_true, or_cases, or_from}
use Rattle.std.proofs.lemmas.List.Folds.{list_any-append}
use Rattle.names.proofs.NameLaws.{distinct_more, once_has_same, with_names-append}
use Rattle.names.specs.Names.{with_name, with_names}
use Rattle.plain_models.proofs.CardKinds.{Each}
use Rattle.plain_models.specs.Flat.{signal_names}
use Rattle.plain_models.specs.Texts.{PlainCover}
use Rattle.vrt_model.specs.Lists.{At, distinct, has_name}
use Rattle.written_models.proofs.Covers.{at_named, each_output, named_passes}
use Rattle.written_models.proofs.NodeBits.{front_and_rest}
use Rattle.written_models.proofs.NodeOrder.{number_more, numbers_are_within, take_short}
use Rattle.written_models.proofs.Numbers.{free_other, numbers_new, numbers_there}
use Rattle.written_models.proofs.WrittenNames.{free_given, given_back, given_name, named_left, named_right, output_within, placed, reads, variable_there}
use Rattle.written_models.specs.Functions.{Node, branch_of, fixed, number_of}
use Rattle.written_models.specs.Written.{IsWritable, Logic, constants, covers_of_nodes, covers_of_outputs, is_free_name, nodes_in, numbered, other_clocks, variable_at, written_model}
use Rattle.written_models.specs.WrittenLaws.{first_numbers}

-- ---- names that are gathered

-- names that are all there add nothing
none_added : (names xs : List (List ℕ)) → Each (λ x. has_name names x ≡ true) xs → with_names names xs ≡ names
none_added names [] e = refl
none_added names (x ∷ xs) e = ap (λ (t : Bool). with_names (cond t names (names ++ x ∷ [])) xs) e.0 ∙ none_added names xs e.1

flat_map_joined : {X Y : Type 0} (g : X → List Y) (xs ys : List X) → flat_map g (xs ++ ys) ≡ flat_map g xs ++ flat_map g ys
flat_map_joined g [] ys = refl
flat_map_joined g (x ∷ xs) ys = ap (λ rest. g x ++ rest) (flat_map_joined g xs ys) ∙ sym (append_assoc (g x) (flat_map g xs) (flat_map g ys))

each_flat_list : {X : Type 0} (P : List ℕ → Type 0) (g : X → List (List ℕ)) (xs : List X) → Each (λ x. Each P (g x)) xs → Each P (flat_map g xs)
each_flat_list P g [] e = tt
each_flat_list P g (x ∷ xs) e = joined (g x) (flat_map g xs) e.0 (each_flat_list P g xs e.1)
  where
    joined : (us vs : List (List ℕ)) → Each P us → Each P vs → Each P (us ++ vs)
    joined [] vs a b = b
    joined (y ∷ us) vs a b = (a.0, joined us vs a.1 b)

module _ (l : Logic) (good : IsWritable l) where
  abbrev nodes : List Node
  nodes = nodes_in l

  abbrev inputs : ℕ
  inputs = length l.variables

  abbrev total : ℕ
  total = 2 + length (nodes_in l)

  abbrev interface : List (List ℕ)
  interface = l.inputs ++ other_clocks l ++ l.outputs

  -- the names behind so many numbers
  abbrev known : ℕ → List (List ℕ)
  known k = distinct interface ++ first_numbers k

  abbrev mentioned : PlainCover → List (List ℕ)
  mentioned c = c.inputs ++ c.output ∷ []

  -- ---- what is there

  interface_known : (k : ℕ) (name : List ℕ) → has_name interface name ≡ true → has_name (known k) name ≡ true
  interface_known k name t = named_left (distinct interface) (first_numbers k) name (once_has_same interface name ∙ t)

  number_known : (k n : ℕ) → n < k → has_name (known k) (numbered n) ≡ true
  number_known k n lt = named_right (distinct interface) (first_numbers k) (numbered n) (numbers_there k n lt)

  variable_known : (k i : ℕ) → i < inputs → has_name (known k) (variable_at l.variables i) ≡ true
  variable_known k i lt =
      interface_known k (variable_at l.variables i)
      (named_left (l.inputs ++ other_clocks l) l.outputs (variable_at l.variables i) (given_name l good (variable_at l.variables i) (variable_there l good i lt)))

  -- no name of the interface is that of a number
  free_interface : (name : List ℕ) → has_name interface name ≡ true → is_free_name name ≡ true
  free_interface name t =
      elim (or_cases (has_name (l.inputs ++ other_clocks l) name) (has_name l.outputs name) (sym (list_any-append (bytes_eq name) (l.inputs ++ other_clocks l) l.outputs) ∙ t)) [
        | inl given ↦ free_given l good name (given_back l good name given)
        | inr out ↦ named_passes is_free_name l.outputs name good.outputs out
      ]

  number_new : (k : ℕ) → k < total → has_name (known k) (numbered k) ≡ false
  number_new k lt =
      let few = good.few in
      list_any-append (bytes_eq (numbered k)) (distinct interface) (first_numbers k)
      ∙ or_from (has_name (distinct interface) (numbered k)) (has_name (first_numbers k) (numbered k))
      (once_has_same interface (numbered k) ∙ false_from_ne_true (has_name interface (numbered k)) (λ t. false≢true (sym (free_other (numbered k) (free_interface (numbered k) t)))))
      (numbers_new k k (omega arith) (omega (arith, lt, few)))

  -- ---- what is added

  number_added : (k : ℕ) → k < total → with_name (known k) (numbered k) ≡ known (suc k)
  number_added k lt =
      ap (λ (t : Bool). cond t (known k) (known k ++ numbered k ∷ [])) (number_new k lt) ∙ append_assoc (distinct interface) (first_numbers k) (numbered k ∷ [])

  node_added : (k : ℕ) (node : Node) → k < total → node.input < inputs → branch_of nodes node false < k → branch_of nodes node true < k
      → with_names (known k) (variable_at l.variables node.input ∷ numbered (branch_of nodes node false) ∷ numbered (branch_of nodes node true) ∷ numbered k ∷ []) ≡ known (suc k)
  node_added k node lt reads_one low high =
      let there : List ℕ → Bool → List (List ℕ) = λ x t. cond t (known k) (known k ++ x ∷ []) in
      ap (λ (t : Bool). with_names (there (variable_at l.variables node.input) t) (numbered (branch_of nodes node false) ∷ numbered (branch_of nodes node true) ∷ numbered k ∷ [])) (variable_known k node.input reads_one)
      ∙ ap (λ (t : Bool). with_names (there (numbered (branch_of nodes node false)) t) (numbered (branch_of nodes node true) ∷ numbered k ∷ [])) (number_known k (branch_of nodes node false) low)
      ∙ ap (λ (t : Bool). with_names (there (numbered (branch_of nodes node true)) t) (numbered k ∷ [])) (number_known k (branch_of nodes node true) high)
      ∙ number_added k lt

  nodes_added : (k : ℕ) (rest : List Node) → k + length rest ≤ total
      → ((i : ℕ) (node : Node) → At rest i node → (node.input < inputs) × (branch_of nodes node false < k + i) × (branch_of nodes node true < k + i))
      → with_names (known k) (flat_map mentioned (covers_of_nodes l.variables nodes k rest)) ≡ known (k + length rest)
  nodes_added k [] le f = (let same : k ≡ k + 0 = omega arith in ap known same)
  nodes_added k (node ∷ rest) le f =
      let here = f 0 node refl in
      let low = here.1 in
      let high = here.2 in
      let same : suc k + length rest ≡ k + suc (length rest) = omega arith in
      ap (λ (names : List (List ℕ)). with_names names (flat_map mentioned (covers_of_nodes l.variables nodes (suc k) rest)))
      (node_added k node (omega (arith, le)) here.0 (omega (arith, low)) (omega (arith, high)))
      ∙ nodes_added (suc k) rest (omega (arith, le))
      (λ i other e. (let more = f (suc i) other e in let a = more.1 in let b = more.2 in (more.0, (let lt : branch_of nodes other false < suc k + i = omega (arith, a) in lt), (let lt : branch_of nodes other true < suc k + i = omega (arith, b) in lt))))
      ∙ ap known same

  -- the subfunctions of a node have lower numbers, since they stood there before it
  pub branch_before : (i : ℕ) (node : Node) → At nodes i node → (b : Bool) → branch_of nodes node b < 2 + i
  branch_before i node e b =
      let there = (placed l good i node e).branches b in
      let within = numbers_are_within (node.left - 1) (suc node.input) (fixed b node.function) (take i nodes) there in
      let few : length (take i nodes) ≤ i = take_short i nodes in
      let same = number_more (node.left - 1) (suc node.input) (fixed b node.function) (take i nodes) (drop i nodes) there in
      let whole : branch_of nodes node b ≡ number_of (node.left - 1) (suc node.input) (fixed b node.function) (take i nodes) =
      ap (λ (ns : List Node). number_of (node.left - 1) (suc node.input) (fixed b node.function) ns) (front_and_rest i nodes) ∙ same in
      omega (arith, within, few, whole)

  outputs_there : Each (λ (c : PlainCover). Each (λ x. has_name (known total) x ≡ true) (mentioned c)) (covers_of_outputs inputs nodes l.outputs l.functions)
  outputs_there =
      each_output (λ (c : PlainCover). Each (λ x. has_name (known total) x ≡ true) (mentioned c)) inputs nodes l.outputs l.functions
      (λ i name f a b. (
        number_known total (number_of inputs 0 f nodes) (output_within l good i f b),
        (interface_known total name (named_right (l.inputs ++ other_clocks l) l.outputs name (at_named l.outputs i name a)), tt),
      ))

  signals : signal_names (written_model l) ≡ distinct interface ++ first_numbers total
  signals =
      let xs = covers_of_nodes l.variables nodes 2 nodes in
      let ys = covers_of_outputs inputs nodes l.outputs l.functions in
      let firsts : with_names (distinct interface) (flat_map mentioned constants) ≡ known 2 =
      ap (λ (names : List (List ℕ)). with_names names (numbered 0 ∷ numbered 1 ∷ [])) (sym (append-nil (distinct interface)))
      ∙ ap (λ (names : List (List ℕ)). with_names names (numbered 1 ∷ [])) (number_added 0 (omega arith)) ∙ number_added 1 (omega arith) in
      distinct_more interface (flat_map mentioned (constants ++ xs ++ ys))
      ∙ ap (with_names (distinct interface)) (flat_map_joined mentioned (constants ++ xs) ys ∙ ap (λ (ns : List (List ℕ)). ns ++ flat_map mentioned ys) (flat_map_joined mentioned constants xs))
      ∙ with_names-append (distinct interface) (flat_map mentioned constants ++ flat_map mentioned xs) (flat_map mentioned ys)
      ∙ ap (λ (ns : List (List ℕ)). with_names ns (flat_map mentioned ys))
      (with_names-append (distinct interface) (flat_map mentioned constants) (flat_map mentioned xs)
      ∙ ap (λ (ns : List (List ℕ)). with_names ns (flat_map mentioned xs)) firsts
      ∙ nodes_added 2 nodes (omega arith) (λ i node e. (reads l good i node e, branch_before i node e false, branch_before i node e true)))
      ∙ none_added (known total) (flat_map mentioned ys) (each_flat_list (λ x. has_name (known total) x ≡ true) mentioned ys outputs_there)

pub written_signals_are : (l : Logic) → IsWritable l → signal_names (written_model l) ≡ distinct (l.inputs ++ other_clocks l ++ l.outputs) ++ first_numbers (2 + length (nodes_in l))
written_signals_are l good = signals l good
