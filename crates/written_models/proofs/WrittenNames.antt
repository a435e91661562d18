-- A written model is one whose text is read, and each of its signals has one driver.
use Rattle.std.proofs.Common.{◌≡◌, ℕ, zero, suc, ◌+◌, ◌≤◌, ◌<◌, ◌&&◌, Bool, true, false, not, cond, List, [], ◌∷◌, ◌++◌, ◌-◌, ◌⊎◌, Option, length, map, take, drop, append_assoc, append-nil, arith, ap, ap₂, refl, sym, subst, ◌∙◌, inl, inr}
use Rattle.std.specs.Prelude.{bytes_eq, codes, filter, flat_map, unwrap_or}
use Rattle.std.specs.List.{list_all}
use Rattle.std.proofs.lemmas.Bool.{and_from, and_parts, false≢true, false_from_ne_true, or_cases, or_from, or_left, or_right}
use Rattle.std.proofs.lemmas.List.{map-append}
use Rattle.std.proofs.lemmas.List.Folds.{list_any-append}
use Rattle.std.proofs.lemmas.Option.{none-some, same_Some, slice_get_within}
use Rattle.names.proofs.ApartLaws.{NoRepeat, apart, kept_apart, once_by}
use Rattle.names.proofs.FilterLaws.{has_name_filter}
use Rattle.blif_reader.specs.Refused.{is_row}
use Rattle.plain_models.proofs.CardKinds.{Each}
use Rattle.plain_models.proofs.DriverLaws.{driven_models_are_good}
use Rattle.plain_models.proofs.FlatLaws.{driven_models_are_flat}
use Rattle.plain_models.proofs.NoFaults.{plain_texts_are_clean}
use Rattle.plain_models.proofs.OneModel.{plain_texts_are_read}
use Rattle.plain_models.proofs.ReadBack.{all_more}
use Rattle.plain_models.specs.Flat.{HasDrivers, driven_names}
use Rattle.plain_models.specs.Lines.{is_good_word}
use Rattle.plain_models.specs.Texts.{IsPlainCover, IsPlainModel, PlainCover, row_words}
use Rattle.vrt_model.proofs.Lists.{at_there}
use Rattle.vrt_model.specs.Lists.{Among, At, has_name}
use Rattle.written_models.proofs.Covers.{among_each, at_named, each_cover, each_node, each_output, joined_each, named_passes}
use Rattle.written_models.proofs.NodeBits.{front_and_rest}
use Rattle.written_models.proofs.NodeOrder.{nodes_are_ordered, numbers_are_within, there_more}
use Rattle.written_models.proofs.Numbers.{free_good, free_other, numbered_good, numbers_are_other, numbers_once, numbers_there, same_name}
use Rattle.written_models.specs.Functions.{Function, Node, branch_of, fixed, number_of}
use Rattle.written_models.specs.NodeLaws.{IsPlaced, is_there}
use Rattle.written_models.specs.Written.{IsWritable, Logic, constants, covers_of_nodes, covers_of_outputs, is_free_name, node_cover, nodes_in, numbered, other_clocks, output_cover, variable_at, written_model}
use Rattle.written_models.specs.WrittenLaws.{IsReadBack, IsUnrolled, first_numbers}

-- ---- lists of names

all_filtered : (test keep : List ℕ → Bool) (xs : List (List ℕ)) → list_all test xs ≡ true → list_all test (filter keep xs) ≡ true
all_filtered test keep [] e = refl
all_filtered test keep (x ∷ xs) e = by_test (keep x) (and_parts (test x) (list_all test xs) e).0 (all_filtered test keep xs (and_parts (test x) (list_all test xs) e).1)
  where
    by_test : (b : Bool) → test x ≡ true → list_all test (filter keep xs) ≡ true → list_all test (cond b (x ∷ filter keep xs) (filter keep xs)) ≡ true
    by_test true h r = and_from (test x) (list_all test (filter keep xs)) h r
    by_test false h r = r

-- different names behind others that they are not among
joined_once : (xs ys : List (List ℕ)) → NoRepeat xs → NoRepeat ys → ((name : List ℕ) → has_name xs name ≡ true → has_name ys name ≡ false) → NoRepeat (xs ++ ys)
joined_once [] ys a b apart = b
joined_once (x ∷ xs) ys a b apart = (
  list_any-append (bytes_eq x) xs ys ∙ or_from (has_name xs x) (has_name ys x) a.0 (apart x (or_left (bytes_eq x x) (has_name xs x) (same_name x))),
  joined_once xs ys a.1 b (λ name t. apart name (or_right (bytes_eq name x) (has_name xs name) t)),
)

named_either : (xs ys : List (List ℕ)) (name : List ℕ) → has_name (xs ++ ys) name ≡ true → (has_name xs name ≡ true) ⊎ (has_name ys name ≡ true)
named_either xs ys name t = or_cases (has_name xs name) (has_name ys name) (sym (list_any-append (bytes_eq name) xs ys) ∙ t)

pub named_left : (xs ys : List (List ℕ)) (name : List ℕ) → has_name xs name ≡ true → has_name (xs ++ ys) name ≡ true
named_left xs ys name t = list_any-append (bytes_eq name) xs ys ∙ or_left (has_name xs name) (has_name ys name) t

pub named_right : (xs ys : List (List ℕ)) (name : List ℕ) → has_name ys name ≡ true → has_name (xs ++ ys) name ≡ true
named_right xs ys name t = list_any-append (bytes_eq name) xs ys ∙ or_right (has_name xs name) (has_name ys name) t

module _ (l : Logic) (good : IsWritable l) where
  abbrev nodes : List Node
  nodes = nodes_in l

  abbrev inputs : ℕ
  inputs = length l.variables

  abbrev total : ℕ
  total = 2 + length (nodes_in l)

  small : total ≤ 20000
  small = let few = good.few in omega (arith, few)

  -- ---- names of the interface

  -- the inputs and the clocks are the inputs and the other clocks
  pub given_name : (name : List ℕ) → has_name (l.inputs ++ l.clocks) name ≡ true → has_name (l.inputs ++ other_clocks l) name ≡ true
  given_name name t = by_test (has_name l.inputs name) refl (named_either l.inputs l.clocks name t)
    where
      by_test : (b : Bool) → has_name l.inputs name ≡ b → (has_name l.inputs name ≡ true) ⊎ (has_name l.clocks name ≡ true) → has_name (l.inputs ++ other_clocks l) name ≡ true
      by_test true e either = named_left l.inputs (other_clocks l) name e
      by_test false e (inl is) = absurd (false≢true (sym e ∙ is))
      by_test false e (inr is) =
          named_right l.inputs (other_clocks l) name
          (has_name_filter (λ (n : List ℕ). not (has_name l.inputs n)) l.clocks name ∙ and_from (not (has_name l.inputs name)) (has_name l.clocks name) (ap not e) is)

  pub free_given : (name : List ℕ) → has_name (l.inputs ++ l.clocks) name ≡ true → is_free_name name ≡ true
  free_given name t =
      elim (named_either l.inputs l.clocks name t) [
        | inl one ↦ named_passes is_free_name l.inputs name good.inputs one
        | inr other ↦ named_passes is_free_name l.clocks name good.clocks other
      ]

  -- the signal of a variable
  pub variable_there : (i : ℕ) → i < inputs → has_name (l.inputs ++ l.clocks) (variable_at l.variables i) ≡ true
  variable_there i lt =
      let there = at_there l.variables i lt in
      good.variables_there (variable_at l.variables i)
      (subst (λ (n : List ℕ). has_name l.variables n ≡ true) (sym (ap (λ (o : Option (List ℕ)). unwrap_or o []) there.1)) (at_named l.variables i there.0 there.1))

  -- ---- numbers

  pub placed : (i : ℕ) (node : Node) → At nodes i node → IsPlaced inputs node (take i nodes)
  placed = (nodes_are_ordered inputs l.functions).0

  pub reads : (i : ℕ) (node : Node) → At nodes i node → node.input < inputs
  reads i node e = (let is = placed i node e in let sum = is.inputs_left in let some = is.some_left in omega (arith, sum, some))

  branch_there : (i : ℕ) (node : Node) → At nodes i node → (b : Bool) → is_there (node.left - 1) (suc node.input) (fixed b node.function) nodes ≡ true
  branch_there i node e b =
      subst (λ (ns : List Node). is_there (node.left - 1) (suc node.input) (fixed b node.function) ns ≡ true) (sym (front_and_rest i nodes))
      (there_more (node.left - 1) (suc node.input) (fixed b node.function) (take i nodes) (drop i nodes) ((placed i node e).branches b))

  pub branch_within : (i : ℕ) (node : Node) → At nodes i node → (b : Bool) → branch_of nodes node b < total
  branch_within i node e b = numbers_are_within (node.left - 1) (suc node.input) (fixed b node.function) nodes (branch_there i node e b)

  pub output_within : (i : ℕ) (f : Function) → At l.functions i f → number_of inputs 0 f nodes < total
  output_within i f e = numbers_are_within inputs 0 f nodes ((nodes_are_ordered inputs l.functions).1 f (i, e))

  good_number : (n : ℕ) → n < total → is_good_word (numbered n) ≡ true
  good_number n lt = (let le = small in numbered_good n (omega (arith, lt, le)))

  -- ---- covers that may be written

  two_rows : (row : List ℕ) → Among (codes "01-" ∷ codes "1-1" ∷ []) row → is_row 3 (row_words row) ≡ true
  two_rows row (zero, e) = subst (λ (r : List ℕ). is_row 3 (row_words r) ≡ true) (same_Some (codes "01-") row e) refl
  two_rows row (suc zero, e) = subst (λ (r : List ℕ). is_row 3 (row_words r) ≡ true) (same_Some (codes "1-1") row e) refl
  two_rows row (suc (suc i), e) = absurd (none-some row e)

  one_row : (width : ℕ) (only row : List ℕ) → is_row width (row_words only) ≡ true → Among (only ∷ []) row → is_row width (row_words row) ≡ true
  one_row width only row fits (zero, e) = subst (λ (r : List ℕ). is_row width (row_words r) ≡ true) (same_Some only row e) fits
  one_row width only row fits (suc i, e) = absurd (none-some row e)

  all_of_two : (x y : List ℕ) → is_good_word x ≡ true → is_good_word y ≡ true → list_all is_good_word (x ∷ y ∷ []) ≡ true
  all_of_two x y a b = ap₂ (λ (p q : Bool). p && (q && true)) a b

  node_good : (i : ℕ) (node : Node) → At nodes i node → IsPlainCover (node_cover l.variables nodes (2 + i) node)
  node_good i node e =
      let variable = free_good (variable_at l.variables node.input) (free_given (variable_at l.variables node.input) (variable_there node.input (reads i node e))) in
      let low = good_number (branch_of nodes node false) (branch_within i node e false) in
      let high = good_number (branch_of nodes node true) (branch_within i node e true) in
      let own = good_number (2 + i) (let lt = slice_get_within nodes i node e in omega (arith, lt)) in
      record {
        names = and_from (is_good_word (variable_at l.variables node.input)) (list_all is_good_word (numbered (branch_of nodes node false) ∷ numbered (branch_of nodes node true) ∷ numbered (2 + i) ∷ [])) variable
            (and_from (is_good_word (numbered (branch_of nodes node false))) (list_all is_good_word (numbered (branch_of nodes node true) ∷ numbered (2 + i) ∷ [])) low (all_of_two (numbered (branch_of nodes node true)) (numbered (2 + i)) high own));
        few = omega arith;
        rows = two_rows;
      }

  output_good : (i : ℕ) (name : List ℕ) (f : Function) → At l.outputs i name → At l.functions i f → IsPlainCover (output_cover inputs nodes name f)
  output_good i name f a b = record {
    names = all_of_two (numbered (number_of inputs 0 f nodes)) name (good_number (number_of inputs 0 f nodes) (output_within i f b))
        (free_good name (named_passes is_free_name l.outputs name good.outputs (at_named l.outputs i name a)));
    few = omega arith;
    rows = λ row m. one_row 1 (codes "1") row refl m;
  }

  constants_good : Each IsPlainCover constants
  constants_good = (
    record { names = ap (λ (t : Bool). t && true) (good_number 0 (omega arith)); few = omega arith; rows = λ row m. absurd (none-some row m.1) },
    (record { names = ap (λ (t : Bool). t && true) (good_number 1 (omega arith)); few = omega arith; rows = λ row m. one_row 0 [] row refl m }, tt),
  )

  covers_good : Each IsPlainCover (written_model l).covers
  covers_good =
      each_cover IsPlainCover (covers_of_nodes l.variables nodes 2 nodes) (covers_of_outputs inputs nodes l.outputs l.functions) constants_good
      (each_node IsPlainCover l.variables nodes node_good) (each_output IsPlainCover inputs nodes l.outputs l.functions output_good)

  pub plain : IsPlainModel (written_model l)
  plain = record {
    name = free_good l.name good.name;
    inputs = all_more is_free_name is_good_word l.inputs free_good good.inputs;
    clocks = all_filtered is_good_word (λ (name : List ℕ). not (has_name l.inputs name)) l.clocks (all_more is_free_name is_good_word l.clocks free_good good.clocks);
    outputs = all_more is_free_name is_good_word l.outputs free_good good.outputs;
    inputs_apart = good.inputs_apart;
    clocks_apart = apart (other_clocks l) (kept_apart (λ (name : List ℕ). not (has_name l.inputs name)) l.clocks (once_by l.clocks good.clocks_apart));
    outputs_apart = good.outputs_apart;
    covers = among_each IsPlainCover (written_model l).covers covers_good;
  }

  -- ---- drivers

  abbrev output_of : PlainCover → List ℕ
  output_of c = c.output

  nodes_numbered : (k : ℕ) (rest : List Node) → first_numbers k ++ map output_of (covers_of_nodes l.variables nodes k rest) ≡ first_numbers (k + length rest)
  nodes_numbered k [] = append-nil (first_numbers k) ∙ (let same : k ≡ k + 0 = omega arith in ap first_numbers same)
  nodes_numbered k (node ∷ rest) =
      let same : suc k + length rest ≡ k + suc (length rest) = omega arith in
      sym (append_assoc (first_numbers k) (numbered k ∷ []) (map output_of (covers_of_nodes l.variables nodes (suc k) rest))) ∙ nodes_numbered (suc k) rest ∙ ap first_numbers same

  outputs_named : (names : List (List ℕ)) (fs : List Function) → length fs ≡ length names → map output_of (covers_of_outputs inputs nodes names fs) ≡ names
  outputs_named [] fs e = refl
  outputs_named (name ∷ names) [] e = absurd (omega (arith, e))
  outputs_named (name ∷ names) (f ∷ fs) e = ap (λ (ns : List (List ℕ)). name ∷ ns) (outputs_named names fs (omega (arith, e)))

  pub driven_are : driven_names (written_model l) ≡ (l.inputs ++ other_clocks l) ++ (first_numbers total ++ l.outputs)
  driven_are =
      let xs = covers_of_nodes l.variables nodes 2 nodes in
      let ys = covers_of_outputs inputs nodes l.outputs l.functions in
      ap (λ (ns : List (List ℕ)). (l.inputs ++ other_clocks l) ++ ns)
      (map-append output_of (constants ++ xs) ys
      ∙ ap₂ (λ (a b : List (List ℕ)). a ++ b) (map-append output_of constants xs ∙ nodes_numbered 2 nodes) (outputs_named l.outputs l.functions good.functions))

  other_than_numbers : (xs : List (List ℕ)) → list_all is_free_name xs ≡ true → (name : List ℕ) → has_name xs name ≡ true → has_name (first_numbers total) name ≡ false
  other_than_numbers xs free name t = numbers_are_other total name (free_other name (named_passes is_free_name xs name free t))

  given_once : NoRepeat (l.inputs ++ other_clocks l)
  given_once =
      joined_once l.inputs (other_clocks l) (once_by l.inputs good.inputs_apart) (kept_apart (λ (name : List ℕ). not (has_name l.inputs name)) l.clocks (once_by l.clocks good.clocks_apart))
      (λ name t. has_name_filter (λ (n : List ℕ). not (has_name l.inputs n)) l.clocks name ∙ ap (λ (b : Bool). not b && has_name l.clocks name) t)

  -- a name that is given is an input or a clock
  pub given_back : (name : List ℕ) → has_name (l.inputs ++ other_clocks l) name ≡ true → has_name (l.inputs ++ l.clocks) name ≡ true
  given_back name t =
      elim (named_either l.inputs (other_clocks l) name t) [
        | inl one ↦ named_left l.inputs l.clocks name one
        | inr other ↦ named_right l.inputs l.clocks name
            (and_parts (not (has_name l.inputs name)) (has_name l.clocks name) (sym (has_name_filter (λ (n : List ℕ). not (has_name l.inputs n)) l.clocks name) ∙ other)).1
      ]

  numbers_and_outputs : NoRepeat (first_numbers total ++ l.outputs)
  numbers_and_outputs =
      joined_once (first_numbers total) l.outputs (numbers_once total (let le = small in omega (arith, le))) (once_by l.outputs good.outputs_apart)
      (λ name t. false_from_ne_true (has_name l.outputs name) (λ o. false≢true (sym (other_than_numbers l.outputs good.outputs name o) ∙ t)))

  driven_once : NoRepeat (driven_names (written_model l))
  driven_once =
      subst NoRepeat (sym driven_are)
      (joined_once (l.inputs ++ other_clocks l) (first_numbers total ++ l.outputs) given_once numbers_and_outputs
      (λ name t. list_any-append (bytes_eq name) (first_numbers total) l.outputs
      ∙ or_from (has_name (first_numbers total) name) (has_name l.outputs name)
      (numbers_are_other total name (free_other name (free_given name (given_back name t))))
      (false_from_ne_true (has_name l.outputs name) (λ o. false≢true (sym (good.outputs_other name o) ∙ given_back name t)))))

  abbrev IsDriven : List ℕ → Type 0
  IsDriven name = has_name ((l.inputs ++ other_clocks l) ++ (first_numbers total ++ l.outputs)) name ≡ true

  given_driven : (name : List ℕ) → has_name (l.inputs ++ l.clocks) name ≡ true → IsDriven name
  given_driven name t = named_left (l.inputs ++ other_clocks l) (first_numbers total ++ l.outputs) name (given_name name t)

  number_driven : (n : ℕ) → n < total → IsDriven (numbered n)
  number_driven n lt =
      named_right (l.inputs ++ other_clocks l) (first_numbers total ++ l.outputs) (numbered n)
      (named_left (first_numbers total) l.outputs (numbered n) (numbers_there total n lt))

  abbrev ReadsDriven : PlainCover → Type 0
  ReadsDriven c = Each IsDriven c.inputs

  read_driven : Each ReadsDriven (written_model l).covers
  read_driven =
      each_cover ReadsDriven (covers_of_nodes l.variables nodes 2 nodes) (covers_of_outputs inputs nodes l.outputs l.functions) (tt, (tt, tt))
      (each_node ReadsDriven l.variables nodes
      (λ i node e. (
        given_driven (variable_at l.variables node.input) (variable_there node.input (reads i node e)),
        (number_driven (branch_of nodes node false) (branch_within i node e false), (number_driven (branch_of nodes node true) (branch_within i node e true), tt)),
      )))
      (each_output ReadsDriven inputs nodes l.outputs l.functions (λ i name f a b. (number_driven (number_of inputs 0 f nodes) (output_within i f b), tt)))

  pub drivers : HasDrivers (written_model l)
  drivers = record {
    apart = apart (driven_names (written_model l)) driven_once;
    each = λ name t. subst (λ (ns : List (List ℕ)). has_name ns name ≡ true) (sym driven_are)
        (elim (named_either (flat_map (λ (c : PlainCover). c.inputs) (written_model l).covers) l.outputs name t) [
          | inl read ↦ joined_each IsDriven (λ (c : PlainCover). c.inputs) (written_model l).covers name read_driven read
          | inr out ↦ named_right (l.inputs ++ other_clocks l) (first_numbers total ++ l.outputs) name (named_right (first_numbers total) l.outputs name out)
        ]);
  }

pub written_texts_are_read : (l : Logic) → IsWritable l → IsReadBack l
written_texts_are_read l good = record { clean = plain_texts_are_clean (written_model l) (plain l good); model = plain_texts_are_read (written_model l) (plain l good) }

pub written_models_are_unrolled : (l : Logic) → IsWritable l → IsUnrolled l
written_models_are_unrolled l good = record { good = driven_models_are_good (written_model l) (drivers l good); flat = driven_models_are_flat (written_model l) (drivers l good) }
