-- The bits of the variables of a phase: those of inputs by the numbers of their nets, then those of the latch elements.
use Rattle.std.proofs.Common.{◌≡◌, ℕ, zero, suc, ◌+◌, ◌<◌, ◌≤◌, Bool, true, false, cond, List, [], ◌∷◌, ◌++◌, Some, None, length, length-append, map, arith, ap, ap₂, refl, sym, subst, ◌∙◌}
use Rattle.std.specs.Prelude.{filter, filter_map, slice_index_or, take}
use Rattle.std.specs.List.{cons_option, enumerate_from}
use Rattle.std.proofs.lemmas.Bool.{eq-eqb, ne_eqb}
use Rattle.std.proofs.lemmas.List.Filters.{length-filter_more}
use Rattle.std.proofs.lemmas.Option.{none-some, same_Some, get_or_from_slice_get, slice_get_within}
use Rattle.bdd_core.specs.Diagram.{Valuation}
use Rattle.bdd_ops.specs.Ops.{bits_of}
use Rattle.hold_keep.specs.Rooted.{bits_at}
use Rattle.phase_open.specs.Given.{input_count, variable_at}
use Rattle.vrt_model.specs.Comparison.{Comparison}
use Rattle.vrt_model.specs.Elements.{element_names}
use Rattle.vrt_model.specs.Held.{bit_of, is_element, is_input_of, sources_of}
use Rattle.vrt_model.specs.Lists.{At}
use Rattle.vrt_model.specs.Variables.{is_free, is_input, places, variables_of}
use Rattle.vrt_model.specs.declared.circuit.Circuit.{Circuit}
use Rattle.vrt_model.specs.declared.circuit.FlatNet.{FlatNet}
use Rattle.vrt_model.specs.declared.circuit.NetKind.{NetKind}
use Rattle.vrt_model.specs.declared.circuit.NetKind.TheVariants.{Input as InputNet}
use Rattle.vrt_model.specs.declared.groups.Group.{Group as HoldGroup}
use Rattle.vrt_model.specs.declared.groups.Source.{Source}
use Rattle.vrt_model.specs.declared.groups.Source.TheVariants.{Input, Element, Group}
use Rattle.vrt_model.specs.declared.ids.Net.{Net}

abbrev is_input_net : FlatNet → Bool
is_input_net net = is_input net.kind

abbrev input_net : ℕ → Source
input_net n = let net : Net = record { 0 = n } in Input net

-- the three lists of variables
abbrev inputs_from : ℕ → List FlatNet → List Source
inputs_from first nets =
    filter_map (λ (p : ℕ × FlatNet). cond (is_input p.1.kind) (let net : Net = record { 0 = p.0 } in Some (Input net)) None) (enumerate_from first nets)

abbrev elements_from : ℕ → List (List ℕ) → List Source
elements_from first names = map (λ (e : ℕ). Element e) (places first names)

abbrev groups_of : Circuit → ℕ → List HoldGroup → List Source
groups_of c phase groups = filter_map (λ (p : ℕ × HoldGroup). cond (is_free c phase p.1) (Some (Group p.0)) None) (enumerate_from 0 groups)

-- the sources of the nets from one on, with its own if it is an input
abbrev with_first : Bool → ℕ → List FlatNet → List Source
with_first own first nets = cons_option (cond own (let net : Net = record { 0 = first } in Some (Input net)) None) (inputs_from (first + 1) nets)

-- ---- the first variable that passes a test

-- a variable that passes has the first bit
first_bit : (is : Source → Bool) (s : Source) (sources : List Source) → is s ≡ true → (bits : List Bool) → bit_of is (s ∷ sources) bits ≡ slice_index_or bits 0 false
first_bit is s sources e [] = refl
first_bit is s sources e (b ∷ bits) = ap {B = Bool} (λ (t : Bool). cond t b (bit_of is sources bits)) e

-- another is passed over
later_bit : (is : Source → Bool) (s : Source) (sources : List Source) (at : ℕ) → is s ≡ false → ((bits : List Bool) → bit_of is sources bits ≡ slice_index_or bits at false)
    → (bits : List Bool) → bit_of is (s ∷ sources) bits ≡ slice_index_or bits (suc at) false
later_bit is s sources at e rest [] = refl
later_bit is s sources at e rest (b ∷ bits) = ap {B = Bool} (λ (t : Bool). cond t b (bit_of is sources bits)) e ∙ rest bits

-- ---- inputs

input_from : (first i n : ℕ) (nets : List FlatNet) (net : FlatNet) (elements groups : List Source) → n ≡ first + i → At nets i net → net.kind ≡ InputNet
    → (bits : List Bool) → bit_of (is_input_of n) (inputs_from first nets ++ elements ++ groups) bits ≡ slice_index_or bits (length (filter is_input_net (take i nets))) false
input_from first i n [] net elements groups place e k bits = absurd (none-some net e)
input_from first zero n (x ∷ nets) net elements groups place e k bits =
    subst
    (λ (own : Bool). bit_of (is_input_of n) (with_first own first nets ++ elements ++ groups) bits ≡ slice_index_or bits 0 false)
    (sym (ap (λ (y : FlatNet). is_input y.kind) (same_Some x net e) ∙ ap is_input k))
    (first_bit (is_input_of n) (input_net first) (inputs_from (first + 1) nets ++ elements ++ groups) (eq-eqb first n (omega (arith, place))) bits)
input_from first (suc i) n (x ∷ nets) net elements groups place e k bits =
    by_first (λ bs. input_from (first + 1) i n nets net elements groups (omega (arith, place)) e k bs) (is_input x.kind) bits
  where
    by_first : ((bs : List Bool) → bit_of (is_input_of n) (inputs_from (first + 1) nets ++ elements ++ groups) bs ≡ slice_index_or bs (length (filter is_input_net (take i nets))) false)
        → (own : Bool) (bs : List Bool) → bit_of (is_input_of n) (with_first own first nets ++ elements ++ groups) bs
        ≡ slice_index_or bs (length (cond own (x ∷ filter is_input_net (take i nets)) (filter is_input_net (take i nets)))) false
    by_first rest true bs =
        later_bit (is_input_of n) (input_net first) (inputs_from (first + 1) nets ++ elements ++ groups) (length (filter is_input_net (take i nets)))
        (ne_eqb first n (λ same. omega (arith, place, same))) rest bs
    by_first rest false bs = rest bs

-- ---- elements

element_from : (first i e : ℕ) (names : List (List ℕ)) (groups : List Source) → e ≡ first + i → i < length names
    → (bits : List Bool) → bit_of (is_element e) (elements_from first names ++ groups) bits ≡ slice_index_or bits i false
element_from first i e [] groups place lt bits = absurd (omega (arith, lt))
element_from first zero e (x ∷ names) groups place lt bits =
    first_bit (is_element e) (Element first) (elements_from (suc first) names ++ groups) (eq-eqb first e (omega (arith, place))) bits
element_from first (suc i) e (x ∷ names) groups place lt bits =
    later_bit (is_element e) (Element first) (elements_from (suc first) names ++ groups) i (ne_eqb first e (λ same. omega (arith, place, same)))
    (element_from (suc first) i e names groups (omega (arith, place)) (omega (arith, lt))) bits

-- behind the inputs
element_behind : (first e at : ℕ) (nets : List FlatNet) (elements groups : List Source) → ((bs : List Bool) → bit_of (is_element e) (elements ++ groups) bs ≡ slice_index_or bs at false)
    → (bits : List Bool) → bit_of (is_element e) (inputs_from first nets ++ elements ++ groups) bits ≡ slice_index_or bits (length (filter is_input_net nets) + at) false
element_behind first e at [] elements groups rest bits = rest bits ∙ ap (λ (n : ℕ). slice_index_or bits n false) (omega arith)
element_behind first e at (x ∷ nets) elements groups rest bits = by_first (element_behind (first + 1) e at nets elements groups rest) (is_input x.kind) bits
  where
    by_first : ((bs : List Bool) → bit_of (is_element e) (inputs_from (first + 1) nets ++ elements ++ groups) bs ≡ slice_index_or bs (length (filter is_input_net nets) + at) false)
        → (own : Bool) (bs : List Bool) → bit_of (is_element e) (with_first own first nets ++ elements ++ groups) bs
        ≡ slice_index_or bs (length (cond own (x ∷ filter is_input_net nets) (filter is_input_net nets)) + at) false
    by_first behind true bs =
        later_bit (is_element e) (input_net first) (inputs_from (first + 1) nets ++ elements ++ groups) (length (filter is_input_net nets) + at) refl behind bs
        ∙ ap (λ (n : ℕ). slice_index_or bs n false) (omega arith)
    by_first behind false bs = behind bs

-- ---- how many variables there are

-- the variable of the next net
pub variable_more : (c : Circuit) (n : ℕ) (d : FlatNet) → n < length c.nets → variable_at c (n + 1) ≡ variable_at c n + cond (is_input (slice_index_or c.nets n d).kind) 1 0
variable_more c n d lt = length-filter_more is_input_net c.nets n d lt

-- those before a net are among those of all nets
filter_few : (nets : List FlatNet) (n : ℕ) → length (filter is_input_net (take n nets)) ≤ length (filter is_input_net nets)
filter_few [] zero = omega arith
filter_few [] (suc n) = omega arith
filter_few (x ∷ nets) zero = omega arith
filter_few (x ∷ nets) (suc n) = by_first (is_input x.kind) (filter_few nets n)
  where
    by_first : (own : Bool) → length (filter is_input_net (take n nets)) ≤ length (filter is_input_net nets)
        → length (cond own (x ∷ filter is_input_net (take n nets)) (filter is_input_net (take n nets))) ≤ length (cond own (x ∷ filter is_input_net nets) (filter is_input_net nets))
    by_first true le = omega (arith, le)
    by_first false le = le

pub variables_few : (c : Circuit) (n : ℕ) → variable_at c n ≤ input_count c
variables_few c n = filter_few c.nets n

pub input_below : (c : Circuit) (n : ℕ) (d : FlatNet) → n < length c.nets → (slice_index_or c.nets n d).kind ≡ InputNet → variable_at c n < input_count c
input_below c n d lt kind =
    let more : variable_at c (n + 1) ≡ variable_at c n + 1 =
    variable_more c n d lt ∙ ap {B = ℕ} (λ (x : NetKind). variable_at c n + cond (is_input x) 1 0) kind in
    omega (arith, more, variables_few c (n + 1))

inputs_long : (first : ℕ) (nets : List FlatNet) → length (inputs_from first nets) ≡ length (filter is_input_net nets)
inputs_long first [] = refl
inputs_long first (x ∷ nets) = by_first (is_input x.kind) (inputs_long (first + 1) nets)
  where
    by_first : (own : Bool) → length (inputs_from (first + 1) nets) ≡ length (filter is_input_net nets)
        → length (with_first own first nets) ≡ length (cond own (x ∷ filter is_input_net nets) (filter is_input_net nets))
    by_first true e = ap suc e
    by_first false e = e

elements_long : (first : ℕ) (names : List (List ℕ)) → length (elements_from first names) ≡ length names
elements_long first [] = refl
elements_long first (x ∷ names) = ap suc (elements_long (suc first) names)

-- inputs and elements are among the variables
pub sources_many : (k : Comparison) (phase : ℕ) → input_count k.circuit + length (element_names k.model) ≤ length (sources_of k phase)
unfolding variables_of
sources_many k phase =
    let inputs = inputs_from 0 k.circuit.nets in
    let elements = elements_from 0 (element_names k.model) in
    let groups = groups_of k.circuit phase k.groups in
    omega (
      arith,
      length-append (inputs ++ elements) groups,
      length-append inputs elements,
      inputs_long 0 k.circuit.nets,
      elements_long 0 (element_names k.model),
    )

-- ---- the bits of a phase

-- an input net has the bit of its variable
pub input_variable : (k : Comparison) (phase : ℕ) (bits : List Bool) (n : ℕ) (net : FlatNet) → At k.circuit.nets n net → net.kind ≡ InputNet
    → bit_of (is_input_of n) (sources_of k phase) bits ≡ bits_of bits (variable_at k.circuit n)
unfolding variables_of
input_variable k phase bits n net e kind =
    input_from 0 n n k.circuit.nets net (elements_from 0 (element_names k.model)) (groups_of k.circuit phase k.groups) (omega arith) e kind bits

-- an element has the bit of its variable, behind the inputs
pub element_variable : (k : Comparison) (phase : ℕ) (bits : List Bool) (e : ℕ) → e < length (element_names k.model)
    → bit_of (is_element e) (sources_of k phase) bits ≡ bits_of bits (input_count k.circuit + e)
unfolding variables_of
element_variable k phase bits e lt =
    element_behind 0 e e k.circuit.nets (elements_from 0 (element_names k.model)) (groups_of k.circuit phase k.groups)
    (element_from 0 e e (element_names k.model) (groups_of k.circuit phase k.groups) (omega arith) lt) bits

-- ---- bits of a valuation as a list

-- the bit at a place of the bits of all variables
listed_from : (v : Valuation) (first i : ℕ) (sources : List Source) → i < length sources → slice_index_or (map v (places first sources)) i false ≡ v (first + i)
listed_from v first i [] lt = absurd (omega (arith, lt))
listed_from v first zero (s ∷ sources) lt = ap v (omega arith)
listed_from v first (suc i) (s ∷ sources) lt = listed_from v (suc first) i sources (omega (arith, lt)) ∙ ap v (omega arith)

pub listed_bit : (v : Valuation) (i : ℕ) (sources : List Source) → i < length sources → bits_of (bits_at sources v) i ≡ v i
listed_bit v i sources lt = listed_from v 0 i sources lt ∙ ap v (omega arith)

-- an input net has the bit of its variable at each valuation
pub input_at : (k : Comparison) (phase : ℕ) (v : Valuation) (n : ℕ) (net : FlatNet) → At k.circuit.nets n net → net.kind ≡ InputNet
    → bit_of (is_input_of n) (sources_of k phase) (bits_at (sources_of k phase) v) ≡ v (variable_at k.circuit n)
input_at k phase v n net e kind =
    let lt = slice_get_within k.circuit.nets n net e in
    let below = input_below k.circuit n net lt (ap (λ (x : FlatNet). x.kind) (get_or_from_slice_get k.circuit.nets n net net e) ∙ kind) in
    input_variable k phase (bits_at (sources_of k phase) v) n net e kind ∙ listed_bit v (variable_at k.circuit n) (sources_of k phase) (omega (arith, below, sources_many k phase))

-- the bits of a list, read through the valuation that it gives, are picked as from the list itself
read_from : (is : Source → Bool) (f : ℕ → Bool) (first : ℕ) (sources : List Source) (bits : List Bool) → ((i : ℕ) → f (first + i) ≡ slice_index_or bits i false)
    → bit_of is sources (map f (places first sources)) ≡ bit_of is sources bits
read_from is f first [] bits same = refl
read_from is f first (s ∷ sources) [] same = none (is s) (read_from is f (suc first) sources [] (λ i. ap f (omega arith) ∙ same (suc i)))
  where
    none_picked : (ss : List Source) → bit_of is ss [] ≡ false
    none_picked [] = refl
    none_picked (x ∷ ss) = refl

    none : (own : Bool) → bit_of is sources (map f (places (suc first) sources)) ≡ bit_of is sources [] → cond own (f first) (bit_of is sources (map f (places (suc first) sources))) ≡ false
    none true rest = ap f (omega arith) ∙ same 0
    none false rest = rest ∙ none_picked sources
read_from is f first (s ∷ sources) (b ∷ bits) same =
    ap₂ (λ (x y : Bool). cond (is s) x y) (ap f (omega arith) ∙ same 0) (read_from is f (suc first) sources bits (λ i. ap f (omega arith) ∙ same (suc i)))

pub read_bits : (is : Source → Bool) (sources : List Source) (bits : List Bool) → bit_of is sources (bits_at sources (bits_of bits)) ≡ bit_of is sources bits
read_bits is sources bits = read_from is (bits_of bits) 0 sources bits (λ i. ap (bits_of bits) (omega arith))
