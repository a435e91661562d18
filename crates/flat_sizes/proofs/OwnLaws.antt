-- Names that are added card by card, and those of them that are a cell's own nets.
use Rattle.std.proofs.Common.{◌≡◌, ◌<◌, ◌≤◌, ◌+◌, ◌-◌, ◌∷◌, ◌++◌, ◌||◌, ◌&&◌, [], ℕ, not, List, Bool, true, false, cond, map, drop, length, length-append, get_or, Option, Some, None, option_map, refl, ap, sym, ◌∙◌, arith}
use Rattle.std.specs.Prelude.{bytes_eq, codes, find, flat_map, is_some}
use Rattle.std.specs.List.{list_any}
use Rattle.std.specs.Option.{option_or}
use Rattle.std.proofs.lemmas.List.{drop_all, drop_more}
use Rattle.names.proofs.FilterLaws.{filter_same}
use Rattle.names.proofs.NameLaws.{among_names, with_names-append, with_names_are}
use Rattle.names.proofs.PlaceLaws.{any_named}
use Rattle.names.specs.Names.{with_names}
use Rattle.flat_sizes.specs.Mentions.{not_own}
use Rattle.vrt_model.specs.CellRules.{supply_of}
use Rattle.vrt_model.specs.Lists.{distinct, has_name}
use Rattle.vrt_model.specs.Unrolled.{is_own, mentions, own_nets}
use Rattle.vrt_model.specs.Unsupported.{carried}
use Rattle.vrt_model.specs.declared.design.Cell.{Cell}
use Rattle.vrt_model.specs.declared.design.Design.{Design}
use Rattle.vrt_model.specs.declared.rules.Rules.{Rules}
use Rattle.vrt_model.specs.declared.rules.SupplyRule.{SupplyRule}

-- ---- card by card

module _ {X : Type 0} (f : X → List (List ℕ)) (i : ℕ) (xs : List X) where
  -- the names of one item more
  pub names_on : (x : X) (names more all : List (List ℕ)) → i < length xs → x ≡ get_or xs i x → more ≡ with_names names (f x)
      → with_names names (flat_map f (drop i xs)) ≡ all → with_names more (flat_map f (drop (i + 1) xs)) ≡ all
  names_on x names more all lt is e so_far =
      let rest = drop (i + 1) xs in
      ap (λ (ns : List (List ℕ)). with_names ns (flat_map f rest)) e
      ∙ sym (with_names-append names (f x) (flat_map f rest))
      ∙ sym (ap (λ (ys : List X). with_names names (flat_map f ys)) (drop_more xs i x lt ∙ ap (λ (y : X). y ∷ rest) (sym is))) ∙ so_far

  -- no item is left
  pub names_end : (names all : List (List ℕ)) → length xs ≤ i → with_names names (flat_map f (drop i xs)) ≡ all → names ≡ all
  names_end names all end so_far = sym (ap (λ (ys : List X). with_names names (flat_map f ys)) (drop_all i xs end)) ∙ so_far

-- names, and more behind them
pub names_both : (names xs ys next all : List (List ℕ)) → next ≡ with_names names xs → all ≡ with_names next ys → all ≡ with_names names (xs ++ ys)
names_both names xs ys next all e f = f ∙ ap (λ (ns : List (List ℕ)). with_names ns ys) e ∙ sym (with_names-append names xs ys)

-- ---- supplies

found : {X : Type 0} (p : X → Bool) (xs : List X) → is_some (find p xs) ≡ list_any p xs
found p [] = refl
found {X} p (x ∷ xs) = by_test (p x) (find p xs) (list_any p xs) (found p xs) where
  by_test : (b : Bool) (o : Option X) (any : Bool) → is_some o ≡ any → is_some (cond b (Some x) o) ≡ (b || any)
  by_test true o any e = refl
  by_test false o any e = e

declared : (o : Option SupplyRule) (zero : Bool) → is_some (option_or (option_map (λ (r : SupplyRule). r.value) o) (cond zero (Some false) None)) ≡ (zero || is_some o)
declared None true = refl
declared None false = refl
declared (Some rule) true = refl
declared (Some rule) false = refl

-- a name is a supply where it is `0`, or where a rule declares it
supply_named : (rules : Rules) (name : List ℕ)
    → is_some (supply_of rules name) ≡ (bytes_eq name (codes "0") || has_name (map (λ (r : SupplyRule). r.net) rules.supplies) name)
supply_named rules name =
    declared (find (λ (r : SupplyRule). bytes_eq r.net name) rules.supplies) (bytes_eq name (codes "0"))
    ∙ ap (λ (b : Bool). bytes_eq name (codes "0") || b) (found (λ (r : SupplyRule). bytes_eq r.net name) rules.supplies ∙ sym (any_named (λ (r : SupplyRule). r.net) name rules.supplies))

-- ---- own nets

no_or : (b : Bool) → (b || false) ≡ b
no_or true = refl
no_or false = refl

-- among none of the three
none_of : (zero supplies port global : Bool) → not (((zero || supplies) || port) || global) ≡ ((not (zero || supplies) && not port) && not global)
none_of true supplies port global = refl
none_of false true port global = refl
none_of false false true global = refl
none_of false false false global = refl

-- a name is an own net where it is none of these
own_is : (design : Design) (rules : Rules) (cell : Cell) (name : List ℕ) → not (has_name (not_own design rules cell) name) ≡ is_own design rules cell name
own_is design rules cell name =
    let nets = map (λ (r : SupplyRule). r.net) rules.supplies in
    let supplies = with_names (codes "0" ∷ []) nets in
    let named : has_name (not_own design rules cell) name ≡ (((bytes_eq name (codes "0") || has_name nets name) || has_name cell.ports name) || has_name design.globals name) =
    among_names (with_names supplies cell.ports) design.globals name
    ∙ ap (λ (b : Bool). b || has_name design.globals name)
    (among_names supplies cell.ports name
    ∙ ap (λ (b : Bool). b || has_name cell.ports name)
    (among_names (codes "0" ∷ []) nets name ∙ ap (λ (b : Bool). b || has_name nets name) (no_or (bytes_eq name (codes "0"))))) in
    ap not named ∙ none_of (bytes_eq name (codes "0")) (has_name nets name) (has_name cell.ports name) (has_name design.globals name)
    ∙ ap (λ (b : Bool). (not b && not (has_name cell.ports name)) && not (has_name design.globals name)) (sym (supply_named rules name))

-- behind these stand the own nets
own_behind : (design : Design) (rules : Rules) (cell : Cell) → with_names (not_own design rules cell) (mentions cell) ≡ not_own design rules cell ++ own_nets design rules cell
unfolding own_nets
own_behind design rules cell =
    with_names_are (not_own design rules cell) (mentions cell)
    ∙ ap (λ (names : List (List ℕ)). not_own design rules cell ++ distinct names)
    (filter_same (λ name. not (has_name (not_own design rules cell) name)) (is_own design rules cell) (mentions cell) (λ i name e. own_is design rules cell name))

-- so many more
pub more_names : (design : Design) (rules : Rules) (cell : Cell)
    → length (with_names (not_own design rules cell) (mentions cell)) ≡ length (not_own design rules cell) + length (own_nets design rules cell)
more_names design rules cell =
    ap (λ (xs : List (List ℕ)). length xs) (own_behind design rules cell) ∙ length-append (not_own design rules cell) (own_nets design rules cell)

pub not_less : (before all own m n : ℕ) → m ≡ before → n ≡ all → all ≡ before + own → m ≤ n
not_less before all own m n e f g = omega (arith, e, f, g)

pub owns_are : (before all own m n count : ℕ) → m ≡ before → n ≡ all → all ≡ before + own → count ≡ carried (n - m) → count ≡ carried own
owns_are before all own m n count e f g is = omega (arith, e, f, g, is)
