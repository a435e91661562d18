-- The tables of a cell are what the definitions say of it.
use Rattle.std.proofs.Common.{◌≡◌, ◌≤◌, ◌+◌, [], ◌∷◌, ℕ, zero, suc, List, Bool, map, length, Option, Some, None, refl, ap, ap₂, sym, subst, ◌∙◌, arith}
use Rattle.std.specs.Prelude.{bytes_eq, option_map, slice_get, sum_by, unwrap_or}
use Rattle.std.specs.Option.{option_or}
use Rattle.std.proofs.lemmas.List.Quantifiers.{position-Some}
use Rattle.std.proofs.lemmas.List.Sums.{sum_by-cons}
use Rattle.std.proofs.lemmas.Option.{slice_get-map}
use Rattle.net_places.specs.Places.{AreWithin, all_own, nets_at, own_below}
use Rattle.net_places.specs.Whole.{all_own_of}
use Rattle.net_tables.specs.Nets.{instance_in, net_in, nets_in}
use Rattle.net_tables.specs.Tables.{AreNetTables}
use Rattle.net_tables.specs.declared.tables.NetTables.{NetTables}
use Rattle.net_tables.specs.declared.types.CellNet.{CellNet}
use Rattle.net_tables.specs.declared.types.CellNet.TheVariants.{Supply, Port, Global, Own}
use Rattle.net_tables.specs.declared.types.CellNets.{CellNets}
use Rattle.net_tables.specs.declared.types.InstanceNets.{InstanceNets}
use Rattle.vrt_model.proofs.Members.{among_map}
use Rattle.vrt_model.specs.CellRules.{supply_of}
use Rattle.vrt_model.specs.Comparison.{cell_at}
use Rattle.vrt_model.specs.Lists.{Among, place_of}
use Rattle.vrt_model.specs.Unrolled.{Top, cell_named, deepest, own_count, own_nets}
use Rattle.vrt_model.specs.declared.design.Cell.{Cell}
use Rattle.vrt_model.specs.declared.design.Design.{Design}
use Rattle.vrt_model.specs.declared.design.InstanceCard.{InstanceCard}
use Rattle.vrt_model.specs.declared.rules.Rules.{Rules}

abbrev empty_cell : Cell
empty_cell = record { line = 0; name = []; ports = []; devices = []; instances = [] }

abbrev empty_nets : CellNets
empty_nets = record { names = record { ports = []; own = [] }; devices = []; instances = [] }

module _ (design : Design) (rules : Rules) where
  -- the place of an own net
  pub own_bound : (cell : Cell) (name : List ℕ) (j : ℕ) → net_in design rules cell name ≡ Own j → j ≤ length (own_nets design rules cell)
  unfolding net_in
  own_bound cell name j is = by_test (supply_of rules name) (place_of cell.ports name) (place_of design.globals name) is where
    by_place : (o : Option ℕ) → place_of (own_nets design rules cell) name ≡ o → (let one : CellNet = Own (unwrap_or o 0) in one) ≡ Own j → j ≤ length (own_nets design rules cell)
    by_place None e h = let same : 0 ≡ j = cc in omega (arith, same)
    by_place (Some k) e h = let same : k ≡ j = cc in let lt = (position-Some (bytes_eq name) (own_nets design rules cell) k [] e).0 in omega (arith, same, lt)

    by_test : (s : Option Bool) (p g : Option ℕ)
        → unwrap_or (option_or (option_map (λ (value : Bool). Supply value) s) (option_or (option_map (λ (k : ℕ). Port k) p) (option_map (λ (j : ℕ). Global j) g)))
        (Own (unwrap_or (place_of (own_nets design rules cell) name) 0)) ≡ Own j → j ≤ length (own_nets design rules cell)
    by_test (Some value) p g h = cc
    by_test None (Some k) g h = cc
    by_test None None (Some i) h = cc
    by_test None None None h = by_place (place_of (own_nets design rules cell) name) refl h

module _ (design : Design) (rules : Rules) (tables : NetTables) (are : AreNetTables design rules tables) where
  empty_is : empty_nets ≡ nets_in design rules empty_cell
  unfolding own_nets
  empty_is = refl

  pub nets_are : (k : ℕ) → nets_at tables k ≡ nets_in design rules (cell_at design k)
  nets_are k =
      ap (λ (o : Option CellNets). unwrap_or o empty_nets) (ap (λ (all : List CellNets). slice_get all k) are.cells_are ∙ slice_get-map (nets_in design rules) design.cells k)
      ∙ by_cell (slice_get design.cells k) where
        by_cell : (o : Option Cell) → unwrap_or (option_map (nets_in design rules) o) empty_nets ≡ nets_in design rules (unwrap_or o empty_cell)
        by_cell None = empty_is
        by_cell (Some cell) = refl

  -- ---- how many own nets there are

  sums : (depth : ℕ) → ((k : ℕ) → own_below tables depth k ≡ own_count design rules depth (cell_at design k)) → (cell : Cell) (cards : List InstanceCard)
      → sum_by (λ (i : InstanceNets). own_below tables depth i.cell) (map (instance_in design rules cell) cards)
      ≡ sum_by (λ (i : InstanceCard). own_count design rules depth (cell_at design (cell_named design i.cell))) cards
  sums depth each cell [] = refl
  sums depth each cell (card ∷ cards) =
      sum_by-cons (λ (i : InstanceNets). own_below tables depth i.cell) (instance_in design rules cell card) (map (instance_in design rules cell) cards)
      ∙ ap₂ (λ (a b : ℕ). a + b) (each (cell_named design card.cell)) (sums depth each cell cards)
      ∙ sym (sum_by-cons (λ (i : InstanceCard). own_count design rules depth (cell_at design (cell_named design i.cell))) card cards)

  pub own_is : (depth k : ℕ) → own_below tables depth k ≡ own_count design rules depth (cell_at design k)
  own_is zero k = ap (λ (nets : CellNets). length nets.names.own) (nets_are k)
  own_is (suc depth) k =
      ap (λ (nets : CellNets). length nets.names.own + sum_by (λ (i : InstanceNets). own_below tables depth i.cell) nets.instances) (nets_are k)
      ∙ ap (λ (n : ℕ). length (own_nets design rules (cell_at design k)) + n) (sums depth (λ n. own_is depth n) (cell_at design k) (cell_at design k).instances)

  pub all_own_is : (t : Top) → t.design ≡ design → t.rules ≡ rules → all_own tables t.cell ≡ all_own_of t
  unfolding all_own all_own_of
  all_own_is t d r = own_is deepest t.cell ∙ ap₂ (λ (x : Design) (y : Rules). own_count x y deepest (cell_at x t.cell)) (sym d) (sym r)

  -- ---- own nets at instances are of the cell

  pub are_within : AreWithin tables
  are_within k i there n m j e =
      let nets = nets_are k in
      let card = among_map (instance_in design rules (cell_at design k)) (cell_at design k).instances i (subst (λ (x : CellNets). Among x.instances i) nets there) in
      let name = among_map (net_in design rules (cell_at design k)) card.0.nets n (subst (λ (x : InstanceNets). Among x.nets n) (sym card.2) m) in
      let le = own_bound design rules (cell_at design k) name.0 j (name.2 ∙ e) in
      let same = ap (λ (x : CellNets). length x.names.own) nets in
      omega (arith, le, same)
