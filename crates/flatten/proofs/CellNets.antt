-- The names of the nets of a cell without instances, in the order of its flat circuit.
use Rattle.std.proofs.Common.{◌≡◌, ◌≤◌, ◌++◌, ◌∷◌, ◌||◌, ◌&&◌, [], ℕ, zero, suc, not, List, Bool, true, false, cond, filter, length, Option, Some, None, refl, ap, sym, ◌∙◌, append-nil}
use Rattle.std.specs.Prelude.{bytes_eq, flat_map, is_none, is_some}
use Rattle.std.specs.List.{list_any}
use Rattle.std.proofs.lemmas.List.Folds.{list_any-append}
use Rattle.names.proofs.ApartLaws.{once_is_all}
use Rattle.names.proofs.NameLaws.{once_filter, with_names_are}
use Rattle.vrt_model.specs.Lists.{At, distinct, has_name}
use Rattle.names.specs.Names.{with_name, with_names}
use Rattle.names.proofs.FilterLaws.{has_name_filter, filter_same, filter_twice}
use Rattle.names.proofs.PlaceLaws.{at_among}
use Rattle.flatten.specs.NetTables.{Supplies, globals_named, names_table, nets_named, port_table, with_net, with_nets}
use Rattle.vrt_model.specs.CellRules.{supply_of}
use Rattle.vrt_model.specs.Comparison.{cell_at}
use Rattle.vrt_model.specs.Inputs.{AllApart}
use Rattle.vrt_model.specs.Unrolled.{cell_named, deepest, global_nets, is_global_in, is_own, mentions, names_global, own_nets}
use Rattle.vrt_model.specs.declared.design.Cell.{Cell}
use Rattle.vrt_model.specs.declared.design.Design.{Design}
use Rattle.vrt_model.specs.declared.design.InstanceCard.{InstanceCard}
use Rattle.vrt_model.specs.declared.rules.Rules.{Rules}

-- ---- more nets

module _ (supply : Supplies) where
  abbrev pub is_plain : List ℕ → Bool
  is_plain name = is_none (supply name)

  -- more nets are those names more that are no supplies
  with_nets_names : (names xs : List (List ℕ)) → with_nets supply names xs ≡ with_names names (filter is_plain xs)
  with_nets_names names [] = refl
  with_nets_names names (x ∷ xs) = by_test (supply x) (with_nets_names names xs) (with_nets_names (with_name names x) xs) where
    by_test : (o : Option Bool) → with_nets supply names xs ≡ with_names names (filter is_plain xs)
        → with_nets supply (with_name names x) xs ≡ with_names (with_name names x) (filter is_plain xs)
        → with_nets supply (elim o [ None ↦ with_name names x | Some value ↦ names ]) xs
        ≡ with_names names (cond (is_none o) (x ∷ filter is_plain xs) (filter is_plain xs))
    by_test None kept more = more
    by_test (Some value) kept more = kept

  abbrev pub is_fresh : List (List ℕ) → List ℕ → Bool
  is_fresh names name = is_plain name && not (has_name names name)

  -- they stand behind those that were there, each once
  pub with_nets_are : (names xs : List (List ℕ)) → with_nets supply names xs ≡ names ++ distinct (filter (is_fresh names) xs)
  with_nets_are names xs =
      with_nets_names names xs ∙ with_names_are names (filter is_plain xs)
      ∙ ap (λ (ys : List (List ℕ)). names ++ distinct ys) (filter_twice (λ y. not (has_name names y)) is_plain xs)

  -- more nets, and more behind them
  pub with_nets-append : (names xs ys : List (List ℕ)) → with_nets supply names (xs ++ ys) ≡ with_nets supply (with_nets supply names xs) ys
  with_nets-append names [] ys = refl
  with_nets-append names (x ∷ xs) ys = with_nets-append (with_net supply names x) xs ys

-- ---- a cell without instances

pub record IsLeaf (design : Design) (k : ℕ) : Type 0 where
  pub no_instances : (cell_at design k).instances ≡ []
  pub ports_apart : AllApart bytes_eq (cell_at design k).ports
  pub globals_apart : AllApart bytes_eq design.globals
  pub few_cards : length (cell_at design k).devices ≤ 40000

or_none : (b : Bool) → (b || false) ≡ b
or_none true = refl
or_none false = refl

and_true : (b : Bool) → (b && true) ≡ b
and_true true = refl
and_true false = refl

not_some : (o : Option Bool) → not (is_some o) ≡ is_none o
not_some None = refl
not_some (Some value) = refl

module _ (design : Design) (rules : Rules) (k : ℕ) (leaf : IsLeaf design k) where
  abbrev pub cell : Cell
  cell = cell_at design k

  abbrev pub plain_in : List ℕ → Bool
  plain_in name = is_plain (supply_of rules) name

  -- its ports that are no supplies, its global nets and its own nets
  abbrev pub port_names : List (List ℕ)
  port_names = filter plain_in cell.ports

  abbrev pub global_names : List (List ℕ)
  global_names = global_nets design rules cell

  abbrev pub own_names : List (List ℕ)
  own_names = own_nets design rules cell

  abbrev pub shared_names : List (List ℕ)
  shared_names = port_names ++ global_names

  abbrev pub all_names : List (List ℕ)
  all_names = shared_names ++ own_names

  abbrev pub named : List ℕ → Bool
  named y = has_name (nets_named cell.devices) y

  -- ---- which names are global nets and own nets

  mentions_are : mentions cell ≡ nets_named cell.devices
  mentions_are =
      ap (λ (is : List InstanceCard). nets_named cell.devices ++ flat_map (λ (i : InstanceCard). i.nets) is) leaf.no_instances
      ∙ append-nil (nets_named cell.devices)

  named_at : (depth : ℕ) (y : List ℕ) → names_global design rules depth cell y ≡ (is_global_in design rules cell y && named y)
  named_at zero y = ap (λ (names : List (List ℕ)). is_global_in design rules cell y && has_name names y) mentions_are
  named_at (suc depth) y =
      ap (λ (is : List InstanceCard). (is_global_in design rules cell y && has_name (mentions cell) y)
      || list_any (λ (i : InstanceCard). names_global design rules depth (cell_at design (cell_named design i.cell)) y) is) leaf.no_instances
      ∙ or_none (is_global_in design rules cell y && has_name (mentions cell) y)
      ∙ ap (λ (names : List (List ℕ)). is_global_in design rules cell y && has_name names y) mentions_are

  abbrev pub is_named : List ℕ → Bool
  is_named y = names_global design rules deepest cell y

  pub named_is : (y : List ℕ)
      → is_named y ≡ (((has_name design.globals y && plain_in y) && not (has_name cell.ports y)) && named y)
  named_is y =
      named_at deepest y
      ∙ ap (λ (b : Bool). ((has_name design.globals y && b) && not (has_name cell.ports y)) && named y) (not_some (supply_of rules y))

  pub globals_are : global_names ≡ filter is_named design.globals
  unfolding global_nets
  globals_are = refl

  pub among_globals : (y : List ℕ) → has_name global_names y ≡ (is_named y && has_name design.globals y)
  among_globals y = ap (λ (names : List (List ℕ)). has_name names y) globals_are ∙ has_name_filter is_named design.globals y

  abbrev pub is_mine : List ℕ → Bool
  is_mine y = is_own design rules cell y

  pub mine_is : (y : List ℕ) → is_mine y ≡ ((plain_in y && not (has_name cell.ports y)) && not (has_name design.globals y))
  mine_is y = ap (λ (b : Bool). (b && not (has_name cell.ports y)) && not (has_name design.globals y)) (not_some (supply_of rules y))

  pub owns_are : own_names ≡ distinct (filter is_mine (nets_named cell.devices))
  unfolding own_nets
  owns_are = ap (λ (names : List (List ℕ)). distinct (filter is_mine names)) mentions_are

  -- ---- the table of names, in three steps

  ports_first : port_table (supply_of rules) cell ≡ port_names
  ports_first =
      with_nets_are (supply_of rules) [] cell.ports
      ∙ ap distinct (filter_same (is_fresh (supply_of rules) []) plain_in cell.ports (λ i y e. and_true (plain_in y)))
      ∙ once_filter plain_in cell.ports ∙ ap (filter plain_in) (once_is_all cell.ports leaf.ports_apart)

  -- what is no supply and not among those ports is no port
  fresh_first : (y : List ℕ) → is_fresh (supply_of rules) port_names y ≡ (plain_in y && not (has_name cell.ports y))
  fresh_first y =
      ap (λ (b : Bool). plain_in y && not b) (has_name_filter plain_in cell.ports y) ∙ tests (plain_in y) (has_name cell.ports y) where
        tests : (n p : Bool) → (n && not (n && p)) ≡ (n && not p)
        tests true p = refl
        tests false p = refl

  globals_second : with_nets (supply_of rules) port_names (globals_named cell.devices design.globals) ≡ shared_names
  globals_second =
      with_nets_are (supply_of rules) port_names (globals_named cell.devices design.globals)
      ∙ ap (λ (ys : List (List ℕ)). port_names ++ ys)
      (ap distinct (filter_twice (is_fresh (supply_of rules) port_names) named design.globals)
      ∙ once_filter (λ y. named y && is_fresh (supply_of rules) port_names y) design.globals
      ∙ ap (filter (λ y. named y && is_fresh (supply_of rules) port_names y)) (once_is_all design.globals leaf.globals_apart)
      ∙ filter_same (λ y. named y && is_fresh (supply_of rules) port_names y) is_named design.globals same
      ∙ sym globals_are) where
        turn : (m n p : Bool) → (m && (n && not p)) ≡ (((true && n) && not p) && m)
        turn true true true = refl
        turn true true false = refl
        turn true false p = refl
        turn false true true = refl
        turn false true false = refl
        turn false false p = refl

        same : (i : ℕ) (y : List ℕ) → At design.globals i y → (named y && is_fresh (supply_of rules) port_names y) ≡ is_named y
        same i y e =
            ap (λ (b : Bool). named y && b) (fresh_first y)
            ∙ turn (named y) (plain_in y) (has_name cell.ports y)
            ∙ sym (ap (λ (b : Bool). ((b && plain_in y) && not (has_name cell.ports y)) && named y) (at_among design.globals i y e))
            ∙ sym (named_is y)

  owns_third : with_nets (supply_of rules) shared_names (nets_named cell.devices) ≡ all_names
  owns_third =
      with_nets_are (supply_of rules) shared_names (nets_named cell.devices)
      ∙ ap (λ (ys : List (List ℕ)). shared_names ++ ys)
      (ap distinct (filter_same (is_fresh (supply_of rules) shared_names) is_mine (nets_named cell.devices) same) ∙ sym owns_are) where
        tests : (n a p g : Bool) → (n && not a) ≡ (n && not p) → (n && not (a || ((((g && n) && not p) && true) && g))) ≡ ((n && not p) && not g)
        tests false a p g e = refl
        tests true true true g e = refl
        tests true true false g e = cc
        tests true false true g e = cc
        tests true false false true e = refl
        tests true false false false e = refl

        shared : (y : List ℕ) → named y ≡ true
            → has_name shared_names y
            ≡ (has_name port_names y || ((((has_name design.globals y && plain_in y) && not (has_name cell.ports y)) && true) && has_name design.globals y))
        shared y m =
            list_any-append (bytes_eq y) port_names global_names
            ∙ ap (λ (b : Bool). has_name port_names y || b)
            (among_globals y ∙ ap (λ (b : Bool). b && has_name design.globals y)
            (named_is y ∙ ap (λ (b : Bool). ((has_name design.globals y && plain_in y) && not (has_name cell.ports y)) && b) m))

        same : (i : ℕ) (y : List ℕ) → At (nets_named cell.devices) i y → is_fresh (supply_of rules) shared_names y ≡ is_mine y
        same i y e =
            ap (λ (b : Bool). plain_in y && not b) (shared y (at_among (nets_named cell.devices) i y e))
            ∙ tests (plain_in y) (has_name port_names y) (has_name cell.ports y) (has_name design.globals y) (fresh_first y)
            ∙ sym (mine_is y)

  pub names_are : names_table (supply_of rules) design.globals cell ≡ all_names
  names_are =
      ap (λ (names : List (List ℕ)). with_nets (supply_of rules) (with_nets (supply_of rules) names (globals_named cell.devices design.globals)) (nets_named cell.devices)) ports_first
      ∙ ap (λ (names : List (List ℕ)). with_nets (supply_of rules) names (nets_named cell.devices)) globals_second ∙ owns_third
