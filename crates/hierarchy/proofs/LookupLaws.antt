-- Names looked up in the tables of a netlist.
use Rattle.std.proofs.Common.{◌≡◌, ◌∷◌, ◌++◌, [], ℕ, zero, suc, ◌<◌, ◌&&◌, List, Bool, true, false, not, cond, map, length, get_or, Option, Some, None, option_map, refl, sym, ap, ap₂, ◌∙◌, arith}
use Rattle.std.proofs.lemmas.List.{map-append}
use Rattle.std.specs.Prelude.{bytes_eq, filter_map, find, position, slice_get, unwrap_or, is_some}
use Rattle.std.specs.List.{cons_option}
use Rattle.std.specs.Option.{option_or}
use Rattle.std.proofs.lemmas.List.Folds.{list_any-append}
use Rattle.vrt_model.specs.Lists.{distinct, has_name}
use Rattle.vrt_model.specs.Comparison.{cell_at}
use Rattle.vrt_model.specs.Expressions.{names_in as expression_names}
use Rattle.vrt_model.specs.Hierarchy.{Asked, Missing, asked, first_missing, has_hold, is_cell, is_device, is_instance, is_net, is_port, missing_name, missing_names, named_cell}
use Rattle.vrt_model.specs.Unrolled.{mentions}
use Rattle.vrt_model.specs.declared.design.Cell.{Cell}
use Rattle.vrt_model.specs.declared.design.Design.{Design}
use Rattle.vrt_model.specs.declared.design.DeviceCard.{DeviceCard}
use Rattle.vrt_model.specs.declared.design.InstanceCard.{InstanceCard}
use Rattle.vrt_model.specs.declared.rules.AssumeRule.{AssumeRule}
use Rattle.vrt_model.specs.declared.rules.ClockportRule.{ClockportRule}
use Rattle.vrt_model.specs.declared.rules.EnterRule.{EnterRule}
use Rattle.vrt_model.specs.declared.rules.Expr.{Expr}
use Rattle.vrt_model.specs.declared.rules.HoldRule.{HoldRule}
use Rattle.vrt_model.specs.declared.rules.InstanceMatchRule.{InstanceMatchRule}
use Rattle.vrt_model.specs.declared.rules.KeeperRule.{KeeperRule}
use Rattle.vrt_model.specs.declared.rules.MatchRule.{MatchRule}
use Rattle.vrt_model.specs.declared.rules.ObserveRule.{ObserveRule}
use Rattle.vrt_model.specs.declared.rules.PairRule.{PairRule}
use Rattle.vrt_model.specs.declared.rules.PortRule.{PortRule}
use Rattle.vrt_model.specs.declared.rules.Rules.{Rules}
use Rattle.vrt_model.specs.declared.rules.StrengthRule.{StrengthRule}
use Rattle.hierarchy.proofs.CardLaws.{by_name, number_is, place_is}
use Rattle.hierarchy.proofs.HeldLaws.{held_in}
use Rattle.line_laws.proofs.LineLaws.{first_is}
use Rattle.names.proofs.PlaceLaws.{any_named, any_placed, placed_within}
use Rattle.names.proofs.NameLaws.{once_has_same}
use Rattle.hierarchy.specs.Names.{AreTables, earliest, is_in, line_of, missing_assumed, missing_by, missing_cell, missing_held, names_missing, port_asked, sets_of}
use Rattle.hierarchy.specs.Sets.{names_in}
use Rattle.hierarchy.specs.declared.lookups.Tables.{Tables}
use Rattle.hierarchy.specs.declared.sets.Kind.{Kind}
use Rattle.hierarchy.specs.declared.sets.Kind.TheVariants.{Ports, Devices, Instances, Nets}

abbrev no_cell : Cell
no_cell = record { line = 0; name = []; ports = []; devices = []; instances = [] }

-- a set at a place is that of the cell there
set_at : (of : Cell → List (List ℕ)) (cells : List Cell) (n : ℕ) → n < length cells
    → unwrap_or (slice_get (map of cells) n) [] ≡ of (unwrap_or (slice_get cells n) no_cell)
set_at of [] n lt = absurd (omega arith)
set_at of (c ∷ cells) zero lt = refl
set_at of (c ∷ cells) (suc n) lt = set_at of cells n (omega arith)

read_at : (sets : List (List (List ℕ))) (n : ℕ) → unwrap_or (slice_get sets n) [] ≡ get_or sets n []
read_at [] n = refl
read_at (s ∷ sets) zero = refl
read_at (s ∷ sets) (suc n) = read_at sets n

-- ---- what is asked on a line

-- where the first name is not there, the others are no matter
rest_asked : (line : ℕ) (cell : List ℕ) (b : Bool) (xs ys : List Asked) → (b ≡ true → xs ≡ ys) → first_missing line (asked cell b ∷ xs) ≡ first_missing line (asked cell b ∷ ys)
rest_asked line cell true xs ys same = ap (λ zs. first_missing line (asked cell true ∷ zs)) (same refl)
rest_asked line cell false xs ys same = refl

same_map : {X Y : Type 0} (f g : X → Y) → ((x : X) → f x ≡ g x) → (xs : List X) → map f xs ≡ map g xs
same_map f g same [] = refl
same_map f g same (x ∷ xs) = ap₂ ◌∷◌ (same x) (same_map f g same xs)

same_found : {X : Type 0} (f g : X → Option Missing) → ((x : X) → f x ≡ g x) → (xs : List X) → filter_map f xs ≡ filter_map g xs
same_found f g same [] = refl
same_found f g same (x ∷ xs) = ap₂ cons_option (same x) (same_found f g same xs)

find_first : (xs ys : List Asked) → find (λ (a : Asked). not a.there) (xs ++ ys) ≡ option_or (find (λ (a : Asked). not a.there) xs) (find (λ (a : Asked). not a.there) ys)
find_first [] ys = refl
find_first (x ∷ xs) ys = by_test (not x.there) (find_first xs ys) where
  by_test : (b : Bool) → find (λ (a : Asked). not a.there) (xs ++ ys) ≡ option_or (find (λ (a : Asked). not a.there) xs) (find (λ (a : Asked). not a.there) ys)
      → cond b (Some x) (find (λ (a : Asked). not a.there) (xs ++ ys)) ≡ option_or (cond b (Some x) (find (λ (a : Asked). not a.there) xs)) (find (λ (a : Asked). not a.there) ys)
  by_test true e = refl
  by_test false e = e

told_or : (line : ℕ) (a b : Option Asked)
    → option_map (λ (a : Asked). let one : Missing = record { line = line; name = a.name } in one) (option_or a b)
    ≡ option_or (option_map (λ (a : Asked). let one : Missing = record { line = line; name = a.name } in one) a) (option_map (λ (a : Asked). let one : Missing = record { line = line; name = a.name } in one) b)
told_or line None b = refl
told_or line (Some a) b = refl

-- the first of two lists of names
two_asked : {X : Type 0} (line : ℕ) (f : X → Asked) (xs ys : List X) → first_missing line (map f (xs ++ ys)) ≡ option_or (first_missing line (map f xs)) (first_missing line (map f ys))
two_asked line f xs ys =
    ap (first_missing line) (map-append f xs ys)
    ∙ ap (option_map (λ (a : Asked). let one : Missing = record { line = line; name = a.name } in one)) (find_first (map f xs) (map f ys))
    ∙ told_or line (find (λ (a : Asked). not a.there) (map f xs)) (find (λ (a : Asked). not a.there) (map f ys))

pub left_asked : {X : Type 0} (line : ℕ) (f : X → Asked) (xs ys : List X) (m : Missing) → Some m ≡ first_missing line (map f xs) → Some m ≡ first_missing line (map f (xs ++ ys))
left_asked line f xs ys m e = ap (λ o. option_or o (first_missing line (map f ys))) e ∙ sym (two_asked line f xs ys)

pub right_asked : {X : Type 0} (line : ℕ) (f : X → Asked) (xs ys : List X) (found : Option Missing) → None ≡ first_missing line (map f xs) → found ≡ first_missing line (map f ys)
    → found ≡ first_missing line (map f (xs ++ ys))
right_asked line f xs ys found e g = g ∙ ap (λ o. option_or o (first_missing line (map f ys))) e ∙ sym (two_asked line f xs ys)

-- ---- what is there

module _ (design : Design) (rules : Rules) (tables : Tables) (are : AreTables design rules tables) where
  cell_same : (name : List ℕ) → has_name tables.cells name ≡ is_cell design name
  cell_same name = ap (λ (ns : List (List ℕ)). has_name ns name) are.cells ∙ any_named (λ (c : Cell). c.name) name design.cells

  -- a name in the set of a cell that is there
  in_set : (of : Cell → List (List ℕ)) (sets : List (List (List ℕ))) (cell name : List ℕ) → sets ≡ map of design.cells → is_cell design cell ≡ true
      → is_in tables.cells sets cell name ≡ has_name (of (named_cell design cell)) name
  in_set of sets cell name same there = by_place (position (by_name cell) design.cells) refl (sym (any_placed (by_name cell) design.cells) ∙ there) where
    At : Option ℕ → Bool
    At o = elim o [ None ↦ false | Some k ↦ has_name (unwrap_or (slice_get sets k) []) name ]

    by_place : (o : Option ℕ) → position (by_name cell) design.cells ≡ o → is_some o ≡ true → is_in tables.cells sets cell name ≡ has_name (of (named_cell design cell)) name
    by_place None e some = cc
    by_place (Some n) e some =
        ap At (place_is design tables.cells cell are.cells ∙ e)
        ∙ ap (λ (ss : List (List (List ℕ))). has_name (unwrap_or (slice_get ss n) []) name) same
        ∙ ap (λ (ns : List (List ℕ)). has_name ns name) (set_at of design.cells n (placed_within (by_name cell) design.cells n e))
        ∙ ap (λ k. has_name (of (cell_at design k)) name) (number_is design tables.cells cell n are.cells (place_is design tables.cells cell are.cells ∙ e))

  kind_same : (kind : Kind) (cell name : List ℕ) → is_cell design cell ≡ true → is_in tables.cells (sets_of kind tables) cell name ≡ has_name (names_in kind (named_cell design cell)) name
  kind_same kind cell name there =
      in_set (λ (c : Cell). distinct (names_in kind c)) (sets_of kind tables) cell name (are.sets kind) there ∙ once_has_same (names_in kind (named_cell design cell)) name

  held_same : (cell name : List ℕ) → is_cell design cell ≡ true → is_in tables.cells tables.held.items cell name ≡ has_hold rules cell name
  held_same cell name there = by_place (position (bytes_eq cell) tables.cells) refl (sym (any_placed (bytes_eq cell) tables.cells) ∙ cell_same cell ∙ there) where
    At : Option ℕ → Bool
    At o = elim o [ None ↦ false | Some k ↦ has_name (unwrap_or (slice_get tables.held.items k) []) name ]

    by_place : (o : Option ℕ) → position (bytes_eq cell) tables.cells ≡ o → is_some o ≡ true → is_in tables.cells tables.held.items cell name ≡ has_hold rules cell name
    by_place None e some = cc
    by_place (Some n) e some =
        ap At e ∙ ap (λ (ns : List (List ℕ)). has_name ns name) (read_at tables.held.items n)
        ∙ held_in tables.cells rules.holds tables.held.items n cell name are.held e (let lt = placed_within (bytes_eq cell) tables.cells n e in omega (arith, lt, are.held.count))

  by_cell : (line : ℕ) (cell : List ℕ) (xs ys : List Asked) → (is_cell design cell ≡ true → xs ≡ ys) → first_missing line (asked cell (has_name tables.cells cell) ∷ xs) ≡ first_missing line (asked cell (is_cell design cell) ∷ ys)
  by_cell line cell xs ys same = ap (λ b. first_missing line (asked cell b ∷ xs)) (cell_same cell) ∙ rest_asked line cell (is_cell design cell) xs ys same

  cell_line : (line : ℕ) (cell : List ℕ) → missing_cell tables line cell ≡ first_missing line (asked cell (is_cell design cell) ∷ [])
  cell_line line cell = by_cell line cell [] [] (λ there. refl)

  port_line : (line : ℕ) (cell name : List ℕ) → missing_by tables Ports line cell name ≡ first_missing line (asked cell (is_cell design cell) ∷ asked name (is_port design cell name) ∷ [])
  port_line line cell name = by_cell line cell _ _ (λ there. ap (λ b. asked name b ∷ []) (kind_same Ports cell name there))

  device_line : (line : ℕ) (cell name : List ℕ) → missing_by tables Devices line cell name ≡ first_missing line (asked cell (is_cell design cell) ∷ asked name (is_device design cell name) ∷ [])
  device_line line cell name =
      by_cell line cell _ _ (λ there. ap (λ b. asked name b ∷ []) (kind_same Devices cell name there ∙ any_named (λ (d : DeviceCard). d.name) name (named_cell design cell).devices))

  instance_line : (line : ℕ) (cell name : List ℕ) → missing_by tables Instances line cell name ≡ first_missing line (asked cell (is_cell design cell) ∷ asked name (is_instance design cell name) ∷ [])
  instance_line line cell name =
      by_cell line cell _ _ (λ there. ap (λ b. asked name b ∷ []) (kind_same Instances cell name there ∙ any_named (λ (i : InstanceCard). i.name) name (named_cell design cell).instances))

  net_same : (cell name : List ℕ) → is_cell design cell ≡ true → is_in tables.cells tables.nets cell name ≡ is_net design cell name
  net_same cell name there = kind_same Nets cell name there ∙ list_any-append (bytes_eq name) (named_cell design cell).ports (mentions (named_cell design cell))

  net_line : (line : ℕ) (cell name : List ℕ) → missing_by tables Nets line cell name ≡ first_missing line (asked cell (is_cell design cell) ∷ asked name (is_net design cell name) ∷ [])
  net_line line cell name = by_cell line cell _ _ (λ there. ap (λ b. asked name b ∷ []) (net_same cell name there))

  held_line : (line : ℕ) (cell name : List ℕ) → missing_held tables line cell name ≡ first_missing line (asked cell (is_cell design cell) ∷ asked name (is_net design cell name && has_hold rules cell name) ∷ [])
  held_line line cell name = by_cell line cell _ _ (λ there. ap (λ b. asked name b ∷ []) (ap₂ (λ p q. p && q) (net_same cell name there) (held_same cell name there)))

  assumed_line : (line : ℕ) (cell : List ℕ) (e : Expr)
      → missing_assumed tables line cell e ≡ first_missing line (asked cell (is_cell design cell) ∷ map (λ name. asked name (is_port design cell name)) (expression_names e))
  assumed_line line cell e =
      by_cell line cell _ _ (λ there. same_map (port_asked tables cell) (λ name. asked name (is_port design cell name)) (λ name. ap (asked name) (kind_same Ports cell name there)) (expression_names e))

  names_are : names_missing tables rules ≡ missing_names design rules
  names_are =
      ap₂ ◌++◌ (ap₂ ◌++◌ (ap₂ ◌++◌ (ap₂ ◌++◌ (ap₂ ◌++◌ (ap₂ ◌++◌ (ap₂ ◌++◌ (ap₂ ◌++◌ (ap₂ ◌++◌ (ap₂ ◌++◌ (same_found _ _ (λ (r : StrengthRule). device_line r.line r.cell r.device) rules.strengths)
      (same_found _ _ (λ (r : ClockportRule). port_line r.line r.cell r.port) rules.clockports))
      (same_found _ _ (λ (r : PairRule). cell_line r.line r.cell) rules.pairs))
      (same_found _ _ (λ (r : PortRule). port_line r.line r.cell r.port) rules.ports))
      (same_found _ _ (λ (r : HoldRule). net_line r.line r.cell r.net) rules.holds))
      (same_found _ _ (λ (r : KeeperRule). device_line r.line r.cell r.device) rules.keepers))
      (same_found _ _ (λ (r : MatchRule). held_line r.line r.cell r.net) rules.matches))
      (same_found _ _ (λ (r : InstanceMatchRule). instance_line r.line r.cell r.instance) rules.instance_matches))
      (same_found _ _ (λ (r : EnterRule). held_line r.line r.cell r.net) rules.enters))
      (same_found _ _ (λ (r : ObserveRule). port_line r.line r.cell r.port) rules.observes))
      (same_found _ _ (λ (r : AssumeRule). assumed_line r.line r.cell r.expression) rules.assumes)

  pub names_found : (found : Option Missing) → found ≡ earliest (names_missing tables rules) → found ≡ missing_name design rules
  names_found found e = e ∙ ap earliest names_are ∙ sym (first_is line_of (missing_names design rules))

-- ---- how they are filled

pub sets_are : (cells given : List Cell) (tables : Tables) → given ≡ cells
    → tables.ports ≡ map (λ (c : Cell). distinct (names_in Ports c)) given → tables.devices ≡ map (λ (c : Cell). distinct (names_in Devices c)) given
    → tables.instances ≡ map (λ (c : Cell). distinct (names_in Instances c)) given → tables.nets ≡ map (λ (c : Cell). distinct (names_in Nets c)) given
    → (kind : Kind) → sets_of kind tables ≡ map (λ (c : Cell). distinct (names_in kind c)) cells
sets_are cells given tables same p d i n Ports = p ∙ ap (map (λ (c : Cell). distinct (names_in Ports c))) same
sets_are cells given tables same p d i n Devices = d ∙ ap (map (λ (c : Cell). distinct (names_in Devices c))) same
sets_are cells given tables same p d i n Instances = i ∙ ap (map (λ (c : Cell). distinct (names_in Instances c))) same
sets_are cells given tables same p d i n Nets = n ∙ ap (map (λ (c : Cell). distinct (names_in Nets c))) same
