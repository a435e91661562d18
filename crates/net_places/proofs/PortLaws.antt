-- The flat nets of the ports of a whole.
use Rattle.std.proofs.Common.{◌≡◌, ◌≤◌, ◌+◌, ◌++◌, ◌∷◌, [], ℕ, suc, cond, List, Bool, map, length, Option, Some, None, refl, ap, ap₂, sym, ◌∙◌, arith, append-nil, append_assoc}
use Rattle.std.specs.Prelude.{filter, is_none, option_map, unwrap_or}
use Rattle.std.specs.Option.{option_or}
use Rattle.std.proofs.lemmas.List.{map-append}
use Rattle.net_places.specs.Ports.{IsNumbered, net_behind, net_by, supply_value}
use Rattle.net_tables.specs.Nets.{net_in}
use Rattle.net_tables.specs.declared.types.CellNet.TheVariants.{Supply, Port, Global, Own}
use Rattle.vrt_model.specs.CellRules.{supply_of}
use Rattle.vrt_model.specs.Comparison.{port_nets, port_nets_from}
use Rattle.vrt_model.specs.Lists.{place_of}
use Rattle.vrt_model.specs.Unrolled.{own_nets}
use Rattle.vrt_model.specs.declared.design.Cell.{Cell}
use Rattle.vrt_model.specs.declared.design.Design.{Design}
use Rattle.vrt_model.specs.declared.ids.Net.{Net}
use Rattle.vrt_model.specs.declared.rules.Rules.{Rules}

-- which supply a name in a cell is
pub supply_is : (design : Design) (rules : Rules) (cell : Cell) (name : List ℕ) → supply_value (net_in design rules cell name) ≡ supply_of rules name
unfolding net_in
supply_is design rules cell name = by_test (supply_of rules name) (place_of cell.ports name) (place_of design.globals name) where
  by_test : (s : Option Bool) (p g : Option ℕ)
      → supply_value (unwrap_or (option_or (option_map (λ (value : Bool). Supply value) s) (option_or (option_map (λ (k : ℕ). Port k) p) (option_map (λ (j : ℕ). Global j) g)))
      (Own (unwrap_or (place_of (own_nets design rules cell) name) 0))) ≡ s
  by_test (Some value) p g = refl
  by_test None (Some k) g = refl
  by_test None None (Some j) = refl
  by_test None None None = refl

-- the nets so far, and those of the ports that are left
pub record IsNumbering (rules : Rules) (names : List (List ℕ)) (nets : List Net) (next : ℕ) (left : List (List ℕ)) : Type 0 where
  pub nets_are : map (λ (n : Net). n.0) nets ++ port_nets_from rules next left ≡ port_nets rules names
  pub next_is : next + length (filter (λ name. is_none (supply_of rules name)) left) ≡ 2 + length (filter (λ name. is_none (supply_of rules name)) names)

pub begun : (rules : Rules) (names : List (List ℕ)) (nets : List Net) → nets ≡ [] → IsNumbering rules names nets 2 names
begun rules names nets e = record { nets_are = ap (λ (ns : List Net). map (λ (n : Net). n.0) ns ++ port_nets_from rules 2 names) e; next_is = refl }

from_by : (rules : Rules) (next : ℕ) (name : List ℕ) (names : List (List ℕ)) → port_nets_from rules next (name ∷ names) ≡ net_by (supply_of rules name) next ∷ port_nets_from rules (net_behind (supply_of rules name) next) names
from_by rules next name names = by_test (supply_of rules name) where
  by_test : (o : Option Bool) → (elim o [ None ↦ next ∷ port_nets_from rules (suc next) names | Some value ↦ cond value 1 0 ∷ port_nets_from rules next names ])
      ≡ net_by o next ∷ port_nets_from rules (net_behind o next) names
  by_test None = refl
  by_test (Some value) = refl

count_by : (rules : Rules) (next : ℕ) (name : List ℕ) (names : List (List ℕ)) → next + length (filter (λ name. is_none (supply_of rules name)) (name ∷ names))
    ≡ net_behind (supply_of rules name) next + length (filter (λ name. is_none (supply_of rules name)) names)
count_by rules next name names = by_test (supply_of rules name) where
  by_test : (o : Option Bool) → next + length (cond (is_none o) (name ∷ filter (λ name. is_none (supply_of rules name)) names) (filter (λ name. is_none (supply_of rules name)) names))
      ≡ net_behind o next + length (filter (λ name. is_none (supply_of rules name)) names)
  by_test None = omega arith
  by_test (Some value) = refl

pub step : (rules : Rules) (names left behind : List (List ℕ)) (name : List ℕ) (nets new : List Net) (next after : ℕ) (net : Net) → left ≡ name ∷ behind → new ≡ nets ++ net ∷ []
    → net.0 ≡ net_by (supply_of rules name) next → after ≡ net_behind (supply_of rules name) next → IsNumbering rules names nets next left → IsNumbering rules names new after behind
step rules names left behind name nets new next after net e more is now before = record {
  nets_are =
      ap₂ (λ (ns : List Net) (m : ℕ). map (λ (n : Net). n.0) ns ++ port_nets_from rules m behind) more now
      ∙ ap (λ (ns : List ℕ). ns ++ port_nets_from rules (net_behind (supply_of rules name) next) behind) (map-append (λ (n : Net). n.0) nets (net ∷ []))
      ∙ append_assoc (map (λ (n : Net). n.0) nets) (net.0 ∷ []) (port_nets_from rules (net_behind (supply_of rules name) next) behind)
      ∙ ap (λ (m : ℕ). map (λ (n : Net). n.0) nets ++ m ∷ port_nets_from rules (net_behind (supply_of rules name) next) behind) is
      ∙ ap (λ (ns : List ℕ). map (λ (n : Net). n.0) nets ++ ns) (sym (from_by rules next name behind) ∙ ap (port_nets_from rules next) (sym e))
      ∙ before.nets_are;
  next_is =
      ap (λ (m : ℕ). m + length (filter (λ name. is_none (supply_of rules name)) behind)) now ∙ sym (count_by rules next name behind)
      ∙ ap (λ (ns : List (List ℕ)). next + length (filter (λ name. is_none (supply_of rules name)) ns)) (sym e) ∙ before.next_is;
}

-- the next net stays small
pub behind_small : (supply : Option Bool) (next after : ℕ) (left behind : List (List ℕ)) (name : List ℕ) (most : ℕ) → left ≡ name ∷ behind → after ≡ net_behind supply next
    → next + length left ≤ most → after + length behind ≤ most
behind_small None next after left behind name most e now room = let size = ap (λ (ns : List (List ℕ)). length ns) e in omega (arith, size, now, room)
behind_small (Some value) next after left behind name most e now room = let size = ap (λ (ns : List (List ℕ)). length ns) e in omega (arith, size, now, room)

pub done : (rules : Rules) (names left : List (List ℕ)) (nets : List Net) (next : ℕ) → left ≡ [] → IsNumbering rules names nets next left → IsNumbered rules names nets next
done rules names left nets next e before = record {
  nets_are = sym (append-nil (map (λ (n : Net). n.0) nets)) ∙ ap (λ (ns : List (List ℕ)). map (λ (n : Net). n.0) nets ++ port_nets_from rules next ns) (sym e) ∙ before.nets_are;
  next_is =
      let none = ap (λ (ns : List (List ℕ)). next + length (filter (λ name. is_none (supply_of rules name)) ns)) e in
      let same = before.next_is in omega (arith, none, same);
}
