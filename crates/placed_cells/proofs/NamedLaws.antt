-- Where no name in the rules is missing, each line names what is there.
use Rattle.std.proofs.Common.{◌≡◌, ◌<◌, [], ◌∷◌, ◌&&◌, ◌⊎◌, ℕ, zero, suc, not, cond, List, Bool, true, false, map, Option, Some, None, refl, ap, sym, subst, arith, inl, inr}
use Rattle.std.specs.Prelude.{bytes_eq, filter_map, find, nat_lt, option_map}
use Rattle.std.specs.List.{list_any}
use Rattle.std.proofs.lemmas.Bool.{and_parts, ltb-true}
use Rattle.std.proofs.lemmas.Option.{none-some, same_Some}
use Rattle.place_paths.proofs.CellNames.{cell_of_name}
use Rattle.placed_cells.proofs.CellNames.{position_there}
use Rattle.placed_cells.specs.Named.{AssumedPortsAreThere, HoldNetsAreThere}
use Rattle.vrt_model.proofs.Lists.{among_filter_map, filter_map_among, map_among}
use Rattle.vrt_model.proofs.Members.{among_left, among_right, any_among, find_none}
use Rattle.vrt_model.proofs.Tests.{some_or_none}
use Rattle.vrt_model.specs.CellRules.{assumed, is_for}
use Rattle.vrt_model.specs.Comparison.{cell_at}
use Rattle.vrt_model.specs.Expressions.{names_in}
use Rattle.vrt_model.specs.Hierarchy.{Asked, IsOrdered, Missing, asked, first_missing, is_cell, is_net, is_port, missing_names}
use Rattle.vrt_model.specs.Lists.{Among, has_name, place_of}
use Rattle.vrt_model.specs.declared.design.Design.{Design}
use Rattle.vrt_model.specs.declared.rules.AssumeRule.{AssumeRule}
use Rattle.vrt_model.specs.declared.rules.Expr.{Expr}
use Rattle.vrt_model.specs.declared.rules.HoldRule.{HoldRule}
use Rattle.vrt_model.specs.declared.rules.Rules.{Rules}

-- ---- no line is missing

passed : (b : Bool) → not b ≡ false → b ≡ true
passed true e = refl
passed false e = sym e

-- below each line of a list there is a lower one, where none is the first
no_first : (all : List Missing) (bound : ℕ) (m : Missing) → find (λ (a : Missing). not (list_any (λ (other : Missing). nat_lt other.line a.line) all)) all ≡ None → Among all m → m.line < bound → ⊥
no_first all zero m none there low = absurd (omega (arith, low))
no_first all (suc bound) m none there low =
    let lower =
    any_among (λ (other : Missing). nat_lt other.line m.line) all
    (passed (list_any (λ (other : Missing). nat_lt other.line m.line) all) (find_none (λ (a : Missing). not (list_any (λ (other : Missing). nat_lt other.line a.line) all)) all m none there)) in
    let less = ltb-true lower.0.line m.line lower.2 in
    no_first all bound lower.0 none lower.1 (omega (arith, low, less))

-- so no line names what is not there
none_missing : (design : Design) (rules : Rules) → IsOrdered design rules → (m : Missing) → Among (missing_names design rules) m → ⊥
none_missing design rules ordered m there = no_first (missing_names design rules) (suc m.line) m ordered.names there (omega arith)

-- each name on a line is there, where the line names nothing that is not
all_there : (line : ℕ) (names : List Asked) → ((m : Missing) → first_missing line names ≡ Some m → ⊥) → (a : Asked) → Among names a → a.there ≡ true
all_there line names none a m = by_entry (some_or_none (find (λ (x : Asked). not x.there) names))
  where
    by_entry : ((x : Asked) × (find (λ (x : Asked). not x.there) names ≡ Some x)) ⊎ (find (λ (x : Asked). not x.there) names ≡ None) → a.there ≡ true
    by_entry (inl x) =
        absurd (none (record { line = line; name = x.0.name }) (ap (option_map (λ (y : Asked). let one : Missing = record { line = line; name = y.name } in one)) x.1))
    by_entry (inr e) = passed a.there (find_none (λ (x : Asked). not x.there) names a e m)

-- ---- lines of `hold`

abbrev hold_line : Design → HoldRule → Option Missing
hold_line design r = first_missing r.line (asked r.cell (is_cell design r.cell) ∷ asked r.net (is_net design r.cell r.net) ∷ [])

pub hold_nets_are_there : HoldNetsAreThere
hold_nets_are_there design rules ordered r there =
    all_there r.line (asked r.cell (is_cell design r.cell) ∷ asked r.net (is_net design r.cell r.net) ∷ [])
    (λ m e.
    let line : Among (filter_map (hold_line design) rules.holds) m = filter_map_among (hold_line design) rules.holds there.0 r m there.1 e in
    none_missing design rules ordered m (search (among_left, among_right, line) depth 9))
    (asked r.net (is_net design r.cell r.net)) (1, refl)

-- ---- lines of `assume`

abbrev assume_line : Design → AssumeRule → Option Missing
assume_line design r = first_missing r.line (asked r.cell (is_cell design r.cell) ∷ map (λ name. asked name (is_port design r.cell name)) (names_in r.expression))

-- a name on such a line is that of a port of the cell
port_named : (design : Design) (rules : Rules) → IsOrdered design rules → (r : AssumeRule) → Among rules.assumes r → (name : List ℕ) → Among (names_in r.expression) name → is_port design r.cell name ≡ true
port_named design rules ordered r there name on =
    let listed = map_among (λ (x : List ℕ). asked x (is_port design r.cell x)) (names_in r.expression) name on in
    all_there r.line (asked r.cell (is_cell design r.cell) ∷ map (λ x. asked x (is_port design r.cell x)) (names_in r.expression))
    (λ m e. none_missing design rules ordered m
    (among_right _ (filter_map (assume_line design) rules.assumes) m (filter_map_among (assume_line design) rules.assumes there.0 r m there.1 e)))
    (asked name (is_port design r.cell name)) (suc listed.0, listed.1)

-- an `assume` of a cell in a phase is one of its rules
rule_of : (rules : Rules) (cell : List ℕ) (phase : ℕ) (e : Expr) → Among (assumed rules cell phase) e → (r : AssumeRule) × Among rules.assumes r × (bytes_eq r.cell cell ≡ true) × (r.expression ≡ e)
rule_of rules cell phase e there =
    let from = among_filter_map (λ (r : AssumeRule). cond (bytes_eq r.cell cell && is_for r.phase phase) (Some r.expression) None) rules.assumes e there in
    let parts = by_test (bytes_eq from.0.cell cell && is_for from.0.phase phase) from.0.expression from.2 in
    (from.0, from.1, (and_parts (bytes_eq from.0.cell cell) (is_for from.0.phase phase) parts.0).0, parts.1)
  where
    by_test : (b : Bool) (x : Expr) → cond b (Some x) None ≡ Some e → (b ≡ true) × (x ≡ e)
    by_test true x h = (refl, same_Some x e h)
    by_test false x h = absurd (none-some e h)

pub assumed_ports_are_there : AssumedPortsAreThere
assumed_ports_are_there design rules cell phase e name is ordered low there on =
    let r = rule_of rules (cell_at design cell).name phase e there in
    let port = port_named design rules ordered r.0 r.1 name (subst (λ (x : Expr). Among (names_in x) name) (sym r.3) on) in
    let here = subst (λ (n : ℕ). has_name (cell_at design n).ports name ≡ true) (cell_of_name design is cell low r.0.cell r.2) port in
    by_place (some_or_none (place_of (cell_at design cell).ports name)) here
  where
    by_place : ((place : ℕ) × (place_of (cell_at design cell).ports name ≡ Some place)) ⊎ (place_of (cell_at design cell).ports name ≡ None) → has_name (cell_at design cell).ports name ≡ true
        → (place : ℕ) × (place_of (cell_at design cell).ports name ≡ Some place)
    by_place (inl found) here = found
    by_place (inr none) here = absurd (position_there (bytes_eq name) (cell_at design cell).ports here none)
