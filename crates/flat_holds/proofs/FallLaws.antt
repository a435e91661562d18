-- The rule that counts on a flat net is that of the definition.
use Rattle.std.proofs.Common.{◌≡◌, ◌<◌, ◌≤◌, ◌+◌, ◌-◌, ◌++◌, ◌∷◌, [], ℕ, suc, Bool, true, false, List, map, flat_map, filter, length, Option, Some, None, refl, ap, ap₂, sym, subst, ◌∙◌, arith}
use Rattle.std.specs.Prelude.{◌&&◌, ◌==◌, bytes_eq, cond, nat_lt, option_and_then, option_map, slice_get, unwrap_or}
use Rattle.std.specs.List.{cons_option, enumerate_from, filter_map}
use Rattle.std.specs.Option.{option_or}
use Rattle.std.proofs.lemmas.Bool.{false≢true}
use Rattle.std.proofs.lemmas.List.{length-map}
use Rattle.std.proofs.lemmas.List.Elements.{filter_passes}
use Rattle.std.proofs.lemmas.List.Quantifiers.{position-Some}
use Rattle.std.proofs.lemmas.Option.{none-some, slice_get_within}
use Rattle.flat_holds.proofs.ListLaws.{made_kept, none_behind}
use Rattle.place_paths.proofs.CellNames.{cell_of_name}
use Rattle.flat_holds.proofs.RuleLaws.{found, least}
use Rattle.flat_holds.specs.Falls.{AreRoomy, HoldBy, best_at, best_from, closer_by, depth_of, holds_from, number_in, own_places, spot_by}
use Rattle.flat_holds.specs.declared.falls.Spot.{Spot}
use Rattle.line_laws.proofs.LineLaws.{earliest_joined}
use Rattle.net_places.specs.Links.{Bare, IsUnrolled, bare, shown}
use Rattle.net_places.specs.Whole.{whole_of}
use Rattle.net_places.specs.declared.places.Place.{Place}
use Rattle.net_places.specs.declared.whole.Unrolled.{Unrolled}
use Rattle.net_tables.proofs.PlaceNetLaws.{global_is, global_there, net_is, port_is}
use Rattle.net_tables.specs.Nets.{net_in}
use Rattle.net_tables.specs.Places.{ArePlaceNets, is_net_of, number_by, place_net}
use Rattle.net_tables.specs.Tables.{AreNetTables}
use Rattle.net_tables.specs.declared.tables.NetTables.{NetTables}
use Rattle.net_tables.specs.declared.types.CellNet.{CellNet}
use Rattle.net_tables.specs.declared.types.CellNet.TheVariants.{Supply, Port, Global, Own}
use Rattle.rule_index.specs.Lines.{IsIndex}
use Rattle.rule_index.specs.declared.by_cell.ByCell.{ByCell}
use Rattle.vrt_model.proofs.Lists.{at_there, map_at, one_at, pushed}
use Rattle.vrt_model.proofs.Members.{all_among, among_filter}
use Rattle.vrt_model.specs.CellRules.{supply_of}
use Rattle.vrt_model.specs.Comparison.{cell_at}
use Rattle.vrt_model.specs.FlatCircuit.{Ruled, falls_on, flat_hold, flat_holds, flat_nets, rule_on, rules_on}
use Rattle.vrt_model.specs.Hierarchy.{AreHoldNets}
use Rattle.vrt_model.specs.Inputs.{IsDesign}
use Rattle.vrt_model.specs.Lists.{Among, At, place_of}
use Rattle.vrt_model.specs.Unrolled.{Place as FlatPlace, Top, all_places, cell_named, net_at, own_nets}
use Rattle.vrt_model.specs.Unsupported.{top_before}
use Rattle.vrt_model.specs.declared.circuit.FlatNet.{FlatNet}
use Rattle.vrt_model.specs.declared.circuit.Hold.{Hold}
use Rattle.vrt_model.specs.declared.design.Cell.{Cell}
use Rattle.vrt_model.specs.declared.design.Design.{Design}
use Rattle.vrt_model.specs.declared.pairing.PortRole.{PortRole}
use Rattle.vrt_model.specs.declared.rules.HoldRule.{HoldRule}
use Rattle.vrt_model.specs.declared.rules.Rules.{Rules}
use Rattle.net_places.proofs.WholeLaws.{named_by}
use Rattle.rule_index.proofs.PlacedLaws.{first_same, rest_same}

-- ---- room

-- an own net that a name is, is one of the cell
pub own_bound : (design : Design) (rules : Rules) (cell : Cell) (name : List ℕ) (j : ℕ) → net_in design rules cell name ≡ Own j → j ≤ length (own_nets design rules cell)
unfolding net_in
own_bound design rules cell name j is = by_test (supply_of rules name) (place_of cell.ports name) (place_of design.globals name) is where
  by_place : (o : Option ℕ) → place_of (own_nets design rules cell) name ≡ o → (let one : CellNet = Own (unwrap_or o 0) in one) ≡ Own j → j ≤ length (own_nets design rules cell)
  by_place None e h = let same : 0 ≡ j = cc in omega (arith, same)
  by_place (Some k) e h = let same : k ≡ j = cc in let lt = (position-Some (bytes_eq name) (own_nets design rules cell) k [] e).0 in omega (arith, same, lt)

  by_test : (s : Option Bool) (p g : Option ℕ)
      → unwrap_or (option_or (option_map (λ (value : Bool). Supply value) s) (option_or (option_map (λ (k : ℕ). Port k) p) (option_map (λ (j : ℕ). Global j) g)))
      (Own (unwrap_or (place_of (own_nets design rules cell) name) 0)) ≡ Own j → j ≤ length (own_nets design rules cell)
  by_test (Some value) p g h = cc
  by_test None (Some k) g h = cc
  by_test None None (Some i) h = cc
  by_test None None None h = by_place (place_of (own_nets design rules cell) name) refl h

module _ (design : Design) (rules : Rules) (unrolled : Unrolled) (cell : ℕ) where
  -- ---- the places of tables and of the definition

  module _ (roles : List PortRole) (is : IsUnrolled (whole_of design rules cell roles) unrolled) where
    same_at : (n : ℕ) (p : Place) (at : FlatPlace) → At unrolled.places n p → At (all_places (whole_of design rules cell roles)) n at → shown p ≡ bare at
    same_at n p at here there =
        one_at (map bare (all_places (whole_of design rules cell roles))) n (shown p) (bare at)
        (subst (λ (bs : List Bare). At bs n (shown p)) is.places_are (map_at shown unrolled.places n p here)) (map_at bare (all_places (whole_of design rules cell roles)) n at there)

    same_size : length unrolled.places ≡ length (all_places (whole_of design rules cell roles))
    same_size = sym (length-map unrolled.places shown) ∙ ap (λ (bs : List Bare). length bs) is.places_are ∙ length-map (all_places (whole_of design rules cell roles)) bare

    number_is : (p : Place) (n : ℕ) (at : FlatPlace) → shown p ≡ bare at → At (all_places (whole_of design rules cell roles)) n at → (name : List ℕ)
        → is_net_of (cell_at design at.cell) name ≡ true → number_in design rules unrolled p name ≡ net_at (whole_of design rules cell roles) at name
    number_is p n at same there name named =
        ap (λ (k : ℕ). number_by p.ports p.base unrolled.globals (net_in design rules (cell_at design k) name)) (ap (λ (b : Bare). b.cell) same)
        ∙ by_net (net_in design rules (cell_at design at.cell) name) refl where
          nets : ArePlaceNets (whole_of design rules cell roles) at p.ports p.base unrolled.globals
          nets = record { ports_are = ap (λ (b : Bare). b.ports) same; base_is = ap (λ (b : Bare). b.base) same; globals_are = is.globals_are }

          by_net : (net : CellNet) → net ≡ net_in design rules (cell_at design at.cell) name → number_by p.ports p.base unrolled.globals net ≡ net_at (whole_of design rules cell roles) at name
          by_net (Supply value) e = ap (place_net (whole_of design rules cell roles) at) e ∙ net_is (whole_of design rules cell roles) at name
          by_net (Port k) e = port_is (whole_of design rules cell roles) at p.ports p.base unrolled.globals nets k ∙ ap (place_net (whole_of design rules cell roles) at) e ∙ net_is (whole_of design rules cell roles) at name
          by_net (Global j) e =
              let k = global_there (whole_of design rules cell roles) at name j (named_by (whole_of design rules cell roles) n at name there named) e in
              global_is (whole_of design rules cell roles) at p.ports p.base unrolled.globals nets j k.1 k.0 k.2 ∙ ap (place_net (whole_of design rules cell roles) at) e ∙ net_is (whole_of design rules cell roles) at name
          by_net (Own i) e = ap (λ (base : ℕ). base + i) nets.base_is ∙ ap (place_net (whole_of design rules cell roles) at) e ∙ net_is (whole_of design rules cell roles) at name

    -- ---- the rules that fall on a net

    module _ (netlist : IsDesign design) (names : AreHoldNets design rules) (holds : ByCell) (indexed : IsIndex (λ (r : HoldRule). r.cell) rules.holds holds) (n : ℕ) where
      abbrev is_own : Place → HoldRule → Bool
      is_own p rule = bytes_eq rule.cell (cell_at design p.cell).name

      own_same : (k : ℕ) (p : Place) (at : FlatPlace) → At unrolled.places k p → At (all_places (whole_of design rules cell roles)) k at → (rule : HoldRule) → is_own p rule ≡ bytes_eq rule.cell (cell_at design at.cell).name
      own_same k p at here there rule = ap (λ (b : Bare). bytes_eq rule.cell (cell_at design b.cell).name) (same_at k p at here there)

      falls_same : (k : ℕ) (p : Place) (at : FlatPlace) → At unrolled.places k p → At (all_places (whole_of design rules cell roles)) k at → (rule : HoldRule) → Among rules.holds rule → is_own p rule ≡ true
          → (number_in design rules unrolled p rule.net == n) ≡ falls_on (whole_of design rules cell roles) n at rule
      falls_same k p at here there rule m own =
          let same = same_at k p at here there in
          let alike : bytes_eq rule.cell (cell_at design at.cell).name ≡ true = sym (own_same k p at here there rule) ∙ own in
          let number : cell_named design rule.cell ≡ at.cell = cell_of_name design netlist at.cell (is.cells at (k, there)) rule.cell alike in
          ap (λ (x : ℕ). x == n) (number_is p k at same there rule.net (subst (λ (c : ℕ). is_net_of (cell_at design c) rule.net ≡ true) number (names rule m)))
          ∙ sym (ap (λ (b : Bool). b && (net_at (whole_of design rules cell roles) at rule.net == n)) alike)

      abbrev deep : Ruled → ℕ
      deep one = length one.at.path

      abbrev ruled : FlatPlace → HoldRule → Ruled
      ruled at rule = record { at = at; rule = rule }

      abbrev ruled_by : FlatPlace → HoldRule → Option Ruled
      ruled_by at rule = cond (falls_on (whole_of design rules cell roles) n at rule) (let one : Ruled = record { at = at; rule = rule } in Some one) None

      abbrev rules_at : FlatPlace → List HoldRule → List Ruled
      rules_at at lines = filter_map (λ (rule : HoldRule). cond (falls_on (whole_of design rules cell roles) n at rule) (let one : Ruled = record { at = at; rule = rule } in Some one) None) lines

      -- ---- the rule that counts

      -- a rule at the place of a number, and one of the definition
      record IsOne (s : Spot) (r : Ruled) : Type 0 where
        there : At (all_places (whole_of design rules cell roles)) s.place r.at
        depth_is : s.depth ≡ length r.at.path
        rule_is : slice_get rules.holds s.rule ≡ Some r.rule

      abbrev IsSame : Option Spot → Option Ruled → Type 0
      IsSame None None = Unit {0}
      IsSame None (Some r) = ⊥
      IsSame (Some s) None = ⊥
      IsSame (Some s) (Some r) = IsOne s r

      closer_same : (a : Option Spot) (x : Option Ruled) (b : Option Spot) (y : Option Ruled) → IsSame a x → IsSame b y → IsSame (closer_by depth_of a b) (closer_by deep x y)
      closer_same None None b y p q = q
      closer_same None (Some r) b y p q = absurd p
      closer_same (Some f) None b y p q = absurd p
      closer_same (Some f) (Some r) None None p q = p
      closer_same (Some f) (Some r) None (Some s) p q = absurd q
      closer_same (Some f) (Some r) (Some g) None p q = absurd q
      closer_same (Some f) (Some r) (Some g) (Some s) p q =
          by_bits (nat_lt g.depth f.depth) (nat_lt (length s.at.path) (length r.at.path)) (ap₂ (λ (i j : ℕ). nat_lt i j) q.depth_is p.depth_is) where
            by_bits : (t u : Bool) → t ≡ u → IsSame (cond t (Some g) (Some f)) (cond u (Some s) (Some r))
            by_bits true true e = q
            by_bits true false e = absurd (false≢true (sym e))
            by_bits false true e = absurd (false≢true e)
            by_bits false false e = p

      -- ---- the rules of one place

      placed_same : (k : ℕ) (p : Place) (at : FlatPlace) → At unrolled.places k p → At (all_places (whole_of design rules cell roles)) k at → (lines : List ℕ) (own : List HoldRule) → map (slice_get rules.holds) lines ≡ map Some own
          → ((r : HoldRule) → Among own r → Among rules.holds r × (is_own p r ≡ true)) → IsSame (best_at design rules unrolled n k p lines) (least deep (rules_at at own))
      placed_same k p at here there [] [] e each = tt
      placed_same k p at here there [] (r ∷ own) e each = absurd (none_behind (Some r) (map Some own) e)
      placed_same k p at here there (line ∷ lines) [] e each = absurd (none_behind (slice_get rules.holds line) (map (slice_get rules.holds) lines) (sym e))
      placed_same k p at here there (line ∷ lines) (r ∷ own) e each =
          subst (λ (o : Option HoldRule). IsSame (closer_by depth_of (option_and_then (spot_by design rules unrolled n k p line) o) (best_at design rules unrolled n k p lines)) (least deep (rules_at at (r ∷ own)))) (sym found_there)
          (by_bits (number_in design rules unrolled p r.net == n) (falls_on (whole_of design rules cell roles) n at r) (falls_same k p at here there r (each r (0, refl)).0 (each r (0, refl)).1)
          (placed_same k p at here there lines own (rest_same (slice_get rules.holds line) (Some r) (map (slice_get rules.holds) lines) (map Some own) e) (λ q m. each q (suc m.0, m.1)))) where
            found_there : slice_get rules.holds line ≡ Some r
            found_there = first_same (slice_get rules.holds line) (Some r) (map (slice_get rules.holds) lines) (map Some own) e

            one : IsOne (record { place = k; depth = p.depth; rule = line }) (ruled at r)
            one = record { there = there; depth_is = ap (λ (b : Bare). b.depth) (same_at k p at here there); rule_is = found_there }

            by_bits : (t u : Bool) → t ≡ u → IsSame (best_at design rules unrolled n k p lines) (least deep (rules_at at own))
                → IsSame (closer_by depth_of (cond t (let s : Spot = record { place = k; depth = p.depth; rule = line } in Some s) None) (best_at design rules unrolled n k p lines))
                (least deep (cons_option (cond u (let q : Ruled = record { at = at; rule = r } in Some q) None) (rules_at at own)))
            by_bits true true f below =
                closer_same (let s : Spot = record { place = k; depth = p.depth; rule = line } in Some s) (Some (ruled at r)) (best_at design rules unrolled n k p lines) (least deep (rules_at at own)) one below
            by_bits true false f below = absurd (false≢true (sym f))
            by_bits false true f below = absurd (false≢true f)
            by_bits false false f below = below

      -- a rule of another cell does not fall on a net there
      others : (k : ℕ) (p : Place) (at : FlatPlace) → At unrolled.places k p → At (all_places (whole_of design rules cell roles)) k at → (rule : HoldRule) → is_own p rule ≡ false → ruled_by at rule ≡ None
      others k p at here there rule other =
          ap (λ (b : Bool). cond (b && (net_at (whole_of design rules cell roles) at rule.net == n)) (let one : Ruled = record { at = at; rule = rule } in Some one) None)
          (sym (own_same k p at here there rule) ∙ other)

      here_same : (k : ℕ) (p : Place) (at : FlatPlace) → At unrolled.places k p → At (all_places (whole_of design rules cell roles)) k at
          → IsSame (best_at design rules unrolled n k p (own_places design holds p)) (least deep (rules_at at rules.holds))
      here_same k p at here there =
          subst (λ (rs : List Ruled). IsSame (best_at design rules unrolled n k p (own_places design holds p)) (least deep rs)) (made_kept (is_own p) (ruled_by at) rules.holds (others k p at here there))
          (placed_same k p at here there (own_places design holds p) (filter (is_own p) rules.holds) (indexed (cell_at design p.cell).name)
          (λ r m. (among_filter (is_own p) rules.holds r m, all_among (λ (q : HoldRule). is_own p q ≡ true) (filter (is_own p) rules.holds) r (filter_passes (is_own p) rules.holds) m)))

      -- ---- the rules of all places

      span_same : (k : ℕ) (places : List Place) (flat : List FlatPlace) → length places ≡ length flat
          → ((j : ℕ) (p : Place) (at : FlatPlace) → At places j p → At flat j at → At unrolled.places (k + j) p × At (all_places (whole_of design rules cell roles)) (k + j) at)
          → IsSame (best_from design rules holds unrolled n k places) (least deep (flat_map (λ (at : FlatPlace). rules_at at rules.holds) flat))
      span_same k [] [] size each = tt
      span_same k [] (at ∷ flat) size each = absurd (omega (arith, size))
      span_same k (p ∷ places) [] size each = absurd (omega (arith, size))
      span_same k (p ∷ places) (at ∷ flat) size each =
          let first : k + 0 ≡ k = omega arith in
          let h = each 0 p at refl refl in
          subst (IsSame (closer_by depth_of (best_at design rules unrolled n k p (own_places design holds p)) (best_from design rules holds unrolled n (suc k) places)))
          (sym (earliest_joined deep (rules_at at rules.holds) (flat_map (λ (other : FlatPlace). rules_at other rules.holds) flat)))
          (closer_same (best_at design rules unrolled n k p (own_places design holds p)) (least deep (rules_at at rules.holds)) (best_from design rules holds unrolled n (suc k) places)
          (least deep (flat_map (λ (other : FlatPlace). rules_at other rules.holds) flat))
          (here_same k p at (subst (λ (m : ℕ). At unrolled.places m p) first h.0) (subst (λ (m : ℕ). At (all_places (whole_of design rules cell roles)) m at) first h.1))
          (span_same (suc k) places flat (omega (arith, size))
          (λ j q other here there.
          let next : k + suc j ≡ suc k + j = omega arith in
          let e = each (suc j) q other here there in
          (subst (λ (m : ℕ). At unrolled.places m q) next e.0, subst (λ (m : ℕ). At (all_places (whole_of design rules cell roles)) m other) next e.1))))

      rule_same : IsSame (best_from design rules holds unrolled n 0 unrolled.places) (rule_on (whole_of design rules cell roles) n)
      rule_same =
          subst (IsSame (best_from design rules holds unrolled n 0 unrolled.places)) (sym (found deep (rules_on (whole_of design rules cell roles) n)))
          (span_same 0 unrolled.places (all_places (whole_of design rules cell roles)) same_size
          (λ j p at here there.
          let e : j ≡ 0 + j = omega arith in
          (subst (λ (m : ℕ). At unrolled.places m p) e here, subst (λ (m : ℕ). At (all_places (whole_of design rules cell roles)) m at) e there)))

      pub hold_same : (spot : Option Spot) (o : Option Hold) → spot ≡ best_from design rules holds unrolled n 0 unrolled.places → HoldBy design rules unrolled n spot o
          → o ≡ option_map (flat_hold (whole_of design rules cell roles) n) (rule_on (whole_of design rules cell roles) n)
      hold_same spot o e h = by_rule spot (rule_on (whole_of design rules cell roles) n) o (subst (λ (s : Option Spot). IsSame s (rule_on (whole_of design rules cell roles) n)) (sym e) rule_same) h where
        by_rule : (b : Option Spot) (r : Option Ruled) (o : Option Hold) → IsSame b r → HoldBy design rules unrolled n b o → o ≡ option_map (flat_hold (whole_of design rules cell roles) n) r
        by_rule None None None same by = refl
        by_rule None None (Some x) same by = absurd by
        by_rule None (Some r) o same by = absurd same
        by_rule (Some s) None o same by = absurd same
        by_rule (Some s) (Some r) None same by = absurd (none-some r.rule (sym by ∙ same.rule_is))
        by_rule (Some s) (Some r) (Some x) same by = ap Some (by r.rule same.rule_is cell roles r.at is same.there)

  -- ---- room

  pub are_roomy : (tables : NetTables) → AreNetTables design rules tables → ((roles : List PortRole) → IsUnrolled (whole_of design rules cell roles) unrolled) → length (flat_nets (top_before design rules cell)) ≤ 20000
      → AreRoomy design rules tables unrolled.places
  are_roomy tables tables_are is small p m =
      let lt : m.0 < length (all_places (whole_of design rules cell [])) = let size = same_size [] (is []) in let below = slice_get_within unrolled.places m.0 p m.1 in omega (arith, size, below) in
      let q = at_there (all_places (whole_of design rules cell [])) m.0 lt in
      let same = same_at [] (is []) m.0 p q.0 m.1 q.1 in
      let cells = (is []).cells q.0 (m.0, q.1) in
      let number = ap (λ (b : Bare). b.cell) same in
      let base = ap (λ (b : Bare). b.base + length (own_nets design rules (cell_at design b.cell))) same in
      let room = (is []).room q.0 (m.0, q.1) in
      record { tables_are = tables_are; cell = omega (arith, cells, number); room = omega (arith, base, room, small) }

-- ---- all holds

pub all_from : (t : Top) (k : ℕ) (nets : List FlatNet) → filter_map (λ (p : ℕ × FlatNet). option_map (flat_hold t p.0) (rule_on t p.0)) (enumerate_from k nets) ≡ holds_from t k (length nets)
all_from t k [] = refl
all_from t k (net ∷ nets) =
    let next : k + 1 ≡ suc k = omega arith in
    ap (cons_option (option_map (flat_hold t k) (rule_on t k))) (all_from t (k + 1) nets ∙ ap (λ (m : ℕ). holds_from t m (length nets)) next)

-- behind the last net
pub all_there : (t : Top) (net nets : ℕ) (holds : List Hold) → nets ≤ net → holds ++ holds_from t net (nets - net) ≡ holds_from t 0 nets → nets ≡ length (flat_nets t) → holds ≡ flat_holds t
all_there t net nets holds past is count =
    let none : nets - net ≡ 0 = omega (arith, past) in
    sym (nil_behind holds) ∙ sym (ap (λ (m : ℕ). holds ++ holds_from t net m) none) ∙ is ∙ ap (holds_from t 0) count ∙ sym (all_from t 0 (flat_nets t)) where
      nil_behind : (xs : List Hold) → xs ++ [] ≡ xs
      nil_behind [] = refl
      nil_behind (x ∷ xs) = ap (λ (ys : List Hold). x ∷ ys) (nil_behind xs)

-- a net more
pub one_more : (t : Top) (net nets : ℕ) (old new : List Hold) (o : Option Hold) → net < nets → new ≡ old ++ cons_option o [] → o ≡ option_map (flat_hold t net) (rule_on t net)
    → old ++ holds_from t net (nets - net) ≡ holds_from t 0 nets → new ++ holds_from t (net + 1) (nets - (net + 1)) ≡ holds_from t 0 nets
one_more t net nets old new o lt grown is before =
    let next : net + 1 ≡ suc net = omega arith in
    let count : nets - net ≡ suc (nets - (net + 1)) = omega (arith, lt) in
    ap (λ (xs : List Hold). xs ++ holds_from t (net + 1) (nets - (net + 1))) grown
    ∙ pushed old o (holds_from t (net + 1) (nets - (net + 1)))
    ∙ ap₂ (λ (x : Option Hold) (m : ℕ). old ++ cons_option x (holds_from t m (nets - (net + 1)))) is next
    ∙ sym (ap (λ (m : ℕ). old ++ holds_from t net m) count) ∙ before
