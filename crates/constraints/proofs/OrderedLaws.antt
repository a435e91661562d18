-- In an ordered design the lines of a cell name its ports.
use Rattle.std.proofs.Common.{◌≡◌, ℕ, zero, suc, ◌+◌, ◌<◌, ◌&&◌, ◌++◌, ◌∷◌, [], Bool, true, false, not, cond, nat_lt, List, Option, Some, None, map, length, arith, ap, refl, sym, subst, ◌∙◌}
use Rattle.std.specs.Prelude.{bytes_eq, find, filter_map, option_map, slice_get, unwrap_or}
use Rattle.std.specs.List.{cons_option, list_any, position_from}
use Rattle.std.proofs.lemmas.Iterator.Adapters.{position_from-zero}
use Rattle.std.proofs.lemmas.Slice.Eq.{bytes_eq-Decides}
use Rattle.std.proofs.lemmas.Bool.{true≢false, not-false}
use Rattle.std.proofs.lemmas.Bool.Decides.{nat_tests}
use Rattle.std.proofs.lemmas.Option.{none-some, same_Some, slice_get-get_or}
use Rattle.vrt_model.proofs.Lists.{map_among}
use Rattle.vrt_model.proofs.Members.{among_later, among_left, among_right, any_among, find_none}
use Rattle.vrt_model.specs.Comparison.{cell_at}
use Rattle.vrt_model.specs.Expressions.{names_in}
use Rattle.vrt_model.specs.Hierarchy.{Asked, IsOrdered, Missing, asked, first_missing, has_hold, is_cell, is_device, is_instance, is_net, is_port, missing_names}
use Rattle.vrt_model.specs.Inputs.{IsDesign}
use Rattle.vrt_model.specs.Lists.{Among, At, has_name}
use Rattle.vrt_model.specs.Unrolled.{cell_named}
use Rattle.vrt_model.specs.declared.design.Cell.{Cell}
use Rattle.vrt_model.specs.declared.design.Design.{Design}
use Rattle.vrt_model.specs.declared.rules.AssumeRule.{AssumeRule}
use Rattle.vrt_model.specs.declared.rules.ClockportRule.{ClockportRule}
use Rattle.vrt_model.specs.declared.rules.EnterRule.{EnterRule}
use Rattle.vrt_model.specs.declared.rules.HoldRule.{HoldRule}
use Rattle.vrt_model.specs.declared.rules.InstanceMatchRule.{InstanceMatchRule}
use Rattle.vrt_model.specs.declared.rules.KeeperRule.{KeeperRule}
use Rattle.vrt_model.specs.declared.rules.MatchRule.{MatchRule}
use Rattle.vrt_model.specs.declared.rules.ObserveRule.{ObserveRule}
use Rattle.vrt_model.specs.declared.rules.PairRule.{PairRule}
use Rattle.vrt_model.specs.declared.rules.PortRule.{PortRule}
use Rattle.vrt_model.specs.declared.rules.Rules.{Rules}
use Rattle.vrt_model.specs.declared.rules.StrengthRule.{StrengthRule}
use Rattle.constraints.specs.Obliged.{AreNamed}

-- ---- no name is missing

module _ (ms : List Missing) (none : find (λ (m : Missing). not (list_any (λ (other : Missing). nat_lt other.line m.line) ms)) ms ≡ None) where
  before : (m : Missing) → Among ms m → (other : Missing) × Among ms other × (nat_lt other.line m.line ≡ true)
  before m there = any_among (λ (other : Missing). nat_lt other.line m.line) ms (by_test (list_any (λ (other : Missing). nat_lt other.line m.line) ms) (find_none _ ms m none there))
    where
      by_test : (b : Bool) → not b ≡ false → b ≡ true
      by_test true e = refl
      by_test false e = absurd (true≢false e)

  -- there is no first one, so there is none
  not_below : (n : ℕ) (m : Missing) → Among ms m → m.line < n → ⊥
  not_below zero m there lt = absurd (omega (arith, lt))
  not_below (suc n) m there lt =
      let other = before m there in
      let less : other.0.line < m.line = (let h = other.2 in grind (arith, nat_tests)) in
      not_below n other.0 other.1 (omega (arith, lt, less))

  no_missing : (m : Missing) → Among ms m → ⊥
  no_missing m there = not_below (suc m.line) m there (omega arith)

-- ---- what is asked on a line

asked_there : (line : ℕ) (names : List Asked) (a : Asked) → first_missing line names ≡ None → Among names a → a.there ≡ true
asked_there line names a none there = by_found (find (λ (x : Asked). not x.there) names) refl none
  where
    by_found : (o : Option Asked) → find (λ (x : Asked). not x.there) names ≡ o → option_map (λ (x : Asked). let one : Missing = record { line = line; name = x.name } in one) o ≡ None → a.there ≡ true
    by_found None e n = not-false a.there (find_none (λ (x : Asked). not x.there) names a e there)
    by_found (Some x) e n = absurd (none-some _ (sym n))

line_there : {X : Type 0} (f : X → Option Missing) (xs : List X) (x : X) → ((m : Missing) → Among (filter_map f xs) m → ⊥) → Among xs x → f x ≡ None
line_there f [] x none m = absurd (none-some x m.1)
line_there {X} f (y ∷ ys) x none (zero, e) = subst (λ (z : X). f z ≡ None) (same_Some y x e) (by_line (f y) none)
  where
    by_line : (o : Option Missing) → ((m : Missing) → Among (cons_option o (filter_map f ys)) m → ⊥) → o ≡ None
    by_line None none = refl
    by_line (Some m) none = absurd (none m (0, refl))
line_there f (y ∷ ys) x none (suc i, e) = line_there f ys x (λ m t. by_line (f y) none m t) (i, e)
  where
    by_line : (o : Option Missing) → ((m : Missing) → Among (cons_option o (filter_map f ys)) m → ⊥) → (m : Missing) → Among (filter_map f ys) m → ⊥
    by_line None none m t = none m t
    by_line (Some n) none m t = none m (suc t.0, t.1)

-- ---- the cell of a name

place_found : {X : Type 0} (test : X → Bool) (n : ℕ) (xs : List X) (k : ℕ) (x : X) → At xs k x → test x ≡ true → ((j : ℕ) (y : X) → At xs j y → test y ≡ true → j ≡ k)
    → position_from test n xs ≡ Some (n + k)
place_found test n [] k x at t only = absurd (none-some x at)
place_found {X} test n (y ∷ ys) zero x at t only =
    ap (λ (b : Bool). cond b (Some n) (position_from test (n + 1) ys)) (subst (λ (z : X). test z ≡ true) (sym (same_Some y x at)) t) ∙ ap Some (omega arith)
place_found test n (y ∷ ys) (suc k) x at t only =
    by_test (test y) refl (place_found test (n + 1) ys k x at t (λ j z a s. let h = only (suc j) z a s in omega (arith, h)))
  where
    by_test : (b : Bool) → test y ≡ b → position_from test (n + 1) ys ≡ Some (n + 1 + k) → cond b (Some n) (position_from test (n + 1) ys) ≡ Some (n + suc k)
    by_test true e rest = let h = only 0 y refl e in absurd (omega (arith, h))
    by_test false e rest = rest ∙ ap Some (omega arith)

-- ---- the lines of each kind

among_second : (a b c d e f g h i j : List Missing) (m : Missing) → Among b m → Among (a ++ b ++ c ++ d ++ e ++ f ++ g ++ h ++ i ++ j) m
among_second a b c d e f g h i j m there =
    among_left (a ++ b ++ c ++ d ++ e ++ f ++ g ++ h ++ i) j m (among_left (a ++ b ++ c ++ d ++ e ++ f ++ g ++ h) i m (among_left (a ++ b ++ c ++ d ++ e ++ f ++ g) h m (among_left (a ++ b ++ c ++ d ++ e ++ f) g m (among_left (a ++ b ++ c ++ d ++ e) f m (among_left (a ++ b ++ c ++ d) e m (among_left (a ++ b ++ c) d m (among_left (a ++ b) c m (among_right a b m there))))))))

module _ (design : Design) (rules : Rules) where
  abbrev of_strengths : List Missing
  of_strengths = filter_map (λ (r : StrengthRule). first_missing r.line (asked r.cell (is_cell design r.cell) ∷ asked r.device (is_device design r.cell r.device) ∷ [])) rules.strengths

  abbrev of_clockports : List Missing
  of_clockports = filter_map (λ (r : ClockportRule). first_missing r.line (asked r.cell (is_cell design r.cell) ∷ asked r.port (is_port design r.cell r.port) ∷ [])) rules.clockports

  abbrev of_pairs : List Missing
  of_pairs = filter_map (λ (r : PairRule). first_missing r.line (asked r.cell (is_cell design r.cell) ∷ [])) rules.pairs

  abbrev of_ports : List Missing
  of_ports = filter_map (λ (r : PortRule). first_missing r.line (asked r.cell (is_cell design r.cell) ∷ asked r.port (is_port design r.cell r.port) ∷ [])) rules.ports

  abbrev of_holds : List Missing
  of_holds = filter_map (λ (r : HoldRule). first_missing r.line (asked r.cell (is_cell design r.cell) ∷ asked r.net (is_net design r.cell r.net) ∷ [])) rules.holds

  abbrev of_keepers : List Missing
  of_keepers = filter_map (λ (r : KeeperRule). first_missing r.line (asked r.cell (is_cell design r.cell) ∷ asked r.device (is_device design r.cell r.device) ∷ [])) rules.keepers

  abbrev of_matches : List Missing
  of_matches = filter_map (λ (r : MatchRule). first_missing r.line (asked r.cell (is_cell design r.cell) ∷ asked r.net (is_net design r.cell r.net && has_hold rules r.cell r.net) ∷ [])) rules.matches

  abbrev of_instance_matches : List Missing
  of_instance_matches = filter_map (λ (r : InstanceMatchRule). first_missing r.line (asked r.cell (is_cell design r.cell) ∷ asked r.instance (is_instance design r.cell r.instance) ∷ [])) rules.instance_matches

  abbrev of_enters : List Missing
  of_enters = filter_map (λ (r : EnterRule). first_missing r.line (asked r.cell (is_cell design r.cell) ∷ asked r.net (is_net design r.cell r.net && has_hold rules r.cell r.net) ∷ [])) rules.enters

  abbrev of_observes : List Missing
  of_observes = filter_map (λ (r : ObserveRule). first_missing r.line (asked r.cell (is_cell design r.cell) ∷ asked r.port (is_port design r.cell r.port) ∷ [])) rules.observes

  abbrev clock_names : ClockportRule → List Asked
  clock_names r = asked r.cell (is_cell design r.cell) ∷ asked r.port (is_port design r.cell r.port) ∷ []

  abbrev assume_names : AssumeRule → List Asked
  assume_names r = asked r.cell (is_cell design r.cell) ∷ map (λ name. asked name (is_port design r.cell name)) (names_in r.expression)

  abbrev of_assumes : List Missing
  of_assumes = filter_map (λ (r : AssumeRule). first_missing r.line (assume_names r)) rules.assumes

  abbrev before_assumes : List Missing
  before_assumes = of_strengths ++ of_clockports ++ of_pairs ++ of_ports ++ of_holds ++ of_keepers ++ of_matches ++ of_instance_matches ++ of_enters ++ of_observes

  clock_missing : (m : Missing) → Among of_clockports m → Among (missing_names design rules) m
  clock_missing m there =
      among_left before_assumes of_assumes m
      (among_second of_strengths of_clockports of_pairs of_ports of_holds of_keepers of_matches of_instance_matches of_enters of_observes m there)

  assume_missing : (m : Missing) → Among of_assumes m → Among (missing_names design rules) m
  assume_missing m there = among_right before_assumes of_assumes m there

module _ (design : Design) (rules : Rules) (k : ℕ) (is : IsDesign design) (ordered : IsOrdered design rules) (low : k < length design.cells) where
  none : (m : Missing) → Among (missing_names design rules) m → ⊥
  none = no_missing (missing_names design rules) ordered.names

  cell_there : At design.cells k (cell_at design k)
  cell_there = by_item (slice_get design.cells k) refl
    where
      by_item : (o : Option Cell) → slice_get design.cells k ≡ o → o ≡ Some (unwrap_or o (record { line = 0; name = []; ports = []; devices = []; instances = [] }))
      by_item None e = let past = slice_get-get_or design.cells k (record { line = 0; name = []; ports = []; devices = []; instances = [] }) low in absurd (none-some _ (sym e ∙ past))
      by_item (Some cell) e = refl

  cell_is : (name : List ℕ) → bytes_eq name (cell_at design k).name ≡ true → cell_named design name ≡ k
  cell_is name same =
      let is_name : name ≡ (cell_at design k).name = (bytes_eq-Decides name (cell_at design k).name).0 same in
      ap (λ (o : Option ℕ). unwrap_or o 0)
      (position_from-zero (λ (c : Cell). bytes_eq c.name name) design.cells
      ∙ place_found (λ (c : Cell). bytes_eq c.name name) 0 design.cells k (cell_at design k) cell_there ((bytes_eq-Decides (cell_at design k).name name).1 (sym is_name))
      (λ j other at t.
      is.names j k other (cell_at design k) at cell_there ((bytes_eq-Decides other.name (cell_at design k).name).1 ((bytes_eq-Decides other.name name).0 t ∙ is_name)))
      ∙ ap Some (omega arith))

  port_there : (cell name : List ℕ) → bytes_eq cell (cell_at design k).name ≡ true → is_port design cell name ≡ true → has_name (cell_at design k).ports name ≡ true
  port_there cell name same there = ap (λ (n : ℕ). has_name (cell_at design n).ports name) (sym (cell_is cell same)) ∙ there

  -- the lines of the cell name its ports
  pub are_named : AreNamed rules (cell_at design k)
  are_named = record {
    assumes = λ r there same name among.
        port_there r.cell name same
        (asked_there r.line (assume_names design rules r) (asked name (is_port design r.cell name))
        (line_there (λ (x : AssumeRule). first_missing x.line (assume_names design rules x)) rules.assumes r (λ m t. none m (assume_missing design rules m t)) there)
        (among_later (asked r.cell (is_cell design r.cell)) (map (λ n. asked n (is_port design r.cell n)) (names_in r.expression)) (asked name (is_port design r.cell name))
        (map_among (λ n. asked n (is_port design r.cell n)) (names_in r.expression) name among)));
    clocks = λ r there same.
        port_there r.cell r.port same
        (asked_there r.line (clock_names design rules r) (asked r.port (is_port design r.cell r.port))
        (line_there (λ (x : ClockportRule). first_missing x.line (clock_names design rules x)) rules.clockports r (λ m t. none m (clock_missing design rules m t)) there) (1, refl));
  }
