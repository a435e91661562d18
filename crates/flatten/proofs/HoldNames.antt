-- Where no name in the rules is missing, each `hold` rule is of a net of its cell.
use Rattle.std.proofs.Common.{◌≡◌, ◌<◌, ◌++◌, ◌∷◌, [], ℕ, zero, suc, Bool, true, false, not, List, Option, Some, None, refl, sym, arith, ltb-true}
use Rattle.std.specs.Prelude.{◌&&◌, filter_map, find, map, nat_lt}
use Rattle.std.specs.List.{list_any}
use Rattle.std.proofs.lemmas.Option.{none-some}
use Rattle.vrt_model.proofs.Lists.{filter_map_among}
use Rattle.vrt_model.proofs.Members.{among_left, among_right, any_among, find_none}
use Rattle.vrt_model.specs.Expressions.{names_in}
use Rattle.vrt_model.specs.Hierarchy.{AreHoldNets, Missing, asked, first_missing, has_hold, is_cell, is_device, is_instance, is_net, is_port, missing_name, missing_names}
use Rattle.vrt_model.specs.Lists.{Among}
use Rattle.vrt_model.specs.declared.design.Design.{Design}
use Rattle.vrt_model.specs.declared.rules.AssumeRule.{AssumeRule}
use Rattle.vrt_model.specs.declared.rules.ClockportRule.{ClockportRule}
use Rattle.vrt_model.specs.declared.rules.EnterRule.{EnterRule}
use Rattle.vrt_model.specs.declared.rules.HoldRule.{HoldRule}
use Rattle.vrt_model.specs.declared.rules.InstanceMatchRule.{InstanceMatchRule}
use Rattle.vrt_model.specs.declared.rules.KeeperRule.{KeeperRule}
use Rattle.vrt_model.specs.declared.rules.MatchRule.{MatchRule}
use Rattle.vrt_model.specs.declared.rules.ObserveRule.{ObserveRule}
use Rattle.vrt_model.specs.declared.rules.PairRule.{PairRule}
use Rattle.vrt_model.specs.declared.rules.PortRule.{PortRule}
use Rattle.vrt_model.specs.declared.rules.Rules.{Rules}
use Rattle.vrt_model.specs.declared.rules.StrengthRule.{StrengthRule}

-- a line of which nothing is missing
second_there : (line : ℕ) (cell net : List ℕ) (a b : Bool) → first_missing line (asked cell a ∷ asked net b ∷ []) ≡ None → b ≡ true
second_there line cell net a true e = refl
second_there line cell net true false e = absurd (none-some _ (sym e))
second_there line cell net false false e = absurd (none-some _ (sym e))

abbrev line_of : Design → HoldRule → Option Missing
line_of design r = first_missing r.line (asked r.cell (is_cell design r.cell) ∷ asked r.net (is_net design r.cell r.net) ∷ [])

-- ---- the lines of each kind

abbrev of_strengths : Design → Rules → List Missing
of_strengths design rules = filter_map (λ (r : StrengthRule). first_missing r.line (asked r.cell (is_cell design r.cell) ∷ asked r.device (is_device design r.cell r.device) ∷ [])) rules.strengths

abbrev of_clockports : Design → Rules → List Missing
of_clockports design rules = filter_map (λ (r : ClockportRule). first_missing r.line (asked r.cell (is_cell design r.cell) ∷ asked r.port (is_port design r.cell r.port) ∷ [])) rules.clockports

abbrev of_pairs : Design → Rules → List Missing
of_pairs design rules = filter_map (λ (r : PairRule). first_missing r.line (asked r.cell (is_cell design r.cell) ∷ [])) rules.pairs

abbrev of_ports : Design → Rules → List Missing
of_ports design rules = filter_map (λ (r : PortRule). first_missing r.line (asked r.cell (is_cell design r.cell) ∷ asked r.port (is_port design r.cell r.port) ∷ [])) rules.ports

abbrev of_keepers : Design → Rules → List Missing
of_keepers design rules = filter_map (λ (r : KeeperRule). first_missing r.line (asked r.cell (is_cell design r.cell) ∷ asked r.device (is_device design r.cell r.device) ∷ [])) rules.keepers

abbrev of_matches : Design → Rules → List Missing
of_matches design rules = filter_map (λ (r : MatchRule). first_missing r.line (asked r.cell (is_cell design r.cell) ∷ asked r.net (is_net design r.cell r.net && has_hold rules r.cell r.net) ∷ [])) rules.matches

abbrev of_inner : Design → Rules → List Missing
of_inner design rules = filter_map (λ (r : InstanceMatchRule). first_missing r.line (asked r.cell (is_cell design r.cell) ∷ asked r.instance (is_instance design r.cell r.instance) ∷ [])) rules.instance_matches

abbrev of_enters : Design → Rules → List Missing
of_enters design rules = filter_map (λ (r : EnterRule). first_missing r.line (asked r.cell (is_cell design r.cell) ∷ asked r.net (is_net design r.cell r.net && has_hold rules r.cell r.net) ∷ [])) rules.enters

abbrev of_observes : Design → Rules → List Missing
of_observes design rules = filter_map (λ (r : ObserveRule). first_missing r.line (asked r.cell (is_cell design r.cell) ∷ asked r.port (is_port design r.cell r.port) ∷ [])) rules.observes

abbrev of_assumes : Design → Rules → List Missing
of_assumes design rules = filter_map (λ (r : AssumeRule). first_missing r.line (asked r.cell (is_cell design r.cell) ∷ map (λ name. asked name (is_port design r.cell name)) (names_in r.expression))) rules.assumes

abbrev of_holds : Design → Rules → List Missing
of_holds design rules = filter_map (line_of design) rules.holds

in_lists : (a b c d e f g h i j k : List Missing) (x : Missing) → Among e x → Among (a ++ b ++ c ++ d ++ e ++ f ++ g ++ h ++ i ++ j ++ k) x
in_lists a b c d e f g h i j k x on =
    among_left (a ++ b ++ c ++ d ++ e ++ f ++ g ++ h ++ i ++ j) k x
    (among_left (a ++ b ++ c ++ d ++ e ++ f ++ g ++ h ++ i) j x
    (among_left (a ++ b ++ c ++ d ++ e ++ f ++ g ++ h) i x
    (among_left (a ++ b ++ c ++ d ++ e ++ f ++ g) h x
    (among_left (a ++ b ++ c ++ d ++ e ++ f) g x
    (among_left (a ++ b ++ c ++ d ++ e) f x (among_right (a ++ b ++ c ++ d) e x on))))))

-- what is missing on a line of a hold is missing
line_missing : (design : Design) (rules : Rules) (x : Missing) → Among (of_holds design rules) x → Among (missing_names design rules) x
line_missing design rules x on =
    in_lists (of_strengths design rules) (of_clockports design rules) (of_pairs design rules) (of_ports design rules) (of_holds design rules) (of_keepers design rules) (of_matches design rules)
    (of_inner design rules) (of_enters design rules) (of_observes design rules) (of_assumes design rules) x on

-- each of some lines that is not the first has one before it, so that there is none where none is the first
none_first : (xs : List Missing) → find (λ (m : Missing). not (list_any (λ (other : Missing). nat_lt other.line m.line) xs)) xs ≡ None → (n : ℕ) (x : Missing) → Among xs x → x.line < n → ⊥
none_first xs none zero x m lt = absurd (omega (arith, lt))
none_first xs none (suc n) x m lt =
    let before = any_among (λ (other : Missing). nat_lt other.line x.line) xs (some (list_any (λ (other : Missing). nat_lt other.line x.line) xs) (find_none (λ (y : Missing). not (list_any (λ (other : Missing). nat_lt other.line y.line) xs)) xs x none m)) in
    let less = ltb-true before.0.line x.line before.2 in
    none_first xs none n before.0 before.1 (omega (arith, less, lt))
  where
    some : (b : Bool) → not b ≡ false → b ≡ true
    some true e = refl
    some false e = sym e

pub names_there : (design : Design) (rules : Rules) → missing_name design rules ≡ None → AreHoldNets design rules
names_there design rules none r m = second_there r.line r.cell r.net (is_cell design r.cell) (is_net design r.cell r.net) (by_line (line_of design r) refl) where
  by_line : (o : Option Missing) → line_of design r ≡ o → o ≡ None
  by_line None e = refl
  by_line (Some x) e =
      absurd (none_first (missing_names design rules) none (suc x.line) x (line_missing design rules x (filter_map_among (line_of design) rules.holds m.0 r x m.1 e)) (omega arith))
