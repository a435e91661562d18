-- The first line that names no element.
use Rattle.std.proofs.Common.{◌≡◌, ◌∷◌, ◌++◌, [], ℕ, List, Bool, true, false, not, cond, Option, Some, None, refl, sym, ap, ap₂, ◌∙◌}
use Rattle.std.specs.Prelude.{◌&&◌, bytes_eq, filter, filter_map, option_map}
use Rattle.std.specs.List.{cons_option}
use Rattle.std.specs.Option.{option_or}
use Rattle.std.proofs.lemmas.List.Elements.{filter-append}
use Rattle.line_laws.proofs.LineLaws.{first_is, one_joined}
use Rattle.hold_groups.specs.Steps.{earlier, earliest, instance_line, line_without, lines_without, net_line, number_of, unmatched_in}
use Rattle.vrt_model.specs.Elements.{element_names}
use Rattle.vrt_model.specs.Lists.{has_name}
use Rattle.vrt_model.specs.Unsupported.{Line, element_without_group, match_lines, unmatched}
use Rattle.vrt_model.specs.declared.flat_model.FlatModel.{FlatModel}
use Rattle.vrt_model.specs.declared.groups.Group.{Group}
use Rattle.vrt_model.specs.declared.rules.InstanceMatchRule.{InstanceMatchRule}
use Rattle.vrt_model.specs.declared.rules.MatchRule.{MatchRule}
use Rattle.vrt_model.specs.declared.rules.Rules.{Rules}

-- ---- lines of a cell that name no element

-- a test behind another
kept_filtered : {X : Type 0} (of : X → Bool) (line : X → Line) (test : Line → Bool) (xs : List X)
    → filter test (filter_map (λ (x : X). cond (of x) (Some (line x)) None) xs) ≡ filter_map (λ (x : X). cond (of x && test (line x)) (Some (line x)) None) xs
kept_filtered of line test [] = refl
kept_filtered {X} of line test (x ∷ xs) = by_tests _ _ (of x) (test (line x)) refl (kept_filtered of line test xs)
  where
    by_tests : (all some : List Line) (a b : Bool) → test (line x) ≡ b → filter test all ≡ some → filter test (cons_option (cond a (Some (line x)) None) all) ≡ cons_option (cond (a && b) (Some (line x)) None) some
    by_tests all some true true e rest = ap (λ (t : Bool). cond t (line x ∷ filter test all) (filter test all)) e ∙ ap (λ (ls : List Line). line x ∷ ls) rest
    by_tests all some true false e rest = ap (λ (t : Bool). cond t (line x ∷ filter test all) (filter test all)) e ∙ rest
    by_tests all some false b e rest = rest

lines_are : (flat : FlatModel) (rules : Rules) (cell : List ℕ) → filter (λ (l : Line). not (has_name (element_names flat) l.latch)) (match_lines rules cell) ≡ lines_without (element_names flat) rules cell
lines_are flat rules cell =
    filter-append (λ (l : Line). not (has_name (element_names flat) l.latch)) _ _
    ∙ ap₂ (λ (xs ys : List Line). xs ++ ys)
    (kept_filtered (λ (r : MatchRule). bytes_eq r.cell cell) (λ (r : MatchRule). let one : Line = record { line = r.line; latch = r.latch } in one) (λ (l : Line). not (has_name (element_names flat) l.latch)) rules.matches)
    (kept_filtered (λ (r : InstanceMatchRule). bytes_eq r.cell cell) (λ (r : InstanceMatchRule). let one : Line = record { line = r.line; latch = r.latch } in one) (λ (l : Line). not (has_name (element_names flat) l.latch)) rules.instance_matches)

-- what is not matched, by the names of the elements
pub unmatched_are : (flat : FlatModel) (rules : Rules) (cell : List ℕ) (groups : List Group) → unmatched_in (element_names flat) rules cell groups ≡ unmatched rules cell flat groups
unmatched_are flat rules cell groups =
    ap (λ (o : Option Line). option_or (element_without_group flat groups) (option_map (λ (l : Line). l.latch) o))
    (ap earliest (sym (lines_are flat rules cell)) ∙ sym (first_is number_of (filter (λ (l : Line). not (has_name (element_names flat) l.latch)) (match_lines rules cell))))

-- the first of the lines of nets and of instances
pub both_lines : (elements : List (List ℕ)) (rules : Rules) (cell : List ℕ) (net instance found : Option Line) → net ≡ earliest (filter_map (net_line elements cell) rules.matches)
    → instance ≡ earliest (filter_map (instance_line elements cell) rules.instance_matches) → found ≡ earlier net instance
    → option_map (λ (l : Line). l.latch) found ≡ line_without elements rules cell
both_lines elements rules cell net instance found p q e =
    ap (option_map (λ (l : Line). l.latch)) (one_joined number_of net instance found (filter_map (net_line elements cell) rules.matches) (filter_map (instance_line elements cell) rules.instance_matches) p q e)
