-- What is tested of a comparison before its phases does not depend on the model of a cell without state.
use Rattle.std.proofs.Common.{◌≡◌, ℕ, Bool, true, false, cond, List, [], Option, Some, None, length, map, nat_lt, ap, refl, sym, ◌∙◌}
use Rattle.std.specs.Prelude.{filter, find, is_none, is_some, not, option_map, slice_get}
use Rattle.std.specs.List.{enumerate_from}
use Rattle.std.specs.Option.{option_or}
use Rattle.std.proofs.lemmas.Option.{none-some}
use Rattle.vrt_model.proofs.Lists.{map_same}
use Rattle.vrt_model.proofs.Tests.{neither}
use Rattle.vrt_model.specs.Comparison.{Comparison, cell_at}
use Rattle.vrt_model.specs.Elements.{element_names, signal_name}
use Rattle.vrt_model.specs.Held.{sources_of}
use Rattle.vrt_model.specs.Limits.{most_variables}
use Rattle.vrt_model.specs.Lists.{has_name}
use Rattle.vrt_model.specs.Unsupported.{Line, element_without_group, first_line, is_reached, latch_without_clock, line_without_element, match_lines, too_many_variables, unmatched, why_compared, why_of}
use Rattle.vrt_model.specs.Variables.{places}
use Rattle.vrt_model.specs.declared.flat_model.FlatLatch.{FlatLatch}
use Rattle.vrt_model.specs.declared.flat_model.FlatModel.{FlatModel}
use Rattle.vrt_model.specs.declared.groups.Group.{Group as HoldGroup}
use Rattle.vrt_model.specs.declared.groups.Source.{Source}
use Rattle.vrt_model.specs.declared.rules.Rules.{Rules}
use Rattle.vrt_model.specs.declared.verdict.Why.{Why}
use Rattle.vrt_model.specs.declared.verdict.Why.TheVariants.{NoClock, TooManyVars, Unmatched}
use Rattle.written_cells.proofs.ExchangeLaws.{no_elements, sources_same}
use Rattle.written_cells.specs.Exchanged.{HasNoState, exchanged}

pub first_none : {X : Type 0} (f : X → Why) (o : Option X) (rest : Option Why) → option_or (why_of f o) rest ≡ None → (o ≡ None) × (rest ≡ None)
first_none f None rest e = (refl, e)
first_none f (Some x) rest e = absurd (none-some (f x) (sym e))

none_either : {X : Type 0} (b : Bool) (o : Option X) → o ≡ None → cond b None o ≡ None
none_either true o e = refl
none_either false o e = e

pub no_cause : {X : Type 0} (f : X → Why) (o : Option X) (rest : Option Why) → o ≡ None → rest ≡ None → option_or (why_of f o) rest ≡ None
no_cause f None rest e t = t
no_cause f (Some x) rest e t = absurd (none-some x (sym e))

pub no_item : {X : Type 0} (o p : Option X) → o ≡ None → p ≡ None → option_or o p ≡ None
no_item None p e t = t
no_item (Some x) p e t = absurd (none-some x (sym e))

module _ (flat : FlatModel) (none : flat.latches ≡ []) where
  no_clock_asked : (rules : Rules) → latch_without_clock flat rules ≡ None
  no_clock_asked rules =
      none_either (is_some (slice_get rules.defaultclocks 0)) (option_map (λ (l : FlatLatch). signal_name flat l.output) (find (λ (l : FlatLatch). is_none l.control) flat.latches))
      (ap (λ (ls : List FlatLatch). option_map (λ (l : FlatLatch). signal_name flat l.output) (find (λ (l : FlatLatch). is_none l.control) ls)) none)

  all_reached : (groups : List HoldGroup) → element_without_group flat groups ≡ None
  all_reached groups =
      ap (λ (names : List (List ℕ)). option_map (λ (p : ℕ × List ℕ). p.1) (find (λ (p : ℕ × List ℕ). not (is_reached groups p.0)) (enumerate_from 0 names))) (no_elements flat none)

lines_same : (rules : Rules) (cell : List ℕ) (one two : FlatModel) → element_names one ≡ element_names two → line_without_element rules cell one ≡ line_without_element rules cell two
lines_same rules cell one two e =
    ap (λ (names : List (List ℕ)). option_map (λ (l : Line). l.latch) (first_line (filter (λ (l : Line). not (has_name names l.latch)) (match_lines rules cell)))) e

pub no_cause_is_added : (k : Comparison) (flat : FlatModel) (number : ℕ) → HasNoState k → flat.latches ≡ [] → why_compared k ≡ None → why_compared (exchanged k flat number) ≡ None
no_cause_is_added k flat number none plain free =
    let name : List ℕ = (cell_at k.design k.cell).name in
    let other : Comparison = exchanged k flat number in
    let after : Option Why = why_of (λ count. TooManyVars count) (too_many_variables k) in
    let clocks = first_none (λ latch. NoClock latch) (latch_without_clock k.model k.rules) (option_or (why_of (λ name. Unmatched name) (unmatched k.rules name k.model k.groups)) after) free in
    let matches = first_none (λ name. Unmatched name) (unmatched k.rules name k.model k.groups) after clocks.1 in
    let old_lines : line_without_element k.rules name k.model ≡ None = (neither (element_without_group k.model k.groups) (line_without_element k.rules name k.model) matches.0).1 in
    let lines : line_without_element k.rules name flat ≡ None = lines_same k.rules name flat k.model (no_elements flat plain ∙ sym none.elements) ∙ old_lines in
    let counts : map (λ phase. length (sources_of other phase)) (places 0 k.rules.phases) ≡ map (λ phase. length (sources_of k phase)) (places 0 k.rules.phases) =
    map_same (λ phase. length (sources_of other phase)) (λ phase. length (sources_of k phase)) (places 0 k.rules.phases)
    (λ i phase at. ap (λ (sources : List Source). length sources) (sources_same k flat number none plain phase)) in
    no_cause (λ latch. NoClock latch) (latch_without_clock flat k.rules)
    (option_or (why_of (λ name. Unmatched name) (unmatched k.rules name flat other.groups)) (why_of (λ count. TooManyVars count) (too_many_variables other)))
    (no_clock_asked flat plain k.rules)
    (no_cause (λ name. Unmatched name) (unmatched k.rules name flat other.groups) (why_of (λ count. TooManyVars count) (too_many_variables other))
    (no_item (element_without_group flat other.groups) (line_without_element k.rules name flat) (all_reached flat plain other.groups) lines)
    (ap (λ (cs : List ℕ). why_of (λ count. TooManyVars count) (find (λ count. nat_lt most_variables count) cs)) counts ∙ matches.1))
