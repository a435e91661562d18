-- What the tables of a cell say is what the rules and the signals say.
use Rattle.std.proofs.Common.{◌≡◌, ℕ, List, Bool, false, cond, map, Option, Some, None, option_map, refl, ap, subst, ◌∙◌}
use Rattle.std.specs.Prelude.{bytes_eq, codes, filter_map, find, is_some, slice_get, unwrap_or}
use Rattle.std.specs.List.{list_any}
use Rattle.std.specs.Option.{option_or}
use Rattle.std.specs.Str.{str_to_ascii_lowercase}
use mathlib.Core.Path.{fun_ext}
use Rattle.names.proofs.FilterLaws.{first_is_found}
use Rattle.rule_index.proofs.PlacedLaws.{any_placed, values_placed}
use Rattle.name_tables.specs.Firsts.{value_in}
use Rattle.rule_index.specs.Lines.{ArePortLines, places_in}
use Rattle.rule_index.specs.Tables.{declared_supply}
use Rattle.name_tables.specs.declared.firsts.FirstValues.{FirstValues}
use Rattle.rule_index.specs.declared.lines.PortLines.{PortLines}
use Rattle.vrt_model.specs.Lists.{has_name}
use Rattle.vrt_model.specs.CellRules.{clock_of_port, supply_of}
use Rattle.vrt_model.specs.Elements.{signal_name}
use Rattle.vrt_model.specs.Expressions.{names_in}
use Rattle.vrt_model.specs.PairedPorts.{interface, is_assumed, port_rule, signal_by, signal_of_port, signals_like}
use Rattle.vrt_model.specs.declared.flat_model.FlatModel.{FlatModel}
use Rattle.vrt_model.specs.declared.rules.AssumeRule.{AssumeRule}
use Rattle.vrt_model.specs.declared.rules.ClockRef.{ClockRef}
use Rattle.vrt_model.specs.declared.rules.ClockportRule.{ClockportRule}
use Rattle.vrt_model.specs.declared.rules.PortRule.{PortRule}
use Rattle.vrt_model.specs.declared.rules.Rules.{Rules}
use Rattle.latch_match.specs.Facts.{port_facts}
use Rattle.latch_match.specs.Looked.{AreLookups, assumed_at, by_lower_name, by_name, clock_at, facts_in, ruled_at, signal_at, signal_ruled}
use Rattle.name_tables.specs.Tables.{IsTable, Named, first_value, named}
use Rattle.latch_match.specs.declared.facts.PortFacts.{PortFacts}
use Rattle.latch_match.specs.declared.lookups.Lookups.{Lookups}
use Rattle.name_tables.specs.declared.table.NameTable.{NameTable}
use Rattle.latch_match.proofs.TableLaws.{first_kept, first_rule, second_item}

some_mapped : {X Y : Type 0} (f : X → Y) (o : Option X) → is_some (option_map f o) ≡ is_some o
some_mapped f None = refl
some_mapped f (Some x) = refl

-- a name finds the interface signal of that name
pub signals_named : (flat : FlatModel) (signals : List ℕ) (names : NameTable ℕ) → signals ≡ interface flat → IsTable (map (by_name flat) signals) names → first_value names ≡ signal_at flat
signals_named flat signals names e is =
    fun_ext (λ name. first_kept (signal_name flat) signals names name is ∙ first_is_found (λ s. bytes_eq (signal_name flat s) name) signals ∙ ap (find (λ s. bytes_eq (signal_name flat s) name)) e)

-- the signal of a port, by its rule or by its name
signal_is : (flat : FlatModel) (port : List ℕ) (rule : Option PortRule) (ruled : Option (Option ℕ)) (like : Option ℕ) → ruled ≡ option_map (λ (r : PortRule). signal_at flat r.signal) rule
    → like ≡ slice_get (signals_like flat port) 0 → unwrap_or ruled like ≡ signal_by flat port rule
signal_is flat port None ruled like e f = ap (λ o. unwrap_or o like) e ∙ f
signal_is flat port (Some r) ruled like e f = ap (λ o. unwrap_or o like) e

same_facts : (s s' : Option Bool) (c c' : Option ClockRef) (r r' : Bool) (g g' : Option ℕ) (f f' a a' : Bool) → s ≡ s' → c ≡ c' → r ≡ r' → g ≡ g' → f ≡ f' → a ≡ a'
    → (let one : PortFacts = record { supply = s; clock = c; is_ruled = r; signal = g; fits_again = f; is_assumed = a } in one)
    ≡ (let one : PortFacts = record { supply = s'; clock = c'; is_ruled = r'; signal = g'; fits_again = f'; is_assumed = a' } in one)
same_facts s s' c c' r r' g g' f f' a a' p q t u v w = cc

pub facts_are : (flat : FlatModel) (rules : Rules) (cell : List ℕ) (supplies : FirstValues Bool) (l : Lookups) (port : List ℕ) → value_in supplies port ≡ declared_supply rules.supplies port → AreLookups flat rules cell l
    → facts_in supplies l port ≡ port_facts flat rules cell port
facts_are flat rules cell supplies l port given are =
    let ruled : first_value l.ruled port ≡ option_map (λ (r : PortRule). signal_at flat r.signal) (port_rule rules cell port) =
    first_rule (λ (r : PortRule). bytes_eq r.cell cell) (λ (r : PortRule). r.port) (λ (r : PortRule). signal_at flat r.signal) rules.ports l.ruled port are.ruled in
    same_facts _ (supply_of rules port) _ (clock_of_port rules cell port) _ (is_some (port_rule rules cell port)) _ (signal_of_port flat rules cell port) _ _ _ (is_assumed rules cell port)
    (ap (λ (o : Option Bool). option_or o (cond (bytes_eq port (codes "0")) (Some false) None)) given)
    (first_rule (λ (r : ClockportRule). bytes_eq r.cell cell) (λ (r : ClockportRule). r.port) (λ (r : ClockportRule). r.clock) rules.clockports l.clocks port are.clocks)
    (ap is_some ruled ∙ some_mapped (λ (r : PortRule). signal_at flat r.signal) (port_rule rules cell port))
    (signal_is flat port (port_rule rules cell port) _ _ ruled (first_kept (λ s. str_to_ascii_lowercase (signal_name flat s)) (interface flat) l.signals port are.signals))
    (second_item (λ s. str_to_ascii_lowercase (signal_name flat s)) (interface flat) l.signals port are.signals)
    (are.assumed port)

-- the tables of a cell
pub lookups_are : (flat : FlatModel) (rules : Rules) (lines : PortLines) (cell : List ℕ) (signals clocked ruled assumed : List ℕ) (l : Lookups) → ArePortLines rules lines
    → signals ≡ interface flat → clocked ≡ places_in lines.clockports cell → ruled ≡ places_in lines.signals cell → assumed ≡ places_in lines.assumes cell
    → IsTable (map (by_lower_name flat) signals) l.signals → IsTable (map (by_name flat) signals) l.names → IsTable (filter_map (clock_at rules.clockports) clocked) l.clocks
    → IsTable (filter_map (ruled_at (first_value l.names) rules.ports) ruled) l.ruled
    → ((m : List ℕ) → has_name l.assumed m ≡ list_any (assumed_at rules.assumes m) assumed) → AreLookups flat rules cell l
lookups_are flat rules lines cell signals clocked ruled assumed l are e c p a by_low by_name_is by_clock by_rule by_assume = record {
  signals = subst (λ (xs : List ℕ). IsTable (map (by_lower_name flat) xs) l.signals) e by_low;
  clocks =
      subst (λ (es : List (Named ClockRef)). IsTable es l.clocks)
      (ap (filter_map (clock_at rules.clockports)) c ∙ values_placed (λ (r : ClockportRule). r.cell) (λ (r : ClockportRule). named r.port r.clock) rules.clockports (places_in lines.clockports cell) cell (are.clockports cell)) by_clock;
  ruled =
      subst (λ (es : List (Named (Option ℕ))). IsTable es l.ruled)
      (ap (filter_map (ruled_at (first_value l.names) rules.ports)) p
      ∙ values_placed (λ (r : PortRule). r.cell) (λ (r : PortRule). named r.port (first_value l.names r.signal)) rules.ports (places_in lines.signals cell) cell (are.signals cell)
      ∙ ap (λ (f : List ℕ → Option ℕ). filter_map (signal_ruled f cell) rules.ports) (signals_named flat signals l.names e by_name_is)) by_rule;
  assumed = λ m.
      by_assume m ∙ ap (list_any (assumed_at rules.assumes m)) a
      ∙ any_placed (λ (r : AssumeRule). r.cell) (λ (r : AssumeRule). has_name (names_in r.expression) m) rules.assumes (places_in lines.assumes cell) cell (are.assumes cell);
}
