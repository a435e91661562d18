-- The rules that lines give, table by table.
use Rattle.std.specs.Prelude.{◌≡◌, ℕ, List, [], ◌∷◌, Bool, false, if◌then◌else◌, map, flat_map, codes, bytes_eq, Option, Some, None, option_map, unwrap_or}
use Rattle.std.specs.List.{position}
use Rattle.vrt_model.specs.Levels.{usual_scale}
use Rattle.vrt_model.specs.Lists.{distinct}
use Rattle.rules_expression.specs.Grammar.{Formula, seen}
use Rattle.rules_expression.specs.Grammar.Formula.{a_port}
use Rattle.rules_expression.specs.Readings.{formula_of}
use Rattle.rules_reader.specs.declared.cards.Card.{Card}
use Rattle.rules_lines.specs.declared.entry.ClockBit.{ClockBit}
use Rattle.rules_lines.specs.declared.entry.Entry.{Entry}
use Rattle.rules_lines.specs.declared.entry.Entry.TheVariants.{ScaleLine, SupplyLine, DeviceLine, StrengthLine, ClockLine, PhaseLine, ClockportLine, DefaultclockLine, PairLine, PortLine, HoldLine, KeeperLine, MatchLine, InstanceMatchLine, EnterLine, ObserveLine, AssumeLine}
use Rattle.rules_lines.specs.declared.entry.Signed.{Signed}
use Rattle.rules_lines.specs.Words.{at_scale}
use Rattle.vrt_model.specs.declared.rules.AssumeRule.{AssumeRule}
use Rattle.vrt_model.specs.declared.rules.ClockRef.{ClockRef}
use Rattle.vrt_model.specs.declared.rules.ClockportRule.{ClockportRule}
use Rattle.vrt_model.specs.declared.rules.DefaultclockRule.{DefaultclockRule}
use Rattle.vrt_model.specs.declared.rules.DeviceRule.{DeviceRule}
use Rattle.vrt_model.specs.declared.rules.EnterRule.{EnterRule}
use Rattle.vrt_model.specs.declared.rules.HoldRule.{HoldRule}
use Rattle.vrt_model.specs.declared.rules.InstanceMatchRule.{InstanceMatchRule}
use Rattle.vrt_model.specs.declared.rules.KeeperRule.{KeeperRule}
use Rattle.vrt_model.specs.declared.rules.MatchRule.{MatchRule}
use Rattle.vrt_model.specs.declared.rules.ObserveRule.{ObserveRule}
use Rattle.vrt_model.specs.declared.rules.PairRule.{PairRule}
use Rattle.vrt_model.specs.declared.rules.Phase.{Phase}
use Rattle.vrt_model.specs.declared.rules.PortRule.{PortRule}
use Rattle.vrt_model.specs.declared.rules.Rules.{Rules}
use Rattle.vrt_model.specs.declared.rules.StrengthRule.{StrengthRule}
use Rattle.vrt_model.specs.declared.rules.SupplyRule.{SupplyRule}

-- what a line gives to a table
abbrev pub by_entry : {X : Type 0} → (ℕ → Entry → List X) → ℕ → Option Entry → List X
by_entry rules line None = []
by_entry rules line (Some entry) = rules line entry

abbrev pub on_card : {X : Type 0} → (ℕ → Entry → List X) → Card → List X
on_card rules card = by_entry rules card.line card.entry

-- the rules of one table, in the order of the lines
abbrev pub table : {X : Type 0} → (ℕ → Entry → List X) → List Card → List X
table rules cards = flat_map (on_card rules) cards

-- what a line gives without its number
abbrev pub told_on : {X : Type 0} → (Entry → List X) → Card → List X
told_on rules card = on_card (λ line. rules) card

abbrev pub told : {X : Type 0} → (Entry → List X) → List Card → List X
told rules cards = flat_map (told_on rules) cards

-- ---- the scale, clocks and phases

abbrev pub scales_in : Entry → List ℕ
scales_in (ScaleLine scale) = scale ∷ []
scales_in entry = []

-- the scale behind `scale` lines of these scales
abbrev pub scale_from : ℕ → List ℕ → ℕ
scale_from scale [] = scale
scale_from scale (s ∷ scales) = scale_from s scales

-- the scale of lines, the usual one where no line says it
unfoldable pub scale_by : List Card → ℕ
scale_by cards = scale_from usual_scale (told scales_in cards)

abbrev pub clocks_in : Entry → List (List ℕ)
clocks_in (ClockLine names) = names
clocks_in entry = []

-- the clocks, each once
unfoldable pub clocks_of : List Card → List (List ℕ)
clocks_of cards = distinct (told clocks_in cards)

abbrev pub phase_names_in : Entry → List (List ℕ)
phase_names_in (PhaseLine name bits) = name ∷ []
phase_names_in entry = []

-- the names of `phase` lines, each once
unfoldable pub phase_names_of : List Card → List (List ℕ)
phase_names_of cards = distinct (told phase_names_in cards)

-- the number of a name, and 0 where it is not there
abbrev pub number_in : List (List ℕ) → List ℕ → ℕ
number_in names name = unwrap_or (position (bytes_eq name) names) 0

-- the bit that a phase gives a clock
abbrev pub bit_for : List ClockBit → List ℕ → Bool
bit_for [] clock = false
bit_for (b ∷ bits) clock = if bytes_eq b.clock clock then unwrap_or b.bit false else bit_for bits clock

abbrev pub phases_in : List (List ℕ) → ℕ → Entry → List Phase
phases_in clocks line (PhaseLine name bits) = record { line = line; name = name; bits = map (bit_for bits) clocks } ∷ []
phases_in clocks line entry = []

-- Without a `phase` line there is one phase, `all`, in which every clock is 0.
abbrev pub all_from : List (List ℕ) → List Phase → List Phase
all_from clocks [] = record { line = 0; name = codes "all"; bits = map (λ c. false) clocks } ∷ []
all_from clocks (phase ∷ phases) = phase ∷ phases

-- ---- the other tables: a line with several nets or devices gives one rule for each

abbrev pub supply_rule : ℕ → Bool → List ℕ → SupplyRule
supply_rule line value net = record { line = line; value = value; net = net }

abbrev pub supplies_in : ℕ → Entry → List SupplyRule
supplies_in line (SupplyLine value nets) = map (supply_rule line value) nets
supplies_in line entry = []

abbrev pub devices_in : ℕ → ℕ → Entry → List DeviceRule
devices_in scale line (DeviceLine model kind level) = record { line = line; model = model; kind = kind; level = unwrap_or (at_scale scale level) 0 } ∷ []
devices_in scale line entry = []

abbrev pub strengths_in : ℕ → ℕ → Entry → List StrengthRule
strengths_in scale line (StrengthLine cell device level) = record { line = line; cell = cell; device = device; level = unwrap_or (at_scale scale level) 0 } ∷ []
strengths_in scale line entry = []

abbrev pub clock_ref : List (List ℕ) → Signed → ClockRef
clock_ref clocks s = record { clock = number_in clocks s.name; inverted = s.is_inverted }

abbrev pub clockports_in : List (List ℕ) → ℕ → Entry → List ClockportRule
clockports_in clocks line (ClockportLine cell port clock) = record { line = line; cell = cell; port = port; clock = clock_ref clocks clock } ∷ []
clockports_in clocks line entry = []

abbrev pub defaultclocks_in : List (List ℕ) → ℕ → Entry → List DefaultclockRule
defaultclocks_in clocks line (DefaultclockLine clock) = record { line = line; clock = number_in clocks clock } ∷ []
defaultclocks_in clocks line entry = []

abbrev pub pairs_in : ℕ → Entry → List PairRule
pairs_in line (PairLine cell model) = record { line = line; cell = cell; model = model } ∷ []
pairs_in line entry = []

abbrev pub ports_in : ℕ → Entry → List PortRule
ports_in line (PortLine cell port signal) = record { line = line; cell = cell; port = port; signal = signal } ∷ []
ports_in line entry = []

abbrev pub holds_in : ℕ → ℕ → Entry → List HoldRule
holds_in scale line (HoldLine cell net size) = record { line = line; cell = cell; net = net; size = unwrap_or (at_scale scale size) 0 } ∷ []
holds_in scale line entry = []

abbrev pub keeper_rule : ℕ → List ℕ → List ℕ → KeeperRule
keeper_rule line cell device = record { line = line; cell = cell; device = device }

abbrev pub keepers_in : ℕ → Entry → List KeeperRule
keepers_in line (KeeperLine cell devices) = map (keeper_rule line cell) devices
keepers_in line entry = []

abbrev pub matches_in : ℕ → Entry → List MatchRule
matches_in line (MatchLine cell net latch) = record { line = line; cell = cell; net = net; latch = latch.name; inverted = latch.is_inverted } ∷ []
matches_in line entry = []

abbrev pub instance_matches_in : ℕ → Entry → List InstanceMatchRule
instance_matches_in line (InstanceMatchLine cell inst inner latch) =
    record { line = line; cell = cell; «instance» = inst; inner = inner; latch = latch.name; inverted = latch.is_inverted } ∷ []
instance_matches_in line entry = []

abbrev pub enters_in : List (List ℕ) → ℕ → Entry → List EnterRule
enters_in phases line (EnterLine cell phase net bit) = record { line = line; cell = cell; phase = number_in phases phase; net = net; value = unwrap_or bit false } ∷ []
enters_in phases line entry = []

abbrev pub observes_in : List (List ℕ) → ℕ → Entry → List ObserveRule
observes_in phases line (ObserveLine cell port named) = record { line = line; cell = cell; port = port; phases = map (number_in phases) named } ∷ []
observes_in phases line entry = []

-- an `assume` rule without where its expression lies in memory
pub record Assumed : Type 0 where
  pub line : ℕ
  pub cell : List ℕ
  pub phase : Option ℕ
  pub formula : Formula

abbrev pub assumed : AssumeRule → Assumed
assumed r = record { line = r.line; cell = r.cell; phase = r.phase; formula = seen r.expression }

abbrev pub assumes_in : List (List ℕ) → ℕ → Entry → List Assumed
assumes_in phases line (AssumeLine cell phase tokens) =
    record { line = line; cell = cell; phase = option_map (number_in phases) phase; formula = unwrap_or (formula_of tokens) (a_port []) } ∷ []
assumes_in phases line entry = []

-- the tables of lines but for clocks and phases, where these clocks and phases have numbers; levels and sizes are those
-- of the scale of the rules
pub record AreTablesOf (clocks phases : List (List ℕ)) (cards : List Card) (rules : Rules) : Type 0 where
  pub supplies : rules.supplies ≡ table supplies_in cards
  pub devices : rules.devices ≡ table (devices_in rules.scale) cards
  pub strengths : rules.strengths ≡ table (strengths_in rules.scale) cards
  pub clockports : rules.clockports ≡ table (clockports_in clocks) cards
  pub defaultclocks : rules.defaultclocks ≡ table (defaultclocks_in clocks) cards
  pub pairs : rules.pairs ≡ table pairs_in cards
  pub ports : rules.ports ≡ table ports_in cards
  pub holds : rules.holds ≡ table (holds_in rules.scale) cards
  pub keepers : rules.keepers ≡ table keepers_in cards
  pub matches : rules.matches ≡ table matches_in cards
  pub instance_matches : rules.instance_matches ≡ table instance_matches_in cards
  pub enters : rules.enters ≡ table (enters_in phases) cards
  pub observes : rules.observes ≡ table (observes_in phases) cards
  pub assumes : map assumed rules.assumes ≡ table (assumes_in phases) cards

-- The rules of lines. Numbers of phases are those of the `phase` lines, and 0 for `all` where there is none.
pub record AreRulesOf (cards : List Card) (rules : Rules) : Type 0 where
  pub scale_is : rules.scale ≡ scale_by cards
  pub clocks_are : rules.clocks ≡ clocks_of cards
  pub phases_are : rules.phases ≡ all_from (clocks_of cards) (table (phases_in (clocks_of cards)) cards)
  pub tables : AreTablesOf (clocks_of cards) (phase_names_of cards) cards rules
