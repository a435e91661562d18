-- The three files as they are given, and what is read from them.
use Rattle.std.specs.Prelude.{◌≡◌, ℕ, List, codes}
use Rattle.command_line.specs.declared.request.FileWords.{FileWords}
use Rattle.generator.specs.Texts.{blif_text, rules_text, spice_text}
use Rattle.rules_reader.specs.Entries.{cards_of as rules_cards_of}
use Rattle.rules_reader.specs.Refused.{fault_of as rules_fault_of}
use Rattle.rules_reader.specs.Tables.{AreRulesOf}
use Rattle.rules_reader.specs.declared.cards.Card.{Card as RulesCard}
use Rattle.spice_reader.specs.Cards.{cards_of as netlist_cards_of}
use Rattle.spice_reader.specs.Netlist.{design_of}
use Rattle.spice_reader.specs.Refused.{IsNetlist}
use Rattle.spice_reader.specs.declared.card.Card.{Card as NetlistCard}
use Rattle.text_lines.specs.Faults.{IsClean}
use Rattle.verity_run.specs.Models.{AreModelsOf, DoAsSaid}
use Rattle.verity_run.specs.declared.reads.Texts.{Texts}
use Rattle.verity_run.specs.declared.refusals.Bytes.{Bytes}
use Rattle.vrt_model.specs.Inputs.{AreRules, IsBlif, IsDesign}
use Rattle.vrt_model.specs.Models.{AreModels}
use Rattle.vrt_model.specs.declared.blif.Blif.{Blif}
use Rattle.vrt_model.specs.declared.design.Design.{Design}
use Rattle.vrt_model.specs.declared.rules.Rules.{Rules}

-- a text for each of the SPICE file, the file of models and the rules file
pub record ByFile : Type 0 where
  pub spice : List ℕ
  pub blif : List ℕ
  pub rules : List ℕ

-- the words that name the files, and their bytes
pub record Given : Type 0 where
  pub words : ByFile
  pub bytes : ByFile

abbrev pub by_file : List ℕ → List ℕ → List ℕ → ByFile
by_file spice blif rules = record { spice = spice; blif = blif; rules = rules }

abbrev pub names_in : FileWords → ByFile
names_in words = by_file words.spice.now words.blif.now words.rules.now

abbrev pub bytes_in : Texts → ByFile
bytes_in texts = by_file texts.spice.items texts.blif.items texts.rules.items

abbrev pub bytes_of : Bytes → ByFile
bytes_of bytes = by_file bytes.spice.now bytes.blif.now bytes.rules.now

-- these bytes under these names
abbrev pub given : ByFile → ByFile → Given
given words bytes = record { words = words; bytes = bytes }

-- the texts of a size, under the names that the usage line has for files
abbrev pub generated : ℕ → Given
generated size = given (by_file (codes "SPICE") (codes "BLIF") (codes "RULES")) (by_file (spice_text size) (blif_text size) rules_text)

-- ---- what is read

abbrev pub netlist_cards : Given → List NetlistCard
netlist_cards g = netlist_cards_of g.bytes.spice

abbrev pub rules_cards : Given → List RulesCard
rules_cards g = rules_cards_of g.bytes.rules

-- No reader refuses a file, the models can be unrolled, and these are the cells, models and rules of the files. Where the models are written
-- as modules, cells that are equal to them do what the modules mean.
pub record AreRead (g : Given) (design : Design) (blif : Blif) (rules : Rules) : Type 0 where
  pub netlist : IsNetlist (netlist_cards g)
  pub models : AreModelsOf g.words.blif g.bytes.blif blif
  pub lines : IsClean rules_fault_of (rules_cards g)
  pub design_is : design ≡ design_of (netlist_cards g)
  pub rules_are : AreRulesOf (rules_cards g) rules
  pub unrolled : AreModels blif
  pub said : DoAsSaid g.words.blif g.bytes.blif design blif rules

-- cells, models and rules such as the readers give
pub record AreFit (design : Design) (blif : Blif) (rules : Rules) : Type 0 where
  pub design_is : IsDesign design
  pub blif_is : IsBlif blif
  pub rules_are : AreRules rules
  pub models : AreModels blif
