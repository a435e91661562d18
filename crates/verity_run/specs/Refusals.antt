-- The first refusal of the readers and of the models.
use Rattle.std.specs.Prelude.{◌≡◌, ◌⊎◌, ℕ, List}
use Rattle.blif_checks.specs.Checked.{IsModelFault}
use Rattle.blif_checks.specs.declared.faults.ModelFault.{ModelFault}
use Rattle.hierarchy.specs.Order.{IsHierFault}
use Rattle.hierarchy.specs.declared.faults.HierFault.{HierFault}
use Rattle.refusal_lines.specs.Lines.{models_line, rules_line, spice_line}
use Rattle.rules_reader.specs.Entries.{cards_of as rules_cards_of}
use Rattle.rules_reader.specs.Refused.{fault_of as rules_fault_of}
use Rattle.rules_reader.specs.declared.faults.RulesFault.{RulesFault}
use Rattle.spice_reader.specs.Cards.{cards_of as netlist_cards_of}
use Rattle.spice_reader.specs.Refused.{IsFaultOf, IsNetlist}
use Rattle.spice_reader.specs.declared.faults.SpiceFault.{SpiceFault}
use Rattle.text_lines.specs.Faults.{IsClean, IsFirst}
use Rattle.vrt_io.specs.Causes.{Rose}
use Rattle.verity_run.specs.Given.{ByFile, Given, netlist_cards, rules_cards}
use Rattle.verity_run.specs.Messages.{cells_line, read_failed_line, too_long_line}
use Rattle.verity_run.specs.Models.{AreModelsOf, OfModels}
use Rattle.verity_run.specs.Reads.{IsFileWord, IsFirstLong, Source}
use Rattle.verity_run.specs.declared.reads.Stop.{Stop}
use Rattle.verity_run.specs.declared.reads.Stop.TheVariants.{Failed, TooLong}
use Rattle.verity_run.specs.declared.refusals.Refusal.{Refusal}
use Rattle.verity_run.specs.declared.refusals.Refusal.TheVariants.{Unread, Told, NoMemory}
use Rattle.vrt_model.specs.declared.blif.Blif.{Blif}
use Rattle.vrt_model.specs.declared.design.Design.{Design}
use Rattle.vrt_model.specs.declared.rules.Rules.{Rules}

-- ---- what the texts say

-- the line of the first fault of a netlist
pub record OfNetlist (word bytes line : List ℕ) : Type 0 where
  pub fault : SpiceFault
  pub first : IsFaultOf (netlist_cards_of bytes) fault
  pub told : line ≡ spice_line word fault

-- the line of the first fault of rules
pub record OfRules (word bytes line : List ℕ) : Type 0 where
  pub fault : RulesFault
  pub first : IsFirst rules_fault_of (rules_cards_of bytes) fault
  pub told : line ≡ rules_line word fault

-- the line of the first fault of models that cannot be unrolled
pub record OfUnrolling (word : List ℕ) (blif : Blif) (line : List ℕ) : Type 0 where
  pub fault : ModelFault
  pub first : IsModelFault blif fault
  pub told : line ≡ models_line word fault

-- the line of the first refusal: of the netlist, else of the models, else of the rules, else of models that cannot be
-- unrolled
abbrev pub IsRefusal : Given → List ℕ → Type 0
IsRefusal g line =
    OfNetlist g.words.spice g.bytes.spice line
    ⊎ (IsNetlist (netlist_cards g) × (OfModels g.words.blif g.bytes.blif line
    ⊎ ((blif : Blif) × AreModelsOf g.words.blif g.bytes.blif blif × (OfRules g.words.rules g.bytes.rules line
    ⊎ (IsClean rules_fault_of (rules_cards g) × OfUnrolling g.words.blif blif line)))))

-- ---- the order of the cells

-- the line of why the cells have no order
pub record OfOrder (words : ByFile) (design : Design) (rules : Rules) (line : List ℕ) : Type 0 where
  pub fault : HierFault
  pub first : IsHierFault design rules fault
  pub told : line ≡ cells_line words.spice words.rules design fault

-- ---- three files

-- the line of the first file that is too long
pub record OfLength (source : Source) (words : ByFile) (line : List ℕ) : Type 0 where
  pub name : List ℕ
  pub first : IsFirstLong source words name
  pub line_is : line ≡ too_long_line name

-- the line of a file that could not be read: a load of it failed, and the count of faults rose
pub record OfFault (source : Source) (before now : ℕ) (words : ByFile) (line : List ℕ) : Type 0 where
  pub name : List ℕ
  pub rose : Rose before now
  pub named : IsFileWord words name
  pub failed : source.failed name
  pub line_is : line ≡ read_failed_line name

-- ---- what a refusal tells

-- that a file could not be read, with the one line, or that it is refused, with the other; want of memory has none
abbrev pub TellsEither : (List ℕ → Type 0) → (List ℕ → Type 0) → Refusal → Type 0
TellsEither IsUnread IsLine (Unread line) = IsUnread line
TellsEither IsUnread IsLine (Told line) = IsLine line
TellsEither IsUnread IsLine NoMemory = Unit {0}

-- that it is refused, with this line
abbrev pub Tells : (List ℕ → Type 0) → Refusal → Type 0
Tells IsLine refusal = TellsEither (λ line. ⊥) IsLine refusal

-- why no file of this name was read
abbrev pub TellsStop : Stop → List ℕ → Refusal → Type 0
TellsStop stop name refusal =
    TellsEither (λ line. (stop ≡ Failed) × (line ≡ read_failed_line name)) (λ line. (stop ≡ TooLong) × (line ≡ too_long_line name)) refusal

-- why the three files are not read
abbrev pub TellsFiles : Source → ByFile → ℕ → ℕ → Refusal → Type 0
TellsFiles source words before now refusal = TellsEither (OfFault source before now words) (OfLength source words) refusal
