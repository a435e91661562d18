-- The models of the second file, in the language that its name tells.
use Rattle.std.specs.Prelude.{◌≡◌, ◌==◌, ℕ, List, Bool, true, false, codes}
use Rattle.std.specs.List.{ends_with}
use Rattle.blif_reader.specs.Cards.{cards_of}
use Rattle.blif_reader.specs.Models.{blif_of}
use Rattle.blif_reader.specs.Refused.{fault_of as cards_fault_of}
use Rattle.blif_reader.specs.declared.faults.BlifFault.{BlifFault}
use Rattle.gate_verilog.specs.Texts.{IsReadAs, SaysModules}
use Rattle.module_cells.specs.ModuleCells.{EqualCellsDo}
use Rattle.refusal_lines.specs.Lines.{blif_line, verilog_line}
use Rattle.text_lines.specs.Faults.{IsClean, IsFirst}
use Rattle.verilog_source.specs.Refused.{fault_of as modules_fault_of}
use Rattle.verilog_source.specs.declared.faults.VerilogFault.{VerilogFault}
use Rattle.verilog_tokens.specs.Tokens.{tokens_of}
use Rattle.verity_run.specs.declared.models.Language.{Language}
use Rattle.verity_run.specs.declared.models.Language.TheVariants as language
use Rattle.vrt_model.specs.declared.blif.Blif.{Blif}
use Rattle.vrt_model.specs.declared.design.Design.{Design}
use Rattle.vrt_model.specs.declared.rules.Rules.{Rules}

-- ---- the language

-- by whether the name ends so
abbrev pub language_by : Bool → Language
language_by true = language.Verilog
language_by false = language.Blif

-- gate-level Verilog where the name ends in `.v`, else BLIF
abbrev pub language_of : List ℕ → Language
language_of name = language_by (ends_with ◌==◌ name (codes ".v"))

-- ---- what is read

-- nothing of a text of BLIF is refused, and these are its models
pub record AreOfCards (bytes : List ℕ) (blif : Blif) : Type 0 where
  pub clean : IsClean cards_fault_of (cards_of bytes)
  pub is : blif ≡ blif_of (cards_of bytes)

-- nothing of a text of Verilog is refused, and these are the models of its modules: once unrolled they say what the expressions, gates
-- and ties of the modules do
pub record AreOfModules (bytes : List ℕ) (blif : Blif) : Type 0 where
  pub clean : IsClean modules_fault_of (tokens_of bytes)
  pub is : IsReadAs (tokens_of bytes) blif
  pub means : SaysModules (tokens_of bytes) blif

-- in a language
abbrev pub AreModelsIn : Language → List ℕ → Blif → Type 0
AreModelsIn language.Blif bytes blif = AreOfCards bytes blif
AreModelsIn language.Verilog bytes blif = AreOfModules bytes blif

-- these are the models of a file of this name with these bytes
abbrev pub AreModelsOf : List ℕ → List ℕ → Blif → Type 0
AreModelsOf name bytes blif = AreModelsIn (language_of name) bytes blif

-- where the models are those of modules, each supported cell that is equal to its model does what its module means
abbrev pub DoAsSaidIn : Language → List ℕ → Design → Blif → Rules → Type 0
DoAsSaidIn language.Blif bytes design blif rules = Unit {0}
DoAsSaidIn language.Verilog bytes design blif rules = (r : IsReadAs (tokens_of bytes) blif) → EqualCellsDo design blif rules r.modules

-- so of a file of this name
abbrev pub DoAsSaid : List ℕ → List ℕ → Design → Blif → Rules → Type 0
DoAsSaid name bytes design blif rules = DoAsSaidIn (language_of name) bytes design blif rules

-- ---- what is refused

-- the line of the first fault of a text of BLIF
pub record OfCards (name bytes line : List ℕ) : Type 0 where
  pub fault : BlifFault
  pub first : IsFirst cards_fault_of (cards_of bytes) fault
  pub told : line ≡ blif_line name fault

-- the line of the first fault of a text of Verilog
pub record OfModules (name bytes line : List ℕ) : Type 0 where
  pub fault : VerilogFault
  pub first : IsFirst modules_fault_of (tokens_of bytes) fault
  pub told : line ≡ verilog_line name fault

-- in a language
abbrev pub OfModelsIn : Language → List ℕ → List ℕ → List ℕ → Type 0
OfModelsIn language.Blif name bytes line = OfCards name bytes line
OfModelsIn language.Verilog name bytes line = OfModules name bytes line

-- the line of the first fault of a file of models
abbrev pub OfModels : List ℕ → List ℕ → List ℕ → Type 0
OfModels name bytes line = OfModelsIn (language_of name) name bytes line
