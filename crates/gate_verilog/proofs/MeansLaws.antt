-- The models that are read mean what the modules do.
use Rattle.std.proofs.Common.{◌≤◌, ℕ, List, length, subst}
use Rattle.gate_verilog.specs.Texts.{SaysModules}
use Rattle.verilog_meaning.proofs.TextLaws.{text_exact}
use Rattle.verilog_tokens.specs.Tokens.{tokens_of}
use Rattle.vrt_model.specs.Inputs.{IsBlif}
use Rattle.vrt_model.specs.Models.{AreModels}
use Rattle.vrt_model.specs.declared.blif.Blif.{Blif}

pub says_modules : (text : List ℕ) (blif : Blif) → length text ≤ 16777216 → IsBlif blif → SaysModules (tokens_of text) blif
says_modules text blif room fit r are k top at = text_exact text r.front r.last r.modules k top room r.are r.source (subst IsBlif r.models fit) (subst AreModels r.models are) at
