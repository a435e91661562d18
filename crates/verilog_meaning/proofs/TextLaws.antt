-- The flat models of the modules of a text say exactly what these mean.
use Rattle.std.proofs.Common.{◌≡◌, ◌≤◌, ℕ, List, [], ◌∷◌, ◌++◌, length}
use Rattle.verilog_meaning.specs.FlatBits.{IsExact}
use Rattle.verilog_meaning.proofs.FlatLaws.{flat_means}
use Rattle.verilog_meaning.proofs.GotLaws.{meaning_got}
use Rattle.verilog_meaning.proofs.PlainLaws.{text_plain}
use Rattle.verilog_models.specs.Models.{blif_of}
use Rattle.verilog_source.specs.Grammar.{IsSource}
use Rattle.verilog_source.specs.Modules.{Module}
use Rattle.verilog_tokens.specs.Signs.{Token}
use Rattle.verilog_tokens.specs.Tokens.{tokens_of}
use Rattle.vrt_model.specs.Inputs.{IsBlif}
use Rattle.vrt_model.specs.Lists.{At}
use Rattle.vrt_model.specs.Models.{AreModels}

pub text_exact : (text : List ℕ) (front : List Token) (last : Token) (modules : List Module) (k : ℕ) (top : Module) → length text ≤ 16777216 → tokens_of text ≡ front ++ last ∷ [] → IsSource front modules
    → IsBlif (blif_of modules) → AreModels (blif_of modules) → At modules k top → IsExact modules k top
text_exact text front last modules k top room are source good models at = record {
  means = λ clock held g obeys. flat_means front modules k top g.signal source good models at obeys.covers;
  got = λ bits meaning. meaning_got front modules k top bits source good models (text_plain text front last modules room are source) at meaning;
}
