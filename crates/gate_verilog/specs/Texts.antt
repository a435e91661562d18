-- The models of a text of modules.
use Rattle.std.specs.Prelude.{◌≡◌, ℕ, List, [], ◌∷◌, ◌++◌}
use Rattle.verilog_meaning.specs.FlatBits.{IsExact}
use Rattle.verilog_models.specs.Models.{blif_of}
use Rattle.verilog_source.specs.Grammar.{IsSource}
use Rattle.verilog_source.specs.Modules.{Module}
use Rattle.verilog_tokens.specs.Signs.{Token}
use Rattle.verilog_tokens.specs.Signs.Sign.{End}
use Rattle.vrt_model.specs.Lists.{At}
use Rattle.vrt_model.specs.Models.{AreModels}
use Rattle.vrt_model.specs.declared.blif.Blif.{Blif}

-- Tokens are a text of modules up to the end of the text, and these are their models. Tokens are a text of one list of modules
-- at most, so of one list of models.
pub record IsReadAs (tokens : List Token) (blif : Blif) : Type 0 where
  pub front : List Token
  pub last : Token
  pub modules : List Module
  pub are : tokens ≡ front ++ last ∷ []
  pub ends : last.sign ≡ End
  pub source : IsSource front modules
  pub models : blif ≡ blif_of modules

-- Where the models of a text can be unrolled, the assignments of the flat model of each are, but for the signals that the text does not
-- name, exactly what its module means.
abbrev pub SaysModules : List Token → Blif → Type 0
SaysModules tokens blif = (r : IsReadAs tokens blif) → AreModels blif → (k : ℕ) (top : Module) → At r.modules k top → IsExact r.modules k top
