-- Modules as they are read, event by event, and what is made of them.
use Rattle.std.specs.Prelude.{◌≡◌, List, [], ◌∷◌, ◌++◌, map}
use Rattle.verilog_models.specs.Drafts.{IsDraft, begun}
use Rattle.verilog_models.specs.Models.{model_of}
use Rattle.verilog_models.specs.declared.draft.Draft.{Draft}
use Rattle.verilog_source.specs.Modules.{Entry, Module}
use Rattle.verilog_source.specs.Places.{Event}
use Rattle.verilog_source.specs.Places.Event.{begins, has, ends}
use Rattle.vrt_model.specs.declared.blif.Blif.{Blif}
use Rattle.vrt_model.specs.declared.blif.BlifModel.{BlifModel}

-- the modules that have ended, and the one that is open
pub record Building : Type 0 where
  pub modules : List Module
  pub open_one : Module

-- nothing is read
abbrev pub nothing_built : Building
nothing_built = record { modules = []; open_one = begun 0 [] }

abbrev pub with_entries : Module → List Entry → Module
with_entries m es = record { line = m.line; name = m.name; entries = m.entries ++ es }

abbrev pub built_on : Building → Event → Building
built_on b (begins line name) = record { modules = b.modules; open_one = begun line name }
built_on b (has e) = record { modules = b.modules; open_one = with_entries b.open_one (e ∷ []) }
built_on b ends = record { modules = b.modules ++ b.open_one ∷ []; open_one = begun 0 [] }

abbrev pub built_from : Building → List Event → Building
built_from b [] = b
built_from b (e ∷ es) = built_from (built_on b e) es

-- what events tell of modules
abbrev pub built : List Event → Building
built events = built_from nothing_built events

-- these models are made of the modules that have ended, and this of the one that is open
pub record IsBuilding (b : Building) (models : List BlifModel) (draft : Draft) : Type 0 where
  pub ended : models ≡ map model_of b.modules
  pub drafted : IsDraft b.open_one draft

-- these models alone
abbrev pub blif_with : List BlifModel → Blif
blif_with models = record { models = models }

-- what was made of a module is made of it with these entries
abbrev pub AddsEntries : List Entry → Draft → Draft → Type 0
AddsEntries es old new = (m : Module) → IsDraft m old → IsDraft (with_entries m es) new
