-- What a request is answered from.
use Rattle.std.specs.Prelude.{◌≡◌, ◌⊎◌}
use Rattle.command_line.specs.Requests.{file_names}
use Rattle.command_line.specs.declared.request.Request.{Request}
use Rattle.command_line.specs.declared.request.Request.TheVariants.{Check, Replay, Classes, Generate, Arrive, Blif as AsBlif}
use Rattle.prepared_tables.specs.Prepared.{ArePrepared}
use Rattle.verity_run.specs.Asked.{AreAsked, cell_word}
use Rattle.verity_run.specs.Given.{AreFit, AreRead, ByFile, Given, generated, given}
use Rattle.verity_run.specs.Reads.{AreLoaded, Source}
use Rattle.verity_run.specs.Reports.{AreThere}
use Rattle.verity_run.specs.Runs.{names_by}
use Rattle.verity_run.specs.declared.ready.Ready.{Ready}
use Rattle.vrt_model.specs.Hierarchy.{IsOrdered}

-- what comparing a cell rests on: cells, models and rules such as the readers give, an order of the cells, tables that say the
-- same; and the cells that are to be looked at are cells of the netlist
pub record IsReady (ready : Ready) : Type 0 where
  pub fit : AreFit ready.inputs.design ready.inputs.blif ready.inputs.rules
  pub ordered : IsOrdered ready.inputs.design ready.inputs.rules
  pub prepared : ArePrepared ready.inputs.design ready.inputs.blif ready.inputs.rules ready.prepared
  pub there : AreThere ready.inputs.design ready.cells

-- ---- for a request

-- three texts say it, and its cells are those that are asked for
pub record IsReadyBy (request : Request) (g : Given) (ready : Ready) : Type 0 where
  pub read : AreRead g ready.inputs.design ready.inputs.blif ready.inputs.rules
  pub asked : AreAsked ready.inputs.design (cell_word request) ready.cells

-- these are the texts that are generated for a request
abbrev pub IsMade : Request → Given → Type 0
IsMade (Check cell budget files) g = ⊥
IsMade (Replay cell phase at files) g = ⊥
IsMade (Classes cell files) g = ⊥
IsMade (Arrive cell phase rise budget files) g = ⊥
IsMade (AsBlif cell budget files) g = ⊥
IsMade (Generate size budget) g = g ≡ generated size

-- these are the texts of a request, each under its name: those of its files, or generated ones
abbrev pub IsGiven : Request → Source → ByFile → ByFile → Type 0
IsGiven request source words bytes = ((file_names request ≡ names_by words) × AreLoaded source words bytes) ⊎ IsMade request (given words bytes)

-- the texts of a request do
pub record IsReadyFor (request : Request) (source : Source) (ready : Ready) : Type 0 where
  pub words : ByFile
  pub bytes : ByFile
  pub texts : IsGiven request source words bytes
  pub says : IsReadyBy request (given words bytes) ready
