-- What is tested of a comparison before its phases, with another model.
use Rattle.std.specs.Prelude.{◌≡◌, ℕ, [], None}
use Rattle.vrt_model.specs.Comparison.{Comparison}
use Rattle.vrt_model.specs.Unsupported.{why_compared}
use Rattle.vrt_model.specs.declared.flat_model.FlatModel.{FlatModel}
use Rattle.written_cells.specs.Exchanged.{HasNoState, exchanged}

-- The law: where nothing stands against a cell without state, nothing stands against it with another model without latches.
abbrev pub NoCauseIsAdded : Type 0
NoCauseIsAdded =
    (k : Comparison) (flat : FlatModel) (number : ℕ) → HasNoState k → flat.latches ≡ [] → why_compared k ≡ None → why_compared (exchanged k flat number) ≡ None
