-- A cell whose one output is pulled to 0, against a model that says 1.
use Rattle.std.specs.Prelude.{false, true, [], ◌∷◌, Some, codes}
use Rattle.vrt_model.proofs.Cells.{cover, design_of, gnd, model_of, n_device, vdd}
use Rattle.vrt_model.specs.declared.blif.Blif.{Blif}
use Rattle.vrt_model.specs.declared.design.Design.{Design}
use Rattle.vrt_model.specs.declared.verdict.FaultAt.{FaultAt}
use Rattle.vrt_model.specs.declared.verdict.FaultKind.TheVariants.{Differs}

abbrev pub design : Design
design = design_of (record { line = 2; name = codes "zero"; ports = codes "y" ∷ []; devices = n_device (codes "m1") (codes "y") vdd gnd ∷ []; instances = [] } ∷ [])

abbrev pub blif : Blif
blif = record { models = model_of (codes "zero") [] (codes "y" ∷ []) (cover [] (codes "y") true ([] ∷ []) ∷ []) [] [] ∷ [] }

-- the output has 0 and not 1, at the one valuation of no inputs
unfoldable pub the_fault : FaultAt
the_fault = record {
  kind = Differs;
  phase = 0;
  place = codes "y";
  circuit = Some false;
  wanted = Some true;
  names = [];
  valuation = record { bits = [] };
}
