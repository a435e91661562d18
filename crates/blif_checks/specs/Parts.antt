-- What is judged of a model.
use Rattle.std.specs.Prelude.{ℕ, Bool, false, true, cond, nat_lt, List, [], Option, Some, None, Result, Ok, Err}
use Rattle.vrt_model.specs.declared.blif.BlifModel.{BlifModel}
use Rattle.vrt_model.specs.declared.blif.CoverLine.{CoverLine}
use Rattle.blif_checks.specs.Shown.{line_of}
use Rattle.blif_checks.specs.declared.faults.ModelFault.{ModelFault}
use Rattle.blif_checks.specs.declared.part.Part.{Part}
use Rattle.blif_checks.specs.declared.part.Part.TheVariants.{Own, Network}

-- what is a model's own, or nothing of its network
abbrev pub only_own : {X : Type 0} → Part → List X → List X
only_own Own xs = xs
only_own Network xs = []

-- the covers of a model, or of its network
abbrev pub covers_in : Part → BlifModel → List CoverLine
covers_in Own m = m.covers
covers_in Network m = m.exdc

-- the model, or its network as a model of its own
abbrev pub part_of : Part → BlifModel → BlifModel
part_of part m = record m {
  outputs = only_own part m.outputs;
  output_lines = only_own part m.output_lines;
  covers = covers_in part m;
  latches = only_own part m.latches;
  subs = only_own part m.subs;
  exdc = only_own part m.exdc;
}

-- a fault is told before another: its line is less. None that has a line comes before the one that has none
abbrev pub is_line_before : Option ℕ → Option ℕ → Bool
is_line_before None other = true
is_line_before (Some line) None = false
is_line_before (Some line) (Some other) = nat_lt line other

-- the fault that stands, of a first one and what was answered of another thing
abbrev pub earlier_told : {T : Type 0} → ModelFault → Result T ModelFault → ModelFault
earlier_told fault (Ok x) = fault
earlier_told fault (Err other) = cond (is_line_before (line_of other) (line_of fault)) other fault
