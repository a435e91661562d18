-- What the call that lists the variables says.
use Rattle.std.specs.Prelude.{◌≡◌, ℕ, ◌<◌, ◌≤◌, List, map, length, Result, Ok, Err}
use Rattle.vrt_model.specs.Variables.{variable_name, variables_of}
use Rattle.vrt_model.specs.declared.circuit.Circuit.{Circuit}
use Rattle.vrt_model.specs.declared.flat_model.FlatModel.{FlatModel}
use Rattle.vrt_model.specs.declared.groups.Group.{Group}
use Rattle.vrt_model.specs.declared.groups.Vars.{Vars}
use Rattle.hold_groups.specs.Sources.{name_in, sources_by}
use Rattle.hold_groups.specs.declared.faults.VarsFault.{VarsFault}
use Rattle.hold_groups.specs.declared.faults.VarsFault.TheVariants.{TooMany, NoMemory}

-- all variables are listed, this many; and their names where they are at most 1,000
pub record AreFilled (c : Circuit) (elements : List (List ℕ)) (groups : List Group) (phase : ℕ) (vars : Vars) (count : ℕ) : Type 0 where
  pub sources : vars.sources ≡ sources_by c elements groups phase
  pub count_is : count ≡ length (sources_by c elements groups phase)
  pub names : count ≤ 1000 → vars.names ≡ map (name_in c elements groups) (sources_by c elements groups phase)

-- the variables with their names, where they are at most 1,000; else how many they are
abbrev pub VariablesGive : Circuit → FlatModel → List Group → ℕ → Result Vars VarsFault → Type 0
VariablesGive c flat groups phase (Ok vars) =
    (length (variables_of c flat groups phase) ≤ 1000) × (vars.sources ≡ variables_of c flat groups phase)
    × (vars.names ≡ map (variable_name c flat groups) (variables_of c flat groups phase))
VariablesGive c flat groups phase (Err (TooMany count)) =
    (1000 < length (variables_of c flat groups phase)) × (count ≡ length (variables_of c flat groups phase))
VariablesGive c flat groups phase (Err NoMemory) = Unit {0}
