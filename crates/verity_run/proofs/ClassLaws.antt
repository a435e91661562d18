-- What is written of a cell where its classes are asked for.
use Rattle.std.proofs.Common.{◌≡◌, inl, inr, ◌∷◌, ◌++◌, [], ℕ, List, Option, Some, None, Result, Ok, Err, ap, refl, sym, ◌∙◌, subst}
use Rattle.std.specs.Prelude.{IfOk}
use Rattle.cell_compare.specs.Cells.{HasEarlyLine, IsEarly, IsFlattenedTo}
use Rattle.cell_room.specs.Compared.{IsFlattened}
use Rattle.cell_room.specs.Flat.{Flattened}
use Rattle.channel_parts.specs.Classes.{AreClasses}
use Rattle.channel_parts.specs.declared.class.ClassLine.{ClassLine}
use Rattle.mode_lines.specs.Lines.{class_lines}
use Rattle.verity_run.specs.Classes.{IsClassed, IsOfTask}
use Rattle.verity_run.specs.Reports.{counted}
use Rattle.verity_run.specs.VerdictLines.{circuit_in, model_in}
use Rattle.verity_run.specs.declared.cell_lines.CellLines.{CellLines}
use Rattle.verity_run.specs.declared.refusals.Inputs.{Inputs}
use Rattle.verity_run.specs.declared.report.Task.{Task}
use Rattle.verity_run.specs.declared.status.Count.TheVariants.{Nothing}
use Rattle.vrt_model.specs.Circuits.{IsFlat}
use Rattle.vrt_model.specs.Comparison.{cell_at}
use Rattle.vrt_model.specs.FlatBlif.{flat_model_of}
use Rattle.vrt_model.specs.FlatCircuit.{flat_circuit}
use Rattle.vrt_model.specs.PairedPorts.{Model, pairing_of}
use Rattle.vrt_model.specs.Unsupported.{IsSupported, comparison_of}
use Rattle.vrt_model.specs.VerdictText.{verdict_line}
use Rattle.vrt_model.specs.declared.blif.Blif.{Blif}
use Rattle.vrt_model.specs.declared.circuit.Circuit.{Circuit}
use Rattle.vrt_model.specs.declared.design.Cell.{Cell}
use Rattle.vrt_model.specs.declared.design.Design.{Design}
use Rattle.vrt_model.specs.declared.rules.Rules.{Rules}
use Rattle.vrt_model.specs.declared.verdict.Verdict.{Verdict}
use Rattle.vrt_model.specs.declared.whole.CellFacts.{CellFacts}

module _ {E : Type 0} (design : Design) (blif : Blif) (rules : Rules) (n : ℕ) (cell : Cell) (named : cell ≡ cell_at design n) where
  -- the line of a cell that is not compared
  pub early_told : (o : Option Verdict) (v : Verdict) (f : Option Flattened) (r : Result CellLines E) → o ≡ Some v → IsEarly design blif rules n o → HasEarlyLine design blif rules n o f
      → IfOk r (λ t. (t.count ≡ counted v) × (t.lines ≡ (verdict_line cell.name v rules (circuit_in f) (model_in f) ++ 10 ∷ []) ∷ []))
      → IfOk r (λ t. IsClassed design blif rules n t.count t.lines)
  early_told o v f (Err e) is early line told = tt
  early_told o v f (Ok t) is early line told =
      let own : HasEarlyLine design blif rules n (Some v) f = subst (λ (x : Option Verdict). HasEarlyLine design blif rules n x f) is line in
      inl (record {
        verdict = v;
        early = subst (IsEarly design blif rules n) is early;
        counts = told.0;
        line =
            told.1
            ∙ ap (λ (c : Cell). (verdict_line c.name v rules (circuit_in f) (model_in f) ++ 10 ∷ []) ∷ []) named
            ∙ ap (λ (text : List ℕ). (text ++ 10 ∷ []) ∷ []) own;
      })

pub same_model : (a b m k : ℕ) → Model m ≡ Model k → m ≡ k
same_model a b m k e = cc

-- the circuit that was made is that of the comparison
pub circuit_is : (design : Design) (blif : Blif) (rules : Rules) (n m k : ℕ) (f : Flattened) → IsSupported design blif rules n m → IsFlattened design blif rules n k f
    → f.circuit ≡ (comparison_of design blif rules n m).circuit
circuit_is design blif rules n m k f supported made =
    let same : k ≡ m = same_model 0 0 k m (sym made.paired ∙ supported.paired) in
    made.circuit_is
    ∙ ap (flat_circuit design rules n) (made.pairing_is ∙ ap (λ model. pairing_of design n k model rules) made.model_is)
    ∙ ap (λ (x : ℕ). flat_circuit design rules n (pairing_of design n x (flat_model_of blif x) rules)) same

-- it has no whole instances
pub circuit_flat : (design : Design) (blif : Blif) (rules : Rules) (n : ℕ) (o : Option Flattened) (f : Flattened) → o ≡ Some f → IsFlattenedTo design blif rules n None o → IsFlat f.circuit
circuit_flat design blif rules n o f is made = let own : IsFlattenedTo design blif rules n None (Some f) = subst (IsFlattenedTo design blif rules n None) is made in own.1.flat

-- the classes of a cell that is compared
pub classes_told : (design : Design) (blif : Blif) (rules : Rules) (n : ℕ) (cell : Cell) (f : Flattened) (lines : List (List ℕ)) → cell ≡ cell_at design n
    → IsEarly design blif rules n None → IsFlattenedTo design blif rules n None (Some f)
    → (found : List ClassLine) × AreClasses f.circuit rules.phases found × (lines ≡ class_lines cell.name f.circuit found)
    → IsClassed design blif rules n Nothing lines
classes_told design blif rules n cell f lines named early made found =
    let same = circuit_is design blif rules n early.0 made.0 f early.1 made.1 in
    inr (record {
      model = early.0;
      supported = early.1;
      classes = found.0;
      are = subst (λ (c : Circuit). AreClasses c rules.phases found.0) same found.1;
      counts = refl;
      lines_are = found.2 ∙ ap (λ (c : Cell). class_lines c.name f.circuit found.0) named ∙ ap (λ (c : Circuit). class_lines (cell_at design n).name c found.0) same;
    })

-- the same for a task in other words
pub task_told : {E : Type 0} (i : Inputs) (known then : List CellFacts) (n : ℕ) (task own : Task) (r : Result CellLines E) → task ≡ own
    → IfOk r (λ t. IsOfTask own i known n t.count t.lines then) → IfOk r (λ t. IsOfTask task i known n t.count t.lines then)
task_told i known then n task own r is told = subst (λ (x : Task). IfOk r (λ t. IsOfTask x i known n t.count t.lines then)) (sym is) told
