-- A cell at one valuation.
use Rattle.std.proofs.Common.{◌≡◌, inl, inr, ℕ, List, Bool, Option, None, Result, Ok, Err, refl, ap, ap₂, sym, ◌∙◌, subst, take, drop}
use Rattle.std.specs.Borrow.{Bor}
use Rattle.std.specs.Prelude.{bytes_eq, position, IfOk, MatchResult}
use Rattle.std.specs.Str.{str_to_ascii_lowercase}
use Rattle.cell_room.specs.Compared.{IsFlattened, comparison}
use Rattle.cell_room.specs.Flat.{Flattened}
use Rattle.mode_lines.specs.Points.{AreVariables, comparison_with, meets_with, setting_with}
use Rattle.mode_lines.specs.Lines.{replay_lines}
use Rattle.mode_lines.specs.declared.points.CellPhase.{CellPhase}
use Rattle.verity_run.proofs.ClassLaws.{same_model}
use Rattle.verity_run.proofs.PutLaws.{split_at}
use Rattle.verity_run.specs.Refusals.{Tells}
use Rattle.verity_run.specs.Replays.{BeginsReplay, HasValueLines, IsNoPhase, IsPointOf, IsReplayed, IsSupportedWith}
use Rattle.verity_run.specs.Messages.{no_name_line}
use Rattle.verity_run.specs.Reports.{with_count}
use Rattle.verity_run.specs.Runs.{AnswersReplay, Ends, StopsLines}
use Rattle.verity_run.specs.declared.refusals.Refusal.{Refusal}
use Rattle.verity_run.specs.declared.refusals.Refusal.TheVariants.{Unread, Told, NoMemory}
use Rattle.verity_run.specs.declared.status.Count.{Count}
use Rattle.verity_run.specs.declared.status.Status.{Status}
use Rattle.verity_run.specs.declared.status.Status.TheVariants.{AllEqual}
use Rattle.vrt_model.specs.Comparison.{Comparison, cell_at, phase_at}
use Rattle.vrt_model.specs.Constraints.{meets}
use Rattle.vrt_model.specs.FlatCircuit.{flat_circuit}
use Rattle.vrt_model.specs.Groups.{groups_of}
use Rattle.vrt_model.specs.Held.{setting_of, sources_of}
use Rattle.vrt_model.specs.PairedPorts.{pairing_of}
use Rattle.vrt_model.specs.Unsupported.{IsSupported, comparison_of}
use Rattle.vrt_model.specs.Variables.{variables_of}
use Rattle.vrt_model.specs.declared.blif.Blif.{Blif}
use Rattle.vrt_model.specs.declared.circuit.Circuit.{Circuit}
use Rattle.vrt_model.specs.declared.design.Cell.{Cell}
use Rattle.vrt_model.specs.declared.design.Design.{Design}
use Rattle.vrt_model.specs.declared.flat_model.FlatModel.{FlatModel}
use Rattle.vrt_model.specs.declared.groups.Group.{Group}
use Rattle.vrt_model.specs.declared.groups.Vars.{Vars}
use Rattle.vrt_model.specs.declared.pairing.Pairing.{Pairing}
use Rattle.vrt_model.specs.declared.rules.Phase.{Phase}
use Rattle.vrt_model.specs.declared.rules.Rules.{Rules}
use Rattle.witness.specs.Replays.{AreValues}
use Rattle.witness.specs.declared.seen.Seen.{Seen}

-- ---- the comparison

abbrev made_by : Design → Rules → ℕ → Pairing → Circuit → FlatModel → List Group → Comparison
made_by design rules n pairing circuit model groups = record { design = design; rules = rules; cell = n; pairing = pairing; circuit = circuit; model = model; groups = groups }

-- what was made of a cell is its comparison
comparison_is : (design : Design) (blif : Blif) (rules : Rules) (n m : ℕ) (f : Flattened) → IsFlattened design blif rules n m f → comparison design rules n f ≡ comparison_of design blif rules n m
comparison_is design blif rules n m f made =
    ap (made_by design rules n f.pairing f.circuit f.model) made.groups_are
    ∙ ap (λ (c : Circuit). made_by design rules n f.pairing c f.model (groups_of c f.model)) made.circuit_is
    ∙ ap (λ (p : Pairing). made_by design rules n p (flat_circuit design rules n p) f.model (groups_of (flat_circuit design rules n p) f.model)) made.pairing_is
    ∙ ap (λ (x : FlatModel). made_by design rules n (pairing_of design n m x rules) (flat_circuit design rules n (pairing_of design n m x rules)) x
    (groups_of (flat_circuit design rules n (pairing_of design n m x rules)) x)) made.model_is

-- what holds of it holds of the comparison of a supported cell
pub supported_with : (P : Comparison → Type 0) (design : Design) (blif : Blif) (rules : Rules) (n m k : ℕ) (f : Flattened) → IsSupported design blif rules n m → IsFlattened design blif rules n k f
    → P (comparison design rules n f) → IsSupportedWith design blif rules n P
supported_with P design blif rules n m k f supported made holds =
    let same : k ≡ m = same_model 0 0 k m (sym made.paired ∙ supported.paired) in
    (m, supported, subst (λ (x : ℕ). P (comparison_of design blif rules n x)) same (subst P (comparison_is design blif rules n k f made) holds))

-- ---- the point

module _ (s : CellPhase) (design : Design) (rules : Rules) (n place : ℕ) (f : Flattened) (vars : Vars) (point : IsPointOf s design rules n place f vars) where
  with_is : comparison_with s f.pairing f.model ≡ comparison design rules n f
  with_is =
      ap (λ (d : Design). made_by d s.rules.now s.cell f.pairing s.circuit.now f.model s.groups.now) point.design_is
      ∙ ap (λ (r : Rules). made_by design r s.cell f.pairing s.circuit.now f.model s.groups.now) point.rules_are
      ∙ ap (λ (x : ℕ). made_by design rules x f.pairing s.circuit.now f.model s.groups.now) point.cell_is
      ∙ ap (λ (c : Circuit). made_by design rules n f.pairing c f.model s.groups.now) point.circuit_is
      ∙ ap (λ (g : List Group). made_by design rules n f.pairing f.circuit f.model g) point.groups_are

  are_variables : vars.sources ≡ sources_of (comparison design rules n f) place → AreVariables s f.model
  are_variables e =
      point.sources_are ∙ e
      ∙ ap (λ (c : Circuit). variables_of c f.model f.groups place) (sym point.circuit_is)
      ∙ ap (λ (g : List Group). variables_of s.circuit.now f.model g place) (sym point.groups_are)
      ∙ ap (λ (p : ℕ). variables_of s.circuit.now f.model s.groups.now p) (sym point.phase_is)

  setting_is : (bits : List Bool) → setting_with s f.pairing f.model bits ≡ setting_of (comparison design rules n f) place bits
  setting_is bits = ap₂ (λ (k : Comparison) (p : ℕ). setting_of k p bits) with_is point.phase_is

  meets_is : (bits : List Bool) → meets_with s f.pairing f.model bits ≡ meets (comparison design rules n f) place (setting_of (comparison design rules n f) place bits)
  meets_is bits = ap₂ (λ (k : Comparison) (p : ℕ). meets k p (setting_of k p bits)) with_is point.phase_is

  -- the lines of what the nets show
  pub lines_told : {E : Type 0} (phase : Phase) (cell : Cell) (bits : List Bool) (met : Bool) (bare kept : List Seen) (r : Result (List (List ℕ)) E)
      → vars.sources ≡ sources_of (comparison design rules n f) place → phase ≡ phase_at rules place → cell ≡ cell_at design n
      → (AreVariables s f.model → met ≡ meets_with s f.pairing f.model bits)
      → (AreVariables s f.model → AreValues s.circuit.now phase (setting_with s f.pairing f.model bits) bare kept)
      → IfOk r (λ lines. lines ≡ replay_lines cell.name phase.name met f.circuit bare kept)
      → IfOk r (HasValueLines (comparison design rules n f) place bits)
  lines_told phase cell bits met bare kept (Err e) are in_phase named met_is values told = tt
  lines_told phase cell bits met bare kept (Ok lines) are in_phase named met_is values told =
      let vs = are_variables are in
      let k = comparison design rules n f in
      record {
        bare = bare;
        kept = kept;
        values =
            subst (λ (c : Circuit). AreValues c (phase_at rules place) (setting_of k place bits) bare kept) point.circuit_is
            (subst (λ (p : Phase). AreValues s.circuit.now p (setting_of k place bits) bare kept) in_phase
            (subst (λ x. AreValues s.circuit.now phase x bare kept) (setting_is bits) (values vs)));
        lines_are =
            told
            ∙ ap (λ (b : Bool). replay_lines cell.name phase.name b f.circuit bare kept) (met_is vs ∙ meets_is bits)
            ∙ ap₂ (λ (c : Cell) (p : Phase). replay_lines c.name p.name (meets k place (setting_of k place bits)) f.circuit bare kept) named in_phase;
      }

-- ---- refusals

-- a phase that is not there
pub no_phase : {E : Type 0} (rules : Rules) (word bytes name key again : List ℕ) (phases : List Phase) (found : Option ℕ) (line : Result (List ℕ) E) (r : Refusal)
    → bytes ≡ word → name ≡ str_to_ascii_lowercase bytes → key ≡ name → again ≡ name → phases ≡ rules.phases → found ≡ None
    → found ≡ position (λ (p : Phase). bytes_eq p.name key) phases → IfOk line (λ t. t ≡ no_name_line again)
    → MatchResult line (λ t. r ≡ Told t) (λ _. r ≡ NoMemory) → Tells (IsNoPhase rules word) r
no_phase rules word bytes name key again phases found (Ok text) r b n k a ps none is told ends =
    subst (Tells (IsNoPhase rules word)) (sym ends) (
      ap₂ (λ (x : List ℕ) (xs : List Phase). position (λ (p : Phase). bytes_eq p.name x) xs) (sym (k ∙ n ∙ ap str_to_ascii_lowercase b)) (sym ps) ∙ sym is ∙ none,
      told ∙ ap no_name_line (a ∙ n ∙ ap str_to_ascii_lowercase b),
    )
no_phase rules word bytes name key again phases found (Err e) r b n k a ps none is told ends = subst (Tells (IsNoPhase rules word)) (sym ends) tt

-- a refusal whose line is one of another kind
pub tells_by : (P Q : List ℕ → Type 0) (r : Refusal) → ((line : List ℕ) → P line → Q line) → Tells P r → Tells Q r
tells_by P Q (Unread line) f told = absurd told
tells_by P Q (Told line) f told = f line told
tells_by P Q NoMemory f told = tt

-- ---- ends

module _ (design : Design) (blif : Blif) (rules : Rules) (cell phase : List ℕ) (at : Option (Bor (List ℕ))) (count : Count) (lines : List (List ℕ)) (status : Status) (old new : Option (List ℕ)) (before now : ℕ) where
  -- not all lines were put
  pub replay_stops : IsReplayed design blif rules cell phase at count lines → StopsLines status lines old new before now
      → Ends (AnswersReplay design blif rules cell phase at) (BeginsReplay design blif rules cell phase at) status old new before now
  replay_stops is stops = record {
    whole = λ p q. absurd (elim stops.stopped [ inl e ↦ p e | inr e ↦ q e ]);
    fault = λ e.
        let w = stops.fault e in
        (w.0, (lines, inl (with_count AllEqual count, inr (record { count = count; replayed = is; ended = refl })), (w.1.0, w.1.1)));
    memory = λ e.
        let w = stops.memory e in
        inr (
          take w.0 lines,
          (with_count AllEqual count, drop w.0 lines, record { count = count; replayed = subst (IsReplayed design blif rules cell phase at count) (split_at w.0 lines) is; ended = refl }),
          w.1,
        );
  }
