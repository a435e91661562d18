-- A cell that pairs with a model pairs with the written one of that name.
use Rattle.std.proofs.Common.{◌≡◌, ℕ, Bool, true, false, cond, List, [], Option, Some, None, length, eqb, ap, refl, sym, ◌∙◌}
use Rattle.std.specs.Prelude.{bytes_eq, filter, find, option_map, position, unwrap_or}
use Rattle.std.specs.Str.{str_to_ascii_lowercase}
use Rattle.std.proofs.lemmas.List.Quantifiers.{position-Some}
use Rattle.std.proofs.lemmas.Option.{slice_get-get_or}
use Rattle.plain_models.specs.Texts.{alone, model_on_lines}
use Rattle.vrt_model.specs.Comparison.{cell_at}
use Rattle.vrt_model.specs.FlatBlif.{model_at}
use Rattle.vrt_model.specs.PairedPorts.{Missing, Model, Paired, Skipped, has_lower_name, model_named, paired_by, paired_model}
use Rattle.vrt_model.specs.declared.blif.Blif.{Blif}
use Rattle.vrt_model.specs.declared.blif.BlifModel.{BlifModel}
use Rattle.vrt_model.specs.declared.design.Design.{Design}
use Rattle.vrt_model.specs.declared.rules.PairRule.{PairRule}
use Rattle.vrt_model.specs.declared.rules.Rules.{Rules}
use Rattle.written_models.specs.Written.{Logic, written_model}

abbrev no_model : BlifModel
no_model = record { line = 0; name = []; inputs = []; input_lines = []; clocks = []; clock_lines = []; outputs = []; output_lines = []; covers = []; latches = []; subs = []; exdc = [] }

abbrev paired_at : Option ℕ → Paired
paired_at o = unwrap_or (option_map (λ (m : ℕ). Model m) o) Missing

at_number : (o : Option ℕ) (m : ℕ) → paired_at o ≡ Model m → o ≡ Some m
at_number None m e = cc
at_number (Some i) m e = cc

by_count : (b : Bool) (o : Option ℕ) (m : ℕ) → cond b (paired_at o) Missing ≡ Model m → o ≡ Some m
by_count true o m e = at_number o m e
by_count false o m e = cc

module _ (blif : Blif) (m : ℕ) (l : Logic) (same : (model_at blif m).name ≡ l.name) where
  abbrev new : BlifModel
  new = model_on_lines (written_model l)

  -- a test of names that the old model passes the new one passes
  passes : (test : List ℕ → Bool) → position (λ (b : BlifModel). test b.name) blif.models ≡ Some m → test l.name ≡ true
  passes test e =
      let found = position-Some (λ (b : BlifModel). test b.name) blif.models m new e in
      let at = slice_get-get_or blif.models m new found.0 in
      ap test (sym same ∙ ap (λ (o : Option BlifModel). (unwrap_or o no_model).name) at) ∙ found.1

  named : (name : List ℕ) → model_named blif name ≡ Model m → model_named (alone (written_model l)) name ≡ Model 0
  named name e =
      let t = passes (λ n. bytes_eq n name) (at_number (position (λ (b : BlifModel). bytes_eq b.name name) blif.models) m e) in rw t refl

  by_rule : (name : List ℕ) (rule : Option PairRule) → paired_by blif name rule ≡ Model m → paired_by (alone (written_model l)) name rule ≡ Model 0
  by_rule name None e =
      let t = passes (λ n. bytes_eq (str_to_ascii_lowercase n) name)
      (by_count (eqb (length (filter (has_lower_name name) blif.models)) 1) (position (has_lower_name name) blif.models) m e) in rw t refl
  by_rule name (Some rule) e = by_name rule.model e
    where
      by_name : (o : Option (List ℕ)) → unwrap_or (option_map (model_named blif) o) Skipped ≡ Model m → unwrap_or (option_map (model_named (alone (written_model l))) o) Skipped ≡ Model 0
      by_name None t = cc
      by_name (Some n) t = named n t

pub written_models_pair : (design : Design) (blif : Blif) (rules : Rules) (cell m : ℕ) (l : Logic) → (model_at blif m).name ≡ l.name
    → paired_model design blif rules cell ≡ Model m → paired_model design (alone (written_model l)) rules cell ≡ Model 0
written_models_pair design blif rules cell m l same e =
    let name = (cell_at design cell).name in
    by_rule blif m l same name (find (λ (r : PairRule). bytes_eq r.cell name) rules.pairs) e
