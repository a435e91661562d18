-- A cell written as a model: its lines, and how a run ends that puts them.
use Rattle.std.proofs.Common.{◌≡◌, ◌≢◌, inl, inr, ◌∷◌, [], ℕ, List, Option, drop, refl, subst, take, ◌∙◌}
use Rattle.verity_run.proofs.PutLaws.{split_at}
use Rattle.verity_run.specs.Arrivals.{IsJudgedAs}
use Rattle.verity_run.specs.Reports.{cell_line, counted, with_count}
use Rattle.verity_run.specs.Runs.{Ends, StopsLines}
use Rattle.verity_run.specs.Writes.{BeginsBlif, IsBlifAnswer, IsBlifOf}
use Rattle.verity_run.specs.declared.status.Count.{Count}
use Rattle.verity_run.specs.declared.status.Status.{Status}
use Rattle.verity_run.specs.declared.status.Status.TheVariants.{AllEqual}
use Rattle.vrt_model.specs.declared.blif.Blif.{Blif}
use Rattle.vrt_model.specs.declared.design.Design.{Design}
use Rattle.vrt_model.specs.declared.rules.Rules.{Rules}
use Rattle.vrt_model.specs.declared.verdict.Verdict.{Verdict}
use Rattle.vrt_model.specs.declared.verdict.Verdict.TheVariants.{Equal}

-- the line of a verdict, alone
pub verdict_alone : (design : Design) (blif : Blif) (rules : Rules) (budget cell : ℕ) (verdict : Verdict) (own count : Count) (line : List ℕ) (lines : List (List ℕ)) → verdict ≢ Equal
    → own ≡ counted verdict → line ≡ cell_line design blif rules cell verdict → count ≡ own → lines ≡ line ∷ [] → IsBlifOf design blif rules budget count lines cell verdict
verdict_alone design blif rules budget cell verdict own count line lines other counts is same alone = inl (line, (other, same ∙ counts, is), alone)

-- ---- ends

module _ (design : Design) (blif : Blif) (rules : Rules) (budget : ℕ) (word : List ℕ) (count : Count) (lines : List (List ℕ)) (status : Status) (old new : Option (List ℕ)) (before now : ℕ)
    (is : IsJudgedAs design blif rules budget word (IsBlifOf design blif rules budget count lines)) where
  -- not all lines were put
  pub blif_stops : StopsLines status lines old new before now → Ends (IsBlifAnswer design blif rules budget word) (BeginsBlif design blif rules budget word) status old new before now
  blif_stops stops = record {
    whole = λ p q. absurd (elim stops.stopped [ inl e ↦ p e | inr e ↦ q e ]);
    fault = λ e.
        let w = stops.fault e in
        (w.0, (lines, inl (with_count AllEqual count, record { count = count; is = is; ended = refl }), (w.1.0, w.1.1)));
    memory = λ e.
        let w = stops.memory e in
        inr (
          take w.0 lines,
          (
            with_count AllEqual count,
            drop w.0 lines,
            record {
              count = count;
              is = subst (λ (ls : List (List ℕ)). IsJudgedAs design blif rules budget word (IsBlifOf design blif rules budget count ls)) (split_at w.0 lines) is;
              ended = refl;
            },
          ),
          w.1,
        );
  }
