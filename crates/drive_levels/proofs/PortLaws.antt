-- The levels of all phases, joined, are a port's own drive; and with what else is found of it, that is what the facts say.
use Rattle.std.proofs.Common.{◌≡◌, ℕ, suc, ◌<◌, Bool, true, false, cond, List, Option, Some, None, length, arith, ap, refl, sym, subst, ◌∙◌, inl, inr}
use Rattle.std.specs.Prelude.{◌==◌}
use Rattle.std.proofs.lemmas.Bool.{cases_eq, eq-eqb, eqb-true, false≢true}
use Rattle.std.proofs.lemmas.Option.{none-some}
use Rattle.drive_levels.specs.NetLevels.{same_level}
use Rattle.drive_levels.specs.PhaseLevels.{HasLevelAt, IsLevelAt, IsLevelBefore, level_in}
use Rattle.drive_levels.specs.PortLevels.{FoundDrivesAreTold, IsFoundPort, IsWholeOutput, LevelsAreJoined, drive_by, drive_over, joined_level}
use Rattle.output_levels.specs.PartLevels.{level_at}
use Rattle.vrt_model.proofs.Members.{all_among}
use Rattle.vrt_model.specs.Comparison.{CellPort, Comparison}
use Rattle.vrt_model.specs.Facts.{IsDriveAt, IsDriveOf, IsOwnDrive}
use Rattle.vrt_model.specs.WholeInstances.{OutputAt}
use Rattle.vrt_model.specs.declared.ids.Net.{Net}
use Rattle.vrt_model.specs.declared.whole.Drive.{Drive}

-- ---- levels that two have

-- a level that both have is that of each
same_both : (first second : Option ℕ) (level : ℕ) → same_level first second ≡ Some level → (first ≡ Some level) × (second ≡ Some level)
same_both None second level e = absurd (none-some level e)
same_both (Some a) None level e = absurd (none-some level e)
same_both (Some a) (Some b) level e = by_test (a == b) refl e
  where
    by_test : (t : Bool) → (a == b) ≡ t → cond t (Some a) None ≡ Some level → (Some a ≡ Some level) × (Some b ≡ Some level)
    by_test true same e = (e, ap Some (sym (eqb-true a b same)) ∙ e)
    by_test false apart e = absurd (none-some level e)

-- and where each has it, both do
both_same : (level : ℕ) (first second : Option ℕ) → first ≡ Some level → second ≡ Some level → same_level first second ≡ Some level
both_same level first second e f =
    subst (λ (o : Option ℕ). same_level o second ≡ Some level) (sym e)
    (subst (λ (o : Option ℕ). same_level (Some level) o ≡ Some level) (sym f) (ap (λ (t : Bool). cond t (Some level) None) (eq-eqb level level refl)))

-- the level of one phase more
one_more : (k : Comparison) (phase n : ℕ) (before here : Option ℕ) → IsLevelBefore k phase n before → IsLevelAt k phase n here → IsLevelBefore k (suc phase) n (same_level before here)
one_more k phase n before here is one level = (
  λ has. both_same level before here ((is level).0 (λ p lt. has p (omega (arith, lt)))) ((one level).0 (has phase (omega arith))),
  λ e.
      let both = same_both before here level e in
      λ p lt. elim (cases_eq p phase) [
        | inl same ↦ subst (λ (q : ℕ). HasLevelAt k q n level) (sym same) ((one level).1 both.1)
        | inr apart ↦ (is level).1 both.0 p (omega (arith, lt, apart))
      ],
)

-- and of the first
the_first : (k : Comparison) (n : ℕ) (here : Option ℕ) → IsLevelAt k 0 n here → IsLevelBefore k 1 n here
the_first k n here one level = (
  λ has. (one level).0 (has 0 (omega arith)),
  λ e p lt. subst (λ (q : ℕ). HasLevelAt k q n level) (omega (arith, lt)) ((one level).1 e),
)

joined_before : (k : Comparison) (phase n : ℕ) (before here : Option ℕ) → (0 < phase → IsLevelBefore k phase n before) → IsLevelAt k phase n here → IsLevelBefore k (suc phase) n (joined_level (phase == 0) before here)
joined_before k phase n before here is one = by_test (phase == 0) refl
  where
    by_test : (b : Bool) → (phase == 0) ≡ b → IsLevelBefore k (suc phase) n (joined_level b before here)
    by_test true e =
        let none : phase ≡ 0 = eqb-true phase 0 e in
        subst (λ (p : ℕ). IsLevelBefore k (suc p) n here) (sym none) (the_first k n here (subst (λ (p : ℕ). IsLevelAt k p n here) none one))
    by_test false e = elim (cases_eq phase 0) [
      | inl none ↦ absurd (false≢true (sym e ∙ eq-eqb phase 0 none))
      | inr some ↦ one_more k phase n before here (is (omega (arith, some))) one
    ]

pub levels_joined : LevelsAreJoined
levels_joined k phase t nets old new levels asked within before joined j n at =
    subst (IsLevelBefore k (suc phase) n.0) (sym (joined.each j n at))
    (joined_before k phase n.0 (level_at old j) (level_in k.circuit t n.0) (λ lt. before lt j n at)
    (levels n.0 (all_among (λ (m : Net). m.0 < length k.circuit.nets) nets n within (j, at)) (asked n (j, at))))

-- ---- what is found of a port

-- a level in all phases is the port's own drive
own_drive : (k : Comparison) (port : CellPort) (level : Option ℕ) → IsLevelBefore k (length k.rules.phases) port.net level → IsOwnDrive k port (drive_over None level)
own_drive k port (Some level) is = λ phase bits a s which lt meets solves state agrees. (is level).1 refl phase lt bits a s which meets solves state agrees
own_drive k port None is = λ level has. none-some level ((is level).0 (λ phase lt bits a s which meets solves state agrees. has phase bits a s which lt meets solves state agrees))

module _ (flat k : Comparison) (outputs : List OutputAt) (port : CellPort) (lone : Bool) (whole : Option Drive) (level : Option ℕ) (is : IsFoundPort flat k outputs port lone whole level) where
  -- the drive over the checked circuit
  drive_there : (o : Option Drive) → whole ≡ o → IsWholeOutput k outputs port o → IsDriveAt k outputs port (drive_over o level)
  drive_there (Some drive) e output = inl output
  drive_there None e none = inr (none, own_drive k port level (is.joined e))

  -- and what the facts say of it
  by_lone : (b : Bool) → lone ≡ b → IsDriveOf flat k outputs port (drive_by b whole level)
  by_lone true e = inl (is.alone.0 e, drive_there whole refl is.output)
  by_lone false e = inr (λ alone. false≢true (sym e ∙ is.alone.1 alone), refl)

pub drives_told : FoundDrivesAreTold
drives_told flat k outputs port lone whole level is = by_lone flat k outputs port lone whole level is lone refl
