-- What tables of the bare and of the kept circuit say of a net's level in both.
use Rattle.std.proofs.Common.{◌≡◌, ℕ, ◌<◌, Bool, true, false, not, cond, Option, Some, None, List, length, map, refl, ap, sym, subst, ◌∙◌, inl, inr}
use Rattle.std.specs.Prelude.{◌==◌}
use Rattle.std.proofs.lemmas.Bool.{eq-eqb, eqb-true, false≢true}
use Rattle.bdd_core.specs.Diagram.{Valuation}
use Rattle.bdd_core.specs.Store.{Diagrams, function_of}
use Rattle.bdd_core.specs.declared.handle.H.{H}
use Rattle.channel_parts.specs.declared.part.Part.{Part}
use Rattle.drive_levels.proofs.CaseLevels.{given_level, one_level, part_gives}
use Rattle.drive_levels.specs.NetLevels.{ArePartsOf, HasLevelIn, HasLevelOf, IsSolvedPhase, NetGives, OneGives, level_by, same_level}
use Rattle.known_nets.proofs.NetKinds.{given_or_plain, is_plain_is, plain_is}
use Rattle.node_pool.specs.declared.region.Span.{Span}
use Rattle.output_levels.specs.PartLevels.{IsInPart, IsToldIn, level_at}
use Rattle.vrt_model.specs.Known.{is_plain_at}
use Rattle.vrt_model.specs.Lists.{Among, mark_at}
use Rattle.vrt_model.specs.Reading.{bare, is_in, kept}
use Rattle.vrt_model.specs.Response.{IsStrength}
use Rattle.vrt_model.specs.Levels.{source_level}
use Rattle.vrt_model.specs.State.{OutputPin, Setting, State, network_of, output_pins}
use Rattle.vrt_model.specs.declared.circuit.Circuit.{Circuit}
use Rattle.vrt_model.specs.declared.circuit.Device.{Device}
use Rattle.vrt_model.proofs.Lists.{filter_among_same}
use Rattle.vrt_model.specs.declared.rules.Phase.{Phase}

-- ---- without keepers

-- a level is the same as itself
pub same_as_itself : (level : Option ℕ) → same_level level level ≡ level
same_as_itself None = refl
same_as_itself (Some level) = ap (λ (b : Bool). cond b (Some level) None) (eq-eqb level level refl)

-- the kept circuit is the bare one
strength_without_keepers : (c : Circuit) (held : ℕ → Bool) (s : State) → ((d : Device) → Among c.devices d → d.keeper ≡ false) → (n level : ℕ) → IsStrength (network_of c bare held s) n level
    → IsStrength (network_of c kept held s) n level
strength_without_keepers c held s none n level =
    subst (λ (devices : List Device).
    IsStrength (record {
      nets = c.nets;
      holds = c.holds;
      outputs = map (λ (out : OutputPin). out.pin) (output_pins c);
      devices = devices;
      source = source_level c;
      reading = s.reading;
      given = s.reading;
      held = held;
      driven = s.driven;
    }) n level)
    (filter_among_same (is_in bare) (is_in kept) c.devices (λ d m. ap not (none d m)))

-- ---- one phase

module _ (c : Circuit) (phase : Phase) (observed : ℕ → Bool) (setting : Valuation → Setting) (care : H) (roots gates : Span) (d : Diagrams)
    (solved : IsSolvedPhase c phase observed setting care roots gates d) where
  -- what is told of a net in its part holds in the circuit
  pub told_gives : (which : Bool) (parts : List Part) → ArePartsOf c phase which parts → (n : ℕ) → (levels : List (Option ℕ)) → IsToldIn c parts gates care d levels n
      → OneGives c phase observed setting (function_of d care) which n (level_at levels n)
  told_gives which parts are n levels told =
      part_gives c phase observed setting care roots gates d solved which are.rank told.0 (are.each told.0 told.1) n told.2 (level_at levels n) told.3

  -- the level that a net has in both
  pub both_give : (n : ℕ) (first second : Option ℕ) → OneGives c phase observed setting (function_of d care) bare n first → OneGives c phase observed setting (function_of d care) kept n second
      → NetGives c phase observed setting (function_of d care) n (same_level first second)
  both_give n None second none other = λ level all. none level (all bare)
  both_give n (Some level) None one none = λ other all. none other (all kept)
  both_give n (Some level) (Some other) one two = by_test (level == other) refl
    where
      by_test : (b : Bool) → (level == other) ≡ b → NetGives c phase observed setting (function_of d care) n (cond b (Some level) None)
      by_test true same = λ which. by_which which
        where
          by_which : (which : Bool) → HasLevelOf c phase observed setting (function_of d care) which n level
          by_which true = one
          by_which false = subst (HasLevelOf c phase observed setting (function_of d care) kept n) (sym (eqb-true level other same)) two
      by_test false apart = λ x all.
          let first = one_level c phase observed setting care roots gates d solved bare n level x one (all bare) in
          let second = one_level c phase observed setting care roots gates d solved kept n other x two (all kept) in
          false≢true (sym apart ∙ eq-eqb level other (first ∙ sym second))

  -- one of the two where no device is a keeper
  pub one_gives : ((d : Device) → Among c.devices d → d.keeper ≡ false) → (n : ℕ) (found : Option ℕ) → OneGives c phase observed setting (function_of d care) bare n found
      → NetGives c phase observed setting (function_of d care) n found
  one_gives no_keeper n found gives = by_found found gives
    where
      in_kept : (level : ℕ) → HasLevelOf c phase observed setting (function_of d care) bare n level → HasLevelOf c phase observed setting (function_of d care) kept n level
      in_kept level has v a s here solves is agrees = strength_without_keepers c (setting v).held s no_keeper n level (has v a s here solves is agrees)

      by_found : (o : Option ℕ) → OneGives c phase observed setting (function_of d care) bare n o → NetGives c phase observed setting (function_of d care) n o
      by_found None none = λ level all. none level (all bare)
      by_found (Some level) has = λ which. by_which which
        where
          by_which : (which : Bool) → HasLevelOf c phase observed setting (function_of d care) which n level
          by_which true = has
          by_which false = in_kept level has

  -- two levels that a net has in both are one
  pub one_level_in : (n level other : ℕ) → HasLevelIn c phase observed setting (function_of d care) n level → HasLevelIn c phase observed setting (function_of d care) n other → level ≡ other
  one_level_in n level other first second = one_level c phase observed setting care roots gates d solved bare n level other (first bare) (second bare)

  -- by both tables
  pub tables_give : (bare_parts kept_parts : List Part) → ArePartsOf c phase bare bare_parts → ArePartsOf c phase kept kept_parts → (asked : List Bool) (bare_levels kept_levels : List (Option ℕ))
      → ((n : ℕ) (part : Part) → Among bare_parts part → IsInPart part n → mark_at asked n ≡ true → IsToldIn c bare_parts gates care d bare_levels n)
      → ((n : ℕ) (part : Part) → Among kept_parts part → IsInPart part n → mark_at asked n ≡ true → IsToldIn c kept_parts gates care d kept_levels n)
      → (n : ℕ) → n < length c.nets → mark_at asked n ≡ true → NetGives c phase observed setting (function_of d care) n (level_by c bare_levels kept_levels n)
  tables_give bare_parts kept_parts of_bare of_kept asked bare_levels kept_levels told_bare told_kept n inside mark = by_kind (is_plain_at c n) refl
    where
      by_kind : (b : Bool) → is_plain_at c n ≡ b → NetGives c phase observed setting (function_of d care) n (cond b (same_level (level_at bare_levels n) (level_at kept_levels n)) (Some (source_level c)))
      by_kind true plain =
          let first = of_bare.all n (plain_is c n plain) in
          let second = of_kept.all n (plain_is c n plain) in
          both_give n (level_at bare_levels n) (level_at kept_levels n)
          (told_gives bare bare_parts of_bare n bare_levels (told_bare n first.0 first.1 first.2 mark))
          (told_gives kept kept_parts of_kept n kept_levels (told_kept n second.0 second.1 second.2 mark))
      by_kind false other =
          elim (given_or_plain c n inside) [
            | inl g ↦ λ which. given_level c phase observed setting care roots gates d solved which n g
            | inr p ↦ absurd (false≢true (sym other ∙ is_plain_is c n p))
          ]

  -- by the table of the bare circuit alone, where no device is a keeper
  pub table_gives : ((d : Device) → Among c.devices d → d.keeper ≡ false) → (bare_parts : List Part) → ArePartsOf c phase bare bare_parts → (asked : List Bool) (levels : List (Option ℕ))
      → ((n : ℕ) (part : Part) → Among bare_parts part → IsInPart part n → mark_at asked n ≡ true → IsToldIn c bare_parts gates care d levels n)
      → (n : ℕ) → n < length c.nets → mark_at asked n ≡ true → NetGives c phase observed setting (function_of d care) n (level_by c levels levels n)
  table_gives no_keeper bare_parts of_bare asked levels told n inside mark = by_kind (is_plain_at c n) refl
    where
      by_kind : (b : Bool) → is_plain_at c n ≡ b → NetGives c phase observed setting (function_of d care) n (cond b (same_level (level_at levels n) (level_at levels n)) (Some (source_level c)))
      by_kind true plain =
          let there = of_bare.all n (plain_is c n plain) in
          subst (NetGives c phase observed setting (function_of d care) n) (sym (same_as_itself (level_at levels n)))
          (one_gives no_keeper n (level_at levels n) (told_gives bare bare_parts of_bare n levels (told n there.0 there.1 there.2 mark)))
      by_kind false other =
          elim (given_or_plain c n inside) [
            | inl g ↦ λ which. given_level c phase observed setting care roots gates d solved which n g
            | inr p ↦ absurd (false≢true (sym other ∙ is_plain_is c n p))
          ]
