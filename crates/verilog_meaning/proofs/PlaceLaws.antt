-- The places of an unrolled model, by the paths of instances.
use Rattle.std.proofs.Common.{◌≡◌, ℕ, zero, suc, ◌+◌, List, [], ◌∷◌, ◌++◌, flat_map, length, Some, refl, ap, sym, subst, ◌∙◌}
use Rattle.std.specs.Prelude.{unwrap_or}
use Rattle.std.proofs.lemmas.Option.{same_Some}
use Rattle.blif_flat.specs.Places.{placed}
use Rattle.blif_flat.proofs.OnceLaws.{formals_apart}
use Rattle.blif_flat.proofs.OneDriverDepths.{Ends}
use Rattle.blif_flat.proofs.OneDriverPlaces.{IsSubTied, tie_number, tied_signal}
use Rattle.names.proofs.PlaceLaws.{at_among}
use Rattle.verilog_meaning.specs.FlatBits.{place_on, sub_place}
use Rattle.verilog_meaning.specs.Meaning.{Instance, StandsAt, instances_in, module_named}
use Rattle.verilog_meaning.specs.Meaning.StandsAt.{itself, inside}
use Rattle.verilog_meaning.proofs.InstanceLaws.{IsSubOf, model_found, sub_there}
use Rattle.verilog_models.specs.Models.{blif_of, covers_in, model_of}
use Rattle.verilog_source.specs.Modules.{Module}
use Rattle.vrt_model.specs.FlatBlif.{ModelPlace, formals, inner_count, inner_signals, model_at, model_numbered, models_in, signal_at, subs_at, subs_from}
use Rattle.vrt_model.specs.Lists.{Among, At}
use Rattle.vrt_model.specs.Models.{interface_of, models_within}
use Rattle.vrt_model.specs.declared.blif.Blif.{Blif}
use Rattle.vrt_model.specs.declared.blif.BlifModel.{BlifModel}
use Rattle.vrt_model.specs.declared.blif.SubLine.{SubLine}
use Rattle.vrt_model.specs.declared.blif.Tie.{Tie}
use Rattle.vrt_model.proofs.Lists.{map_among}
use Rattle.vrt_model.proofs.Members.{among_later, at_none, flat_map_among}

-- ---- sub-models

-- the place of a sub-model
pub record IsPlaceOf (blif : Blif) (at : ModelPlace) (s : SubLine) (q : ModelPlace) : Type 0 where
  pub number : ℕ
  pub base : ℕ
  pub is : q ≡ placed blif at number base s

placed_from : (blif : Blif) (at : ModelPlace) (depth number base : ℕ) (subs : List SubLine) (k : ℕ) (s : SubLine) → At subs k s
    → (q : ModelPlace) × At (subs_from blif at depth number base subs) k q × IsPlaceOf blif at s q
placed_from blif at depth number base [] k s e = absurd (at_none k s e)
placed_from blif at depth number base (x ∷ subs) zero s e =
    (placed blif at number base x, refl, record { number = number; base = base; is = ap (placed blif at number base) (same_Some x s e) })
placed_from blif at depth number base (x ∷ subs) (suc k) s e =
    placed_from blif at depth (suc number) (base + inner_count blif depth (model_at blif (model_numbered blif x.model)) (formals x)) subs k s e

-- it stands among the sub-models of the place around it
pub sub_placed : (blif : Blif) (depth : ℕ) (at : ModelPlace) (k : ℕ) (s : SubLine) → At (model_at blif at.model).subs k s → At (subs_at blif depth at) k (sub_place blif depth at k) × IsPlaceOf blif at s (sub_place blif depth at k)
sub_placed blif depth at k s e =
    let found = placed_from blif at depth 0 (at.base + length (inner_signals (model_at blif at.model) at.tied)) (model_at blif at.model).subs k s e in
    let q : ModelPlace = found.0 in
    let is : sub_place blif depth at k ≡ q = ap (λ o. unwrap_or o at) found.1 in
    (found.1 ∙ ap Some (sym is), subst (IsPlaceOf blif at s) (sym is) found.2)

pub place_model : (blif : Blif) (at : ModelPlace) (s : SubLine) (q : ModelPlace) → IsPlaceOf blif at s q → q.model ≡ model_numbered blif s.model
place_model blif at s q h = ap (λ (p : ModelPlace). p.model) h.is

-- ---- paths

-- the sub-model of an instance of a module at a place
pub sub_of_place : (modules : List Module) (at : ModelPlace) (m : Module) (k : ℕ) (i : Instance) → model_at (blif_of modules) at.model ≡ model_of m → At (instances_in m.entries) k i
    → (s : SubLine) × At (model_at (blif_of modules) at.model).subs k s × IsSubOf i s (covers_in 0 m.entries)
sub_of_place modules at m k i same a =
    let h = sub_there 0 m.entries k i a in (h.0, subst (λ (b : BlifModel). At b.subs k h.0) (sym same) h.1, h.2)

pub inner_model : (modules : List Module) (at : ModelPlace) (i : Instance) (s : SubLine) (q : ModelPlace) (m inner : Module) → IsSubOf i s (covers_in 0 m.entries) → IsPlaceOf (blif_of modules) at s q
    → module_named modules i.module_name ≡ Some inner → model_at (blif_of modules) q.model ≡ model_of inner
inner_model modules at i s q m inner is place found =
    ap (model_at (blif_of modules)) (place_model (blif_of modules) at s q place ∙ ap (λ (x : SubLine). model_numbered (blif_of modules) x.model) is.is) ∙ model_found modules i.module_name inner found

pub within_at : (blif : Blif) (n k : ℕ) (s : SubLine) → At (model_at blif n).subs k s → Among (models_within blif n) (model_numbered blif s.model)
within_at blif n k s e = map_among (λ (x : SubLine). model_numbered blif x.model) (model_at blif n).subs s (k, e)

-- a path of instances leads to a place of the unrolled model, whose model is that of the module at the path
pub record IsLedTo (modules : List Module) (depth : ℕ) (at : ModelPlace) (path : List ℕ) (m : Module) : Type 0 where
  pub there : Among (models_in (blif_of modules) depth at) (place_on (blif_of modules) depth at path)
  pub model : model_at (blif_of modules) (place_on (blif_of modules) depth at path).model ≡ model_of m

here : (blif : Blif) (depth : ℕ) (at : ModelPlace) → Among (models_in blif depth at) at
here blif zero at = (0, refl)
here blif (suc depth) at = (0, refl)

pub led_to : (modules : List Module) (depth : ℕ) (at : ModelPlace) (m : Module) (path : List ℕ) (last : Module) → StandsAt modules m path last → model_at (blif_of modules) at.model ≡ model_of m
    → Ends (models_within (blif_of modules)) depth at.model → IsLedTo modules depth at path last
led_to modules depth at _ _ _ itself same ends = record { there = here (blif_of modules) depth at; model = same }
led_to modules zero at _ _ _ (inside {m} {inner} {last} {path} k i a found later) same ends =
    let s = sub_of_place modules at m k i same a in
    absurd (ends (model_numbered (blif_of modules) s.0.model) (within_at (blif_of modules) at.model k s.0 s.1))
led_to modules (suc depth) at _ _ _ (inside {m} {inner} {last} {path} k i a found later) same ends =
    let blif = blif_of modules in
    let s = sub_of_place modules at m k i same a in
    let q : ModelPlace = sub_place blif depth at k in
    let p = sub_placed blif depth at k s.0 s.1 in
    let fewer : Ends (models_within blif) depth q.model
    = subst (Ends (models_within blif) depth) (sym (place_model blif at s.0 q p.1)) (ends (model_numbered blif s.0.model) (within_at blif at.model k s.0 s.1)) in
    let h = led_to modules depth q inner path last later (inner_model modules at i s.0 q m inner s.2 p.1 found) fewer in record {
      there = among_later at (flat_map (models_in blif depth) (subs_at blif depth at)) (place_on blif depth q path) (flat_map_among (models_in blif depth) (subs_at blif depth at) q (place_on blif depth q path) (k, p.0) h.there);
      model = h.model;
    }

-- the instance of a number there leads on to the place of its sub-model
pub record IsLedOn (modules : List Module) (at : ModelPlace) (m : Module) (i : Instance) (q : ModelPlace) : Type 0 where
  pub sub : SubLine
  pub there : Among (model_at (blif_of modules) at.model).subs sub
  pub is : IsSubOf i sub (covers_in 0 m.entries)
  pub place : IsPlaceOf (blif_of modules) at sub q

pub led_on : (modules : List Module) (depth : ℕ) (at : ModelPlace) (m : Module) (path : List ℕ) (last : Module) → StandsAt modules m path last → model_at (blif_of modules) at.model ≡ model_of m
    → Ends (models_within (blif_of modules)) depth at.model → (k : ℕ) (i : Instance) → At (instances_in last.entries) k i
    → IsLedOn modules (place_on (blif_of modules) depth at path) last i (place_on (blif_of modules) depth at (path ++ k ∷ []))
led_on modules zero at _ _ _ (itself {m}) same ends k i a =
    let s = sub_of_place modules at m k i same a in
    absurd (ends (model_numbered (blif_of modules) s.0.model) (within_at (blif_of modules) at.model k s.0 s.1))
led_on modules (suc depth) at _ _ _ (itself {m}) same ends k i a =
    let s = sub_of_place modules at m k i same a in
    record { sub = s.0; there = (k, s.1); is = s.2; place = (sub_placed (blif_of modules) depth at k s.0 s.1).1 }
led_on modules zero at _ _ _ (inside {m} {inner} {last} {path} j x b found later) same ends k i a =
    let s = sub_of_place modules at m j x same b in
    absurd (ends (model_numbered (blif_of modules) s.0.model) (within_at (blif_of modules) at.model j s.0 s.1))
led_on modules (suc depth) at _ _ _ (inside {m} {inner} {last} {path} j x b found later) same ends k i a =
    let blif = blif_of modules in
    let s = sub_of_place modules at m j x same b in
    let q : ModelPlace = sub_place blif depth at j in
    let p = sub_placed blif depth at j s.0 s.1 in
    let fewer : Ends (models_within blif) depth q.model
    = subst (Ends (models_within blif) depth) (sym (place_model blif at s.0 q p.1)) (ends (model_numbered blif s.0.model) (within_at blif at.model j s.0 s.1)) in
    led_on modules depth q inner path last later (inner_model modules at x s.0 q m inner s.2 p.1 found) fewer k i a

-- ---- ties

-- a tied signal of a sub-model is the signal that it is tied to
pub tie_same : (blif : Blif) (at : ModelPlace) (s : SubLine) (q : ModelPlace) (t : Tie) → IsSubTied blif s → IsPlaceOf blif at s q → Among s.ties t → signal_at blif q t.formal ≡ signal_at blif at t.actual
tie_same blif at s q t is place a =
    let f = map_among (λ (x : Tie). x.formal) s.ties t a in
    ap (λ p. signal_at blif p t.formal) place.is ∙ tied_signal blif (placed blif at place.number place.base s) t.formal (at_among (formals s) f.0 t.formal f.1)
    ∙ tie_number (signal_at blif at) s.ties (formals_apart (interface_of (model_at blif (model_numbered blif s.model))) [] (formals s) is.fitting) a.0 t a.1
