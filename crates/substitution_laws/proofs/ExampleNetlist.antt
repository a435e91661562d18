-- The netlist, the models and the rules of the example are as readers give them.
use Rattle.std.proofs.Common.{◌≡◌, ◌⊎◌, ℕ, zero, suc, ◌<◌, ◌≤◌, Bool, true, false, List, [], ◌∷◌, length, None, refl, ap, sym, ◌∙◌, subst, arith, inl, inr}
use Rattle.std.specs.Prelude.{bytes_eq, codes, slice_get, unwrap_or}
use Rattle.std.proofs.lemmas.Bool.{false≢true}
use Rattle.std.proofs.lemmas.List.Elements.{All-cons, All-nil}
use Rattle.std.proofs.lemmas.Option.{none-some, same_Some}
use Rattle.formed_cells.specs.Formed.{AreRead}
use Rattle.replaced_instances.specs.Steps.{IsSoundNetlist}
use Rattle.substitution_laws.proofs.ExampleCells.{blif, cut, design}
use Rattle.substitution_laws.proofs.ExampleInverter.{each_of_two}
use Rattle.vrt_model.proofs.Cells.{base, cover, model_of}
use Rattle.vrt_model.specs.FlatModels.{IsRow}
use Rattle.vrt_model.specs.Hierarchy.{IsOrdered, cells_in, depth_of_cell}
use Rattle.vrt_model.specs.Inputs.{AllApart, AreRules, IsBlif, IsCell, IsCoverLine, IsDesign, IsLevel, IsModel}
use Rattle.vrt_model.specs.Lists.{Among, At}
use Rattle.vrt_model.specs.Models.{AreModels, depth_of_model, models_within}
use Rattle.vrt_model.specs.Nesting.{IsWithin, directly, further}
use Rattle.vrt_model.specs.Unrolled.{all_places, deepest, global_nets, net_at, own_nets}
use Rattle.vrt_model.specs.Unsupported.{supply_tie}
use Rattle.vrt_model.specs.declared.blif.BlifModel.{BlifModel}
use Rattle.vrt_model.specs.declared.blif.CoverLine.{CoverLine}
use Rattle.vrt_model.specs.declared.blif.LatchLine.{LatchLine}
use Rattle.vrt_model.specs.declared.design.Cell.{Cell}
use Rattle.vrt_model.specs.declared.design.InstanceCard.{InstanceCard}
use Rattle.vrt_model.specs.declared.design.Kind.TheVariants.{N, P}
use Rattle.vrt_model.specs.declared.rules.DeviceRule.{DeviceRule}
use Rattle.vrt_model.specs.declared.rules.Phase.{Phase}

-- ---- items that differ

apart_none : {X : Type 0} (same : X → X → Bool) → AllApart same []
apart_none same i j x y p q e = absurd (none-some x p)

apart_more : {X : Type 0} (same : X → X → Bool) (x : X) (xs : List X) → AllApart same xs → ((y : X) → Among xs y → (same x y ≡ false) × (same y x ≡ false)) → AllApart same (x ∷ xs)
apart_more same x xs rest fresh zero zero a b p q e = refl
apart_more same x xs rest fresh zero (suc j) a b p q e =
    absurd (false≢true (sym (fresh b (j, q)).0 ∙ subst (λ z. same z b ≡ true) (sym (same_Some x a p)) e))
apart_more same x xs rest fresh (suc i) zero a b p q e =
    absurd (false≢true (sym (fresh a (i, p)).1 ∙ subst (λ z. same a z ≡ true) (sym (same_Some x b q)) e))
apart_more same x xs rest fresh (suc i) (suc j) a b p q e = ap suc (rest i j a b p q e)

apart_one : {X : Type 0} (same : X → X → Bool) (x : X) → AllApart same (x ∷ [])
apart_one same x = apart_more same x [] (apart_none same) (λ y on. absurd (none-some y on.1))

apart_two : {X : Type 0} (same : X → X → Bool) (x y : X) → same x y ≡ false → same y x ≡ false → AllApart same (x ∷ y ∷ [])
apart_two {X} same x y one two = apart_more same x (y ∷ []) (apart_one same y) only
  where
    by_place : (z : X) (i : ℕ) → At (y ∷ []) i z → (same x z ≡ false) × (same z x ≡ false)
    by_place z zero e = subst (λ w. (same x w ≡ false) × (same w x ≡ false)) (same_Some y z e) (one, two)
    by_place z (suc i) e = absurd (none-some z e)

    only : (z : X) → Among (y ∷ []) z → (same x z ≡ false) × (same z x ≡ false)
    only z on = by_place z on.0 on.1

names_apart : (a b : List ℕ) → bytes_eq a b ≡ false → bytes_eq b a ≡ false → AllApart bytes_eq (a ∷ b ∷ [])
names_apart a b one two = apart_two bytes_eq a b one two

-- ---- the netlist

abbrev cell_i : Cell
cell_i = unwrap_or (slice_get design.cells 0) (record { line = 0; name = []; ports = []; devices = []; instances = [] })

abbrev cell_b : Cell
cell_b = unwrap_or (slice_get design.cells 1) (record { line = 0; name = []; ports = []; devices = []; instances = [] })

inverter_cell : IsCell cell_i
inverter_cell = record {
  port_limit = omega arith;
  card_limit = omega arith;
  ports = names_apart (codes "a") (codes "y") refl refl;
  elements = names_apart (codes "p") (codes "n") refl refl;
  nets = All-nil (λ (i : InstanceCard). length i.nets < 4294967296);
}

buffer_cell : IsCell cell_b
buffer_cell = record {
  port_limit = omega arith;
  card_limit = omega arith;
  ports = names_apart (codes "a") (codes "y") refl refl;
  elements =
      apart_more bytes_eq (codes "p") (codes "n" ∷ codes "x" ∷ []) (names_apart (codes "n") (codes "x") refl refl)
      (each_of_two (λ (y : List ℕ). (bytes_eq (codes "p") y ≡ false) × (bytes_eq y (codes "p") ≡ false)) (codes "n") (codes "x") (refl, refl) (refl, refl));
  nets = All-cons (λ (i : InstanceCard). length i.nets < 4294967296) the_card [] (omega arith) (All-nil (λ (i : InstanceCard). length i.nets < 4294967296));
}
  where
    the_card : InstanceCard
    the_card = record { line = 3; name = codes "x"; nets = codes "a" ∷ codes "m" ∷ []; cell = codes "i" }

design_is : IsDesign design
design_is = record {
  cell_limit = omega arith;
  names = apart_two (λ (a b : Cell). bytes_eq a.name b.name) cell_i cell_b refl refl;
  cells = All-cons IsCell cell_i (cell_b ∷ []) inverter_cell (All-cons IsCell cell_b [] buffer_cell (All-nil IsCell));
  globals = apart_none bytes_eq;
}

-- what stands in a cell has a lower number
child_lower : (n m i : ℕ) → At (cells_in design m) i n → n < m
child_lower n zero i e = absurd (none-some n e)
child_lower n (suc zero) zero e = (let same = same_Some 0 n e in omega (arith, same))
child_lower n (suc zero) (suc i) e = absurd (none-some n e)
child_lower n (suc (suc m)) i e = absurd (none-some n e)

within_lower : (n m : ℕ) → IsWithin (cells_in design) n m → n < m
within_lower n m (directly on) = child_lower n m on.0 on.1
within_lower n m (further {l} on inside) = (let low = child_lower l m on.0 on.1 in let deep = within_lower n l inside in omega (arith, low, deep))

shallow : (n : ℕ) → n < length design.cells → depth_of_cell design n ≤ deepest
shallow zero lt = omega arith
shallow (suc zero) lt = omega arith
shallow (suc (suc n)) lt = absurd (omega (arith, lt))

ordered : IsOrdered design base
ordered = record {
  cards = refl;
  well_founded = λ n lt self. (let low = within_lower n n self in absurd (omega (arith, low)));
  shallow = shallow;
  names = refl;
}

no_tie : supply_tie cut.top ≡ None
unfolding all_places net_at own_nets global_nets
no_tie = refl

pub netlist_is_sound : IsSoundNetlist cut.top
netlist_is_sound = record { design = design_is; ordered = ordered; there = omega arith; ties = no_tie }

-- ---- the models

-- a row's byte is 0, 1 or -
abbrev IsRowByte : ℕ → Type 0
IsRowByte byte = (byte ≡ 48) ⊎ (byte ≡ 49) ⊎ (byte ≡ 45)

zero_row : IsRow 1 (codes "0")
zero_row = record { length = refl; bytes = All-cons IsRowByte 48 [] (inl refl) (All-nil IsRowByte) }

one_row : IsRow 1 (codes "1")
one_row = record { length = refl; bytes = All-cons IsRowByte 49 [] (inr (inl refl)) (All-nil IsRowByte) }

-- a model of one input, one output and one cover of one row
module _ (name row : List ℕ) (fit : IsRow 1 row) where
  abbrev the_cover : CoverLine
  the_cover = cover (codes "a" ∷ []) (codes "y") true (row ∷ [])

  abbrev the_model : BlifModel
  the_model = model_of name (codes "a" ∷ []) (codes "y" ∷ []) (the_cover ∷ []) [] []

  model_is : IsModel the_model
  model_is = record {
    inputs = apart_one bytes_eq (codes "a");
    clocks = apart_none bytes_eq;
    outputs = apart_one bytes_eq (codes "y");
    input_lines = refl;
    clock_lines = refl;
    output_lines = refl;
    covers = All-cons IsCoverLine the_cover [] (record { input_limit = omega arith; rows = All-cons (IsRow 1) row [] fit (All-nil (IsRow 1)); empty = λ e. refl }) (All-nil IsCoverLine);
    latches = All-nil (λ (l : LatchLine). l.init ≤ 3);
    exdc = All-nil IsCoverLine;
  }

blif_is : IsBlif blif
blif_is =
    let one = the_model (codes "i") (codes "0") zero_row in
    let two = the_model (codes "b") (codes "1") one_row in
    record {
      model_limit = omega arith;
      names = apart_two (λ (a b : BlifModel). bytes_eq a.name b.name) one two refl refl;
      models = All-cons IsModel one (two ∷ []) (model_is (codes "i") (codes "0") zero_row) (All-cons IsModel two [] (model_is (codes "b") (codes "1") one_row) (All-nil IsModel));
    }

-- no model stands in another
none_within : (m i n : ℕ) → At (models_within blif m) i n → ⊥
none_within zero i n e = none-some n e
none_within (suc zero) i n e = none-some n e
none_within (suc (suc m)) i n e = none-some n e

none_inside : (n m : ℕ) → IsWithin (models_within blif) n m → ⊥
none_inside n m (directly on) = none_within m on.0 n on.1
none_inside n m (further {l} on inside) = none_within m on.0 l on.1

models_shallow : (n : ℕ) → n < length blif.models → depth_of_model blif n ≤ deepest
models_shallow zero lt = omega arith
models_shallow (suc zero) lt = omega arith
models_shallow (suc (suc n)) lt = absurd (omega (arith, lt))

models_are : AreModels blif
models_are = record { subs = refl; well_founded = λ n lt self. none_inside n n self; shallow = models_shallow; drivers = refl }

-- ---- the rules

rules_are : AreRules base
rules_are = record {
  scale = inl refl;
  clock_limit = omega arith;
  clocks = apart_none bytes_eq;
  some_phase = omega arith;
  phase_limit = omega arith;
  phases = apart_one (λ (a b : Phase). bytes_eq a.name b.name) the_phase;
  bits = All-cons (λ (p : Phase). length p.bits ≡ 0) the_phase [] refl (All-nil (λ (p : Phase). length p.bits ≡ 0));
  supplies = apart_two _ _ _ refl refl;
  devices = apart_two _ _ _ refl refl;
  device_levels = All-cons (λ (d : DeviceRule). IsLevel base d.level) n_rule (p_rule ∷ []) (omega arith, omega arith) (All-cons (λ (d : DeviceRule). IsLevel base d.level) p_rule [] (omega arith, omega arith) (All-nil (λ (d : DeviceRule). IsLevel base d.level)));
  strengths = apart_none _;
  strength_levels = All-nil _;
  clockports = apart_none _;
  clockport_clocks = All-nil _;
  defaultclock = omega arith;
  default_clocks = All-nil _;
  pairs = apart_none _;
  ports = apart_none _;
  holds = apart_none _;
  sizes = All-nil _;
  keepers = apart_none _;
  matches = apart_none _;
  instance_matches = apart_none _;
  enters = apart_none _;
  enter_phases = All-nil _;
  observes = apart_none _;
  observe_phases = All-nil _;
  assume_phases = All-nil _;
  assume_limit = All-nil _;
}
  where
    the_phase : Phase
    the_phase = record { line = 0; name = codes "all"; bits = [] }

    n_rule : DeviceRule
    n_rule = record { line = 3; model = codes "n"; kind = N; level = 6 }

    p_rule : DeviceRule
    p_rule = record { line = 4; model = codes "p"; kind = P; level = 6 }

-- ---- together

pub texts_are_read : AreRead blif base
texts_are_read = record { names = blif_is; models = models_are; valid = rules_are }
