-- Values: pairing of cells and ports, lines without an element, drivers and formals of models.
use Rattle.std.specs.Prelude.{◌≡◌, ℕ, true, false, List, [], ◌∷◌, Some, None, codes, refl}
use Rattle.model_laws.specs.Cells.{clocked, upright}
use Rattle.vrt_model.proofs.Cells.{base, design_of, model_of}
use Rattle.vrt_model.specs.FlatBlif.{all_models, flat_model_of, network_names, signals_of, unrolled_of}
use Rattle.vrt_model.specs.Models.{Twice, Never, driver_fault, bad_formal}
use Rattle.vrt_model.specs.PairedPorts.{pairing_of, ports_fault, paired_model, Model, Missing}
use Rattle.vrt_model.specs.Unsupported.{line_without_element}
use Rattle.vrt_model.specs.declared.blif.BlifModel.{BlifModel}
use Rattle.vrt_model.specs.declared.blif.SubLine.{SubLine}
use Rattle.vrt_model.specs.declared.design.Design.{Design}
use Rattle.vrt_model.specs.declared.flat_model.FlatModel.{FlatModel}
use Rattle.vrt_model.specs.declared.pairing.PortRole.TheVariants.{Supply, Clock, Input, Output}
use Rattle.vrt_model.specs.declared.rules.ClockRef.{ClockRef}
use Rattle.vrt_model.specs.declared.rules.Expr.TheVariants.{Port}
use Rattle.vrt_model.specs.declared.rules.Rules.{Rules}

abbrev down : ClockRef
down = record { clock = 0; inverted = true }

-- ports vdd a ck y; signals A (input), CK (input), c (clock name), Y
abbrev cell : List (List ℕ) → Design
cell ports = design_of (record { line = 2; name = codes "k"; ports = ports; devices = []; instances = [] } ∷ [])

abbrev ports4 : List (List ℕ)
ports4 = codes "vdd" ∷ codes "a" ∷ codes "ck" ∷ codes "y" ∷ []

abbrev flat : List (List ℕ) → List (List ℕ) → FlatModel
flat ins outs = flat_model_of (record { models = model_of (codes "k") ins outs [] [] [] ∷ [] }) 0

abbrev rules : Rules
rules = let r = clocked (codes "low") (codes "high") in record r { clockports = record { line = 8; cell = codes "k"; port = codes "ck"; clock = down } ∷ [] }

good : ports_fault (cell ports4) 0 (flat (codes "A" ∷ codes "CK" ∷ codes "c" ∷ []) (codes "Y" ∷ [])) rules ≡ None
unfolding ports_fault flat_model_of unrolled_of network_names all_models signals_of
good = refl

good_pairing : pairing_of (cell ports4) 0 7 (flat (codes "A" ∷ codes "CK" ∷ codes "c" ∷ []) (codes "Y" ∷ [])) rules
    ≡ record { model = 7; ports = Supply true ∷ Input 0 ∷ Clock down ∷ Output 3 ∷ []; clocked = record { signal = 1; clock = down } ∷ record { signal = 2; clock = upright } ∷ [] }
unfolding pairing_of flat_model_of unrolled_of network_names all_models signals_of
good_pairing = refl

-- a clock as written: `C` carries none, so the signal is concerned
upper : ports_fault (cell ports4) 0 (flat (codes "A" ∷ codes "C" ∷ []) (codes "Y" ∷ [])) rules ≡ Some (codes "C")
unfolding ports_fault flat_model_of unrolled_of network_names all_models signals_of
upper = refl

-- two signals fit the clock port
two_fit : ports_fault (cell ports4) 0 (flat (codes "A" ∷ codes "CK" ∷ codes "Ck" ∷ []) (codes "Y" ∷ [])) rules ≡ Some (codes "ck")
unfolding ports_fault flat_model_of unrolled_of network_names all_models signals_of
two_fit = refl

-- two ports on one signal: the first port
shared : ports_fault (cell ports4) 0 (flat (codes "A" ∷ []) (codes "Y" ∷ [])) (let r = rules in record r { ports = record { line = 9; cell = codes "k"; port = codes "ck"; signal = codes "A" } ∷ [] }) ≡ Some (codes "a")
unfolding ports_fault flat_model_of unrolled_of network_names all_models signals_of
shared = refl

-- a `port` rule of a supply port that names nothing
supply_rule : ports_fault (cell ports4) 0 (flat (codes "A" ∷ []) (codes "Y" ∷ [])) (let r = rules in record r { ports = record { line = 9; cell = codes "k"; port = codes "vdd"; signal = codes "a" } ∷ [] }) ≡ Some (codes "vdd")
unfolding ports_fault flat_model_of unrolled_of network_names all_models signals_of
supply_rule = refl

-- a clock at an output, an assume that names an output
clock_out : ports_fault (cell ports4) 0 (flat (codes "A" ∷ []) (codes "ck" ∷ codes "Y" ∷ [])) rules ≡ Some (codes "ck")
unfolding ports_fault flat_model_of unrolled_of network_names all_models signals_of
clock_out = refl

assume_out : ports_fault (cell ports4) 0 (flat (codes "A" ∷ []) (codes "Y" ∷ [])) (let r = rules in record r { assumes = record { line = 9; cell = codes "k"; phase = Some 1; expression = Port (codes "y") } ∷ [] }) ≡ Some (codes "y")
unfolding ports_fault flat_model_of unrolled_of network_names all_models signals_of
assume_out = refl

-- a supply signal
supply_signal : ports_fault (cell ports4) 0 (flat (codes "A" ∷ codes "vdd" ∷ []) (codes "Y" ∷ [])) rules ≡ Some (codes "vdd")
unfolding ports_fault flat_model_of unrolled_of network_names all_models signals_of
supply_signal = refl

-- pairs
pair_two : paired_model (cell ports4) (record { models = model_of (codes "K") [] [] [] [] [] ∷ model_of (codes "k") [] [] [] [] [] ∷ [] }) base 0 ≡ Missing
pair_two = refl

pair_rule : paired_model (cell ports4) (record { models = model_of (codes "K") [] [] [] [] [] ∷ model_of (codes "k") [] [] [] [] [] ∷ [] })
    (record base { pairs = record { line = 5; cell = codes "k"; model = Some (codes "k") } ∷ [] }) 0 ≡ Model 1
pair_rule = refl

-- lines of both kinds by number
lines : line_without_element (record base {
  matches = record { line = 20; cell = codes "k"; net = codes "n"; latch = codes "P"; inverted = true } ∷ [];
  instance_matches = record { line = 15; cell = codes "j"; instance = codes "x"; inner = codes "q"; latch = codes "O"; inverted = false } ∷ record { line = 18; cell = codes "k"; instance = codes "x"; inner = codes "q"; latch = codes "Q"; inverted = true } ∷ [];
}) (codes "k") (flat [] []) ≡ Some (codes "Q")
unfolding flat_model_of unrolled_of network_names all_models signals_of
lines = refl

-- models: drivers and formals
abbrev sub : List ℕ → SubLine
sub name = record { line = 7; model = name; ties = record { formal = codes "A"; actual = codes "s" } ∷ record { formal = codes "Y"; actual = codes "t" } ∷ record { formal = codes "Z"; actual = codes "t" } ∷ [] }

abbrev lower : BlifModel
lower = record { line = 20; name = codes "l"; inputs = codes "A" ∷ []; input_lines = 21 ∷ []; clocks = []; clock_lines = []; outputs = codes "Y" ∷ codes "Z" ∷ codes "A" ∷ []; output_lines = 22 ∷ 22 ∷ 22 ∷ []; covers = record { line = 23; inputs = []; output = codes "Y"; on = true; rows = [] } ∷ record { line = 24; inputs = []; output = codes "Z"; on = true; rows = [] } ∷ []; latches = []; subs = []; exdc = [] }

abbrev upper_model : BlifModel
upper_model = record { line = 1; name = codes "u"; inputs = codes "a" ∷ []; input_lines = 5 ∷ []; clocks = codes "a" ∷ []; clock_lines = 3 ∷ []; outputs = codes "o" ∷ []; output_lines = 2 ∷ []; covers = record { line = 4; inputs = codes "w" ∷ codes "v" ∷ []; output = codes "a"; on = true; rows = [] } ∷ []; latches = []; subs = sub (codes "l") ∷ []; exdc = [] }

-- o is never driven (line 2), before a (driven on 3 as an input and clock and on 4)
never_first : driver_fault (record { models = upper_model ∷ lower ∷ [] }) ≡ Some (Never 2 (codes "o"))
unfolding signals_of
never_first = refl

twice_first : driver_fault (record { models = (let m = upper_model in record m { outputs = codes "a" ∷ [] }) ∷ lower ∷ [] }) ≡ Some (Twice 4 (codes "a"))
unfolding signals_of
twice_first = refl

two_formals : driver_fault (record { models = (let m = upper_model in record m { outputs = []; output_lines = []; covers = record { line = 4; inputs = []; output = codes "s"; on = true; rows = [] } ∷ [] }) ∷ lower ∷ [] }) ≡ Some (Twice 7 (codes "t"))
unfolding signals_of
two_formals = refl

left_out : bad_formal (record { models = upper_model ∷ lower ∷ [] }) (record { line = 7; model = codes "l"; ties = [] }) ≡ Some (codes "A")
left_out = refl

-- a, z, a: the second a comes after z
twice_after : bad_formal (record { models = upper_model ∷ lower ∷ [] })
    (record { line = 7; model = codes "l"; ties = record { formal = codes "A"; actual = codes "s" } ∷ record { formal = codes "q"; actual = codes "s" } ∷ record { formal = codes "A"; actual = codes "s" } ∷ [] }) ≡ Some (codes "q")
twice_after = refl
