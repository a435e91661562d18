-- The names of the signals of a model, as its cards name them.
use Rattle.std.specs.Prelude.{ℕ, List, ◌++◌, flat_map}
use Rattle.vrt_model.specs.FlatBlif.{cover_signals, latch_signals, sub_signals}
use Rattle.vrt_model.specs.declared.blif.BlifModel.{BlifModel}

-- each as often as it is named: inputs, clocks, outputs, then in covers, latches and ties
abbrev pub named_in : BlifModel → List (List ℕ)
named_in m = m.inputs ++ m.clocks ++ m.outputs ++ flat_map cover_signals m.covers ++ flat_map latch_signals m.latches ++ flat_map sub_signals m.subs

-- those that are named elsewhere than as inputs and clocks
abbrev pub named_beside : BlifModel → List (List ℕ)
named_beside m = m.outputs ++ flat_map cover_signals m.covers ++ flat_map latch_signals m.latches ++ flat_map sub_signals m.subs
