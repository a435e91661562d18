-- A cell as a whole.
use Rattle.std.specs.Prelude.{◌≡◌, ℕ, ◌+◌, List, [], length}
use Rattle.net_places.specs.Links.{AreGlobalNets, AreNoOthers}
use Rattle.net_places.specs.declared.places.Place.{Place}
use Rattle.vrt_model.specs.Unrolled.{Top, deepest, first_global, globals_of, own_count, top_cell}
use Rattle.vrt_model.specs.declared.design.Design.{Design}
use Rattle.vrt_model.specs.declared.ids.Net.{Net}
use Rattle.vrt_model.specs.declared.pairing.PortRole.{PortRole}
use Rattle.vrt_model.specs.declared.rules.Rules.{Rules}

-- the checked cell, whatever the roles of its ports
abbrev pub whole_of : Design → Rules → ℕ → List PortRole → Top
whole_of design rules cell roles = record { design = design; rules = rules; cell = cell; roles = roles }

-- how many own nets it and the cells in it have
unfoldable pub all_own_of : Top → ℕ
all_own_of t = own_count t.design t.rules deepest (top_cell t)

-- the flat nets of its global nets, and the net behind them
pub record AreNumbered (t : Top) (globals : List Net) (next : ℕ) : Type 0 where
  pub globals_are : AreGlobalNets t globals
  pub others_are : AreNoOthers t globals
  pub next_is : next ≡ first_global t + length (globals_of t)

-- its place, by the flat nets of its ports and the net behind its global nets
abbrev pub whole_by : ℕ → List Net → ℕ → Place
whole_by cell ports base = record { cell = cell; around = 0; card = 0; depth = 0; path = []; ports = ports; base = base }
