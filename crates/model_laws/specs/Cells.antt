-- Cells, models and rules to try the definitions on.
use Rattle.std.specs.Prelude.{true, false, List, [], ◌∷◌, Some, codes}
use Rattle.vrt_model.specs.declared.blif.BlifModel.{BlifModel}
use Rattle.vrt_model.specs.declared.blif.LatchLine.{LatchLine}
use Rattle.vrt_model.specs.declared.blif.LatchKind.TheVariants.{Re}
use Rattle.vrt_model.specs.declared.design.Cell.{Cell}
use Rattle.vrt_model.specs.declared.design.InstanceCard.{InstanceCard}
use Rattle.vrt_model.specs.declared.rules.ClockRef.{ClockRef}
use Rattle.vrt_model.specs.declared.rules.Rules.{Rules}
use Rattle.vrt_model.proofs.Cells.{Name, vdd, gnd, n_device, p_device, base, model_of, cover}

abbrev pub instance : Name → List Name → Name → InstanceCard
instance name nets cell = record { line = 0; name = name; nets = nets; cell = cell }

-- one clock in two phases
abbrev pub clocked : Name → Name → Rules
clocked low high = record base {
  clocks = codes "c" ∷ [];
  phases = record { line = 6; name = low; bits = false ∷ [] } ∷ record { line = 7; name = high; bits = true ∷ [] } ∷ [];
}

abbrev pub inv_cell : Cell
inv_cell = record {
  line = 2;
  name = codes "inv";
  ports = codes "a" ∷ codes "y" ∷ [];
  devices = p_device (codes "m1") (codes "y") (codes "a") vdd ∷ n_device (codes "m2") (codes "y") (codes "a") gnd ∷ [];
  instances = [];
}

abbrev pub buf_cell : Cell
buf_cell = record {
  line = 6;
  name = codes "buf";
  ports = codes "a" ∷ codes "y" ∷ [];
  devices = [];
  instances = instance (codes "xi0") (codes "a" ∷ codes "m" ∷ []) (codes "inv") ∷ instance (codes "xi1") (codes "m" ∷ codes "y" ∷ []) (codes "inv") ∷ [];
}

-- a blocked load
abbrev pub blk_cell : Cell
blk_cell = record {
  line = 2;
  name = codes "blk";
  ports = codes "a" ∷ codes "y" ∷ [];
  devices =
      p_device (codes "m1") (codes "m") gnd vdd ∷ n_device (codes "m2") (codes "m") (codes "a") gnd ∷ n_device (codes "m3") (codes "m") vdd (codes "y") ∷ [];
  instances = [];
}

abbrev pub blk_rules : Rules
blk_rules = record base {
  strengths = record { line = 5; cell = codes "blk"; device = codes "m1"; level = 4 } ∷ record { line = 6; cell = codes "blk"; device = codes "m3"; level = 4 } ∷ [];
}

-- a register of two stages, and a counter over it
abbrev pub dff_cell : Cell
dff_cell = record {
  line = 2;
  name = codes "dff";
  ports = codes "d" ∷ codes "clk" ∷ codes "q" ∷ [];
  devices =
      p_device (codes "m1") (codes "cb") (codes "clk") vdd ∷ n_device (codes "m2") (codes "cb") (codes "clk") gnd ∷ n_device (codes "m3") (codes "d") (codes "cb") (codes "l1")
      ∷ p_device (codes "m4") (codes "n1") (codes "l1") vdd ∷ n_device (codes "m5") (codes "n1") (codes "l1") gnd ∷ n_device (codes "m6") (codes "n1") (codes "clk") (codes "l2")
      ∷ p_device (codes "m7") (codes "q") (codes "l2") vdd ∷ n_device (codes "m8") (codes "q") (codes "l2") gnd ∷ [];
  instances = [];
}

abbrev pub cnt_cell : Cell
cnt_cell = record {
  line = 12;
  name = codes "cnt";
  ports = codes "clk" ∷ codes "q" ∷ [];
  devices = [];
  instances = instance (codes "x1") (codes "qn" ∷ codes "clk" ∷ codes "q" ∷ []) (codes "dff") ∷ instance (codes "x2") (codes "q" ∷ codes "qn" ∷ []) (codes "inv") ∷ [];
}

abbrev pub upright : ClockRef
upright = record { clock = 0; inverted = false }

abbrev pub cnt_rules : Rules
cnt_rules =
    let rules = clocked (codes "low") (codes "high") in
    record rules {
      clockports =
          record { line = 8; cell = codes "dff"; port = codes "clk"; clock = upright } ∷ record { line = 13; cell = codes "cnt"; port = codes "clk"; clock = upright } ∷ [];
      holds = record { line = 9; cell = codes "dff"; net = codes "l1"; size = 1 } ∷ record { line = 10; cell = codes "dff"; net = codes "l2"; size = 1 } ∷ [];
      matches =
          record { line = 11; cell = codes "dff"; net = codes "l1"; latch = codes "q#m"; inverted = false } ∷ record { line = 12; cell = codes "dff"; net = codes "l2"; latch = codes "q"; inverted = true } ∷ [];
      instance_matches =
          record { line = 14; cell = codes "cnt"; instance = codes "x1"; inner = codes "q#m"; latch = codes "q#m"; inverted = false } ∷ record { line = 15; cell = codes "cnt"; instance = codes "x1"; inner = codes "q"; latch = codes "q"; inverted = false } ∷ [];
    }

abbrev pub inv_model : BlifModel
inv_model = model_of (codes "inv") (codes "a" ∷ []) (codes "y" ∷ []) (cover (codes "a" ∷ []) (codes "y") true (codes "0" ∷ []) ∷ []) [] []

abbrev pub nand_model : BlifModel
nand_model =
    model_of (codes "nand2") (codes "a" ∷ codes "b" ∷ []) (codes "y" ∷ []) (cover (codes "a" ∷ codes "b" ∷ []) (codes "y") false (codes "11" ∷ []) ∷ []) [] []

abbrev pub register : Name → LatchLine
register input = record { line = 4; input = input; output = codes "q"; kind = Some Re; control = Some (codes "clk"); init = 3 }

abbrev pub cnt_model : BlifModel
cnt_model =
    model_of (codes "cnt") (codes "clk" ∷ []) (codes "q" ∷ []) (cover (codes "q" ∷ []) (codes "qn") true (codes "0" ∷ []) ∷ []) (register (codes "qn") ∷ []) []
