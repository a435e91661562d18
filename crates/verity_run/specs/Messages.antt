-- The lines that a run writes beside the verdicts.
use Rattle.std.specs.Prelude.{ℕ, List, [], ◌∷◌, ◌+◌, ◌*◌, codes, get_or}
use Rattle.std.specs.Fmt.{decimal}
use Rattle.hierarchy.specs.declared.faults.HierFault.{HierFault}
use Rattle.hierarchy.specs.declared.faults.HierFault.TheVariants as cells
use Rattle.mode_lines.specs.Lines.{generated_line}
pub use Rattle.refusal_lines.specs.Lines.{joined, refusal_line}
use Rattle.vrt_model.specs.Comparison.{cell_at}
use Rattle.vrt_model.specs.declared.design.Design.{Design}

abbrev pub usage_line : List ℕ
usage_line = codes "verity: usage: verity [--do MODE] [--cell C] [--phase P] [--at LIST] [--budget N] [--size N] [--rise LIST] [SPICE BLIF RULES]\n"

abbrev pub read_failed_line : List ℕ → List ℕ
read_failed_line file = joined (codes "verity: " ∷ file ∷ codes ": read failed\n" ∷ [])

abbrev pub too_long_line : List ℕ → List ℕ
too_long_line file = refusal_line file 0 (codes "longer than 16777216 bytes") []

-- the line for what the words name, with line 0
abbrev pub words_line : List ℕ → List ℕ → List ℕ
words_line cause name = refusal_line (codes "words") 0 cause name

-- the line for a name in the words that is not there
abbrev pub no_name_line : List ℕ → List ℕ
no_name_line name = words_line (codes "no such name: ") name

-- the last line where the texts are generated: the size, the flat devices and the variables of the cell `top`
abbrev pub last_line : ℕ → List ℕ
last_line size = generated_line size (42 * size) (2 * size + 2)

-- so many nets for so many ports
abbrev pub nets_for_ports : ℕ → ℕ → List ℕ
nets_for_ports nets ports = joined (decimal nets ∷ codes " nets for " ∷ decimal ports ∷ codes " ports" ∷ [])

-- the line of why cells have no order, of the netlist or of the rules; a cell that contains itself is the first of its chain;
-- want of memory has none
abbrev pub cells_line : List ℕ → List ℕ → Design → HierFault → List ℕ
cells_line spice rules design (cells.UnknownCell line name) = refusal_line spice line (codes "no cell ") name
cells_line spice rules design (cells.PortCount line nets ports) = refusal_line spice line (nets_for_ports nets ports) []
cells_line spice rules design (cells.Recursion line chain) = refusal_line spice line (codes "cell contains itself: ") (cell_at design (get_or chain 0 0)).name
cells_line spice rules design (cells.Depth line depth) = refusal_line spice line (codes "deeper than 32") []
cells_line spice rules design (cells.NoSuchName line name) = refusal_line rules line (codes "no such name: ") name
cells_line spice rules design cells.NoMemory = []
