-- The text that a fault of cells and rules shows: its line, and what is wrong there.
use Rattle.std.specs.Prelude.{ℕ, ◌++◌, List, codes, decimal}
use Rattle.hierarchy.specs.declared.faults.HierFault.{HierFault}
use Rattle.hierarchy.specs.declared.faults.HierFault.TheVariants.{UnknownCell, PortCount, Recursion, Depth, NoSuchName, NoMemory}

-- the number of a line before what is wrong there
abbrev pub behind_line : ℕ → List ℕ → List ℕ
behind_line line cause = codes "line " ++ decimal line ++ codes ": " ++ cause

abbrev pub fault_text : HierFault → List ℕ
fault_text (UnknownCell line name) = behind_line line (codes "no such cell")
fault_text (PortCount line nets ports) = behind_line line (decimal nets ++ codes " nets for " ++ decimal ports ++ codes " ports")
fault_text (Recursion line chain) = behind_line line (codes "cell contains itself")
fault_text (Depth line depth) = behind_line line (codes "deeper than 32")
fault_text (NoSuchName line name) = behind_line line (codes "no such name")
fault_text NoMemory = codes "out of memory"
