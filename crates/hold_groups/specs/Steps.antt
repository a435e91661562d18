-- Groups and lines that grow one by one.
use Rattle.std.specs.Prelude.{◌≡◌, ℕ, ◌<◌, cond, not, ◌&&◌, List, ◌++◌, find, filter_map, bytes_eq, Option, Some, None, option_map}
use Rattle.std.specs.List.{enumerate_from}
use Rattle.std.specs.Option.{option_or}
use Rattle.line_laws.specs.Lines.{earlier as line_earlier, earliest as line_earliest}
use Rattle.vrt_model.specs.Groups.{Placed}
use Rattle.vrt_model.specs.Lists.{Among, has_name}
use Rattle.vrt_model.specs.Unsupported.{Line, is_reached}
use Rattle.vrt_model.specs.declared.groups.Group.{Group}
use Rattle.vrt_model.specs.declared.rules.InstanceMatchRule.{InstanceMatchRule}
use Rattle.vrt_model.specs.declared.rules.MatchRule.{MatchRule}
use Rattle.vrt_model.specs.declared.rules.Rules.{Rules}
use Rattle.hold_groups.specs.Grouped.{end_number, groups_in, keys_in}
use Rattle.hold_groups.specs.declared.unmatched.MatchLine.{MatchLine}

-- ---- groups

-- an end's number has 32 bits
abbrev pub IsSmall : Placed → Type 0
IsSmall h = end_number h.hold.end < 4294967296

-- the groups of some holds were made, and the keys of their ends are known
pub record AreGrouped (elements : List (List ℕ)) (done : List Placed) (keys : List (List ℕ)) (groups : List Group) : Type 0 where
  pub small : (h : Placed) → Among done h → IsSmall h
  pub keys_are : keys ≡ keys_in done
  pub groups_are : groups ≡ groups_in elements done

-- ---- elements without a group

abbrev pub element_without : List (List ℕ) → List Group → Option (List ℕ)
element_without elements groups =
    option_map (λ (p : ℕ × List ℕ). p.1) (find (λ (p : ℕ × List ℕ). not (is_reached groups p.0)) (enumerate_from 0 elements))

-- ---- lines without an element

abbrev pub line_in : Option MatchLine → Option Line
line_in o = option_map (λ (l : MatchLine). let one : Line = record { line = l.line; latch = l.latch.now } in one) o

-- a `match` line of a cell, if it names no element
abbrev pub line_by : List (List ℕ) → List ℕ → List ℕ → ℕ → List ℕ → Option Line
line_by elements cell of line latch =
    cond (bytes_eq of cell && not (has_name elements latch)) (let one : Line = record { line = line; latch = latch } in Some one) None

abbrev pub net_line : List (List ℕ) → List ℕ → MatchRule → Option Line
net_line elements cell r = line_by elements cell r.cell r.line r.latch

abbrev pub instance_line : List (List ℕ) → List ℕ → InstanceMatchRule → Option Line
instance_line elements cell r = line_by elements cell r.cell r.line r.latch

abbrev pub number_of : Line → ℕ
number_of l = l.line

-- of two lines that of the lower number, and of one number the first
abbrev pub earlier : Option Line → Option Line → Option Line
earlier = line_earlier number_of

abbrev pub earliest : List Line → Option Line
earliest = line_earliest number_of

-- the lines of a cell that name no element, of nets and then of instances
abbrev pub lines_without : List (List ℕ) → Rules → List ℕ → List Line
lines_without elements rules cell = filter_map (net_line elements cell) rules.matches ++ filter_map (instance_line elements cell) rules.instance_matches

abbrev pub line_without : List (List ℕ) → Rules → List ℕ → Option (List ℕ)
line_without elements rules cell = option_map (λ (l : Line). l.latch) (earliest (lines_without elements rules cell))

-- the first element without a group, else the latch of the first line of the cell that names no element
abbrev pub unmatched_in : List (List ℕ) → Rules → List ℕ → List Group → Option (List ℕ)
unmatched_in elements rules cell groups = option_or (element_without elements groups) (line_without elements rules cell)
