-- The lines of a replay, of classes, and of a generated hierarchy, each with its end.
use Rattle.std.specs.Prelude.{ℕ, Bool, cond, List, [], ◌∷◌, Option, Some, None, codes, map}
use Rattle.std.specs.Fmt.{decimal}
use Rattle.std.specs.List.{concat, cons_option}
use Rattle.channel_parts.specs.declared.class.Class.{Class}
use Rattle.channel_parts.specs.declared.class.Class.TheVariants.{Static, Pass, Domino}
use Rattle.channel_parts.specs.declared.class.ClassLine.{ClassLine}
use Rattle.vrt_model.specs.Comparison.{net_name}
use Rattle.vrt_model.specs.Known.{is_plain_kind}
use Rattle.vrt_model.specs.VerdictText.{bit_text}
use Rattle.vrt_model.specs.declared.circuit.Circuit.{Circuit}
use Rattle.vrt_model.specs.declared.circuit.FlatNet.{FlatNet}
use Rattle.witness.specs.declared.seen.Seen.{Seen}
use Rattle.witness.specs.declared.seen.Seen.TheVariants.{Bit, Fight, Float, Blocked}

-- ---- one line

-- whether a valuation meets the constraints
abbrev pub meets_text : Bool → List ℕ
meets_text meets = cond meets (codes "yes") (codes "no")

-- the first line of a replay
abbrev pub replay_line : List ℕ → List ℕ → Bool → List ℕ
replay_line cell phase meets = concat (codes "replay " ∷ cell ∷ codes " phase " ∷ phase ∷ codes " meets " ∷ meets_text meets ∷ codes "\n" ∷ [])

-- what a net shows
abbrev pub seen_text : Seen → List ℕ
seen_text (Bit value) = bit_text value
seen_text Fight = codes "fight"
seen_text Float = codes "float"
seen_text Blocked = codes "-"

-- what a net shows in the bare circuit, and in the kept one
abbrev pub seen_line : List ℕ → Seen → Seen → List ℕ
seen_line net bare kept = concat (codes "net " ∷ net ∷ codes " " ∷ seen_text bare ∷ codes " " ∷ seen_text kept ∷ codes "\n" ∷ [])

abbrev pub class_text : Class → List ℕ
class_text Static = codes "static"
class_text Pass = codes "pass"
class_text Domino = codes "domino"

-- the class of the part of a net
abbrev pub class_line : List ℕ → List ℕ → Class → List ℕ
class_line cell net class = concat (codes "class " ∷ cell ∷ codes " " ∷ net ∷ codes " " ∷ class_text class ∷ codes "\n" ∷ [])

-- the last line for a generated hierarchy
abbrev pub generated_line : ℕ → ℕ → ℕ → List ℕ
generated_line size devices variables =
    concat (codes "generated size " ∷ decimal size ∷ codes " devices " ∷ decimal devices ∷ codes " variables " ∷ decimal variables ∷ codes "\n" ∷ [])

-- ---- all lines

-- a net has a line where it is plain
abbrev pub net_line : FlatNet → Seen → Seen → Option (List ℕ)
net_line net bare kept = cond (is_plain_kind net.kind) (Some (seen_line net.name bare kept)) None

-- the lines of the plain nets, in their order
abbrev pub net_lines : List FlatNet → List Seen → List Seen → List (List ℕ)
net_lines [] bare kept = []
net_lines (net ∷ nets) [] kept = []
net_lines (net ∷ nets) (one ∷ bare) [] = []
net_lines (net ∷ nets) (one ∷ bare) (other ∷ kept) = cons_option (net_line net one other) (net_lines nets bare kept)

-- a replay: its first line, and those of the plain nets
abbrev pub replay_lines : List ℕ → List ℕ → Bool → Circuit → List Seen → List Seen → List (List ℕ)
replay_lines cell phase meets c bare kept = replay_line cell phase meets ∷ net_lines c.nets bare kept

-- the classes of the parts of a cell
abbrev pub class_lines : List ℕ → Circuit → List ClassLine → List (List ℕ)
class_lines cell c classes = map (λ (line : ClassLine). class_line cell (net_name c line.net.0) line.class) classes
