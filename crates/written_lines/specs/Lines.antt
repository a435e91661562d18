-- The lines of a text, and the line of a refusal.
use Rattle.std.specs.Prelude.{ℕ, List, [], ◌∷◌, ◌++◌, ◌==◌, codes}
use Rattle.std.specs.Fmt.{decimal}
use Rattle.std.specs.List.{concat, slice_split}
use Rattle.cell_writer.specs.declared.refusal.WriteRefusal.{WriteRefusal}
use Rattle.cell_writer.specs.declared.refusal.WriteRefusal.TheVariants.{Hold, Clock, Name, Budget, Large, Long, NoMemory}
use Rattle.text_lines.specs.Bytes.{kept}

-- each part between line feeds with its line feed; what is behind the last is a line too, if it has a byte
abbrev pub ended_parts : List (List ℕ) → List (List ℕ)
ended_parts [] = []
ended_parts (part ∷ []) = kept part
ended_parts (part ∷ next ∷ parts) = (part ++ 10 ∷ []) ∷ ended_parts (next ∷ parts)

abbrev pub lines_in : List ℕ → List (List ℕ)
lines_in text = ended_parts (slice_split (λ b. b == 10) text)

-- the cell, the cause, and what it names
abbrev pub cause_line : List ℕ → List ℕ → List ℕ → List ℕ
cause_line cell cause named = concat (codes "blif " ∷ cell ∷ codes " " ∷ cause ∷ codes " " ∷ named ∷ codes "\n" ∷ [])

-- want of memory has no line
abbrev pub refusal_line : List ℕ → WriteRefusal → List ℕ
refusal_line cell (Hold net) = cause_line cell (codes "hold") net
refusal_line cell (Clock port) = cause_line cell (codes "clock") port
refusal_line cell (Name name) = cause_line cell (codes "name") name
refusal_line cell (Budget nodes) = cause_line cell (codes "budget") (decimal nodes)
refusal_line cell (Large count) = cause_line cell (codes "large") (decimal count)
refusal_line cell (Long bytes) = cause_line cell (codes "long") (decimal bytes)
refusal_line cell NoMemory = []
