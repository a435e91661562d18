-- The levels of nets of parts, written into a table by net.
use Rattle.std.specs.Prelude.{◌≡◌, ℕ, ◌+◌, ◌*◌, ◌<◌, ◌≤◌, Bool, true, List, None, Option, length, slice_index, slice_index_or}
use Rattle.node_pool.specs.declared.region.Span.{Span}
use Rattle.bdd_core.specs.Diagram.{Function, Valuation}
use Rattle.bdd_core.specs.Store.{Adds, Diagrams, IsSpan, function_of}
use Rattle.bdd_core.specs.Words.{IsApart, IsBeside, IsFilled}
use Rattle.bdd_core.specs.declared.handle.H.{H}
use Rattle.channel_parts.specs.declared.part.Part.{Part}
use Rattle.output_levels.specs.Always.{AreStrengths, LevelGives}
use Rattle.path_fixpoint.specs.Parts.{IsPlace}
use Rattle.path_fixpoint.specs.Strengths.{StandsAt, net_words}
use Rattle.vrt_model.specs.Levels.{source_level}
use Rattle.vrt_model.specs.Lists.{Among, mark_at}
use Rattle.vrt_model.specs.Path.{Network}
use Rattle.vrt_model.specs.Response.{IsStrength}
use Rattle.vrt_model.specs.declared.circuit.Circuit.{Circuit}

-- ---- a table by net

-- what is written of a net
abbrev pub level_at : List (Option ℕ) → ℕ → Option ℕ
level_at levels n = slice_index_or levels n None

-- ---- one part, by its words

-- the level that the words of a place give, by the source level
abbrev pub PlaceTells : ℕ → Function → (ℕ → Function) → Option ℕ → Type 0
PlaceTells source care is_strong found = (s : Valuation → ℕ) → AreStrengths source care is_strong s → LevelGives care s found

-- one place was judged: its net has its level where it is asked for, and all others have what they had
pub record IsPlaceJudged (source : ℕ) (asked : List Bool) (care : Function) (is_strong : ℕ → Function) (net : ℕ) (old new : List (Option ℕ)) : Type 0 where
  pub told : mark_at asked net ≡ true → PlaceTells source care is_strong (level_at new net)
  pub others : (n : ℕ) → (n ≡ net → mark_at asked n ≡ true → ⊥) → level_at new n ≡ level_at old n

-- so many places of a part were judged
pub record AreJudged (source : ℕ) (part : Part) (asked : List Bool) (care : Function) (is_strong : ℕ → ℕ → Function) (upto : ℕ) (old new : List (Option ℕ)) : Type 0 where
  pub told : (i n : ℕ) → i < upto → IsPlace part i n → mark_at asked n ≡ true → PlaceTells source care (is_strong i) (level_at new n)
  pub others : (n : ℕ) → ((i : ℕ) → i < upto → IsPlace part i n → mark_at asked n ≡ true → ⊥) → level_at new n ≡ level_at old n

-- ---- one part, by its network at each valuation

-- a net of the part
abbrev pub IsInPart : Part → ℕ → Type 0
IsInPart part n = (i : ℕ) × IsPlace part i n

-- these are the strengths of the net in the network of the part, wherever there is care
abbrev pub HasStrengths : Circuit → Part → Span → Function → Diagrams → ℕ → (Valuation → ℕ) → Type 0
HasStrengths c part gates care d n s = (v : Valuation) → care v ≡ true → (w : Network) × StandsAt c part gates d v w × IsStrength w n (s v)

-- the level that the net has there
abbrev pub PartTells : Circuit → Part → Span → H → Diagrams → ℕ → Option ℕ → Type 0
PartTells c part gates care d n found = (s : Valuation → ℕ) → HasStrengths c part gates (function_of d care) d n s → LevelGives (function_of d care) s found

-- the nets of the part that are asked for have their levels, and all others have what they had
pub record IsPartTold (c : Circuit) (part : Part) (asked : List Bool) (gates : Span) (care : H) (d : Diagrams) (old new : List (Option ℕ)) : Type 0 where
  pub told : (n : ℕ) → IsInPart part n → mark_at asked n ≡ true → PartTells c part gates care d n (level_at new n)
  pub others : (n : ℕ) → (¬ IsInPart part n) → level_at new n ≡ level_at old n

-- ---- all parts

-- the net is in one of the parts, and has the level that it has there
abbrev pub IsToldIn : Circuit → List Part → Span → H → Diagrams → List (Option ℕ) → ℕ → Type 0
IsToldIn c parts gates care d levels n = (part : Part) × Among parts part × IsInPart part n × PartTells c part gates care d n (level_at levels n)

-- ---- spans

-- live handles of the gates, one for each net; and, apart from them, the words of the nets of the greatest part
pub record HasLevelSpans (c : Circuit) (parts : List Part) (gates out : Span) (d : Diagrams) : Type 0 where
  pub gates_span : IsSpan d gates
  pub gates_len : gates.len ≡ length c.nets
  pub gates_live : IsFilled d gates
  pub out_span : IsSpan d out
  pub room : (part : Part) → Among parts part → net_words (source_level c) * length part.nets ≤ out.len
  pub apart : IsApart gates out

-- nodes were only added, and words of one span alone changed
pub record WritesIn (out : Span) (old new : Diagrams) : Type 0 where
  pub adds : Adds old new new.words
  pub len : length new.words ≡ length old.words
  pub others : (j : ℕ) → IsBeside out j → slice_index new.words j ≡ slice_index old.words j

-- ---- operations

-- of a part: its strengths, and for each net one more than there are levels
abbrev pub level_operations : Circuit → Part → ℕ
level_operations c part = source_level c * (length part.nets * (length part.devices * 4)) + (source_level c + 1) * length part.nets
