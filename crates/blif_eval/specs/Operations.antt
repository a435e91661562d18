-- How many diagram operations covers and models take.
use Rattle.std.specs.Prelude.{ℕ, ◌+◌, ◌*◌, ◌||◌, cond, List, length, Option, Some, None, slice_get, sum_by, ◌==◌}
use Rattle.blif_eval.specs.Settled.{driver_at}
use Rattle.blif_eval.specs.declared.driver_table.Driver.{Driver}
use Rattle.blif_eval.specs.declared.driver_table.Driver.TheVariants.{Given, Covered, Stored, Element}
use Rattle.vrt_model.specs.Budget.{literals_in}
use Rattle.vrt_model.specs.declared.flat_model.Cover.{Cover}
use Rattle.vrt_model.specs.declared.flat_model.FlatModel.{FlatModel}

-- one for a byte that asks something of its input
abbrev pub literal_count : ℕ → ℕ
literal_count byte = cond ((byte == 48) || (byte == 49)) 1 0

-- one for each literal, and one for each row
abbrev pub rows_operations : List (List ℕ) → ℕ
rows_operations rows = sum_by literals_in rows + length rows

-- with one for the complement, where there are rows: one for each literal, and two for each row
abbrev pub operations_of : Cover → ℕ
operations_of cover = sum_by literals_in cover.rows + 2 * length cover.rows

-- the weight of an item, if there is one
abbrev pub weighed : {X : Type 0} → (X → ℕ) → Option X → ℕ
weighed weight None = 0
weighed weight (Some x) = weight x

-- those of a cover, and one for an element
abbrev pub driver_operations : List Cover → Driver → ℕ
driver_operations covers Given = 0
driver_operations covers (Covered place) = weighed operations_of (slice_get covers place)
driver_operations covers (Stored number) = 0
driver_operations covers (Element storage) = 1

abbrev pub number_operations : FlatModel → List Driver → ℕ → ℕ
number_operations flat drivers n = driver_operations flat.covers (driver_at drivers n)
