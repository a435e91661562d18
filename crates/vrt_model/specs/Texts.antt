-- The bytes of a text.
use Rattle.std.specs.Prelude.{ℕ, List, take}
use Rattle.vrt_model.specs.declared.text.Bytes.{Bytes}
use Rattle.vrt_model.specs.declared.text.Bytes.TheVariants.{Short, Long}

abbrev pub bytes_of : Bytes → List ℕ
bytes_of (Short few) = take few.count few.room
bytes_of (Long bytes) = bytes.value.items
