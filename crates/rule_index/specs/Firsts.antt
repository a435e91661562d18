-- What was noted first under a name, as `name_tables` has it.
pub use Rattle.name_tables.specs.Firsts.{IsEven, IsFresh, value_in}
