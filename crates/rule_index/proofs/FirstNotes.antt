-- The value that was noted first under a name, as `name_tables` has it.
pub use Rattle.name_tables.proofs.FirstNotes.{IsNoting, or_none, starts}
