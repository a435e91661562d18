pub mod OwnLaws
pub mod NetLaws
pub mod TableLaws
pub mod PlaceNetLaws
