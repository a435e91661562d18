pub mod JoinLaws
pub mod Joining
