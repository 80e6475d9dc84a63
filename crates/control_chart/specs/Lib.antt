pub mod Input
pub mod Folder
pub mod Status
