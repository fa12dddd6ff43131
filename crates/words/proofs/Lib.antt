pub mod Signs
pub mod Bits
pub mod MarkLaws
pub mod CountLaws
