pub mod Bidding
