pub mod Helper
