pub mod PushedAmounts
pub mod PotentialBounds
pub mod FallingKeys
pub mod PhaseLaws
pub mod LastSearch
pub mod StartState
