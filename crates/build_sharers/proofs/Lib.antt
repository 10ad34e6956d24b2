pub mod OneMore
pub mod Walk
pub mod Table
