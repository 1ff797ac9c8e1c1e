pub mod CountLaws
pub mod WholeReach
