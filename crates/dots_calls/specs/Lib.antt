pub mod DotsCall
