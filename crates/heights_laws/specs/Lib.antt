pub mod OneTangent
