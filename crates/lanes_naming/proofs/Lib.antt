pub mod NamingSteps
