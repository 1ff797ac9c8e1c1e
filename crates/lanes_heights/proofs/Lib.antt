pub mod RaisingSteps
