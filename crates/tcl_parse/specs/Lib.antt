pub mod Readers
pub mod Chains
pub mod StatementReaders
pub mod TextSteps
pub mod TextProgress
pub mod TextLimits
pub mod TextRefusals
