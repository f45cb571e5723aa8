pub mod CertificateLaws
pub mod CheckingLaws
pub mod ChecksLaws
pub mod ExamplesLaws
pub mod FaultLaws
pub mod VerdictLaws
pub mod WrongLaws
