pub mod CertificateLaws
pub mod PartsLaws
pub mod SentencesLaws
