pub mod Common
mod Runs
mod FieldLemmas
mod ReadLemmas
mod ValidData
mod QueryName
mod ChainLemmas
mod SpelledLemmas
mod SuffixLemmas
mod NameWritten
mod LaidAgain
mod AskedLemmas
mod Steps
mod DataWritten
mod SharedData
mod RecordsWritten
pub mod PartialLemmas
