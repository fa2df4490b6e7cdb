-- Reading messages: the computed reader of names agrees with the relation, and what is at a place
-- of a message is read there.
pub mod NameReading
pub mod Places
pub mod Sections
pub mod Question
pub mod OneFault
