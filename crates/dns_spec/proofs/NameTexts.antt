-- Names as text: escapes, and that a written name is read back.
pub mod Escapes
pub mod OneName
pub mod WrittenNames
