-- Answers and replies: their sets, the number of their sets, and the messages that they spell.
pub mod ChainLength
pub mod FewItems
pub mod ItemSets
pub mod RequiredItems
pub mod WritableItems
pub mod FirstOctets
pub mod Kept
pub mod ReplySpelled
