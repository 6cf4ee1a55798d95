pub mod Meanings
pub mod ObjectMembers
pub mod Printed
pub mod Putting
pub mod RequestLaw
pub mod Saying
pub mod Sent
