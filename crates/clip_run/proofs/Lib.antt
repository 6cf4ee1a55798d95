pub mod AnsweredAlone
pub mod Found
pub mod Headline
pub mod OnlyCaller
pub mod Outcomes
pub mod Owing
mod Quiet
pub mod Seats
pub mod Sent
pub mod Settled
pub mod Sharing
pub mod Waiting
