-- Stepping stones: what a line comes to, what one line leaves, and the loop over lines.
pub mod Answers
pub mod Found
pub mod Registry
pub mod Serving
pub mod Taking
