pub mod Division
pub mod Named
pub mod Rises
pub mod Runs
pub mod Searching
pub mod Totals
