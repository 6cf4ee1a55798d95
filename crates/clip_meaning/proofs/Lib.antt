pub mod Fields
mod Groups
pub mod Leads
pub mod Marks
pub mod Numbered
mod Occurrences
mod LeadSearch
mod Pairs
mod WordOrder
mod RaisedFlags
mod Ranges
mod Rising
